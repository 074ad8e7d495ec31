use Rattle.std.proofs.Common.{refl}
use Rattle.certificate.proofs.NumbersLemmas.{limits, value_count_kept, values_kept, dead_ends_kept, tables_kept}
use Rattle.certificate.proofs.cert.Cert.evidence.Goals as goal

pub returns : goal.returns
returns c =
    let cert = c.args.self.now in
    record { evidence = refl; value_count = value_count_kept cert; values = values_kept cert; dead_ends = dead_ends_kept cert; tables = tables_kept cert; in_memory = refl; landmarks = refl; landmark_limits = (limits cert).landmarks }
