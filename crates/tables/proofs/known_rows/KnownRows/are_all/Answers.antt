use Rattle.packed_state.specs.Packed.{bits_of}
use Rattle.tables.proofs.KnownRowsLemmas.{all-or-lacking}
use Rattle.tables.proofs.known_rows.KnownRows.are_all.Goals as goal

pub returns : goal.returns
returns c = λ tables count known.
    let k = c.args.self.now in
    all-or-lacking (bits_of k.projections.state) tables k.sums.rows.items k.sums.missing known.sums.rows known.rows known.sums.missing
