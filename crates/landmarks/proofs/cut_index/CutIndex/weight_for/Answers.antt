use Rattle.std.proofs.Common.{◌<◌, length}
use Rattle.model.specs.StaticallyFalse.{kept_instances}
use Rattle.landmarks.specs.CutIndex.{asked_in, task_of}
use Rattle.landmarks.proofs.AmongLemmas.{among-all}
use Rattle.landmarks.proofs.cut_index.CutIndex.weight_for.Goals as goal

pub literals-literals-requires : goal.literals-literals-requires
literals-literals-requires c = among-all (λ n. n < length (kept_instances (task_of c.args.self.now))) (asked_in c.args.self.now) c.args.number c.args.self.now.kept c.requires.asked

pub counting-changes-requires : goal.counting-changes-requires
counting-changes-requires c = among-all (λ n. n < length (kept_instances (task_of c.args.self.now))) (asked_in c.args.self.now) c.args.number c.args.self.now.kept c.requires.asked
