use Rattle.std.proofs.Common.{arith}
use Rattle.std.specs.Prelude.{is_ok}
use Rattle.landmarks.specs.CutIndex.{atoms_of, task_of}
use Rattle.guides.proofs.ShownLemmas.{all_pushed}
use Rattle.guides.proofs.on_demand.LandmarksOnDemand.add.Goals as goal

pub overflow_cast-number : goal.overflow_cast-number
overflow_cast-number c = omega (arith, c.args.self.now.values.ok.0)

pub invariant_of-self : goal.invariant_of-self
invariant_of-self c =
    let s = c.args.self.now in
    record {
      numbered = s.numbered;
      asked = s.asked;
      drafts = s.drafts;
      tested = all_pushed (task_of s.index.now) (atoms_of s.index.now) s.values.items c.args.found c.push.new.self.items (is_ok c.push.result) c.push.ensures.items s.tested c.requires.found;
    }

pub invariant_of-self-2 : goal.invariant_of-self-2
invariant_of-self-2 c =
    let s = c.args.self.now in
    record {
      numbered = s.numbered;
      asked = s.asked;
      drafts = s.drafts;
      tested = all_pushed (task_of s.index.now) (atoms_of s.index.now) s.values.items c.args.found c.push.new.self.items (is_ok c.push.result) c.push.ensures.items s.tested c.requires.found;
    }

pub returns-clause-number : goal.returns-clause-number
returns-clause-number c = omega (arith, c.args.self.now.values.ok.0)
