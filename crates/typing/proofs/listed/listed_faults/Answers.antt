use Rattle.std.proofs.Common.{◌∙◌, map, take, ap, sym}
use Rattle.std.proofs.lemmas.List.Sorted.{IsPermutation-refl}
use Rattle.faults.proofs.Results.{if_ok}
use Rattle.pddl_tree.specs.Tree.{domain_of, problem_of}
use Rattle.typing.specs.Refusals.{refusal_of}
use Rattle.typing.specs.Listed.{AreListed, faults_listed}
use Rattle.typing.proofs.ListedLemmas.{are_faults}
use Rattle.typing.proofs.listed.listed_faults.Goals.{After-new}
use Rattle.typing.proofs.listed.listed_faults.Goals as goal

none_listed : (c : After-new) → AreListed (faults_listed (domain_of c.args.domain.now) (problem_of c.args.problem.now)) c.new.result.items
none_listed c = record {
  found = c.new.result.items;
  are = ap (map refusal_of) c.new.ensures.items ∙ sym (ap (take 1000) c.in-Ok.ensures.none);
  ordered = IsPermutation-refl c.new.result.items;
}

pub returns-in-Ok-clause-all : goal.returns-in-Ok-clause-all
returns-in-Ok-clause-all c = none_listed (goal.at.returns-in-Ok-clause-all c).After-new

pub returns-in-Ok-clause-each : goal.returns-in-Ok-clause-each
returns-in-Ok-clause-each c = are_faults (domain_of c.args.domain.now) (problem_of c.args.problem.now) c.new.result.items (none_listed (goal.at.returns-in-Ok-clause-each c).After-new)

pub returns-in-Err-clause-all : goal.returns-in-Err-clause-all
returns-in-Err-clause-all c = c.in_order.ensures (faults_listed (domain_of c.args.domain.now) (problem_of c.args.problem.now)) c.in-Err.ensures.reported

pub returns-in-Err-clause-each : goal.returns-in-Err-clause-each
returns-in-Err-clause-each c =
    let d = domain_of c.args.domain.now in let p = problem_of c.args.problem.now in
    if_ok c.in_order.result (λ listed are. are_faults d p listed.items are) (c.in_order.ensures (faults_listed d p) c.in-Err.ensures.reported)
