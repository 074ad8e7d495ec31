use Rattle.std.proofs.Common.{◌∙◌, ◌++◌, map, ap, sym}
use Rattle.std.specs.List.{flat_map}
use Rattle.std.proofs.lemmas.List.Folds.{flat_map-map}
use Rattle.typing.specs.Task.{file_of}
use Rattle.typing.specs.Walk.{found, found_by}
use Rattle.task.specs.TaskParts as parts
use Rattle.typing.specs.Scope.{known_of, narrow_atoms_in}
use Rattle.pddl_tree.specs.Tree as read
use Rattle.model.specs.Typing as typing
use Rattle.pddl_tree.specs.declared.tree.Fact.{Fact}
use Rattle.typing.proofs.Found as finding
use Rattle.typing.proofs.Values.{values_step, facts_step, values_end, facts_end}
use Rattle.typing.proofs.statements.stated.Goals as goal

pub loop-fact-init : goal.loop-fact-init
loop-fact-init c =
    let known = known_of c.args.scope.now in let facts = map read.fact_of c.args.facts.now in
    record {
      atoms = ap (λ as'. map parts.atom_of as' ++ flat_map (λ (f : Fact). narrow_atoms_in known (read.fact_of f)) c.args.facts.now) c.in_ok-atoms.ensures.items;
      values = ap (λ vs. typing.values_after known (map parts.value_of vs) facts) c.new-values.ensures.empty;
      finds = ap (λ vs. found (found_by c.args.walk.now) (typing.facts_faults (file_of c.args.scope.now.globals.now.file) known (map parts.value_of vs) facts)) c.new-values.ensures.empty;
    }

pub loop-fact-preserved : goal.loop-fact-preserved
loop-fact-preserved c =
    let xs = c.args.facts.now in let i = c.loop-fact.fact-index in let x = c.fact-item.result in let known = known_of c.args.scope.now in
    let old = map parts.value_of c.loop-fact.made.values.entries in
    let step = c.in_ok-add_fact.ensures in
    record {
      atoms = finding.grown_more (λ (f : Fact). narrow_atoms_in known (read.fact_of f)) xs i x c.loop-fact-test.true c.fact-item.is
          (map parts.atom_of c.loop-fact.made.atoms.items) _ _ step.atoms c.loop-fact.invariant.atoms;
      values = values_step known read.fact_of xs i x c.loop-fact-test.true c.fact-item.is old _ step.values _ c.loop-fact.invariant.values;
      finds = facts_step known read.fact_of xs i x c.loop-fact-test.true c.fact-item.is old _ step.values (file_of c.args.scope.now.globals.now.file)
          (found_by c.loop-fact.walk) _ _ step.finds c.loop-fact.invariant.finds;
    }

pub returns-clause-atoms : goal.returns-clause-atoms
returns-clause-atoms c =
    let known = known_of c.args.scope.now in
    finding.grown_all (λ (f : Fact). narrow_atoms_in known (read.fact_of f)) c.args.facts.now c.loop-fact.fact-index c.loop-fact-test.false _ _ c.loop-fact.invariant.atoms
    ∙ sym (flat_map-map (narrow_atoms_in known) read.fact_of c.args.facts.now)

pub returns-clause-values : goal.returns-clause-values
returns-clause-values c =
    values_end (known_of c.args.scope.now) read.fact_of c.args.facts.now c.loop-fact.fact-index c.loop-fact-test.false (map parts.value_of c.loop-fact.made.values.entries) _ c.loop-fact.invariant.values

pub returns-clause-finds : goal.returns-clause-finds
returns-clause-finds c =
    facts_end (known_of c.args.scope.now) read.fact_of c.args.facts.now c.loop-fact.fact-index c.loop-fact-test.false (map parts.value_of c.loop-fact.made.values.entries)
    (file_of c.args.scope.now.globals.now.file) (found_by c.loop-fact.walk) _ c.loop-fact.invariant.finds
