use Rattle.std.proofs.Common.{◌∙◌, ◌≤◌, length, sym, subst}
use Rattle.certificate.specs.Evidence.{evidence_of}
use Rattle.grounding.specs.Ground.{task_in, atoms_in}
use Rattle.model.specs.Grounding.{ground_system}
use Rattle.lower_bounds.specs.PotentialFunctions.{PotentialFunction}
use Rattle.lower_bounds.specs.Settled.{initial_value}
use Rattle.potentials.specs.Potentials.{potentials_of}
use Rattle.lower_bounds.specs.FairTables.{AreFair}
use Rattle.solver.specs.declared.fair_tables.TablesEnding.{TablesEnding}
use Rattle.solver.specs.Attempts.{IfDone}
use Rattle.solver.specs.Asked.{IsTablesEnding}
use Rattle.solver.specs.Guidance.{by_tables, estimate_by}
use Rattle.search_spaces.specs.SearchSpace.{ground_in}
use Rattle.solver.specs.Improved.{AreSettledOrHigh, AreDeadSettledOrHigh}
use Rattle.solver.proofs.TablesLemmas.{tables-written}
use Rattle.solver.proofs.by_tables.answer_by_tables.Goals as goal

pub answer_of_tables-requires-clause-guidance : goal.answer_of_tables-requires-clause-guidance
answer_of_tables-requires-clause-guidance g c =
    let known = ground_in c.args.setting.space in
    let task = task_in known in
    let atoms = atoms_in known in
    let values = evidence_of c.args.draft.evidence in
    let start = estimate_by (by_tables values) (ground_system task atoms).initial in
    record {
      written = tables-written (length atoms) c.args.draft.evidence c.requires.within_limits;
      exchanges = c.requires.space.written;
      fair = subst (IfDone (λ (s : TablesEnding). AreFair task atoms values)) c.in-Done.is c.in_ok-attempt.ensures.fair;
      improved = subst (AreSettledOrHigh task atoms) (sym c.requires.first) c.requires.improved;
      dead_ends_improved = subst (AreDeadSettledOrHigh task atoms) (sym c.requires.given_dead_ends ∙ c.requires.dead_ends) c.requires.dead_ends_improved;
      no_lower = subst (λ (p : PotentialFunction). initial_value task atoms p ≤ start) (sym c.requires.first)
          (subst (IfDone (λ (s : TablesEnding). initial_value task atoms (potentials_of c.args.stopped.now.potentials.now) ≤ start)) c.in-Done.is c.in_ok-attempt.ensures.no_lower);
    }

pub answer_of_tables-requires-clause-ending : goal.answer_of_tables-requires-clause-ending
answer_of_tables-requires-clause-ending g c = subst (IfDone (IsTablesEnding c.args.setting.space (evidence_of c.args.draft.evidence) c.args.setting.limits)) c.in-Done.is c.in_ok-attempt.ensures.ending
