use Rattle.std.proofs.Common.{◌≡◌, ◌∙◌, ◌≤◌, length, map, Option, sym, ap, subst}
use Rattle.std.specs.Prelude.{IfSome, IsTrue}
use Rattle.certificate.specs.Evidence.{is_evidence, evidence_of}
use Rattle.certificate_definitions.specs.Certificates.{no_landmarks, three}
use Rattle.grounding.specs.declared.ground.Ground.{Ground}
use Rattle.grounding.specs.Ground.{task_in, atoms_in}
use Rattle.search_spaces.specs.SearchSpace.{ground_in}
use Rattle.model.specs.Grounding.{ground_system}
use Rattle.lower_bounds.specs.Settled.{initial_value}
use Rattle.potentials.specs.Potentials.{potentials_of}
use Rattle.lower_bounds.specs.TableFunctions.{SeveralValues, functions_of, greatest_value}
use Rattle.table_rows.specs.Tables.{table_of}
use Rattle.tables.specs.declared.several.TableFunctions.{TableFunctions}
use Rattle.tables.specs.Several.{several_of, width_of}
use Rattle.solver.specs.Guidance.{by_tables, estimate_by}
use Rattle.solver.specs.SeveralOver.{several_over}
use Rattle.solver.proofs.TablesLemmas.{dead_ends_weighed}
use Rattle.solver.proofs.fair_guide.functions_no_lower.Goals as goal
use Rattle.solver.proofs.fair_guide.functions_no_lower.Goals.{After-deref, In-Some}

-- the values are those of the evidence
same : (c : After-deref) → several_over c.args.over.values.items c.args.over.dead_ends c.deref.result.now ≡ evidence_of c.args.over.evidence.now
same c = λ i. record { values = c.requires.values i; dead_ends = c.requires.dead_ends i; tables = map table_of (c.deref.ensures.value i) }

pub functions_over-requires : goal.functions_over-requires
functions_over-requires c = record {
  within_limits = subst (λ (s : SeveralValues). IsTrue (is_evidence three (length (atoms_in c.ground-ground.result.now)) s no_landmarks)) (sym (same (goal.at.functions_over-requires c).After-deref))
      (subst (λ (k : Ground). IsTrue (is_evidence three (length (atoms_in k)) (evidence_of c.args.over.evidence.now) no_landmarks)) (sym c.ground-ground.ensures) c.requires.within_limits);
}

-- and so are those in memory
in_memory : (c : In-Some) → several_of c.in-Some.functions ≡ evidence_of c.args.over.evidence.now
in_memory c =
    subst (λ (o : Option TableFunctions). IfSome o (λ (f : TableFunctions). several_of f ≡ several_over c.args.over.values.items c.args.over.dead_ends c.deref.result.now)) c.in-Some.is c.in_ok-functions.ensures
    ∙ (λ i. record { values = c.requires.values i; dead_ends = c.requires.dead_ends i; tables = map table_of (c.deref.ensures.value i) })

pub starts_no_lower-requires-clause-functions : goal.starts_no_lower-requires-clause-functions
starts_no_lower-requires-clause-functions c =
    ap (λ (s : SeveralValues). length s.dead_ends.weights) (in_memory (goal.at.starts_no_lower-requires-clause-functions c).In-Some)
    ∙ dead_ends_weighed (length (atoms_in (ground_in c.args.setting.space))) (evidence_of c.args.over.evidence.now) c.requires.within_limits
    ∙ ap (λ (k : Ground). length (atoms_in k)) (sym c.ground-ground.ensures)

pub returns-clause-functions : goal.returns-clause-functions
returns-clause-functions c = in_memory (goal.at.returns-clause-functions c).In-Some

pub returns-clause-no_lower : goal.returns-clause-no_lower
returns-clause-no_lower c =
    let known = ground_in c.args.setting.space in
    let first = potentials_of c.args.potentials.now in
    let start = (ground_system (task_in known) (atoms_in known)).initial in
    subst (λ (s : SeveralValues). initial_value (task_in known) (atoms_in known) first ≤ estimate_by (by_tables s) start)
    (in_memory (goal.at.returns-clause-no_lower c).In-Some)
    (subst (λ (k : Ground). initial_value (task_in k) (atoms_in k) first ≤ greatest_value (functions_of (several_of c.in-Some.functions)) (ground_system (task_in k) (atoms_in k)).initial) c.ground-ground.ensures
    (c.in_ok-starts_no_lower.ensures c.if-not-branch.false))
