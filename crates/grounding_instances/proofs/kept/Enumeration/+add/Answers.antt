use Rattle.std.proofs.Common.{rules, ◌≡◌, ◌∙◌, ◌+◌, ◌++◌, ◌∷◌, [], ap, sym, subst, map, length, List, ℕ, drop, arith, append-nil}
use Rattle.std.specs.Prelude.{filter, slice_get}
use Rattle.std.proofs.lemmas.List.{length-append}
use Rattle.faults.proofs.Results.{passed_on}
use Rattle.task.specs.Task.{task_of}
use Rattle.task.specs.TaskParts.{object_of}
use Rattle.formulas.specs.State.{instance_of}
use Rattle.model.specs.StaticallyFalse.{is_kept}
use Rattle.model.proofs.EnumerationLemmas.{begun}
use Rattle.grounding_instances.specs.Parameters.{choice_of, lent_formula, ranges_of}
use Rattle.grounding_instances.specs.Joins.{AreJoined}
use Rattle.grounding_instances.specs.Kept.{IsBegun, ReportsInstances}
use Rattle.grounding_instances.proofs.ChosenObjects.{pruned, literals-fit, whole-instance, one-chosen, begun_from, begun-here, begun-candidates, candidate-place, part-more, part-reported}
use Rattle.grounding_instances.proofs.ObjectLists.{there_is, chosen-more, number-at, no-choices}
use Rattle.grounding_instances.proofs.kept.Enumeration.+add.Goals as goal

pub literal_is_statically_false-requires : goal.literal_is_statically_false-requires
literal_is_statically_false-requires t c =
    literals-fit (task_of c.args.self.now.statics.now.task.now) c.args.self.now.schema.0 (map object_of c.args.prefix.objects.items) (map lent_formula c.args.prefix.literals.now) (map choice_of c.args.prefix.left.now)
    c.requires.begun c.args.self.now.statics.now.task.now.well_typed

pub returns-then-literal_is_statically_false-clause-kept : goal.returns-then-literal_is_statically_false-clause-kept
returns-then-literal_is_statically_false-clause-kept t c =
    let now = map instance_of c.args.found.now.items in
    sym (ap (λ l. now ++ l)
    (pruned (task_of c.args.self.now.statics.now.task.now) c.args.self.now.schema.0 (map object_of c.args.prefix.objects.items) (map lent_formula c.args.prefix.literals.now) (map choice_of c.args.prefix.left.now)
    c.requires.begun (sym c.literal_is_statically_false.ensures ∙ c.if-literal_is_statically_false.true))
    ∙ append-nil now)

pub add_one-requires-clause-instance : goal.add_one-requires-clause-instance
add_one-requires-clause-instance t c =
    let none : length c.args.prefix.left.now ≡ 0 = search rules in
    whole-instance (task_of c.args.self.now.statics.now.task.now) c.args.self.now.schema.0 (map object_of c.args.prefix.objects.items) (map lent_formula c.args.prefix.literals.now) (map choice_of c.args.prefix.left.now)
    c.requires.begun (no-choices c.args.prefix.left.now none)

pub candidates-requires : goal.candidates-requires
candidates-requires t c =
    (subst (AreJoined (task_of c.args.self.now.statics.now.task.now) (length c.args.prefix.objects.items)) c.in-Some.ensures.cases.0 c.requires.joined).0

pub loop-object-init : goal.loop-object-init
loop-object-init t c =
    let keep = is_kept (task_of c.args.self.now.statics.now.task.now) in
    let now = map instance_of c.args.found.now.items in
    record {
      all = ap (λ l. now ++ l)
          (ap (λ l. filter keep (begun_from c.args.self.now.schema.0 (map object_of c.args.prefix.objects.items) (ranges_of (map choice_of c.in-Some.rest.now)) (map object_of l))) c.deref-object-items.ensures.value
          ∙ begun-candidates (task_of c.args.self.now.statics.now.task.now) c.args.self.now.schema.0 (map object_of c.args.prefix.objects.items) (map lent_formula c.args.prefix.literals.now) (map choice_of c.args.prefix.left.now)
          c.requires.begun (choice_of c.in-Some.parameter.now) (map choice_of c.in-Some.rest.now) (ap (map choice_of) c.in-Some.ensures.cases.0) (map object_of c.in_ok-candidates.candidates.items) c.in_ok-candidates.ensures);
      few = c.requires.few;
    }

pub add-requires : goal.add-requires
add-requires t c =
    let task = task_of c.args.self.now.statics.now.task.now in
    let schema = c.args.self.now.schema.0 in
    let objects = map object_of c.args.prefix.objects.items in
    let firsts = c.deref-object-items.result.now in
    let place = c.loop-object.object-index in
    let choice = choice_of c.in-Some.parameter.now in
    let later = map choice_of c.in-Some.rest.now in
    let first = there_is firsts place c.loop-object-test.true in
    let number = first.0.0 in
    let chosen = chosen-more c.args.prefix.objects.items firsts c.with_object.result.items place _ first.0 first.1 c.with_object.ensures in
    let same : map object_of firsts ≡ map object_of c.in_ok-candidates.candidates.items = ap (map object_of) c.deref-object-items.ensures.value in
    let got = candidate-place task objects choice (map object_of c.in_ok-candidates.candidates.items) c.in_ok-candidates.ensures place number
    (ap (λ (l : List ℕ). slice_get l place) (sym same) ∙ number-at firsts place first.0 first.1) in
    let begun_next = one-chosen task schema objects (map lent_formula c.args.prefix.literals.now) (map choice_of c.args.prefix.left.now) c.requires.begun choice later got.0 number
    (ap (map choice_of) c.in-Some.ensures.cases.0) got.1 in
    let longer : length c.args.prefix.objects.items + 1 ≡ length c.with_object.result.items = sym (ap length c.with_object.ensures ∙ length-append c.args.prefix.objects.items (_ ∷ [])) in (
      search rules,
      (
        subst (λ (os : List ℕ). IsBegun task schema os (map lent_formula c.as_slice.result.now) later) (sym chosen)
            (subst (λ literals. IsBegun task schema (objects ++ number ∷ []) literals later) (sym (ap (map lent_formula) c.as_slice.ensures.value)) begun_next),
        (
          subst (λ (n : ℕ). AreJoined task n c.in-Some.rest.now) longer (subst (AreJoined task (length c.args.prefix.objects.items)) c.in-Some.ensures.cases.0 c.requires.joined).1,
          (
            omega (arith, c.requires.room, c.in-Some.ensures.cases.1, longer),
            c.loop-object.invariant.few,
          ),
        ),
      ),
    )

pub returns-in_err-add-clause-reported : goal.returns-in_err-add-clause-reported
returns-in_err-add-clause-reported t c =
    let keep = is_kept (task_of c.args.self.now.statics.now.task.now) in
    let schema = c.args.self.now.schema.0 in
    let objects = map object_of c.args.prefix.objects.items in
    let firsts = c.deref-object-items.result.now in
    let place = c.loop-object.object-index in
    let ranges = ranges_of (map choice_of c.in-Some.rest.now) in
    let first = there_is firsts place c.loop-object-test.true in
    let number = first.0.0 in
    let chosen = chosen-more c.args.prefix.objects.items firsts c.with_object.result.items place _ first.0 first.1 c.with_object.ensures in
    let now = map instance_of c.loop-object.found.items in
    let whole = map instance_of c.args.found.now.items ++ filter keep (begun schema objects (ranges_of (map choice_of c.args.prefix.left.now))) in
    let max = c.args.self.now.max in
    let e = c.in_err-add.field-0.0 in
    passed_on (ReportsInstances max whole) c.from_residual-in_err-add.result e c.from_residual-in_err-add.ensures.1
    (part-reported keep now (begun schema (objects ++ number ∷ []) ranges) (begun_from schema objects ranges (drop (place + 1) (map object_of firsts))) (begun_from schema objects ranges (drop place (map object_of firsts))) whole
    (begun-here schema objects ranges (map object_of firsts) place number (number-at firsts place first.0 first.1)) c.loop-object.invariant.all max e
    (subst (λ (os : List ℕ). ReportsInstances max (now ++ filter keep (begun schema os ranges)) e) chosen c.in_err-add.ensures.reported))

pub loop-object-preserved : goal.loop-object-preserved
loop-object-preserved t c =
    let keep = is_kept (task_of c.args.self.now.statics.now.task.now) in
    let schema = c.args.self.now.schema.0 in
    let objects = map object_of c.args.prefix.objects.items in
    let firsts = c.deref-object-items.result.now in
    let place = c.loop-object.object-index in
    let ranges = ranges_of (map choice_of c.in-Some.rest.now) in
    let first = there_is firsts place c.loop-object-test.true in
    let number = first.0.0 in
    let chosen = chosen-more c.args.prefix.objects.items firsts c.with_object.result.items place _ first.0 first.1 c.with_object.ensures in
    let now = map instance_of c.loop-object.found.items in
    let next = map instance_of c.add.new.found.items in
    let whole = map instance_of c.args.found.now.items ++ filter keep (begun schema objects (ranges_of (map choice_of c.args.prefix.left.now))) in
    record {
      all = part-more keep now (begun schema (objects ++ number ∷ []) ranges) (begun_from schema objects ranges (drop (place + 1) (map object_of firsts))) (begun_from schema objects ranges (drop place (map object_of firsts))) whole
          (begun-here schema objects ranges (map object_of firsts) place number (number-at firsts place first.0 first.1)) c.loop-object.invariant.all next
          (subst (λ (os : List ℕ). next ≡ now ++ filter keep (begun schema os ranges)) chosen c.in_ok-add.ensures.kept);
      few = c.in_ok-add.ensures.few;
    }
