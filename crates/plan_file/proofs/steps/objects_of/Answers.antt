use Rattle.std.proofs.Common.{rules, arith, ◌≡◌, ◌+◌, ◌∙◌, sym, ap, map, take, true, subst, length, [], ◌∷◌, ◌++◌}
use Rattle.std.specs.Cmp.Lexicographic.{pointwise}
use Rattle.std.proofs.lemmas.List.{take_all, length_push}
use Rattle.std.proofs.lemmas.Result.{err_from_is_err_and}
use Rattle.std.proofs.lemmas.Slice.Zip.{zip_turn, zip_end}
use Rattle.task.specs.Task.{task_of}
use Rattle.task.specs.TaskParts.{object_of, union_of}
use Rattle.model.specs.Meaning.{is_of}
use Rattle.model.specs.PlanText.{AreNumbersOf, object_names}
use Rattle.plan_file.specs.PlanFile.{name_of}
use Rattle.plan_file.proofs.PlanSteps.{numbers_more, fit_more, object_refused}
use Rattle.plan_file.proofs.steps.objects_of.Goals as goal

pub returns-in_err-object_of-clause-refused : goal.returns-in_err-object_of-clause-refused
returns-in_err-object_of-clause-refused c =
    let p = err_from_is_err_and c.from_residual.result c.from_residual.ensures.1 in
    let parameters = c.args.parameters.now in
    let names = c.args.names.now in
    let first : c.into_iter-types-iterator.result.a.rest.now ≡ parameters = search rules in
    let second : c.into_iter-types-iterator.result.b.rest.now ≡ names = search rules in
    let turn = zip_turn parameters names c.loop-types.yielded _ _ c.next.new.self _ first second c.loop-types.yielded_by _ c.in-Some.is c.next.ensures.steps in
    rw (p.1, p.2)
    (object_refused (task_of c.args.task.now) union_of parameters name_of names (length c.loop-types.yielded) c.in-Some.types.now c.in-Some.name.now object_of c.loop-types.objects.items
    turn.0 turn.1 (turn.2 c.in-Some.types.now) (turn.3 c.in-Some.name.now) c.loop-types.invariant.are c.loop-types.invariant.fit _ c.in_err-object_of.ensures.refused)

pub loop-types-preserved : goal.loop-types-preserved
loop-types-preserved c =
    let task = task_of c.args.task.now in
    let parameters = c.args.parameters.now in
    let names = c.args.names.now in
    let i = length c.loop-types.yielded in
    let first : c.into_iter-types-iterator.result.a.rest.now ≡ parameters = search rules in
    let second : c.into_iter-types-iterator.result.b.rest.now ≡ names = search rules in
    let turn = zip_turn parameters names c.loop-types.yielded _ _ c.next.new.self _ first second c.loop-types.yielded_by _ c.in-Some.is c.next.ensures.steps in
    let one_more : i + 1 ≡ length (c.loop-types.yielded ++ (c.in-Some.types, c.in-Some.name) ∷ []) = sym (length_push c.loop-types.yielded (c.in-Some.types, c.in-Some.name)) in
    record {
      are = subst (λ n. AreNumbersOf (object_names task) (map name_of (take n names)) (map object_of c.push.new.self.items)) one_more
          (numbers_more (object_names task) name_of names i c.in-Some.name.now object_of c.loop-types.objects.items c.push.new.self.items c.in_ok-object_of.field-0
          turn.1 (turn.3 c.in-Some.name.now) c.push.ensures.items c.loop-types.invariant.are c.in_ok-object_of.ensures.number);
      fit = subst (λ n. pointwise (is_of task) (map union_of (take n parameters)) (map object_of c.push.new.self.items) ≡ true) one_more
          (fit_more task union_of parameters i c.in-Some.types.now object_of c.loop-types.objects.items c.push.new.self.items c.in_ok-object_of.field-0
          turn.0 (turn.2 c.in-Some.types.now) c.push.ensures.items c.loop-types.invariant.fit c.in_ok-object_of.ensures.fits);
      count = c.push.ensures.len ∙ ap (λ n. n + 1) c.loop-types.invariant.count ∙ one_more;
    }

pub returns : goal.returns
returns c =
    let task = task_of c.args.task.now in
    let parameters = c.args.parameters.now in
    let names = c.args.names.now in
    let objects = map object_of c.loop-types.objects.items in
    let first : c.into_iter-types-iterator.result.a.rest.now ≡ parameters = search rules in
    let second : c.into_iter-types-iterator.result.b.rest.now ≡ names = search rules in
    let counts = zip_end parameters names c.loop-types.yielded _ _ c.next.new.self _ first second c.loop-types.yielded_by c.in-None.is c.next.ensures.steps in
    let same = c.requires.counts in
    record {
      objects = subst (λ ns. AreNumbersOf (object_names task) (map name_of ns) objects) (take_all (length c.loop-types.yielded) names (omega (arith, counts, same))) c.loop-types.invariant.are;
      fit = subst (λ us. pointwise (is_of task) (map union_of us) objects ≡ true) (take_all (length c.loop-types.yielded) parameters (omega (arith, counts, same))) c.loop-types.invariant.fit;
      refused = tt;
    }
