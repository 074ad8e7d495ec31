use Rattle.std.proofs.Common.{◌≡◌, ◌≤◌, ◌∙◌, List, [], ◌++◌, map, length, take, drop, ap, sym, arith}
use Rattle.std.proofs.lemmas.List.{length-map, length-take, map-append, take-append-drop, take-map}
use Rattle.typing.specs.Scope.{keys_in}
use Rattle.task.specs.TaskParts.{object_entry_of}
use Rattle.typing.specs.TypedLists.{declared_of}
use Rattle.model.specs.Typing as typing
use Rattle.typing.proofs.Empty as empty
use Rattle.typing.proofs.objects.made.Goals.{In_ok-constants}
use Rattle.typing.proofs.objects.made.Goals as goal

-- the declarations of constants
abbrev constants : In_ok-constants → List typing.Declared
constants c = take c.args.count (map declared_of c.args.declared.now)

same : (c : In_ok-constants) → map declared_of c.split_at.result.0.now ≡ constants c
same c = ap (map declared_of) c.split_at.ensures.front ∙ sym (take-map declared_of c.args.count c.args.declared.now)

-- the constants are not repeated either, and no more than all objects
once : (c : In_ok-constants) → (typing.repeated (typing.words_of (constants c)) ≡ []) × (length (constants c) ≤ 65535)
once c =
    let names = keys_in c.args.types.now.by_name.entries in
    let ys = map declared_of c.args.declared.now in
    let none = c.in_ok-all.ensures.ok.0 in
    let unknown = typing.type_faults names ys in
    let twice = typing.refused 16 (typing.repeated (typing.words_of ys)) in
    let many = typing.refused 25 (typing.one_after 65535 (typing.words_of ys)) in
    let all = empty.not_refused 16 (typing.repeated (typing.words_of ys)) (empty.nil_right unknown twice (empty.nil_left (unknown ++ twice) many none)) in
    let low = empty.within 25 65535 (typing.words_of ys) (empty.nil_right (unknown ++ twice) many none) in
    let word = λ (y : typing.Declared). typing.placed y.file y.name in
    let split = ap typing.words_of (sym (take-append-drop c.args.count ys)) ∙ map-append word (take c.args.count ys) (drop c.args.count ys) in (
      empty.first_once [] (typing.words_of (constants c)) (map word (drop c.args.count ys)) (ap typing.repeated (sym split) ∙ all),
      omega (arith, low, length-map ys word, length-take c.args.count ys),
    )

-- and so they are those of the table
table : (c : In_ok-constants) → map object_entry_of c.in_ok-constants.constants.entries ≡ map (typing.object_in (keys_in c.args.types.now.by_name.entries)) (constants c)
table c =
    c.in_ok-constants.ensures.table (ap (λ xs. typing.repeated (typing.words_of xs)) (same c) ∙ (once c).0)
    ∙ ap (map (typing.object_in (keys_in c.args.types.now.by_name.entries))) (same c)

pub invariant_of-result : goal.invariant_of-result
invariant_of-result c =
    let i = (goal.at.invariant_of-result c).In_ok-constants in
    record {
      few_constants = omega (arith, (once i).1, ap length (table i), length-map c.in_ok-constants.constants.entries object_entry_of, length-map (constants i) (typing.object_in (keys_in c.args.types.now.by_name.entries)));
      few = c.in_ok-all.ensures.ok.1.1;
    }

pub returns-clause-ok : goal.returns-clause-ok
returns-clause-ok c =
    record { right = c.in_ok-all.ensures.ok.0; constants_are = table (goal.at.returns-clause-ok c).In_ok-constants; all_are = c.in_ok-all.ensures.ok.1.0 }
