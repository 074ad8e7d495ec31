use Rattle.std.proofs.Common.{◌≡◌, ◌==◌, ◌∙◌, map, length, ap, sym, refl, [], if◌then◌else◌, List, Bool, arith}
use Rattle.pddl_tree.specs.Tree.{name_of}
use Rattle.model.specs.Typing.{refused_word, number_in, names_of_predicates, predicate_faults, TypingFault}
use Rattle.std.proofs.lemmas.List.{length-map}
use Rattle.task.specs.TaskParts.{predicate_of, union_of}
use Rattle.typing.specs.Scope.{known_of}
use Rattle.pddl_tree.specs.Tree.{file_of}
use Rattle.typing.specs.Walk.{found, found_by, found_in}
use Rattle.typing.proofs.Tables.{found_predicate, missing_predicate, other_count, same_count}
use Rattle.typing.proofs.scope.Scope.predicate.Goals.{In-Some}
use Rattle.typing.proofs.scope.Scope.predicate.Goals as goal

-- the faults, depending on whether the number of terms is that of the declaration
reported : In-Some → Bool → List TypingFault
reported c fits = if fits then [] else refused_word (file_of c.args.self.now.globals.now.file) 18 (name_of c.args.name.now)

-- the look-up's result: the number and the faults
there : (c : In-Some) → (c.in-Some.number ≡ number_in (names_of_predicates (map predicate_of c.args.self.now.symbols.now.entries)) (name_of c.args.name.now))
    × (predicate_faults (file_of c.args.self.now.globals.now.file) (known_of c.args.self.now) (name_of c.args.name.now) c.args.count ≡ reported c (c.args.count == length (map union_of c.in-Some.predicate.now.arguments.items)))
unfolding reported
there c =
    found_predicate predicate_of (λ e. refl) (file_of c.args.self.now.globals.now.file) (name_of c.args.name.now) _ (c.as_slice.ensures.value ∙ c.in_ok-fold.ensures.folded) c.args.self.now.symbols.now.entries c.args.count c.in-Some.number _ _ c.in-Some.ensures.index c.in-Some.ensures.entry

pub returns-then-len-count : goal.returns-then-len-count
unfolding reported
returns-then-len-count c =
    let s = (goal.at.returns-then-len-count c).In-Some in
    let faults = (there s).1 ∙ ap (reported s) (other_count (length (map union_of c.in-Some.predicate.now.arguments.items)) c.args.count (λ same. c.if-len-count.true (omega (arith, same, c.len.ensures, length-map c.in-Some.predicate.now.arguments.items union_of)))) in
    record {
      value = (there s).0;
      finds = c.refuse.ensures ∙ ap (λ o. found (found_in o) (refused_word (file_of c.args.self.now.globals.now.file) 18 (name_of c.args.name.now))) c.fold.ensures.found
          ∙ ap (found (found_by c.args.walk.now)) (sym faults);
    }

pub returns-else-len-count : goal.returns-else-len-count
unfolding reported
returns-else-len-count c =
    let s = (goal.at.returns-else-len-count c).In-Some in
    let faults = (there s).1 ∙ ap (reported s) (same_count (length (map union_of c.in-Some.predicate.now.arguments.items)) c.args.count (omega (arith, c.if-len-count.false, c.len.ensures, length-map c.in-Some.predicate.now.arguments.items union_of))) in
    record { value = (there s).0; finds = ap found_in c.fold.ensures.found ∙ ap (found (found_by c.args.walk.now)) (sym faults) }

pub returns-in-None : goal.returns-in-None
returns-in-None c =
    let file = file_of c.args.self.now.globals.now.file in let name = name_of c.args.name.now in
    let h = missing_predicate predicate_of (λ e. refl) file name _ (c.as_slice.ensures.value ∙ c.in_ok-fold.ensures.folded) c.args.self.now.symbols.now.entries c.args.count c.in-None.ensures.index in
    record {
      value = c.len-in-None.ensures.len ∙ h.0;
      finds = c.refuse-in-None.ensures ∙ ap (λ o. found (found_in o) (refused_word file 17 name)) c.fold.ensures.found ∙ ap (found (found_by c.args.walk.now)) (sym h.1);
    }
