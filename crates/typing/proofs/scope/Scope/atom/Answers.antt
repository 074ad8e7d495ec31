use Rattle.std.proofs.Common.{◌≡◌, ◌∙◌, map, take, length, ap, sym}
use Rattle.std.proofs.lemmas.List.{length-map}
use Rattle.pddl_tree.specs.Tree.{file_of}
use Rattle.typing.specs.Scope.{arguments_at, known_of}
use Rattle.typing.specs.Walk.{found, found_by}
use Rattle.pddl_tree.specs.Tree as read
use Rattle.model.specs.Trees as tree
use Rattle.model.specs.Typing as typing
use Rattle.typing.proofs.Found.{found_after, map-map}
use Rattle.typing.proofs.scope.Scope.atom.Goals as goal

pub returns-clause-value : goal.returns-clause-value
returns-clause-value c =
    let number = typing.number_in (typing.names_of_objects (known_of c.args.self.now).objects) in
    let objects = c.in_ok-objects.ensures.value ∙ ap (take 8) (sym (map-map number read.name_of c.as_slice-given.result.now) ∙ ap (λ ns. map number (map read.name_of ns)) c.as_slice-given.ensures.value) in
    λ i. record { predicate = c.in_ok-predicate.ensures.value i; objects = objects i }

pub returns-clause-finds : goal.returns-clause-finds
returns-clause-finds c =
    let file = file_of c.args.self.now.globals.now.file in let known = known_of c.args.self.now in let a = read.ground_atom_of c.args.atom.now in
    let before = found_by c.args.walk.now in
    let seen : tree.Name → tree.Term = λ n. tree.object n in
    let count : length c.as_slice-given.result.now ≡ length a.objects = ap length c.as_slice-given.ensures.value ∙ sym (length-map c.args.atom.now.objects.items read.name_of) in
    let number = c.in_ok-predicate.ensures.value in
    let terms = sym (map-map seen read.name_of c.as_slice-given.result.now) ∙ ap (λ ns. map seen (map read.name_of ns)) c.as_slice-given.ensures.value in
    found_after before (found_by c.predicate.new.walk) _ (typing.predicate_faults file known a.predicate (length a.objects)) (typing.terms_faults file known (typing.arguments_in known a.predicate) (map seen a.objects))
    (c.in_ok-predicate.ensures.finds ∙ ap (λ n. found before (typing.predicate_faults file known a.predicate n)) count)
    (c.in_ok-objects.ensures.finds ∙ (λ j. found (found_by c.predicate.new.walk) (typing.terms_faults file known (arguments_at known (number j)) (terms j))))
