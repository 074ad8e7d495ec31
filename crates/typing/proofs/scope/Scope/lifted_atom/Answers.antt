use Rattle.std.proofs.Common.{◌≡◌, ◌∙◌, map, length, ap, sym}
use Rattle.std.proofs.lemmas.List.{length-map}
use Rattle.pddl_tree.specs.Tree.{file_of}
use Rattle.typing.specs.Scope.{arguments_at, known_of}
use Rattle.typing.specs.Walk.{found, found_by}
use Rattle.pddl_tree.specs.Tree as read
use Rattle.model.specs.Typing as typing
use Rattle.typing.proofs.Found.{found_after, map-map}
use Rattle.typing.proofs.scope.Scope.lifted_atom.Goals as goal

pub returns-clause-value : goal.returns-clause-value
returns-clause-value c =
    let known = known_of c.args.self.now in
    let terms = c.in_ok-terms.ensures.value ∙ sym (map-map (typing.term_in known) read.term_of c.as_slice-given.result.now) ∙ ap (λ ts. map (typing.term_in known) (map read.term_of ts)) c.as_slice-given.ensures.value in
    λ i. record { predicate = c.in_ok-predicate.ensures.value i; terms = terms i }

pub returns-clause-finds : goal.returns-clause-finds
returns-clause-finds c =
    let file = file_of c.args.self.now.globals.now.file in let known = known_of c.args.self.now in let a = read.atom_of c.args.atom.now in
    let before = found_by c.args.walk.now in
    let count : length c.as_slice-given.result.now ≡ length a.terms = ap length c.as_slice-given.ensures.value ∙ sym (length-map c.args.atom.now.terms.items read.term_of) in
    let number = c.in_ok-predicate.ensures.value in
    found_after before (found_by c.predicate.new.walk) _ (typing.predicate_faults file known a.predicate (length a.terms)) (typing.terms_faults file known (typing.arguments_in known a.predicate) a.terms)
    (c.in_ok-predicate.ensures.finds ∙ ap (λ n. found before (typing.predicate_faults file known a.predicate n)) count)
    (c.in_ok-terms.ensures.finds ∙ (λ j. found (found_by c.predicate.new.walk) (typing.terms_faults file known (arguments_at known (number j)) (map read.term_of (c.as_slice-given.ensures.value j)))))
