use Rattle.std.proofs.Common.{◌∙◌, ap, sym}
use Rattle.typing.specs.TypedLists.{declared_of}
use Rattle.typing.specs.Walk.{found, found_by}
use Rattle.typing.specs.declared.typed_lists.Declared.{Declared}
use Rattle.model.specs.Typing as typing
use Rattle.typing.proofs.Lists as lists
use Rattle.typing.proofs.Found.{map-map}
use Rattle.typing.proofs.typed_lists.limit.Goals as goal

pub returns-in-Some : goal.returns-in-Some
returns-in-Some c =
    let at = c.in-Some.ensures.lookup.3 in let xs = c.args.declared.now in
    let word = λ (x : typing.Declared). typing.placed x.file x.name in
    c.refuse.ensures ∙ ap (λ words. found (found_by c.args.walk.now) (typing.refused 25 words))
    (sym (lists.one_after-at (λ (x : Declared). word (declared_of x)) xs c.args.most c.in-Some.declared.now at.0 (at.1 c.in-Some.declared.now))
    ∙ ap (typing.one_after c.args.most) (sym (map-map word declared_of xs)))
