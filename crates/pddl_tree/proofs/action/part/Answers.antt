use Rattle.pddl_tree.proofs.Names.{◌∙◌, ◌≡◌, ◌+◌, ◌++◌, ◌∷◌, [], map, sym, ap, subst, false, has_part, part_view, action_of, phrase, ReadsInto, MayContinue}
use Rattle.std.proofs.lemmas.List.{map-append}
use Rattle.pddl_tree.specs.Sections.{parts_on, part_into}
use Rattle.pddl_tree.proofs.Parts.{part_answers}
use Rattle.pddl_tree.proofs.action.part.Goals as goal

pub returns : goal.returns
returns c =
    let seen = map part_view c.args.seen.now.items in let p = part_view c.in_ok-keyword.keyword in let words = c.args.words.now in
    let a = action_of c.args.action.now in let b = action_of c.value.new.action in
    let new : has_part seen p ≡ false = ap (λ l. has_part (map part_view l) p) (sym c.deref.ensures.value) ∙ c.in_ok-keyword.ensures.new in
    let same : map part_view c.push.new.self.items ≡ seen ++ p ∷ [] = ap (map part_view) c.in_ok-push.ensures.items ∙ map-append part_view c.args.seen.now.items (c.in_ok-keyword.keyword ∷ []) in
    let more : map part_view c.deref-2.result.now ≡ seen ++ p ∷ [] = ap (map part_view) c.deref-2.ensures.value ∙ same in
    subst (λ l. MayContinue (phrase (parts_on seen a)) (phrase (parts_on l b)) words c.args.at c.value.result) (sym same)
    (part_answers seen p a b words c.args.at c.value.result c.in_ok-keyword.ensures.word new (subst (λ l. ReadsInto (phrase (part_into l p a)) words (c.args.at + 1) b c.value.result) more c.value.ensures))
