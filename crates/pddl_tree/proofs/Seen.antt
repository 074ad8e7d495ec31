-- Whether a keyword is among some.
use Rattle.pddl_tree.proofs.Names.{◌≡◌, ◌||◌, List, [], ◌∷◌, map, refl, part_view, section_view, is_section, has_part, has_section}
use Rattle.std.specs.List.{list_any}
use Rattle.pddl_tree.specs.declared.token.PartKeyword.{PartKeyword}
use Rattle.pddl_tree.specs.declared.token.PartKeyword.TheVariants as part
use Rattle.pddl_tree.specs.contracts.token.PartKeywordPartialEq.TheImpl as part_impl
use Rattle.pddl_tree.specs.declared.token.SectionKeyword.{SectionKeyword}
use Rattle.pddl_tree.specs.declared.token.SectionKeyword.TheVariants as section
use Rattle.pddl_tree.specs.contracts.token.SectionKeywordPartialEq.TheImpl as section_impl
use Rattle.model.specs.Grammar.{is_part}

same_part : (y k : PartKeyword) → (part_impl.ghosts).eq y k ≡ is_part (part_view k) (part_view y)
same_part part.Parameters part.Parameters = refl
same_part part.Precondition part.Precondition = refl
same_part part.Effect part.Effect = refl
same_part y k = refl

pub part_among : (seen : List PartKeyword) (k : PartKeyword) → list_any (λ y. (part_impl.ghosts).eq y k) seen ≡ has_part (map part_view seen) (part_view k)
part_among [] k = refl
part_among (y ∷ seen) k = λ i. same_part y k i || part_among seen k i

same_section : (y k : SectionKeyword) → (section_impl.ghosts).eq y k ≡ is_section (section_view k) (section_view y)
same_section section.Requirements section.Requirements = refl
same_section section.Types section.Types = refl
same_section section.Constants section.Constants = refl
same_section section.Predicates section.Predicates = refl
same_section section.Functions section.Functions = refl
same_section section.Action section.Action = refl
same_section section.Domain section.Domain = refl
same_section section.Objects section.Objects = refl
same_section section.Init section.Init = refl
same_section section.Goal section.Goal = refl
same_section section.Metric section.Metric = refl
same_section y k = refl

pub section_among : (seen : List SectionKeyword) (k : SectionKeyword) → list_any (λ y. (section_impl.ghosts).eq y k) seen ≡ has_section (map section_view seen) (section_view k)
section_among [] k = refl
section_among (y ∷ seen) k = λ i. same_section y k i || section_among seen k i
