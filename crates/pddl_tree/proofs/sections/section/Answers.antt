use Rattle.pddl_tree.proofs.Names.{◌≡◌, false, ◌∙◌, map, sym, ap, subst, has_section, section_view, file_of, phrase, MayContinue}
use Rattle.pddl_tree.specs.Sections.{contents_of, sections_on}
use Rattle.pddl_tree.proofs.Files.{section_answers}
use Rattle.pddl_tree.proofs.sections.section.Goals as goal

pub returns : goal.returns
returns c =
    let f = file_of c.args.file in let seen = map section_view c.args.seen.now.items in let j = section_view c.in_ok-keyword.keyword in let words = c.args.words.now in
    let before = contents_of c.args.contents.now in let read = contents_of c.section_rest.new.contents in
    let new : has_section seen j ≡ false = ap (λ l. has_section (map section_view l) j) (sym c.deref.ensures.value) ∙ c.in_ok-keyword.ensures.new.1 in
    subst (λ l. MayContinue (phrase (sections_on f seen before)) (phrase (sections_on f l read)) words c.args.at c.section_rest.result) (sym c.in_ok-see.ensures)
    (section_answers f seen j before read words c.args.at c.section_rest.result c.in_ok-keyword.ensures.opens c.in_ok-keyword.ensures.word c.in_ok-keyword.ensures.new.0 new c.section_rest.ensures)
