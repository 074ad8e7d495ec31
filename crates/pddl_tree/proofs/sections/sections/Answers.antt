use Rattle.pddl_tree.proofs.Names.{◌∙◌, map, sym, ap, arith, rules, required_of, from, section_view, file_of, phrase, stops}
use Rattle.model.specs.Grammar as grammar
use Rattle.pddl_tree.specs.Sections.{contents_of, sections_on}
use Rattle.pddl_tree.proofs.Files.{sections_end, sections_missing, all_seen}
use Rattle.pddl_tree.proofs.sections.sections.Goals as goal

pub sections-init : goal.sections-init
sections-init c = record { moved = omega arith; read = ap (λ seen. phrase (sections_on (file_of c.args.file) (map section_view seen) (contents_of c.args.contents.now)) (from c.args.words.now c.args.at)) (sym c.new-seen.ensures.items) }

pub sections-preserved : goal.sections-preserved
sections-preserved c = record { moved = omega (arith, c.in_ok-next.ensures.1); read = c.sections.invariant.read ∙ c.in_ok-next.ensures.0 }

pub returns-then-has_all : goal.returns-then-has_all
returns-then-has_all c =
    let f = file_of c.args.file in let within = c.is_close.ensures.within (search rules) in
    let all = ap (λ l. grammar.has_all (required_of f) (map section_view l)) (sym c.deref.ensures.value) ∙ all_seen c.required.result.now (required_of f) (map section_view c.deref.result.now) c.has_all.result _ c.required.ensures c.has_all.ensures c.if-has_all.true in
    (c.sections.invariant.read ∙ sections_end f (map section_view c.sections.seen.items) (contents_of c.sections.contents) c.args.words.now c.sections.next (sym c.is_close.ensures.first ∙ c.sections-test.false) all, (omega (arith, c.sections.invariant.moved), omega (arith, within)))

pub returns : goal.returns
returns c =
    let f = file_of c.args.file in let words = c.args.words.now in
    let missing = ap (λ l. grammar.has_all (required_of f) (map section_view l)) (sym c.deref.ensures.value) ∙ all_seen c.required.result.now (required_of f) (map section_view c.deref.result.now) c.has_all.result _ c.required.ensures c.has_all.ensures c.if-has_all.false in
    c.sections.invariant.read ∙ sections_missing f (map section_view c.sections.seen.items) (contents_of c.sections.contents) words c.sections.next missing (sym c.is_close.ensures.first ∙ c.sections-test.false)
    ∙ (λ i. stops (sym c.refusal.ensures.number i) (from words (sym c.refusal.ensures.at i)))
