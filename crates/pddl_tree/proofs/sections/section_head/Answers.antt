use Rattle.pddl_tree.proofs.Names.{◌≡◌, Some, false, ◌∙◌, map, sym, subst, sections_of, keyword, of_section, from, first, section_view, file_of, part, stops, closes_first, Stops}
use Rattle.model.specs.Grammar as grammar
use Rattle.faults.proofs.Results.{passed_on, if_ok, if_err}
use Rattle.pddl_tree.specs.Sections.{IsNotNew}
use Rattle.pddl_tree.proofs.Files.{all_seen, sections_full, sections_not_open, no_section}
use Rattle.pddl_tree.proofs.sections.section_head.Goals as goal

pub returns-then-has_all-clause-reported : goal.returns-then-has_all-clause-reported
returns-then-has_all-clause-reported c = λ may_continue.
    let f = file_of c.args.file in let seen = map section_view c.args.seen.now in
    sections_full f seen c.args.words.now c.args.at (all_seen c.allowed.result.now (sections_of f) seen c.has_all.result _ c.allowed.ensures c.has_all.ensures c.if-has_all.true) may_continue
    ∙ (λ i. stops (sym c.refusal.ensures.number i) (from c.args.words.now (sym c.refusal.ensures.at i)))

pub returns-in_err-inside-clause-reported : goal.returns-in_err-inside-clause-reported
returns-in_err-inside-clause-reported c =
    let f = file_of c.args.file in let seen = map section_view c.args.seen.now in let words = c.args.words.now in
    passed_on (λ refusal. closes_first (first (from words c.args.at)) ≡ false → Stops words (part (grammar.sections f seen) (from words c.args.at)) refusal) c.from_residual.result c.in_err-inside.field-0.0 c.from_residual.ensures.1
    (λ may_continue. sections_not_open f seen words c.args.at c.in_err-inside.ensures.0 may_continue ∙ (λ i. stops (sym c.in_err-inside.ensures.1.0 i) (from words (sym c.in_err-inside.ensures.1.1 i))))

pub returns-clause-opens : goal.returns-clause-opens
returns-clause-opens c = if_ok c.section_keyword.result (λ k word. c.in_ok-inside.ensures.0) c.section_keyword.ensures.word

pub returns-clause-word : goal.returns-clause-word
returns-clause-word c =
    if_ok c.section_keyword.result (λ k word. subst (λ i. first (from c.args.words.now i) ≡ Some (keyword (of_section (section_view k)))) c.in_ok-inside.ensures.1.0 word) c.section_keyword.ensures.word

pub returns-clause-reported : goal.returns-clause-reported
returns-clause-reported c =
    let f = file_of c.args.file in let seen = map section_view c.args.seen.now in let words = c.args.words.now in
    if_err c.section_keyword.result (λ refusal reported may_continue. no_section f seen words c.args.at refusal c.in_ok-inside.ensures.0
    (all_seen c.allowed.result.now (sections_of f) seen c.has_all.result _ c.allowed.ensures c.has_all.ensures c.if-has_all.false)
    (subst (λ i. IsNotNew words i f seen refusal) c.in_ok-inside.ensures.1.0 reported)) c.section_keyword.ensures.reported
