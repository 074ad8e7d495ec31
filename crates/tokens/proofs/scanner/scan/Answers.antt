use Rattle.std.proofs.Common.{arith, rules, ◌≡◌, ◌∙◌, ap}
use Rattle.std.proofs.lemmas.Result.{err_from_is_err_and}
use Rattle.model.specs.Words.{form, bytes, open_with}
use Rattle.tokens.proofs.Nesting.{may_open, may_close, stays_shallow}
use Rattle.tokens.proofs.Steps.{scanned_at_start, fault_here, scanned_more, reported_here, none_if_read, fault_at_end, read_all, word_added}
use Rattle.tokens.specs.Lexeme.{lexemes_left, placed_of}
use Rattle.tokens.specs.Shape.{form_by}
use Rattle.tokens.specs.Word.{word_of}
use Rattle.tokens.proofs.scanner.scan.Goals as goal

pub lexemes-init : goal.lexemes-init
lexemes-init c = record {
  shallow = search rules;
  scanned = scanned_at_start c.args.text.now _ _ _ _ (ap lexemes_left c.into_iter-lexeme-iterator.ensures.into_iter_gives ∙ c.of-lexeme-items.ensures)
      c.outside-nesting.ensures.open_lists c.outside-nesting.ensures.has_closed (search rules);
}

pub after-nesting-requires-clause-opens : goal.after-nesting-requires-clause-opens
after-nesting-requires-clause-opens c = λ opens.
    let lexeme = placed_of c.in-Some.lexeme in
    may_open _ _ (form lexeme.part) (bytes lexeme.part) c.in_ok-word.ensures.sound c.lexemes.invariant.shallow (c.shape-shape.ensures ∙ opens)

pub after-nesting-requires-clause-closes : goal.after-nesting-requires-clause-closes
after-nesting-requires-clause-closes c = λ closes.
    let lexeme = placed_of c.in-Some.lexeme in
    may_close _ _ (form lexeme.part) (bytes lexeme.part) c.in_ok-word.ensures.sound (c.shape-shape.ensures ∙ closes)

pub lexemes-preserved : goal.lexemes-preserved
lexemes-preserved c =
    let lexeme = placed_of c.in-Some.lexeme in
    let n = c.lexemes.nesting.open_lists in
    let shallow = stays_shallow n c.lexemes.nesting.has_closed (form lexeme.part) (bytes lexeme.part) c.in_ok-word.ensures.sound c.lexemes.invariant.shallow in
    let same = ap (open_with n) c.shape-shape.ensures in
    record {
      shallow = omega (arith, shallow, same, c.after-nesting.ensures.open_lists);
      scanned = rw (c.after-nesting.ensures.open_lists, c.after-nesting.ensures.has_closed)
          (scanned_more c.args.text.now (lexemes_left c.lexemes.lexeme-iterator) _ lexeme c.in-Some.ensures.steps n c.lexemes.nesting.has_closed (form_by c.shape-shape.result) c.shape-shape.ensures _ _ c.lexemes.invariant.scanned c.in_ok-word.ensures.sound
          (word_added word_of c.lexemes.words.items _ c.in_ok-word.word _ (search rules) c.in_ok-word.ensures.word));
    }

pub returns-in_err-word-clause-refused : goal.returns-in_err-word-clause-refused
returns-in_err-word-clause-refused c =
    let p = err_from_is_err_and c.from_residual.result c.from_residual.ensures.1 in
    let found = fault_here c.args.text.now (lexemes_left c.lexemes.lexeme-iterator) _ (placed_of c.in-Some.lexeme) c.in-Some.ensures.steps c.lexemes.nesting.open_lists c.lexemes.nesting.has_closed _ c.in_err-word.ensures.refused in
    rw (p.1, p.2) (reported_here c.args.text.now (lexemes_left c.lexemes.lexeme-iterator) c.lexemes.nesting.open_lists c.lexemes.nesting.has_closed (omega arith) c.lexemes.invariant.scanned.faults _ found)

pub returns-in_err-word-clause-taken : goal.returns-in_err-word-clause-taken
returns-in_err-word-clause-taken c = λ reads.
    let p = err_from_is_err_and c.from_residual.result c.from_residual.ensures.1 in
    let found = fault_here c.args.text.now (lexemes_left c.lexemes.lexeme-iterator) _ (placed_of c.in-Some.lexeme) c.in-Some.ensures.steps c.lexemes.nesting.open_lists c.lexemes.nesting.has_closed _ c.in_err-word.ensures.refused in
    rw (p.1, p.2) (none_if_read c.args.text.now (lexemes_left c.lexemes.lexeme-iterator) c.lexemes.nesting.open_lists c.lexemes.nesting.has_closed (omega arith) c.lexemes.invariant.scanned.faults _ found reads)

pub returns-then-nesting-gt0-clause-refused : goal.returns-then-nesting-gt0-clause-refused
returns-then-nesting-gt0-clause-refused c =
    let found = fault_at_end c.args.text.now (lexemes_left c.lexemes.lexeme-iterator) c.lexemes.nesting.open_lists c.lexemes.nesting.has_closed c.in-None.ensures.steps.0 c.if-nesting-gt0.true _ c.refusal-then-nesting-gt0.ensures in
    reported_here c.args.text.now (lexemes_left c.lexemes.lexeme-iterator) c.lexemes.nesting.open_lists c.lexemes.nesting.has_closed (omega arith) c.lexemes.invariant.scanned.faults _ found

pub returns-then-nesting-gt0-clause-taken : goal.returns-then-nesting-gt0-clause-taken
returns-then-nesting-gt0-clause-taken c =
    let found = fault_at_end c.args.text.now (lexemes_left c.lexemes.lexeme-iterator) c.lexemes.nesting.open_lists c.lexemes.nesting.has_closed c.in-None.ensures.steps.0 c.if-nesting-gt0.true _ c.refusal-then-nesting-gt0.ensures in
    none_if_read c.args.text.now (lexemes_left c.lexemes.lexeme-iterator) c.lexemes.nesting.open_lists c.lexemes.nesting.has_closed (omega arith) c.lexemes.invariant.scanned.faults _ found

pub returns-clause-words : goal.returns-clause-words
returns-clause-words c =
    read_all c.args.text.now (lexemes_left c.lexemes.lexeme-iterator) c.lexemes.nesting.open_lists c.lexemes.nesting.has_closed c.in-None.ensures.steps.0 _ (omega arith) (omega arith) c.lexemes.invariant.scanned
