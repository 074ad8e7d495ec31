use Rattle.std.proofs.Common.{◌≤◌, map}
use Rattle.tokens.specs.Lexeme.{lexemes_left}
use Rattle.tokens.specs.Word.{word_of}
use Rattle.tokens.proofs.Steps.{Scanned}
use Rattle.tokens.proofs.scanner.scan.Given as goal

abbrev pub invariant-lexemes : goal.invariant-lexemes
invariant-lexemes l = record {
  shallow : l.nesting.open_lists ≤ 64;
  scanned : Scanned l.text (lexemes_left l.lexeme-iterator) l.nesting.open_lists l.nesting.has_closed (map word_of l.words.items);
}
