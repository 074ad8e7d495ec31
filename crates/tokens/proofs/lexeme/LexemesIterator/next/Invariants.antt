use Rattle.std.proofs.Common.{◌≡◌, ◌-◌, length}
use Rattle.tokens.specs.Lexeme.{lexemes_left}
use Rattle.tokens.proofs.lexeme.LexemesIterator.next.Given as goal

-- only gaps have been passed
abbrev pub invariant-parts : goal.invariant-parts
invariant-parts l = record {
  text : l.self.text ≡ l.initial.self.text;
  left : lexemes_left l.self ≡ lexemes_left l.initial.self;
}

abbrev pub decreases-parts : goal.decreases-parts
decreases-parts l = length l.self.text.now - l.self.at
