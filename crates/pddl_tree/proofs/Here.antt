-- The words from an index on: the one at the index, and the rest.
use Rattle.std.proofs.Common.{◌≡◌, ℕ, ◌+◌, ◌<◌, List, ◌∷◌, map, drop, length, get_or, Some, sym, ◌∙◌, ap}
use Rattle.std.proofs.lemmas.List.{drop_more, drop-map}
use Rattle.tokens.specs.declared.word.Word.{Word}
use Rattle.tokens.specs.Word.{word_of}
use Rattle.model.specs.GrammarWords.{Token, token_of}
use Rattle.pddl_tree.specs.Token.{from, first}

abbrev token : Word → Token
token w = token_of (word_of w)

from_here : (words : List Word) (at : ℕ) (w : Word) → at < length words → w ≡ get_or words at w → from words at ≡ token w ∷ from words (at + 1)
from_here words at w h e =
    drop-map token at words ∙ ap (map token) (drop_more words at w h) ∙ ap (λ x. token x ∷ map token (drop (at + 1) words)) (sym e) ∙ ap (λ v. token w ∷ v) (sym (drop-map token (at + 1) words))

pub first_here : (words : List Word) (at : ℕ) (w : Word) → at < length words → w ≡ get_or words at w → first (from words at) ≡ Some (token_of (word_of w))
first_here words at w h e = ap first (from_here words at w h e)
