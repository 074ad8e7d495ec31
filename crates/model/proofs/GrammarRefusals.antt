-- Where the machine stops, the words are refused: the words up to that one are not a prefix of a file, or the words end too
-- early.
use Rattle.std.proofs.Common.{◌≡◌, ℕ, zero, suc, List, [], ◌∷◌, ◌++◌, drop, Option, Some, None, refl, sym, ◌∙◌, ap, subst}
use Rattle.std.specs.Prelude.{slice_get}
use Rattle.std.proofs.lemmas.List.{map-append}
use Rattle.model.specs.Words.{Word, end_of}
use Rattle.model.specs.Trees.{TaskFile}
use Rattle.model.specs.GrammarWords.{Token, token_of, tokens_of}
use Rattle.model.specs.Grammar.{Tree}
use Rattle.model.specs.Refusals.{end_of_all, span_by, span_of_place, IsRefused, at_word, at_end, start}
use Rattle.model.specs.GrammarMachine.{finished, stopped, run}
use Rattle.model.proofs.GrammarMeaning.{file_run}
use Rattle.model.proofs.GrammarStops.{StopsAt, stops_at, stopping, ending}
use Rattle.model.proofs.GrammarBegins.{begins, dead}

-- a run that finishes does not stop
apart : {t : Tree} {code : ℕ} {w : List Token} → finished t ≡ stopped code w → ⊥
apart e = cc

-- an index within the words, or their end
data IsPlace (words : List Word) (place : ℕ) : Type 0 where
  within : (before after : List Word) (word : Word) → words ≡ before ++ word ∷ after → slice_get words place ≡ Some word → drop place (tokens_of words) ≡ token_of word ∷ tokens_of after → IsPlace words place
  past : slice_get words place ≡ None → drop place (tokens_of words) ≡ [] → IsPlace words place

place_in : (words : List Word) (place : ℕ) → IsPlace words place
place_in [] zero = past refl refl
place_in [] (suc n) = past refl refl
place_in (w ∷ words) zero = within [] words w refl refl refl
place_in (w ∷ words) (suc n) = by_rest (place_in words n)
  where
    by_rest : IsPlace words n → IsPlace (w ∷ words) (suc n)
    by_rest (within before after word split get left) = within (w ∷ before) after word (ap (λ ws. w ∷ ws) split) get left
    by_rest (past get left) = past get left

refused_word : (file : TaskFile) (words before after : List Word) (word : Word) (code : ℕ) → words ≡ before ++ word ∷ after → run (tokens_of words) (start file) ≡ stopped code (token_of word ∷ tokens_of after) → IsRefused file words (record { code = code; span = record { start = word.start; end = end_of word } })
refused_word file words before after word code split e =
    let tokens : tokens_of words ≡ tokens_of before ++ token_of word ∷ tokens_of after = ap tokens_of split ∙ map-append token_of before (word ∷ after) in
    by_stop (stopping (tokens_of before) (start file) (token_of word) (tokens_of after) code (ap (λ w. run w (start file)) (sym tokens) ∙ e))
  where
    by_stop : StopsAt (tokens_of before) (start file) (token_of word) code → IsRefused file words (record { code = code; span = record { start = word.start; end = end_of word } })
    by_stop (stops_at q led stops number) =
        at_word before after word split (begins file (tokens_of before) q led) (dead file (tokens_of before) q (token_of word) led stops) (q, led, number) refl

refused_end : (file : TaskFile) (words : List Word) (code : ℕ) → run (tokens_of words) (start file) ≡ stopped code [] → IsRefused file words (record { code = code; span = record { start = end_of_all words; end = end_of_all words } })
refused_end file words code e =
    let stop = ending (tokens_of words) (start file) code e in
    at_end (begins file (tokens_of words) stop.0 stop.1) (λ whole. apart (sym (file_run whole.1) ∙ e)) stop.2 refl

-- the words are refused where the machine stops
pub refused_at : (file : TaskFile) (words : List Word) (code place : ℕ) → run (tokens_of words) (start file) ≡ stopped code (drop place (tokens_of words)) → IsRefused file words (record { code = code; span = span_of_place words place })
refused_at file words code place e = by_place (place_in words place)
  where
    by_place : IsPlace words place → IsRefused file words (record { code = code; span = span_of_place words place })
    by_place (within before after word split get left) =
        let P : Option Word → Type 0 = λ o. IsRefused file words (record { code = code; span = span_by words o }) in
        subst P (sym get) (refused_word file words before after word code split (e ∙ ap (stopped code) left))
    by_place (past get left) =
        let P : Option Word → Type 0 = λ o. IsRefused file words (record { code = code; span = span_by words o }) in
        subst P (sym get) (refused_end file words code (e ∙ ap (stopped code) left))
