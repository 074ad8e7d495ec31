-- The words, among some, that may follow others.
use Rattle.std.specs.Prelude.{◌≡◌, ℕ, ◌+◌, ◌<◌, List, [], ◌∷◌, ◌++◌, length, get_or, map, take, Result, Ok, Err, IfOk}
use Rattle.std.specs.List.{All}
use Rattle.std.specs.Global.{Vec}
use Rattle.std.proofs.Common.{ap, sym, ◌∙◌, subst}
use Rattle.std.proofs.lemmas.List.{take_more}
use Rattle.std.proofs.lemmas.List.Elements.{All-nil, All-cons}
use Rattle.tokens.specs.Word.{word_of}
use Rattle.tokens.specs.declared.word.Word.{Word}
use Rattle.model.specs.Words.{ReadsAs}
use Rattle.model.specs.Trees.{TaskFile}
use Rattle.model.specs.GrammarWords.{token_of, tokens_of}
use Rattle.model.specs.Refusals.{Begins}
use Rattle.model.proofs.GrammarBegins.{fewer}
use Rattle.explain_words.specs.Expected.{AreAll, AreThose, none, kept, left_out, MayFollow, candidates_text}

module _ (P : Word → Type 0) where
  -- one more word, which satisfies the claim or does not
  one_stated : (words those : List Word) (word : Word) → AreThose P words those → P word → AreThose P (words ++ word ∷ []) (those ++ word ∷ [])
  one_stated words those word none holds = kept word [] [] holds none
  one_stated words those word (kept first rest others here more) holds = kept first (rest ++ word ∷ []) (others ++ word ∷ []) here (one_stated rest others word more holds)
  one_stated words those word (left_out first rest others not_here more) holds = left_out first (rest ++ word ∷ []) (others ++ word ∷ []) not_here (one_stated rest others word more holds)

  one_left_out : (words those : List Word) (word : Word) → AreThose P words those → (P word → ⊥) → AreThose P (words ++ word ∷ []) those
  one_left_out words those word none fails = left_out word [] [] fails none
  one_left_out words those word (kept first rest others here more) fails = kept first (rest ++ word ∷ []) others here (one_left_out rest others word more fails)
  one_left_out words those word (left_out first rest others not_here more) fails = left_out first (rest ++ word ∷ []) others not_here (one_left_out rest others word more fails)

  -- if none satisfies the claim, none is told
  pub none_stated : (words : List Word) → ((word : Word) → P word → ⊥) → AreThose P words []
  none_stated [] fails = none
  none_stated (word ∷ words) fails = left_out word words [] (fails word) (none_stated words fails)

  -- those told satisfy the claim
  pub those_hold : (words those : List Word) → AreThose P words those → All P those
  those_hold words those none = All-nil P
  those_hold words those (kept first rest others here more) = All-cons P first others here (those_hold rest others more)
  those_hold words those (left_out first rest others not_here more) = those_hold rest others more

  -- a loop over words: the words so far, with the one at an index
  module _ (words found : List Word) (k : ℕ) (word : Word) (below : k < length words) (is : word ≡ get_or words k word) where
    so_far : take (k + 1) words ≡ take k words ++ word ∷ []
    so_far = take_more words k word below ∙ ap (λ (w : Word). take k words ++ w ∷ []) (sym is)

    pub reported_so_far : AreThose P (take k words) found → P word → AreThose P (take (k + 1) words) (found ++ word ∷ [])
    reported_so_far those holds = subst (λ (w : List Word). AreThose P w (found ++ word ∷ [])) (sym so_far) (one_stated (take k words) found word those holds)

    pub left_out_so_far : AreThose P (take k words) found → (P word → ⊥) → AreThose P (take (k + 1) words) found
    left_out_so_far those fails = subst (λ (w : List Word). AreThose P w found) (sym so_far) (one_left_out (take k words) found word those fails)

-- those of the candidates are all
pub all_reported : {E : Type 0} (file : TaskFile) (before candidates given : List Word) (text : List ℕ) (r : Result (Vec Word) E) → text ≡ candidates_text → given ≡ candidates
    → ReadsAs text (map word_of candidates) → IfOk r (λ found. AreThose (MayFollow file before) given found.items) → IfOk r (λ found. AreAll file before found.items)
all_reported file before candidates given text (Ok found) is_text same reads those = record {
  candidates = candidates;
  reads = subst (λ (t : List ℕ). ReadsAs t (map word_of candidates)) is_text reads;
  those = subst (λ (w : List Word). AreThose (MayFollow file before) w found.items) same those;
}
all_reported file before candidates given text (Err e) is_text same reads those = tt

-- after words that no file begins with, none may follow
pub none_follow : (file : TaskFile) (before : List Word) → (Begins file (tokens_of (map word_of before)) → ⊥) → (word : Word) → MayFollow file before word → ⊥
none_follow file before never word follows = never (fewer file (tokens_of (map word_of before)) (token_of (word_of word) ∷ []) follows)
