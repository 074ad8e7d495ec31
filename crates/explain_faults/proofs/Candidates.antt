-- The reported words are those that may follow in a file, or a selection of these.
use Rattle.std.specs.Prelude.{◌≡◌, ℕ, ◌+◌, ◌<◌, List, [], ◌∷◌, ◌++◌, length, get_or, take}
use Rattle.std.specs.List.{All}
use Rattle.std.proofs.Common.{refl, ap, sym, ◌∙◌, subst, inl, inr, arith}
use Rattle.std.proofs.lemmas.List.{take_more}
use Rattle.std.proofs.lemmas.List.Elements.{All-nil, All-cons, All-head, All-tail}
use Rattle.tokens.specs.declared.word.Word.{Word}
use Rattle.model.specs.Trees.{TaskFile}
use Rattle.explain_faults.specs.Expected.{AreAll, AreSuggested, IsOfKeyword, AreSome, MayFollow, no_more, taken, passed_over}
use Rattle.explain_words.proofs.Reported.{those_hold}

-- ---- a selection of words

module _ (P : Word → Type 0) where
  -- what holds of each of some words holds of a selection of them
  pub some_hold : (words some : List Word) → AreSome words some → All P words → All P some
  some_hold words some no_more all = All-nil P
  some_hold words some (taken first rest others more) all = All-cons P first others (All-head P first rest all) (some_hold rest others more (All-tail P first rest all))
  some_hold words some (passed_over first rest others more) all = some_hold rest others more (All-tail P first rest all)

-- one more word, taken or skipped
pub one_taken : (words some : List Word) (word : Word) → AreSome words some → AreSome (words ++ word ∷ []) (some ++ word ∷ [])
one_taken words some word no_more = taken word [] [] no_more
one_taken words some word (taken first rest others more) = taken first (rest ++ word ∷ []) (others ++ word ∷ []) (one_taken rest others word more)
one_taken words some word (passed_over first rest others more) = passed_over first (rest ++ word ∷ []) (others ++ word ∷ []) (one_taken rest others word more)

pub one_passed_over : (words some : List Word) (word : Word) → AreSome words some → AreSome (words ++ word ∷ []) some
one_passed_over words some word no_more = passed_over word [] [] no_more
one_passed_over words some word (taken first rest others more) = taken first (rest ++ word ∷ []) others (one_passed_over rest others word more)
one_passed_over words some word (passed_over first rest others more) = passed_over first (rest ++ word ∷ []) others (one_passed_over rest others word more)

-- ---- a loop over words

-- the words so far, with the one at an index
so_far : (words : List Word) (k : ℕ) (word : Word) → k < length words → word ≡ get_or words k word → take (k + 1) words ≡ take k words ++ word ∷ []
so_far words k word below is = take_more words k word below ∙ ap (λ (w : Word). take k words ++ w ∷ []) (sym is)

module _ (words found more : List Word) (k : ℕ) (word : Word) (below : k < length words) (is : word ≡ get_or words k word) where
  pub taken_so_far : more ≡ found ++ word ∷ [] → AreSome (take k words) found → AreSome (take (k + 1) words) more
  taken_so_far items some =
      subst (λ (w : List Word). AreSome w more) (sym (so_far words k word below is))
      (subst (AreSome (take k words ++ word ∷ [])) (sym items) (one_taken (take k words) found word some))

  pub passed_so_far : more ≡ found → AreSome (take k words) found → AreSome (take (k + 1) words) more
  passed_so_far items some =
      subst (λ (w : List Word). AreSome w more) (sym (so_far words k word below is))
      (subst (AreSome (take k words ++ word ∷ [])) (sym items) (one_passed_over (take k words) found word some))

-- ---- reported words

-- all that may follow may follow
pub follow_all : (file : TaskFile) (before all : List Word) → AreAll file before all → All (MayFollow file before) all
follow_all file before all are = those_hold (MayFollow file before) are.candidates all are.those

-- if all are reported, or a non-empty selection, the report is as specified
module _ (file : TaskFile) (before all : List Word) (reported : List ℕ) where
  pub reported_all : AreAll file before all → AreSuggested file before reported all
  reported_all are_all = record { all = all; are_all = are_all; are_reported = inl refl }

  pub stated_some : (given some : List Word) → given ≡ all → AreSome given some → IsOfKeyword reported → 0 < length some → AreAll file before all → AreSuggested file before reported some
  stated_some given some same are is_of_keyword not_none are_all = record {
    all = all;
    are_all = are_all;
    are_reported = inr (is_of_keyword, subst (λ (w : List Word). AreSome w some) same are, λ empty. absurd (let none_in : length some ≡ 0 = ap length empty in omega arith));
  }
