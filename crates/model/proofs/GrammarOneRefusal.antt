-- At most one fault is reported for words, and none for a file: the first unexpected word is unique, and so is its number.
use Rattle.std.proofs.Common.{◌≡◌, ℕ, List, [], ◌∷◌, ◌++◌, sym, ◌∙◌, ap, subst}
use Rattle.std.proofs.lemmas.List.{map-append, append_assoc, append-nil}
use Rattle.model.specs.Fault.{Fault}
use Rattle.model.specs.Words.{Word, end_of}
use Rattle.model.specs.Trees.{TaskFile}
use Rattle.model.specs.GrammarWords.{Token, token_of, tokens_of}
use Rattle.model.specs.Refusals.{IsWhole, Begins, IsReportedOf, IsRefused, at_word, at_end, number_after}
use Rattle.model.proofs.GrammarBegins.{fewer}
use Rattle.model.proofs.Places.{Places, at_one, comes_before, comes_after, places}

-- a prefix of a file has no unexpected word
may_continue : (file : TaskFile) (all before after : List Word) (word : Word) → all ≡ before ++ word ∷ after → Begins file (tokens_of all) → Begins file (tokens_of before ++ token_of word ∷ [])
may_continue file all before after word split begins =
    let tokens : tokens_of all ≡ (tokens_of before ++ token_of word ∷ []) ++ tokens_of after =
    ap tokens_of split ∙ map-append token_of before (word ∷ after) ∙ sym (append_assoc (tokens_of before) (token_of word ∷ []) (tokens_of after)) in
    fewer file (tokens_of before ++ token_of word ∷ []) (tokens_of after) (subst (Begins file) tokens begins)

-- the number reported for a word after these words is unique
one_number : (file : TaskFile) (b : List Token) (t : Token) (c d : ℕ) → IsReportedOf file b t c → IsReportedOf file b t d → c ≡ d
one_number file b t c d l m = let same : l.0 ≡ m.0 = cc in l.2 ∙ ap (λ p. number_after p t) same ∙ sym m.2

same_fault : (f g : Fault) → f.code ≡ g.code → f.span ≡ g.span → f ≡ g
same_fault f g code span = ap (λ c. record { code = c; span = f.span }) code ∙ ap (λ s. record { code = g.code; span = s }) span

pub one_refusal : (file : TaskFile) (words : List Word) (f g : Fault) → IsRefused file words f → IsRefused file words g → f ≡ g
one_refusal file words f g (at_word b r w split begins dead line span) (at_word c s x other begin die rule place) = by_places (places b c r s w x (sym split ∙ other))
  where
    by_places : Places b c w x → f ≡ g
    by_places (at_one p q) =
        let numbers : f.code ≡ g.code = one_number file (tokens_of b) (token_of w) f.code g.code line (subst (λ y. IsReportedOf file (tokens_of y) (token_of w) g.code) (sym p) (subst (λ y. IsReportedOf file (tokens_of c) (token_of y) g.code) (sym q) rule)) in
        same_fault f g numbers (span ∙ ap (λ y. record { start = y.start; end = end_of y }) q ∙ sym place)
    by_places (comes_before rest p) = absurd (dead (may_continue file c b rest w p begin))
    by_places (comes_after rest p) = absurd (die (may_continue file b c rest x p begins))
one_refusal file words f g (at_word b r w split begins dead line span) (at_end all whole code place) = absurd (dead (may_continue file words b r w split all))
one_refusal file words f g (at_end all whole code place) (at_word c s x other begin die rule span) = absurd (die (may_continue file words c s x other all))
one_refusal file words f g (at_end all whole code span) (at_end other none number place) = same_fault f g (code ∙ sym number) (span ∙ sym place)

-- words that are a whole file are not refused
pub whole_not_refused : (file : TaskFile) (words : List Word) (fault : Fault) → IsWhole file (tokens_of words) → IsRefused file words fault → ⊥
whole_not_refused file words fault whole (at_word b r w split begins dead line span) =
    let begun : Begins file (tokens_of words) = ([], subst (IsWhole file) (sym (append-nil (tokens_of words))) whole) in
    dead (may_continue file words b r w split begun)
whole_not_refused file words fault whole (at_end begins no_file code span) = no_file whole
