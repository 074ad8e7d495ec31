-- The machine stops at the first word that may not follow, whatever comes after it.
use Rattle.std.proofs.Common.{◌≡◌, ℕ, suc, ◌+◌, ◌≤◌, List, [], ◌∷◌, ◌++◌, length, Option, None, Some, refl, ◌∙◌, ap, subst, arith, length-append}
use Rattle.std.specs.Option.{option_and_then}
use Rattle.model.specs.GrammarWords.{Token}
use Rattle.model.specs.Grammar.{Phrase, gives, ◌>>=◌}
use Rattle.model.specs.GrammarMachine.{Outcome, finished, stopped, go_on, run, at_end}
use Rattle.model.specs.Refusals.{step, number_after, after_all}

module _ {T : Type 0} where
  -- words that lead to what must follow take the machine there
  pub leads : (b : List Token) (p q : Phrase T) (w : List Token) → after_all b p ≡ Some q → run (b ++ w) p ≡ run w q
  leads [] p q w e = let same : p ≡ q = cc in ap (run w) same
  leads (t ∷ b) p q w e = by_step (step p t) (λ s. leads b s q w) e
    where
      by_step : (o : Option (Phrase T)) → ((s : Phrase T) → after_all b s ≡ Some q → run (b ++ w) s ≡ run w q) → option_and_then (λ s. after_all b s) o ≡ Some q → go_on o (run (b ++ w)) (stopped (number_after p t) (t ∷ b ++ w)) ≡ run w q
      by_step (Some s) again e = again s e
      by_step None again e = absurd (cc)

  -- the remaining words of a run that stops
  abbrev LeftWithin : Outcome T → List Token → Type 0
  LeftWithin (finished x) w = Unit {0}
  LeftWithin (stopped code left) w = length left ≤ length w

  left_more : (o : Outcome T) (t : Token) (w : List Token) → LeftWithin o w → LeftWithin o (t ∷ w)
  left_more (finished x) t w h = tt
  left_more (stopped code left) t w h = omega arith

  ended : (p : Phrase T) → LeftWithin (at_end p) []
  ended (gives x) = tt
  ended (s >>= k) = omega arith

  left_within : (w : List Token) (p : Phrase T) → LeftWithin (run w p) w
  left_within [] p = ended p
  left_within (t ∷ w) p = by_step (left_within w) (step p t)
    where
      by_step : ((q : Phrase T) → LeftWithin (run w q) w) → (o : Option (Phrase T)) → LeftWithin (go_on o (run w) (stopped (number_after p t) (t ∷ w))) (t ∷ w)
      by_step within (Some q) = left_more (run w q) t w (within q)
      by_step within None = omega arith

  -- where the machine stopped at a word: what had to follow before it, and that the word may not
  pub data StopsAt (before : List Token) (p : Phrase T) (t : Token) (code : ℕ) : Type 0 where
    stops_at : (q : Phrase T) → after_all before p ≡ Some q → step q t ≡ None → code ≡ number_after q t → StopsAt before p t code

  pub stopping : (before : List Token) (p : Phrase T) (t : Token) (after : List Token) (code : ℕ) → run (before ++ t ∷ after) p ≡ stopped code (t ∷ after) → StopsAt before p t code
  stopping [] p t after code e = by_step (step p t) refl e
    where
      by_step : (o : Option (Phrase T)) → step p t ≡ o → go_on o (run after) (stopped (number_after p t) (t ∷ after)) ≡ stopped code (t ∷ after) → StopsAt [] p t code
      by_step (Some q) is h = absurd (let l = subst (λ x. LeftWithin x after) h (left_within after q) in omega arith)
      by_step None is h = stops_at p refl is (cc)
  stopping (b ∷ before) p t after code e = by_step (step p b) refl (λ q. stopping before q t after code) e
    where
      by_step : (o : Option (Phrase T)) → step p b ≡ o → ((q : Phrase T) → run (before ++ t ∷ after) q ≡ stopped code (t ∷ after) → StopsAt before q t code) → go_on o (run (before ++ t ∷ after)) (stopped (number_after p b) (b ∷ before ++ t ∷ after)) ≡ stopped code (t ∷ after) → StopsAt (b ∷ before) p t code
      by_step (Some q) is again h = one_more (again q h)
        where
          one_more : StopsAt before q t code → StopsAt (b ∷ before) p t code
          one_more (stops_at r led dead number) = stops_at r (ap (option_and_then (λ s. after_all before s)) is ∙ led) dead number
      by_step None is again h =
          let same : b ∷ (before ++ t ∷ after) ≡ t ∷ after = cc in
          let l : suc (length before + suc (length after)) ≡ suc (length after) = simp length-append at (ap length same) in absurd (omega arith)

  -- where the words end
  pub ending : (w : List Token) (p : Phrase T) (code : ℕ) → run w p ≡ stopped code [] → (q : Phrase T) × (after_all w p ≡ Some q) × (code ≡ 7)
  ending [] (gives x) code e = absurd (cc)
  ending [] (s >>= k) code e = (s >>= k, refl, cc)
  ending (t ∷ w) p code e = by_step (step p t) refl (λ q. ending w q code) e
    where
      by_step : (o : Option (Phrase T)) → step p t ≡ o → ((q : Phrase T) → run w q ≡ stopped code [] → (r : Phrase T) × (after_all w q ≡ Some r) × (code ≡ 7)) → go_on o (run w) (stopped (number_after p t) (t ∷ w)) ≡ stopped code [] → (r : Phrase T) × (after_all (t ∷ w) p ≡ Some r) × (code ≡ 7)
      by_step (Some q) is again h = let r = again q h in (r.0, ap (option_and_then (λ s. after_all w s)) is ∙ r.1, r.2)
      by_step None is again h = absurd (cc)
