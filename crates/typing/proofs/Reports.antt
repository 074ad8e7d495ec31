-- From what a walk found to what is reported.
use Rattle.std.proofs.Common.{◌≡◌, List, [], ◌∷◌, None, sym, ap, subst, arith, Result, Ok, Err, ◌∙◌, OnOk, IfOk, IfErr}
use Rattle.faults.specs.declared.refused.Refused.TheVariants.{At, NoMemory}
use Rattle.typing.specs.Refusals.{PairFault, ReportsAll, refusal_of}
use Rattle.typing.specs.Walk.{Findings, found, nothing, ReportsFound}
use Rattle.model.specs.Typing.{TypingFault, first_filled}
use Rattle.typing.proofs.Least.{found-Some, found-None, found-listed}

-- the faults are reported if what was found is
pub reports : (faults : List TypingFault) (what : Findings) → what ≡ found nothing faults → (e : PairFault) → ReportsFound what e → ReportsAll faults e
reports faults what is NoMemory h = tt
reports faults what is (At r) h = record {
  first = found-Some faults (refusal_of r.first) (sym (ap (λ (f : Findings). f.least) is) ∙ h.0);
  listed = h.1 ∙ ap (λ (f : Findings). f.listed) is ∙ found-listed faults;
}

pub reports_result : {A : Type 0} (faults : List TypingFault) (what : Findings) → what ≡ found nothing faults → (r : Result A PairFault) → IfErr r (ReportsFound what) → IfErr r (ReportsAll faults)
reports_result faults what is (Ok x) h = tt
reports_result faults what is (Err e) h = reports faults what is e h

-- the first list with a fault is the one that is reported for
pub reports_here : (faults : List TypingFault) (later : List (List TypingFault)) (e : PairFault) → ReportsAll faults e → ReportsAll (first_filled (faults ∷ later)) e
reports_here [] later NoMemory h = tt
reports_here [] later (At r) h = absurd (let none = h.first.is_fault.1 in omega (arith, none))
reports_here (f ∷ more) later e h = h

pub reports_later : (faults : List TypingFault) (later : List (List TypingFault)) → faults ≡ [] → (e : PairFault) → ReportsAll (first_filled later) e → ReportsAll (first_filled (faults ∷ later)) e
reports_later faults later none e h = subst (λ fs. ReportsAll (first_filled (fs ∷ later)) e) (sym none) h

-- a walk that ends with a result found no fault
pub none_result : {T : Type 0} (made : T) (faults : List TypingFault) (what : Findings) → what ≡ found nothing faults
    → (r : Result T PairFault) → IfOk r (λ t. (t ≡ made) × (what.least ≡ None)) → OnOk r (faults ≡ [])
none_result made faults what is (Ok t) h = found-None faults (sym (ap (λ (f : Findings). f.least) is) ∙ h.1)
none_result made faults what is (Err e) h = tt

-- and the result is as it should be if there is no fault
pub given : {T : Type 0} (P : T → Type 0) (made : T) (faults : List TypingFault) (what : Findings) → what ≡ found nothing faults → (faults ≡ [] → P made)
    → (r : Result T PairFault) → IfOk r (λ t. (t ≡ made) × (what.least ≡ None)) → IfOk r (λ t. (faults ≡ []) × P t)
given P made faults what is p (Ok t) h =
    let none = found-None faults (sym (ap (λ (f : Findings). f.least) is) ∙ h.1) in
    (none, subst P (sym h.0) (p none))
given P made faults what is p (Err e) h = tt

-- what holds if a call succeeds, from what the call guarantees
pub on_ok_weaker : {A E : Type 0} {P Q : Type 0} (r : Result A E) → (P → Q) → OnOk r P → OnOk r Q
on_ok_weaker (Ok x) f h = f h
on_ok_weaker (Err e) f h = tt
