-- The contents of a file after it was created, written and closed.
use Rattle.std.proofs.Common.{◌≡◌, ◌≢◌, ℕ, inl, inr, List, [], ◌∷◌, ◌++◌, ◌∙◌, refl, sym, ap, subst, Bool, true, false}
use Rattle.std.proofs.lemmas.List.{append_assoc}
use Rattle.std.specs.Prelude.{Option, None, Some, IfSome, IsTrue, Result, Ok, Err, OnOk, if◌then◌else◌}
use Rattle.std.specs.Str.{bytes_eq}
use Rattle.std.proofs.lemmas.Slice.Eq.{bytes_eq-Decides}
use Rattle.std.specs.Io.KnownBytes.{Appends}
use Rattle.devices.specs.Devices.{AppendsBeginning}
use Rattle.devices.specs.Written.{HoldsBeginning, NamedText, AreWritten, AreWrittenPartly}

-- A prefix of what was created and then written is a prefix of what was written.
still_beginning : (before made after : Option (List ℕ)) (front rest : List ℕ) → HoldsBeginning before made [] → HoldsBeginning made after front
    → HoldsBeginning before after (front ++ rest)
still_beginning before made after front rest started (inr (a, b, is, held)) =
    inr (a, b ++ rest, subst (λ f. f ++ rest ≡ a ++ (b ++ rest)) (sym is) (append_assoc a b rest), held)
still_beginning before made after front rest (inl same) (inl still) = inl (still ∙ same)
still_beginning before made after front rest (inr (a, b, is, held)) (inl still) =
    inr (a, b ++ (front ++ rest), subst (λ f. front ++ rest ≡ f ++ (front ++ rest)) is (search) ∙ append_assoc a b (front ++ rest), still ∙ held)

-- what an empty sink took is all that it has
taken_all : (after : Option (List ℕ)) (bytes : List ℕ) → Appends (Some []) after bytes → after ≡ Some bytes
taken_all None bytes appended = absurd appended
taken_all (Some taken) bytes appended = search

-- The contents of the file with this name that was created, written and closed: what holds of the closed file holds of it.
module _ (before made after : List ℕ → Option (List ℕ)) (name closed : List ℕ) (same : closed ≡ name) where
  pub written_partly : (taken taken_after : Option (List ℕ)) (bytes : List ℕ) → taken ≡ Some [] → AppendsBeginning taken taken_after bytes
      → HoldsBeginning (before name) (made name) [] → IfSome taken_after (HoldsBeginning (made closed) (after closed))
      → HoldsBeginning (before name) (after name) bytes
  written_partly taken taken_after bytes empty (front, rest, split, appended) started held =
      let all : taken_after ≡ Some front = taken_all taken_after front (subst (λ t. Appends t taken_after front) empty appended) in
      subst (HoldsBeginning (before name) (after name)) (sym split)
      (still_beginning (before name) (made name) (after name) front rest started
      (subst (λ n. HoldsBeginning (made n) (after n) front) same (subst (λ t. IfSome t (HoldsBeginning (made closed) (after closed))) all held)))

  -- if all was written, that is what the file holds
  pub whole_if_written : {E : Type 0} (taken taken_after : Option (List ℕ)) (bytes : List ℕ) (written : Result (Unit {0}) E) → taken ≡ Some []
      → OnOk written (Appends taken taken_after bytes) → after closed ≡ taken_after → OnOk written (after name ≡ Some bytes)
  whole_if_written taken taken_after bytes (Ok done) empty appended held =
      ap after (sym same) ∙ held ∙ taken_all taken_after bytes (subst (λ t. Appends t taken_after bytes) empty appended)
  whole_if_written taken taken_after bytes (Err fault) empty appended held = tt

  -- Each other file is unchanged.
  pub others_kept : ((other : List ℕ) → other ≢ name → made other ≡ before other) → ((other : List ℕ) → other ≢ closed → after other ≡ made other)
      → (other : List ℕ) → other ≢ name → after other ≡ before other
  others_kept at_making at_closing other differs =
      at_closing other (λ is. differs (is ∙ same)) ∙ at_making other differs

-- One file is written, wholly or partly, and each other file is unchanged.
module _ (before after : List ℕ → Option (List ℕ)) (file : NamedText) where
  one_file : after file.name ≡ Some file.text → ((other : List ℕ) → other ≢ file.name → after other ≡ before other)
      → (is_it : Bool) (other : List ℕ) → (is_it ≡ true → other ≡ file.name) → (is_it ≡ false → other ≢ file.name)
      → after other ≡ (if is_it then Some file.text else before other)
  one_file held kept true other same differs = ap after (same refl) ∙ held
  one_file held kept false other same differs = kept other (differs refl)

  one_written : after file.name ≡ Some file.text → ((other : List ℕ) → other ≢ file.name → after other ≡ before other)
      → AreWritten before after (file ∷ [])
  one_written held kept = λ other.
      let decides = bytes_eq-Decides other file.name in
      one_file held kept (bytes_eq other file.name) other decides.0 (λ unlike is. absurd (cc (sym unlike ∙ decides.1 is)))

  module _ (known : Bool) (kept : IsTrue known → (other : List ℕ) → other ≢ file.name → after other ≡ before other) where
    pub written_alone : {E : Type 0} (files : List NamedText) (r : Result (Unit {0}) E) → files ≡ file ∷ []
        → (IsTrue known → OnOk r (after file.name ≡ Some file.text)) → OnOk r (IsTrue known → AreWritten before after files)
    written_alone files (Ok done) is held = λ is_known. subst (AreWritten before after) (sym is) (one_written (held is_known) (kept is_known))
    written_alone files (Err fault) is held = tt

    pub partly_alone : (files : List NamedText) → files ≡ file ∷ []
        → (IsTrue known → HoldsBeginning (before file.name) (after file.name) file.text)
        → (next : NamedText) × (files ≡ next ∷ []) × (IsTrue known → AreWrittenPartly before after [] next)
    partly_alone files is held = (file, is, λ is_known. record { beginning = held is_known; others = kept is_known })
