-- The index of the first file with a name in a table, and the contents of the table after a file was put into it.
use Rattle.std.proofs.Common.{◌≡◌, ◌≢◌, ℕ, zero, suc, ◌+◌, ◌<◌, ◌≤◌, nat_lt, Bool, true, false, not, cond, List, [], ◌∷◌, ◌++◌, drop, set, length, Option, None, Some, refl, sym, ◌∙◌, ap, subst, arith, if◌then◌else◌}
use Rattle.std.proofs.lemmas.Bool.Decides.{nat_tests}
use Rattle.std.proofs.lemmas.Slice.Eq.{bytes_eq-Decides}
use Rattle.std.specs.Prelude.{slice_get}
use Rattle.std.specs.List.{position, position_or_len}
use Rattle.std.specs.String.{string_bytes}
use Rattle.std.specs.Str.{bytes_eq}
use Rattle.test_support.specs.declared.table.Entry.{Entry}
use Rattle.test_support.specs.Table.{contents_of, first_of, is_named, Puts}

pub contents_here : (entries : List Entry) (i : ℕ) (entry : Entry) (name : List ℕ) → slice_get entries i ≡ Some entry → bytes_eq (string_bytes entry.name) name ≡ true → contents_of (drop i entries) name ≡ Some entry.bytes.items
contents_here [] i entry name e same = absurd (cc)
contents_here (x ∷ rest) zero entry name e same = let here : x ≡ entry = cc in by_name x here (bytes_eq (string_bytes x.name) name) (ap (λ y. bytes_eq (string_bytes y.name) name) here ∙ same)
  where
    by_name : (y : Entry) → y ≡ entry → (b : Bool) → b ≡ true → (if b then Some y.bytes.items else contents_of rest name) ≡ Some entry.bytes.items
    by_name y here true h = ap (λ z. Some z.bytes.items) here
    by_name y here false h = absurd (cc)
contents_here (x ∷ rest) (suc i) entry name e same = contents_here rest i entry name e same

pub contents_next : (entries : List Entry) (i : ℕ) (entry : Entry) (name : List ℕ) → slice_get entries i ≡ Some entry → bytes_eq (string_bytes entry.name) name ≡ false → contents_of (drop i entries) name ≡ contents_of (drop (suc i) entries) name
contents_next [] i entry name e other = absurd (cc)
contents_next (x ∷ rest) zero entry name e other = let here : x ≡ entry = cc in by_name (bytes_eq (string_bytes x.name) name) (ap (λ y. bytes_eq (string_bytes y.name) name) here ∙ other)
  where
    by_name : (b : Bool) → b ≡ false → (if b then Some x.bytes.items else contents_of rest name) ≡ contents_of rest name
    by_name true h = absurd (cc)
    by_name false h = refl
contents_next (x ∷ rest) (suc i) entry name e other = contents_next rest i entry name e other

pub contents_past : (entries : List Entry) (i : ℕ) (name : List ℕ) → length entries ≤ i → contents_of (drop i entries) name ≡ None
contents_past [] zero name h = refl
contents_past [] (suc i) name h = refl
contents_past (x ∷ rest) zero name h = absurd (omega (arith, h))
contents_past (x ∷ rest) (suc i) name h = contents_past rest i name (omega (arith, h))

-- The entries after the first file with this name is replaced, or after a file with a new name is appended.
one_after : (n : ℕ) → 1 + n ≡ suc n
one_after n = omega arith

is_no_other : (entry : Entry) (name other : List ℕ) → string_bytes entry.name ≡ name → other ≢ name → is_named other entry ≡ false
is_no_other entry name other same differs =
    elim (is_named other entry) as (λ b. is_named other entry ≡ b → b ≡ false) [
      | true ↦ λ e. absurd (differs (sym ((bytes_eq-Decides (string_bytes entry.name) other).0 e) ∙ same))
      | false ↦ λ e. refl
    ] refl

module _ {X : Type 0} (given : Entry → Option X) (entry : Entry) (name : List ℕ) (same : string_bytes entry.name ≡ name) where
  is_here : is_named name entry ≡ true
  is_here = (bytes_eq-Decides (string_bytes entry.name) name).1 same

  written_here : (entries : List Entry) (i : ℕ) → position_or_len (is_named name) entries ≡ i → i < length entries
      → first_of given (set entries i entry) name ≡ given entry
  written_here [] i at within = absurd (omega (arith, within))
  written_here (x ∷ rest) i at within =
      let place : ℕ = position_or_len (is_named name) rest in
      elim (is_named name x) as (λ b. cond (not b) (1 + place) 0 ≡ i → is_named name x ≡ b → first_of given (set (x ∷ rest) i entry) name ≡ given entry) [
        | true ↦ λ at _. subst (λ k. first_of given (set (x ∷ rest) k entry) name ≡ given entry) at
            (ap (λ b. if b then given entry else first_of given rest name) is_here)
        | false ↦ λ at another. subst (λ k. first_of given (set (x ∷ rest) k entry) name ≡ given entry) (sym (one_after place) ∙ at)
            (ap (λ b. if b then given x else first_of given (set rest place entry) name) another
            ∙ written_here rest place refl (omega (arith, at, within)))
      ] at refl

  written_elsewhere : (other : List ℕ) → other ≢ name → (entries : List Entry) (i : ℕ) → position_or_len (is_named name) entries ≡ i → i < length entries
      → first_of given (set entries i entry) other ≡ first_of given entries other
  written_elsewhere other differs [] i at within = absurd (omega (arith, within))
  written_elsewhere other differs (x ∷ rest) i at within =
      let place : ℕ = position_or_len (is_named name) rest in
      elim (is_named name x) as (λ b. cond (not b) (1 + place) 0 ≡ i → is_named name x ≡ b → first_of given (set (x ∷ rest) i entry) other ≡ first_of given (x ∷ rest) other) [
        | true ↦ λ at named. subst (λ k. first_of given (set (x ∷ rest) k entry) other ≡ first_of given (x ∷ rest) other) at
            (ap (λ b. if b then given entry else first_of given rest other) (is_no_other entry name other same differs)
            ∙ sym (ap (λ b. if b then given x else first_of given rest other) (is_no_other x name other ((bytes_eq-Decides (string_bytes x.name) name).0 named) differs)))
        | false ↦ λ at another. subst (λ k. first_of given (set (x ∷ rest) k entry) other ≡ first_of given (x ∷ rest) other) (sym (one_after place) ∙ at)
            (ap (λ found. if is_named other x then given x else found) (written_elsewhere other differs rest place refl (omega (arith, at, within))))
      ] at refl

  pushed_here : (entries : List Entry) → length entries ≤ position_or_len (is_named name) entries
      → first_of given (entries ++ entry ∷ []) name ≡ given entry
  pushed_here [] none = ap (λ b. if b then given entry else None) is_here
  pushed_here (x ∷ rest) none =
      let place : ℕ = position_or_len (is_named name) rest in
      elim (is_named name x) as (λ b. length (x ∷ rest) ≤ cond (not b) (1 + place) 0 → is_named name x ≡ b → first_of given (x ∷ (rest ++ entry ∷ [])) name ≡ given entry) [
        | true ↦ λ none _. absurd (omega (arith, none))
        | false ↦ λ none another. ap (λ b. if b then given x else first_of given (rest ++ entry ∷ []) name) another ∙ pushed_here rest (omega (arith, none))
      ] none refl

  pushed_elsewhere : (other : List ℕ) → other ≢ name → (entries : List Entry) → first_of given (entries ++ entry ∷ []) other ≡ first_of given entries other
  pushed_elsewhere other differs [] = ap (λ b. if b then given entry else None) (is_no_other entry name other same differs)
  pushed_elsewhere other differs (x ∷ rest) = ap (λ found. if is_named other x then given x else found) (pushed_elsewhere other differs rest)

  -- a file is put at the index of the first with its name, or at the end if there is none
  pub put_at_place : (entries : List Entry) (i : ℕ) → Some i ≡ position (is_named name) entries → Puts (first_of given entries) (first_of given (set entries i entry)) name (given entry)
  put_at_place entries i is =
      elim (nat_lt (position_or_len (is_named name) entries) (length entries)) as (λ b. nat_lt (position_or_len (is_named name) entries) (length entries) ≡ b
      → Some i ≡ cond b (Some (position_or_len (is_named name) entries)) None → Puts (first_of given entries) (first_of given (set entries i entry)) name (given entry)) [
        | true ↦ λ below is.
            let at : position_or_len (is_named name) entries ≡ i = cc in
            let within : i < length entries = grind (arith, nat_tests) in
            record { put = written_here entries i at within; others = λ other differs. written_elsewhere other differs entries i at within }
        | false ↦ λ below is. absurd (cc)
      ] refl is

  pub put_at_end : (entries : List Entry) → None ≡ position (is_named name) entries → Puts (first_of given entries) (first_of given (entries ++ entry ∷ [])) name (given entry)
  put_at_end entries is =
      elim (nat_lt (position_or_len (is_named name) entries) (length entries)) as (λ b. nat_lt (position_or_len (is_named name) entries) (length entries) ≡ b
      → None ≡ cond b (Some (position_or_len (is_named name) entries)) None → Puts (first_of given entries) (first_of given (entries ++ entry ∷ [])) name (given entry)) [
        | true ↦ λ below is. absurd (cc)
        | false ↦ λ above is.
            let past : length entries ≤ position_or_len (is_named name) entries = grind (arith, nat_tests) in
            record { put = pushed_here entries past; others = λ other differs. pushed_elsewhere other differs entries }
      ] refl is
