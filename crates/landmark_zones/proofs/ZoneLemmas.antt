-- Zones in one list: what is appended is the last zone, and where a zone is.
use Rattle.std.proofs.Common.{◌≡◌, ◌∙◌, ℕ, zero, suc, ◌+◌, ◌-◌, ◌<◌, ◌≤◌, true, List, [], ◌∷◌, ◌++◌, length, get_or, Some, refl, sym, ap, subst, arith, length-append}
use Rattle.std.specs.Prelude.{◌&&◌, ◌==◌, nat_le, slice_get}
use Rattle.std.proofs.lemmas.Bool.{and_parts, and_from, eqb-true, eq-eqb, leb-true, le-leb}
use Rattle.lower_bounds.specs.LandmarkFunctions.{Zone}
use Rattle.landmark_zones.specs.declared.zones.ZoneEnd.{ZoneEnd}
use Rattle.landmark_zones.specs.Rows.{between, zones_from, are_zone_ends, zone_start}
use Rattle.landmark_zones.proofs.RowLemmas.{between-append, between-rest}

-- the parts of a test of ends
pub record Ends (start : ℕ) (end : ZoneEnd) (ends : List ZoneEnd) (last : ℕ) : Type 0 where
  pub first : start ≤ end.atoms
  pub second : end.atoms ≤ end.negated
  pub rest : are_zone_ends end.negated ends last ≡ true

pub ends-of : (start : ℕ) (end : ZoneEnd) (ends : List ZoneEnd) (last : ℕ) → are_zone_ends start (end ∷ ends) last ≡ true → Ends start end ends last
ends-of start end ends last are =
    let parts = and_parts (nat_le start end.atoms && nat_le end.atoms end.negated) (are_zone_ends end.negated ends last) are in
    let both = and_parts (nat_le start end.atoms) (nat_le end.atoms end.negated) parts.0 in
    record { first = leb-true start end.atoms both.0; second = leb-true end.atoms end.negated both.1; rest = parts.1 }

pub zone-ends-up : (start : ℕ) (ends : List ZoneEnd) (last : ℕ) → are_zone_ends start ends last ≡ true → start ≤ last
zone-ends-up start [] last are = let is = eqb-true start last are in omega arith
zone-ends-up start (end ∷ ends) last are =
    let parts = ends-of start end ends last are in
    let first = parts.first in
    let second = parts.second in
    let rest = zone-ends-up end.negated ends last parts.rest in
    omega arith

pub zone-ends-more : (start : ℕ) (ends : List ZoneEnd) (last : ℕ) (more : ZoneEnd) → are_zone_ends start ends last ≡ true → last ≤ more.atoms → more.atoms ≤ more.negated
    → are_zone_ends start (ends ++ more ∷ []) more.negated ≡ true
zone-ends-more start [] last more are up on =
    let is = eqb-true start last are in
    and_from (nat_le start more.atoms && nat_le more.atoms more.negated) (more.negated == more.negated)
    (and_from (nat_le start more.atoms) (nat_le more.atoms more.negated) (le-leb start more.atoms (omega arith)) (le-leb more.atoms more.negated on)) (eq-eqb more.negated more.negated refl)
zone-ends-more start (end ∷ ends) last more are up on =
    let parts = and_parts (nat_le start end.atoms && nat_le end.atoms end.negated) (are_zone_ends end.negated ends last) are in
    and_from (nat_le start end.atoms && nat_le end.atoms end.negated) (are_zone_ends end.negated (ends ++ more ∷ []) more.negated) parts.0
    (zone-ends-more end.negated ends last more parts.1 up on)

-- a zone is within the numbers
pub record IsZoneWithin (start : ℕ) (end : ZoneEnd) (last : ℕ) : Type 0 where
  pub first : start ≤ end.atoms
  pub second : end.atoms ≤ end.negated
  pub past : end.negated ≤ last

pub zone-within : (start : ℕ) (ends : List ZoneEnd) (last number : ℕ) (d : ZoneEnd) → are_zone_ends start ends last ≡ true → number < length ends
    → IsZoneWithin (zone_start start ends number) (get_or ends number d) last
zone-within start [] last number d are there = absurd (omega arith)
zone-within start (end ∷ ends) last zero d are there =
    let parts = ends-of start end ends last are in
    record { first = parts.first; second = parts.second; past = zone-ends-up end.negated ends last parts.rest }
zone-within start (end ∷ ends) last (suc number) d are there = zone-within end.negated ends last number d (ends-of start end ends last are).rest (omega arith)

pub zone-start-after : (start : ℕ) (ends : List ZoneEnd) (number : ℕ) (d : ZoneEnd) → number < length ends → zone_start start ends (suc number) ≡ (get_or ends number d).negated
zone-start-after start [] number d there = absurd (omega arith)
zone-start-after start (end ∷ ends) zero d there = refl
zone-start-after start (end ∷ ends) (suc number) d there = zone-start-after end.negated ends number d (omega arith)

pub length-zones : (start : ℕ) (ends : List ZoneEnd) (numbers : List ℕ) → length (zones_from start ends numbers) ≡ length ends
length-zones start [] numbers = refl
length-zones start (end ∷ ends) numbers = ap suc (length-zones end.negated ends numbers)

abbrev pub zone-of : List ℕ → List ℕ → Zone
zone-of atoms negated = record { atoms = atoms; negated = negated }

pub zones-more : (start : ℕ) (ends : List ZoneEnd) (numbers atoms negated : List ℕ) → are_zone_ends start ends (length numbers) ≡ true
    → zones_from start (ends ++ record { atoms = length numbers + length atoms; negated = length numbers + length atoms + length negated } ∷ []) ((numbers ++ atoms) ++ negated)
    ≡ zones_from start ends numbers ++ record { atoms = atoms; negated = negated } ∷ []
zones-more start [] numbers atoms negated are =
    let begins = eqb-true start (length numbers) are in
    let long = length-append numbers atoms in
    let first : between start (length numbers + length atoms) ((numbers ++ atoms) ++ negated) ≡ atoms =
    between-append start (length numbers + length atoms) (numbers ++ atoms) negated (omega arith) (omega arith)
    ∙ between-rest start (length numbers + length atoms) numbers atoms begins refl in
    let second : between (length numbers + length atoms) (length numbers + length atoms + length negated) ((numbers ++ atoms) ++ negated) ≡ negated =
    between-rest (length numbers + length atoms) (length numbers + length atoms + length negated) (numbers ++ atoms) negated (sym long) (omega arith) in
    (λ i. zone-of (first i) (second i) ∷ [])
zones-more start (end ∷ ends) numbers atoms negated are =
    let parts = ends-of start end ends (length numbers) are in
    let up = zone-ends-up end.negated ends (length numbers) parts.rest in
    let one = parts.first in
    let two = parts.second in
    let long = length-append numbers atoms in
    let same = λ (from to : ℕ) (upward : from ≤ to) (within : to ≤ length numbers).
    between-append from to (numbers ++ atoms) negated upward (omega arith) ∙ between-append from to numbers atoms upward within in
    let first = same start end.atoms one (omega arith) in
    let second = same end.atoms end.negated two up in
    let rest = zones-more end.negated ends numbers atoms negated parts.rest in
    (λ i. zone-of (first i) (second i) ∷ rest i)

pub zone-at : (start : ℕ) (ends : List ZoneEnd) (numbers : List ℕ) (number : ℕ) (d : ZoneEnd) → number < length ends
    → slice_get (zones_from start ends numbers) number
    ≡ Some (record { atoms = between (zone_start start ends number) (get_or ends number d).atoms numbers; negated = between (get_or ends number d).atoms (get_or ends number d).negated numbers })
zone-at start [] numbers number d there = absurd (omega arith)
zone-at start (end ∷ ends) numbers zero d there = refl
zone-at start (end ∷ ends) numbers (suc number) d there = zone-at end.negated ends numbers number d (omega arith)

-- where a zone after the first begins
pub zone-start-before : (ends : List ZoneEnd) (number : ℕ) (d : ZoneEnd) → (number ≡ 0 → ⊥) → number < length ends → zone_start 0 ends number ≡ (get_or ends (number - 1) d).negated
zone-start-before ends zero d later there = absurd (later refl)
zone-start-before ends (suc number) d later there =
    let same : number ≡ suc number - 1 = omega arith in
    zone-start-after 0 ends number d (omega arith) ∙ ap (λ k. (get_or ends k d).negated) same

-- the bounds of a zone, as they are read
pub zone-bounds : (ends : List ZoneEnd) (last number start : ℕ) (end : ZoneEnd) → are_zone_ends 0 ends last ≡ true → number < length ends → start ≡ zone_start 0 ends number
    → end ≡ get_or ends number end → IsZoneWithin start end last
zone-bounds ends last number start end are there begins is =
    subst (λ s. IsZoneWithin s end last) (sym begins) (subst (λ e. IsZoneWithin (zone_start 0 ends number) e last) (sym is) (zone-within 0 ends last number end are there))
