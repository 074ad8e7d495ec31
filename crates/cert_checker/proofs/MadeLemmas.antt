-- What a certificate's values and tables in memory are made of.
use Rattle.std.proofs.Common.{◌≡◌, ℕ, ◌≤◌, true, List, [], ◌∷◌, ◌++◌, length, map, get_or, arith}
use Rattle.std.specs.Prelude.{All, IsTrue, nat_le}
use Rattle.std.proofs.lemmas.Bool.{and_parts, eqb-true, leb-true}
use Rattle.std.proofs.lemmas.List.Elements.{All-cons}
use Rattle.certificate.specs.declared.evidence.WrittenPotentials.{WrittenPotentials}
use Rattle.certificate.specs.Evidence.{potential_of}
use Rattle.certificate_definitions.specs.Certificates.{Version, one, two, three, four, is_value_count, are_potentials, is_weight}
use Rattle.lower_bounds.specs.PotentialFunctions.{PotentialFunction, AreInRange}
use Rattle.potentials.specs.declared.potentials.Potentials.{Potentials}
use Rattle.potentials.specs.Potentials.{potentials_of}
use Rattle.cert_checker.specs.Weights.{AreWidened, HasItsWeights, HaveTheirWeights}
use Rattle.cert_checker.proofs.TablesLemmas.{as_many_widened, widened_at}
use Rattle.lower_bounds.specs.TableFunctions.{SeveralValues}
use Rattle.certificate.proofs.WithinLimits.{one_weight_each, potentials_in_range}

-- ---- potentials

-- each that is within the limits of a certificate's text is in range, and has a weight for each atom
pub each_in_range : (count : ℕ) (said : List WrittenPotentials) → All (λ (p : WrittenPotentials). IsTrue (are_potentials is_weight count (potential_of p))) said → All (λ (p : WrittenPotentials). AreInRange (potential_of p)) said
each_in_range count said each = λ k d below. potentials_in_range count (potential_of (get_or said k d)) (each k d below)

pub each_weighed : (count width : ℕ) (said : List WrittenPotentials) → count ≤ width → All (λ (p : WrittenPotentials). IsTrue (are_potentials is_weight count (potential_of p))) said
    → All (λ (p : WrittenPotentials). length (potential_of p).weights ≤ width) said
each_weighed count width said few each = λ k d below. let weighed = one_weight_each is_weight count (potential_of (get_or said k d)) (each k d below) in omega (arith, weighed, few)

-- ---- one value after another

pub widened_more : (said : List PotentialFunction) (width : ℕ) (made : List PotentialFunction) (s p : PotentialFunction) → AreWidened said width made → HasItsWeights s width p
    → AreWidened (said ++ s ∷ []) width (made ++ p ∷ [])
widened_more [] width [] s p have has = (has, tt)
widened_more (q ∷ said) width (r ∷ made) s p (first, have) has = (first, widened_more said width made s p have has)
widened_more [] width (r ∷ made) s p have has = absurd have
widened_more (q ∷ said) width [] s p have has = absurd have

-- each has a weight for each number below the width
pub each_as_wide : (said : List PotentialFunction) (width : ℕ) (made : List Potentials) → AreWidened said width (map potentials_of made) → All (λ (p : Potentials). length (potentials_of p).weights ≡ width) made
each_as_wide said width [] have = λ k d below. absurd (omega arith)
each_as_wide (q ∷ said) width (p ∷ made) (has, have) =
    All-cons (λ (p : Potentials). length (potentials_of p).weights ≡ width) p made has.as_many (each_as_wide said width made have)
each_as_wide [] width (p ∷ made) have = absurd have

-- ---- several values

pub few_values : (v : Version) (count : ℕ) → is_value_count v count ≡ true → count ≤ 32
few_values one count is = let same = eqb-true count 1 is in omega (arith, same)
few_values two count is = let same = eqb-true count 1 is in omega (arith, same)
few_values three count is = leb-true count 32 (and_parts (nat_le 1 count) (nat_le count 32) is).1
few_values four count is = leb-true count 32 (and_parts (nat_le 1 count) (nat_le count 32) is).1

pub one_widened : (values : List PotentialFunction) (width : ℕ) (p d : PotentialFunction) → length values ≡ 1 → HasItsWeights (get_or values 0 d) width p → AreWidened values width (p ∷ [])
one_widened (q ∷ []) width p d single has = (has, tt)
one_widened [] width p d single has = absurd (omega arith)
one_widened (q ∷ r ∷ values) width p d single has = absurd (omega arith)

pub have_weights : (said made : SeveralValues) (width : ℕ) → AreWidened said.values width made.values → HasItsWeights said.dead_ends width made.dead_ends → made.tables ≡ said.tables → HaveTheirWeights said width made
have_weights said made width widened dead_ends tables = record {
  as_many = as_many_widened said.values width made.values widened;
  values = widened_at said.values width made.values widened;
  dead_ends = dead_ends;
  tables = tables;
}
