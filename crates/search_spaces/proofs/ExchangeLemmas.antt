-- One more exchange by which a task may be searched.
use Rattle.std.proofs.Common.{◌≡◌, ◌∙◌, ◌<◌, ◌&&◌, true, false, Bool, List, [], ◌∷◌, ◌++◌, length, map, refl, sym, ap, arith, length-append}
use Rattle.std.specs.Prelude.{nat_le, nat_lt}
use Rattle.std.specs.List.{list_all}
use Rattle.std.proofs.lemmas.Bool.{and_from, and_parts}
use Rattle.std.proofs.lemmas.List.Folds.{list_all-append}
use Rattle.grounding.specs.declared.ground.Ground.{Ground}
use Rattle.grounding.specs.Ground.{task_in, atoms_in}
use Rattle.model.specs.Task.{Task}
use Rattle.symmetries.specs.declared.exchange.Exchange as code
use Rattle.symmetries.specs.Exchange.{exchange_of}
use Rattle.symmetries_definitions.specs.Exchanges.{Exchange, objects_in, are_different}
use Rattle.symmetries_definitions.specs.Symmetries.{is_symmetry}
use Rattle.symmetries_definitions.specs.Orbits.{keeps_atoms}
use Rattle.certificate_definitions.specs.Certificates.{three, has_exchanges}
use Rattle.certificate_definitions.specs.CertificateNames.{is_exchange_of}
use Rattle.search_spaces.specs.Exchanges.{AreExchangesFor, can_be_named, most_pairs}

pub none_yet : (g : Ground) → AreExchangesFor g []
none_yet g = record { symmetries = refl; kept = refl; written = refl; named = refl; few = omega arith }

first_of_six : (a b c d e f : Bool) → (a && b && c && d && e && f) ≡ true → a ≡ true
first_of_six true b c d e f all = refl
first_of_six false b c d e f all = absurd (cc)

-- of what is left the first passes, and the rest
pub first_of_left : (p : Exchange → Bool) (first : code.Exchange) (rest left : List code.Exchange) → left ≡ first ∷ rest → list_all p (map exchange_of left) ≡ true
    → (p (exchange_of first) ≡ true) × (list_all p (map exchange_of rest) ≡ true)
first_of_left p first rest left is all = and_parts (p (exchange_of first)) (list_all p (map exchange_of rest)) (sym (ap (λ l. list_all p (map exchange_of l)) is) ∙ all)

-- what passes a test, and one more that does
one_passes : (p : Exchange → Bool) (exchanges : List Exchange) (exchange : Exchange) → list_all p exchanges ≡ true → p exchange ≡ true → list_all p (exchanges ++ exchange ∷ []) ≡ true
one_passes p exchanges exchange all passes =
    list_all-append p exchanges (exchange ∷ []) ∙ and_from (list_all p exchanges) (p exchange && true) all (ap (λ b. b && true) passes)

-- the objects of a symmetry are all different
all_different : (task : Task) (exchange : Exchange) → is_symmetry task exchange ≡ true → are_different (objects_in exchange) ≡ true
all_different task exchange symmetry = first_of_six (are_different (objects_in exchange)) _ _ _ _ _ symmetry

pub one_more : (g : Ground) (exchanges : List Exchange) (exchange : Exchange) → AreExchangesFor g exchanges → length exchanges < 1048576
    → is_symmetry (task_in g) exchange ≡ true → keeps_atoms (atoms_in g) exchange ≡ true → nat_le 1 (length exchange) ≡ true
    → nat_le (length exchange) most_pairs ≡ true → list_all (λ o. nat_lt o (length (task_in g).objects)) (objects_in exchange) ≡ true → AreExchangesFor g (exchanges ++ exchange ∷ [])
one_more g exchanges exchange are room symmetry keeps some fits among =
    let long = length-append exchanges (exchange ∷ []) in
    record {
      symmetries = one_passes (is_symmetry (task_in g)) exchanges exchange are.symmetries symmetry;
      kept = one_passes (keeps_atoms (atoms_in g)) exchanges exchange are.kept keeps;
      written = one_passes (λ e. has_exchanges three && nat_le 1 (length e)) exchanges exchange are.written some;
      named = one_passes (can_be_named (task_in g)) exchanges exchange are.named
          (and_from (is_exchange_of (task_in g) exchange) (nat_le (length exchange) most_pairs)
          (and_from (list_all (λ o. nat_lt o (length (task_in g).objects)) (objects_in exchange)) (are_different (objects_in exchange)) among (all_different (task_in g) exchange symmetry)) fits);
      few = omega (arith, room, long);
    }
