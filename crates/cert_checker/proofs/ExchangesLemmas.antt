-- The objects that a text's exchanges say are those of the task, or none.
use Rattle.std.proofs.Common.{◌≡◌, ℕ, Bool, true, List, [], ◌∷◌, map, length, refl, sym, subst}
use Rattle.std.specs.Prelude.{◌&&◌, nat_le, IsTrue}
use Rattle.std.specs.List.{list_all}
use Rattle.std.proofs.lemmas.Bool.{and_parts, le-leb}
use Rattle.model.specs.Task.{Task}
use Rattle.symmetries_definitions.specs.Exchanges.{objects_in}
use Rattle.certificate_definitions.specs.Certificates.{Certificate}
use Rattle.certificate_definitions.specs.CertificateNames.{IsTextOf, exchange_said, object_said, two_by_two}
use Rattle.cert_checker.proofs.NamedExchanges.{said_within}
use Rattle.cert_checker.specs.Exchanged.{is_said}

abbrev is_within : Task → ℕ → Bool
is_within task o = nat_le o (length task.objects)

all_within : (task : Task) (names : List (List ℕ)) → list_all (is_within task) (map (object_said task) names) ≡ true
all_within task [] = refl
all_within task (name ∷ names) =
    let here = le-leb (object_said task name) (length task.objects) (said_within task name) in
    λ i. here i && all_within task names i

-- the objects two by two are among them
pairs_pass : (test : ℕ → Bool) (numbers : List ℕ) → list_all test numbers ≡ true → list_all test (objects_in (two_by_two numbers)) ≡ true
pairs_pass test [] all = refl
pairs_pass test (n ∷ []) all = refl
pairs_pass test (m ∷ n ∷ numbers) all =
    let (first, rest) = and_parts (test m) (list_all test (n ∷ numbers)) all in
    let (second, more) = and_parts (test n) (list_all test numbers) rest in
    λ i. first i && (second i && pairs_pass test numbers more i)

all_said : (task : Task) (swaps : List (List (List ℕ))) → IsTrue (list_all (is_said task) (map (exchange_said task) swaps))
all_said task [] = refl
all_said task (names ∷ swaps) =
    let here = pairs_pass (is_within task) (map (object_said task) names) (all_within task names) in
    λ i. here i && all_said task swaps i

-- so it is of a certificate that a text says
pub exchanges_of_text : (task : Task) (text : List ℕ) (c : Certificate) → IsTextOf task text c → IsTrue (list_all (is_said task) c.exchanges)
exchanges_of_text task text c is = subst (λ exchanges. IsTrue (list_all (is_said task) exchanges)) (sym is.exchanges) (all_said task is.said.swaps)
