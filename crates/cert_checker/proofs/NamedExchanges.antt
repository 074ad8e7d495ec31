-- Exchanges given by a text.
use Rattle.std.proofs.Common.{◌≡◌, ℕ, suc, ◌<◌, ◌≤◌, true, false, cond, List, [], ◌∷◌, map, length, None, Some, refl, arith}
use Rattle.std.specs.Prelude.{◌&&◌, nat_le, nat_lt, not}
use Rattle.std.specs.Global.{Vec}
use Rattle.std.specs.List.{list_all, position}
use Rattle.std.proofs.lemmas.Bool.{and_parts, leb-true, le-leb, ltb-false}
use Rattle.std.proofs.lemmas.List.{length-map}
use Rattle.std.proofs.lemmas.List.Sums.{prefix_len-le-length}
use Rattle.model.specs.Task.{Object, Task}
use Rattle.model.specs.Resolution.{is_same}
use Rattle.model.specs.PlanText.{object_names}
use Rattle.certificate_reader.specs.Lines.{name_of}
use Rattle.certificate_definitions.specs.Certificates.{are_exchanges, has_exchanges}
use Rattle.certificate_definitions.specs.CertificateText.{Format, swapped, are_exchanged, are_paired, differ, is_line, line_text, longest_line}
use Rattle.certificate_definitions.specs.CertificateNames.{exchange_said, object_said}
use Rattle.model.specs.PlanWriting.{is_lower_name}

-- ---- limits

-- the names of an exchange are at least two
some_pair : (task : Task) (names : List (List ℕ)) → nat_le 2 (length names) ≡ true → nat_le 1 (length (exchange_said task names)) ≡ true
some_pair task [] two = absurd (omega (arith, leb-true 2 0 two))
some_pair task (a ∷ []) two = absurd (omega (arith, leb-true 2 1 two))
some_pair task (a ∷ b ∷ names) two = le-leb 1 (suc (length (exchange_said task names))) (omega arith)

two_at_least : (names : List (List ℕ)) → are_exchanged names ≡ true → nat_le 2 (length names) ≡ true
two_at_least names are =
    let (first, lower) = and_parts (nat_le 2 (length names) && are_paired names && differ names) (list_all is_lower_name names) are in
    let (first, different) = and_parts (nat_le 2 (length names) && are_paired names) (differ names) first in
    (and_parts (nat_le 2 (length names)) (are_paired names) first).0

-- so the exchanges of lines within the limits have at least one pair each
pub exchanges_kept : (task : Task) (f : Format) (swaps : List (List (List ℕ))) → list_all (is_line f) (map (λ names. swapped names) swaps) ≡ true
    → are_exchanges f.version (map (exchange_said task) swaps) ≡ true
exchanges_kept task f [] all = refl
exchanges_kept task f (names ∷ swaps) all =
    let (here, more) = and_parts (is_line f (swapped names)) (list_all (is_line f) (map (λ names. swapped names) swaps)) all in
    let (form, short) = and_parts (has_exchanges f.version && are_exchanged names) (nat_le (length (line_text (swapped names))) longest_line) here in
    let (has, are) = and_parts (has_exchanges f.version) (are_exchanged names) form in
    let some = some_pair task names (two_at_least names are) in
    let rest = exchanges_kept task f swaps more in
    λ i. (has i && some i) && rest i

-- ---- the objects named

-- a name is that of an object, or of none
pub said_within : (task : Task) (name : List ℕ) → object_said task name ≤ length task.objects
said_within task name =
    let long : length (object_names task) ≡ length task.objects = length-map task.objects (λ (o : Object). o.name) in
    omega (arith, long, prefix_len-le-length (λ other. not (is_same name other)) (object_names task))

-- fewer than two names make no pair
pub none_left : (task : Task) (names : List (Vec ℕ)) → length names < 2 → exchange_said task (map name_of names) ≡ []
none_left task [] few = refl
none_left task (a ∷ []) few = refl
none_left task (a ∷ b ∷ names) few = absurd (omega (arith, few))

-- an unknown name gives the number of objects
pub said_none : (task : Task) (name : List ℕ) → position (is_same name) (object_names task) ≡ None → length task.objects ≡ object_said task name
said_none task name =
    let place = object_said task name in
    let long : length (object_names task) ≡ length task.objects = length-map task.objects (λ (o : Object). o.name) in
    elim (nat_lt place (length (object_names task))) as (λ b. nat_lt place (length (object_names task)) ≡ b → cond b (Some place) None ≡ None → length task.objects ≡ place) [
      | true ↦ λ _ some. absurd (cc some)
      | false ↦ λ past none. let beyond = ltb-false place (length (object_names task)) past in omega (arith, long, beyond, said_within task name)
    ] refl
