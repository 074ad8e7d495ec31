-- The exchanges that a certificate can name belong to the task, and none of their lines is too long.
use Rattle.std.proofs.Common.{◌≡◌, ◌*◌, ◌≤◌, ◌&&◌, ℕ, true, List, [], ◌∷◌, length, map, Option, None, Some, refl, ap, ◌∙◌, arith, le-leb, leb-true, length-append, codes}
use Rattle.std.specs.Prelude.{IsTrue, nat_le, slice_get}
use Rattle.std.specs.List.{list_all, flat_map}
use Rattle.std.specs.Option.{option_map, option_map_or}
use Rattle.std.proofs.lemmas.Bool.{and_parts, and_from}
use Rattle.std.proofs.lemmas.Option.{slice_get-map}
use Rattle.std.specs.Char.{to_ascii_lowercase}
use Rattle.model.specs.Task.{Object, Task}
use Rattle.model.specs.Resolution.{is_same}
use Rattle.model.specs.Words.{is_name, longest_run}
use Rattle.model.specs.PlanText.{object_names}
use Rattle.model.specs.PlanWriting.{object_name, is_lower_name, are_lower_names, differ}
use Rattle.model.proofs.Tests.{passes_got}
use Rattle.symmetries_definitions.specs.Exchanges.{Exchange, objects_in}
use Rattle.certificate_definitions.specs.CertificateText.{after_blank, swapped, line_text, longest_line}
use Rattle.certificate_definitions.specs.CertificateNames.{has_atom_names, predicate_names, named_exchange, is_exchange_of}
use Rattle.cert_checker.specs.Exchanged.{is_short}
use Rattle.search_spaces.specs.Exchanges.{can_be_named, most_pairs}

module _ (task : Task) (has : IsTrue (has_atom_names task)) where
  lowers : list_all is_lower_name (object_names task) ≡ true
  lowers = (and_parts (list_all is_lower_name (object_names task)) (differ (object_names task)) (and_parts (are_lower_names (predicate_names task)) (are_lower_names (object_names task)) has).1).0

  name_short : (o : ℕ) → length (object_name task o) ≤ 255
  name_short o = of_declared (slice_get task.objects o) refl
    where
      of_declared : (declared : Option Object) → slice_get task.objects o ≡ declared → length (option_map_or (λ (x : Object). x.name) declared []) ≤ 255
      of_declared None at = omega arith
      of_declared (Some x) at =
          let there = slice_get-map (λ (y : Object). y.name) task.objects o ∙ ap (option_map (λ (y : Object). y.name)) at in
          let lower = passes_got is_lower_name (object_names task) o x.name there lowers in
          leb-true (length x.name) longest_run (and_parts (is_name x.name && is_same (map to_ascii_lowercase x.name) x.name) (nat_le (length x.name) longest_run) lower).1

  names_short : (objects : List ℕ) → length (flat_map after_blank (map (object_name task) objects)) ≤ 256 * length objects
  names_short [] = omega arith
  names_short (o ∷ objects) =
      let few = name_short o in
      let rest = names_short objects in
      omega (arith, few, rest, length-append (after_blank (object_name task o)) (flat_map after_blank (map (object_name task) objects)))

  twice : (e : Exchange) → length (objects_in e) ≡ 2 * length e
  twice [] = refl
  twice (pair ∷ e) = let rest = twice e in omega (arith, rest)

  line_short : (e : Exchange) → nat_le (length e) most_pairs ≡ true → is_short task e ≡ true
  line_short e fits =
      let few = leb-true (length e) most_pairs fits in
      let many = twice e in
      let names = names_short (objects_in e) in
      le-leb (length (line_text (swapped (named_exchange task e)))) longest_line
      (omega (arith, few, many, names, length-append (codes "swap") (flat_map after_blank (named_exchange task e))))

  pub named_exchanges : (exchanges : List Exchange) → list_all (can_be_named task) exchanges ≡ true → (list_all (is_exchange_of task) exchanges ≡ true) × (list_all (is_short task) exchanges ≡ true)
  named_exchanges [] all = (refl, refl)
  named_exchanges (e ∷ exchanges) all =
      let here = and_parts (can_be_named task e) (list_all (can_be_named task) exchanges) all in
      let parts = and_parts (is_exchange_of task e) (nat_le (length e) most_pairs) here.0 in
      let rest = named_exchanges exchanges here.1 in (
        and_from (is_exchange_of task e) (list_all (is_exchange_of task) exchanges) parts.0 rest.0,
        and_from (is_short task e) (list_all (is_short task) exchanges) (line_short e parts.1) rest.1,
      )
