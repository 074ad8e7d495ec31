-- What is written of exchanges says them.
use Rattle.std.proofs.Common.{◌≡◌, ◌∙◌, ℕ, suc, true, false, not, List, [], ◌∷◌, length, map, refl, sym, ap, subst, arith}
use Rattle.std.specs.Prelude.{◌&&◌, ◌||◌, ◌==◌, Bool, nat_le, nat_lt}
use Rattle.std.specs.List.{list_all, list_any, position_or_len}
use Rattle.std.specs.Option.{option_map, option_map_or}
use Rattle.std.proofs.lemmas.Bool.{and_parts, eq-eqb, eqb-true, false≢true, leb-true, le-leb, ltb-true}
use Rattle.std.proofs.lemmas.Option.{slice_get-map}
use Rattle.model.specs.Task.{Name, Object, Task}
use Rattle.model.specs.Resolution.{is_same}
use Rattle.model.specs.PlanText.{object_names}
use Rattle.model.specs.PlanWriting.{are_lower_names, differ, is_lower_name, object_name}
use Rattle.model.proofs.PlanWritingLemmas.{first_at}
use Rattle.model.proofs.Tests.{passes_got}
use Rattle.symmetries_definitions.specs.Exchanges.{Exchange, are_different, objects_in}
use Rattle.certificate_definitions.specs.Certificates.{are_exchanges, has_exchanges}
use Rattle.certificate_definitions.specs.CertificateText as text
use Rattle.certificate_definitions.specs.CertificateText.{Format, swapped, are_paired, is_line, line_text, longest_line}
use Rattle.certificate_definitions.specs.CertificateNames.{exchange_said, is_exchange_of, named_exchange, object_said, two_by_two}
use Rattle.cert_checker.specs.Exchanged.{is_short}
use Rattle.cert_checker.proofs.NamesLemmas.{same_bytes}
use Rattle.cert_checker.proofs.SymmetriesLemmas.{within}

-- ---- objects by their names

same_name : (name : Name) → is_same name name ≡ true
same_name [] = refl
same_name (byte ∷ name) = λ i. eq-eqb byte byte refl i && same_name name i

module _ (task : Task) (names_are : are_lower_names (object_names task) ≡ true) where
  abbrev is_there : ℕ → Bool
  is_there o = nat_lt o (length task.objects)

  abbrev name_of : Object → Name
  name_of o = o.name

  said_back : (o : ℕ) → is_there o ≡ true → object_said task (object_name task o) ≡ o
  said_back o below =
      let (x, at) = within task.objects o (ltb-true o (length task.objects) below) in
      let (_, differs) = and_parts (list_all is_lower_name (object_names task)) (differ (object_names task)) names_are in
      let there = slice_get-map name_of task.objects o ∙ ap (option_map name_of) at in
      subst (λ found. position_or_len (is_same (option_map_or name_of found [])) (object_names task) ≡ o) (sym at) (first_at (object_names task) o x.name differs there)

  lower_there : (o : ℕ) → is_there o ≡ true → is_lower_name (object_name task o) ≡ true
  lower_there o below =
      let (x, at) = within task.objects o (ltb-true o (length task.objects) below) in
      let (lower, _) = and_parts (list_all is_lower_name (object_names task)) (differ (object_names task)) names_are in
      let there = slice_get-map name_of task.objects o ∙ ap (option_map name_of) at in
      subst (λ found. is_lower_name (option_map_or name_of found []) ≡ true) (sym at) (passes_got is_lower_name (object_names task) o x.name there lower)

  all_said_back : (numbers : List ℕ) → list_all is_there numbers ≡ true → map (object_said task) (map (object_name task) numbers) ≡ numbers
  all_said_back [] all = refl
  all_said_back (o ∷ numbers) all =
      let (here, more) = and_parts (is_there o) (list_all is_there numbers) all in
      let first = said_back o here in
      λ i. first i ∷ all_said_back numbers more i

  all_lower : (numbers : List ℕ) → list_all is_there numbers ≡ true → list_all is_lower_name (map (object_name task) numbers) ≡ true
  all_lower [] all = refl
  all_lower (o ∷ numbers) all =
      let (here, more) = and_parts (is_there o) (list_all is_there numbers) all in
      let first = lower_there o here in
      λ i. first i && all_lower numbers more i

  alike : (o p : ℕ) → is_there o ≡ true → is_there p ≡ true → is_same (object_name task o) (object_name task p) ≡ (p == o)
  alike o p o_is p_is =
      elim (is_same (object_name task o) (object_name task p)) as (λ b. is_same (object_name task o) (object_name task p) ≡ b → b ≡ (p == o)) [
        | true ↦ λ same.
            let names = same_bytes (object_name task o) (object_name task p) same in
            sym (eq-eqb p o (sym (said_back p p_is) ∙ ap (object_said task) (sym names) ∙ said_back o o_is))
        | false ↦ λ fails.
            elim (p == o) as (λ b. (p == o) ≡ b → false ≡ b) [
              | true ↦ λ same. absurd (false≢true (sym fails ∙ ap (λ k. is_same (object_name task o) (object_name task k)) (eqb-true p o same) ∙ same_name (object_name task o)))
              | false ↦ λ _. refl
            ] refl
      ] refl

  any_alike : (o : ℕ) (numbers : List ℕ) → is_there o ≡ true → list_all is_there numbers ≡ true
      → list_any (is_same (object_name task o)) (map (object_name task) numbers) ≡ list_any (λ other. other == o) numbers
  any_alike o [] o_is all = refl
  any_alike o (p ∷ numbers) o_is all =
      let (here, more) = and_parts (is_there p) (list_all is_there numbers) all in
      let first = alike o p o_is here in
      λ i. first i || any_alike o numbers o_is more i

  all_differ : (numbers : List ℕ) → list_all is_there numbers ≡ true → are_different numbers ≡ true → text.differ (map (object_name task) numbers) ≡ true
  all_differ [] all different = refl
  all_differ (o ∷ numbers) all different =
      let (here, more) = and_parts (is_there o) (list_all is_there numbers) all in
      let (new, others) = and_parts (not (list_any (λ other. other == o) numbers)) (are_different numbers) different in
      let first = ap not (any_alike o numbers here more) ∙ new in
      λ i. first i && all_differ numbers more others i

  -- ---- exchanges

  paired : (e : Exchange) → two_by_two (objects_in e) ≡ e
  paired [] = refl
  paired (pair ∷ e) = ap (λ (pairs : Exchange). pair ∷ pairs) (paired e)

  are_pairs : (e : Exchange) → are_paired (map (object_name task) (objects_in e)) ≡ true
  are_pairs [] = refl
  are_pairs (pair ∷ e) = are_pairs e

  two_names : (e : Exchange) → nat_le 1 (length e) ≡ true → nat_le 2 (length (map (object_name task) (objects_in e))) ≡ true
  two_names [] some = absurd (omega (arith, leb-true 1 0 some))
  two_names (pair ∷ e) some = le-leb 2 (suc (suc (length (map (object_name task) (objects_in e))))) (omega arith)

  exchange_back : (e : Exchange) → is_exchange_of task e ≡ true → e ≡ exchange_said task (named_exchange task e)
  exchange_back e is =
      let (all, _) = and_parts (list_all is_there (objects_in e)) (are_different (objects_in e)) is in
      sym (ap two_by_two (all_said_back (objects_in e) all) ∙ paired e)

  pub exchanges_back : (exchanges : List Exchange) → list_all (is_exchange_of task) exchanges ≡ true → exchanges ≡ map (exchange_said task) (map (named_exchange task) exchanges)
  exchanges_back [] all = refl
  exchanges_back (e ∷ exchanges) all =
      let (here, more) = and_parts (is_exchange_of task e) (list_all (is_exchange_of task) exchanges) all in
      let first = exchange_back e here in
      λ i. first i ∷ exchanges_back exchanges more i

  exchange_line : (f : Format) (e : Exchange) → is_exchange_of task e ≡ true → has_exchanges f.version ≡ true → nat_le 1 (length e) ≡ true
      → nat_le (length (line_text (swapped (named_exchange task e)))) longest_line ≡ true → is_line f (swapped (named_exchange task e)) ≡ true
  exchange_line f e is has some short =
      let (all, different) = and_parts (list_all is_there (objects_in e)) (are_different (objects_in e)) is in
      let two = two_names e some in
      let pairs = are_pairs e in
      let differs = all_differ (objects_in e) all different in
      let lower = all_lower (objects_in e) all in
      λ i. (has i && (((two i && pairs i) && differs i) && lower i)) && short i

  pub exchange_lines : (f : Format) (exchanges : List Exchange) → list_all (is_exchange_of task) exchanges ≡ true → are_exchanges f.version exchanges ≡ true
      → list_all (is_short task) exchanges ≡ true → list_all (is_line f) (map (λ names. swapped names) (map (named_exchange task) exchanges)) ≡ true
  exchange_lines f [] all are shorts = refl
  exchange_lines f (e ∷ exchanges) all are shorts =
      let (here, more) = and_parts (is_exchange_of task e) (list_all (is_exchange_of task) exchanges) all in
      let (first, others) = and_parts (has_exchanges f.version && nat_le 1 (length e)) (are_exchanges f.version exchanges) are in
      let (has, some) = and_parts (has_exchanges f.version) (nat_le 1 (length e)) first in
      let (short, rest) = and_parts (is_short task e) (list_all (is_short task) exchanges) shorts in
      let line = exchange_line f e here has some short in
      λ i. line i && exchange_lines f exchanges more others rest i
