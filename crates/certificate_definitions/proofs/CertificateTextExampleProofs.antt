-- The worked lines.
use Rattle.std.proofs.Common.{[], ◌∷◌, ◌++◌, refl, arith}
use Rattle.std.specs.Fmt.{digits}
use Rattle.std.specs.Prelude.{pos}
use Rattle.lower_bounds.specs.PotentialExamples.{minus}
use Rattle.certificate_definitions.specs.CertificateText.{scope, tabled, part}
use Rattle.certificate_definitions.specs.CertificateChecking.{not_of_scope, repeated_row}
use Rattle.certificate_definitions.specs.CertificateTextExamples.{AreTextsJudged, first_lines, zeros}

pub texts_judged : AreTextsJudged
unfolding digits
texts_judged = record {
  whole = refl;
  without_tables = refl;
  row_first = refl;
  atom_after_a_table = refl;
  row_after_a_state = refl;
  table_after_a_state = refl;
  empty_scope = refl;
  numbers_rise = refl;
  another_number = refl;
  weight_missing = refl;
  one_constant = refl;
  three_in_version_2 = refl;
  table_in_version_2 = refl;
  exchanges = refl;
  exchange_after_atoms = refl;
  exchange_after_a_state = refl;
  exchange_in_version_1 = refl;
  exchange_in_version_2 = refl;
  no_names = refl;
  one_left_over = refl;
  name_twice = refl;
  capital_letter = refl;
  exchange_of_balls = refl;
  exchange_of_none = refl;
  exchange_is_written = refl;
  row_of_scope = refl;
  row_of_others = refl;
  row_without_weights = refl;
  tables_of_version_2 = refl;
  values_of_version_1 = refl;
  dead_ends_of_version_1 = refl;
  values_of_version_3 = refl;
  dead_ends_of_version_3 = refl;
  landmarks = refl;
  table_after_a_zone = refl;
  row_after_a_zone = refl;
  zone_after_a_value = refl;
  value_without_its_zone = refl;
  atom_after_a_zone = refl;
  cut_by_no_value = refl;
  zone_in_version_3 = refl;
  cut_by_in_version_3 = refl;
  cut_by_of_version_4 = refl;
  cut_by_of_another_value = refl;
  cut_by_of_version_3 = refl;
  landmarks_in_lines = refl;
  row_of_another_scope = not_of_scope (record { atoms = 1 ∷ []; weights = zeros }) (0 ∷ []) [] (first_lines ++ part (tabled (scope (1 ∷ []))) ∷ [], refl) refl;
  row_twice = repeated_row (record { atoms = 0 ∷ 1 ∷ []; weights = zeros }) (0 ∷ 1 ∷ [])
      (record { atoms = []; weights = zeros } ∷ record { atoms = 0 ∷ 1 ∷ []; weights = minus 2 ∷ pos 0 ∷ pos 1 ∷ [] } ∷ [])
      (first_lines, refl) refl (record { atoms = 0 ∷ 1 ∷ []; weights = minus 2 ∷ pos 0 ∷ pos 1 ∷ [] }, (1, omega arith, refl), refl);
}
