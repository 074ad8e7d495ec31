use Rattle.std.proofs.Common.{◌≡◌, ◌∙◌, ℕ, [], map, sym, ap, subst, arith}
use Rattle.std.specs.Prelude.{IsTrue}
use Rattle.std.specs.List.{list_all}
use Rattle.std.proofs.lemmas.List.{length-map}
use Rattle.std.proofs.lemmas.Option.{get_or_from_slice_get}
use Rattle.packed_state.specs.Packed.{bits_of}
use Rattle.lower_bounds.specs.LandmarkFunctions.{value}
use Rattle.lower_bounds.specs.LandmarkLaws.{is_zone_over}
use Rattle.landmark_zones.specs.Landmarks.{landmarks_of, share_of}
use Rattle.landmarks.specs.Fairness.{function_over}
use Rattle.landmarks.proofs.FairnessLemmas.{few-of}
use Rattle.landmarks.proofs.Kept.{kept-sorted}
use Rattle.tables.specs.Several.{several_of, width_of}
use Rattle.line_evidence.specs.Shown.{function_at}
use Rattle.guides.proofs.TestedLemmas.{kept_over}
use Rattle.line_evidence.proofs.ShownLemmas.{value_none, value_rows}
use Rattle.line_evidence.proofs.shown.landmark_value.Goals as goal

pub returns-then-not-has_rows-clause-value : goal.returns-then-not-has_rows-clause-value
returns-then-not-has_rows-clause-value c =
    let l = landmarks_of c.args.landmarks.now in
    let h = function_at (several_of c.args.functions.now).tables l c.args.number in
    (omega (arith, c.value_count.ensures, c.if-place-value_count.false), sym (value_none h (bits_of c.args.at.now.state) (sym c.has_rows.ensures.rows ∙ c.if-not-has_rows.true)))

pub value_in-requires-clause-over : goal.value_in-requires-clause-over
value_in-requires-clause-over c =
    subst (λ (n : ℕ). IsTrue (list_all (is_zone_over n) (landmarks_of c.args.landmarks.now).zones)) (sym c.requires.state) (kept_over (width_of c.args.functions.now) (landmarks_of c.args.landmarks.now) c.requires.limits)

pub value_in-requires-clause-few : goal.value_in-requires-clause-few
value_in-requires-clause-few c =
    let l = landmarks_of c.args.landmarks.now in
    let most = few-of l.values c.args.number 67108864 (map share_of c.value-shares.result.now) c.value-shares.ensures (kept-sorted (width_of c.args.functions.now) l c.requires.limits).1 in
    omega (arith, most, length-map c.value-shares.result.now share_of)

pub returns-clause-value : goal.returns-clause-value
returns-clause-value c =
    let l = landmarks_of c.args.landmarks.now in
    let tables = (several_of c.args.functions.now).tables in
    let shares = map share_of c.value-shares.result.now in
    let h = function_at tables l c.args.number in
    let same : function_over tables l.zones shares ≡ h = ap (function_over tables l.zones) (sym (get_or_from_slice_get l.values c.args.number shares [] c.value-shares.ensures)) in (
      omega (arith, c.value_count.ensures, c.if-place-value_count.false),
      c.value_in.ensures ∙ sym (value_rows (function_over tables l.zones shares) (bits_of c.args.at.now.state) (sym c.has_rows.ensures.rows ∙ c.if-not-has_rows.false)) ∙ ap (λ f. value f (bits_of c.args.at.now.state)) same,
    )
