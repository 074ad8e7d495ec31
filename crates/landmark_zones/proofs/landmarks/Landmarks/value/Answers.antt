use Rattle.std.proofs.Common.{◌∙◌, map, ap, arith}
use Rattle.std.specs.Option.{option_map}
use Rattle.std.proofs.lemmas.List.{length-map}
use Rattle.landmark_zones.specs.Landmarks.{share_of}
use Rattle.landmark_zones.specs.Rows.{rows_of}
use Rattle.landmark_zones.proofs.RowLemmas.{length-rows, slice_get-map}
use Rattle.landmark_zones.proofs.landmarks.Landmarks.value.Goals as goal

pub of-requires-clause-there : goal.of-requires-clause-there
of-requires-clause-there c =
    let v = c.args.self.now.values in
    omega (arith, c.requires, length-map (rows_of v) (map share_of), length-rows 0 v.ends.items v.shares.items)

pub returns : goal.returns
returns c =
    let v = c.args.self.now.values in
    slice_get-map (map share_of) (rows_of v) c.args.number ∙ ap (option_map (map share_of)) c.of.ensures
