use Rattle.std.proofs.Common.{◌∙◌, map, sym}
use Rattle.std.proofs.lemmas.List.{length-map}
use Rattle.landmark_zones.proofs.RowLemmas.{length-rows}
use Rattle.landmark_zones.specs.Landmarks.{share_of}
use Rattle.landmark_zones.specs.Rows.{rows_of}
use Rattle.landmark_zones.proofs.landmarks.Landmarks.value_count.Goals as goal

pub returns : goal.returns
returns c = let v = c.args.self.now.values in c.len.ensures ∙ v.ends.ok.0 ∙ sym (length-map (rows_of v) (map share_of) ∙ length-rows 0 v.ends.items v.shares.items)
