use Rattle.std.proofs.Common.{◌≡◌, ◌∙◌, ◌++◌, length, take, ap, arith}
use Rattle.std.proofs.Math.Seq.{take-append_seam}
use Rattle.packed_state.specs.PooledView.{pooled_states}
use Rattle.packed_state.specs.Packed.{bits_of}
use Rattle.table_rows.proofs.StoreLemmas.{was-there}
use Rattle.table_rows.proofs.rows.Rows.push.Goals as goal

pub returns-in-Ok-default-false-clause-ok : goal.returns-in-Ok-default-false-clause-ok
returns-in-Ok-default-false-clause-ok c =
    let old = c.args.self.now in
    let many : c.len-before.result ≡ length old.weights.items = omega (arith, c.len-before.ensures, old.weights.ok.0) in
    let placed = was-there (pooled_states old.sets) (pooled_states c.insert_copy_if_new.new.self) (bits_of c.args.set.now) c.in-Ok-default-false.field-0-0 c.in-Ok-default-false.field-0-1
    c.in-Ok-default-false.field-0-1-test c.in-Ok-default-false.ensures.ok in (
      placed.0,
      record {
        sets = placed.1;
        weights = c.truncate.ensures.items ∙ ap (take c.len-before.result) c.in_ok-extend_from_slice.ensures.items
            ∙ ap (λ n. take n (old.weights.items ++ c.args.weights.now)) many ∙ take-append_seam old.weights.items c.args.weights.now;
      },
    )
