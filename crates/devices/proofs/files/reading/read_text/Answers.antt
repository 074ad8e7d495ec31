use Rattle.std.proofs.Common.{◌∙◌, take, sym, subst, arith, length, ◌≤◌, length-take}
use Rattle.std.specs.Prelude.{IsTrue}
use Rattle.std.specs.Io.KnownBytes.{Consumes}
use Rattle.std.proofs.KnownBytes.{Consumes-trans}
use Rattle.devices.proofs.files.reading.read_text.Goals as goal

pub reads-preserved : goal.reads-preserved
reads-preserved g c =
    let some = c.in_ok-count.ensures in
    record {
      consumed = subst (Consumes _ _) (sym some.ok.appended) (Consumes-trans _ _ _ _ _ c.reads.invariant.consumed some.ok.consumed);
      failures = some.failures ∙ c.reads.invariant.failures;
      within =
          let fits : c.in_ok-count.count ≤ length (take c.min-room.result c.deref_mut.result.now) = some.ok.within in
          omega (arith, some.len, fits, c.min-room.ensures, length-take c.min-room.result c.deref_mut.result.now);
      room = c.reads.invariant.room;
      failing = λ fails. absurd (cc (some.failing (subst (λ source. IsTrue (g.S.Source.is_failing source)) (sym (c.reads.invariant.failing fails).0) fails)));
    }
