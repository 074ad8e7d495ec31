-- The text so far was read, and no call has failed; if the first call is to fail, none was made.
use Rattle.std.proofs.Common.{◌≡◌, ◌≤◌, ◌-◌, vec_len}
use Rattle.std.specs.Prelude.{IsTrue}
use Rattle.std.specs.Io.KnownBytes.{Consumes}
use Rattle.devices.proofs.files.reading.read_text.Given as goal

abbrev pub invariant-reads : goal.invariant-reads
invariant-reads g l =
    record {
      consumed : Consumes (g.S.Source.remaining l.initial.source) (g.S.Source.remaining l.source) l.text.items;
      failures : g.S.Source.failures l.source ≡ g.S.Source.failures l.initial.source;
      within : vec_len l.text ≤ 16777217;
      room : vec_len l.piece ≡ 65536;
      failing : IsTrue (g.S.Source.is_failing l.initial.source) → (l.source ≡ l.initial.source) × (vec_len l.text ≡ 0);
    }

abbrev pub decreases-reads : goal.decreases-reads
decreases-reads g l = 16777217 - vec_len l.text
