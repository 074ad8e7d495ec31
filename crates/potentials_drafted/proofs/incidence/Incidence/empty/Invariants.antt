use Rattle.std.proofs.Common.{◌≡◌, ℕ, [], length}
use Rattle.std.specs.Prelude.{slice_get}
use Rattle.std.specs.Option.{option_map_or}
use Rattle.std.specs.Global.{Vec}
use Rattle.potentials_drafted.specs.declared.incidence.IncidenceEntry.{IncidenceEntry}
use Rattle.potentials_drafted.proofs.incidence.Incidence.empty.Given as goal

abbrev pub invariant-loop : goal.invariant-loop
invariant-loop l = record {
  width : length l.rows.items ≡ l.counter;
  empty : (a : ℕ) → option_map_or (λ (v : Vec IncidenceEntry). v.items) (slice_get l.rows.items a) [] ≡ [];
}
