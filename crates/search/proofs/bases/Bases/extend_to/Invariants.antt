use Rattle.std.proofs.Common.{◌≡◌, ◌+◌, ◌-◌, ◌<◌, ℕ, length}
use Rattle.search.specs.OnDemand.{noted_at}
use Rattle.search.proofs.bases.Bases.extend_to.Given as goal

abbrev pub invariant-words : goal.invariant-words
invariant-words l = (place : ℕ) → noted_at l.self place ≡ noted_at l.initial.self place

abbrev pub decreases-words : goal.decreases-words
decreases-words l = l.id.0 + 1 - length l.self.words.items

abbrev pub invariant-values : goal.invariant-values
invariant-values l = (l.id.0 < length l.self.words.items) × ((place : ℕ) → noted_at l.self place ≡ noted_at l.initial.self place)

abbrev pub decreases-values : goal.decreases-values
decreases-values l = l.id.0 + 1 - length l.self.values.items
