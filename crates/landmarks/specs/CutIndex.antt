-- What the index of cuts finds, and what its instances are charged.
use Rattle.std.specs.Prelude.{◌≡◌, ℕ, ◌+◌, ◌<◌, ◌≤◌, ◌==◌, Bool, true, false, if◌then◌else◌, List, ◌++◌, length, sum_by}
use Rattle.std.specs.List.{flat_map}
use Rattle.grounding.specs.Ground.{atoms_in, task_in}
use Rattle.model.specs.Task.{Atom, Task}
use Rattle.model.specs.StaticallyFalse.{kept_instances}
use Rattle.model.specs.NumberedLiterals.{literals_of_number}
use Rattle.model.specs.ConditionalChanges.{conditional_of_number}
use Rattle.model.specs.Grounding.{ground_system}
use Rattle.lower_bounds.specs.TableFunctions.{is_among}
use Rattle.lower_bounds.specs.LandmarkFunctions.{Zone, Landmark}
use Rattle.lower_bounds.specs.FairLandmarks.{charge}
use Rattle.lower_bounds.specs.LandmarkLines.{Share}
use Rattle.landmark_zones.specs.declared.values.Share as in_memory
use Rattle.landmark_zones.specs.Landmarks.{share_of}
use Rattle.potentials.specs.declared.allowance.Allowance.{Allowance}
use Rattle.potentials.specs.declared.allowance.Allowance.TheVariants.{Cost, Nothing}
use Rattle.landmarks.specs.declared.cut_index.Charge as declared
use Rattle.landmarks.specs.declared.cut_index.CutIndex.{CutIndex}
use Rattle.landmarks.specs.declared.counters.Counters.{Counters}
use Rattle.landmarks.specs.declared.makers.Makers.{Makers}
use Rattle.landmarks.specs.Breaking.{zone_in}
use Rattle.table_rows.specs.Lists.{list_at}
use Rattle.landmarks.specs.Counters.{AreCounters, charged_by, counter_at}
use Rattle.landmarks.specs.Values.{share_charge}

-- ---- the index

abbrev pub task_of : CutIndex → Task
task_of index = task_in index.ground.now

abbrev pub atoms_of : CutIndex → List Atom
atoms_of index = atoms_in index.ground.now

-- the numbers of its instances
abbrev pub asked_in : CutIndex → List ℕ
asked_in index = index.asked.now

-- the number of all kept instances
abbrev pub count_in : CutIndex → ℕ
count_in index = length (kept_instances (task_of index))

-- the instances that make a literal of the zone true, those that may break it among them
abbrev pub candidates : Makers → Zone → List ℕ
candidates m z = flat_map (list_at m.adding) z.atoms ++ flat_map (list_at m.deleting) z.negated

-- ---- charges

abbrev pub landmark_in : declared.Charge → Landmark
landmark_in by = record { zone = zone_in by.zone; weight = by.weight }

-- what the instance with this number may be charged
abbrev pub allowed_at : Task → List Atom → Allowance → ℕ → ℕ
allowed_at task atoms Cost number = (ground_system task atoms).cost number
allowed_at task atoms Nothing number = 0

-- What each of these instances, of as many, is charged for one zone more, and the most that it may be charged for all.
pub record Charging : Type 0 where
  pub asked : List ℕ
  pub count : ℕ
  pub more : ℕ → ℕ
  pub most : ℕ → ℕ

abbrev pub charging : CutIndex → Allowance → (ℕ → ℕ) → Charging
charging index allowance more = record {
  asked = asked_in index;
  count = count_in index;
  more = more;
  most = allowed_at (task_of index) (atoms_of index) allowance;
}

abbrev pub charging_by : CutIndex → declared.Charge → Charging
charging_by index by =
    charging index by.allowance (λ (number : ℕ). charge (literals_of_number (task_of index) (atoms_of index) number) (conditional_of_number (task_of index) (atoms_of index) number) (landmark_in by))

-- what the instance is charged by a share
abbrev pub share_charge_at : Task → List Atom → List Zone → Share → ℕ → ℕ
share_charge_at task atoms zones s number = share_charge zones (literals_of_number task atoms number) (conditional_of_number task atoms number) s

abbrev pub share_charging : CutIndex → List Zone → Share → Allowance → Charging
share_charging index zones s allowance = charging index allowance (share_charge_at (task_of index) (atoms_of index) zones s)

-- ---- within a zone

-- charged this much before the zone, and for it if the instance has been looked at, and no more than the most
pub record IsCharged (clock before more most amount seen : ℕ) : Type 0 where
  pub charged : amount ≡ before + (if seen == clock then more else 0)
  pub within : amount ≤ most

pub record AreCharged (g : Charging) (before : ℕ → ℕ) (c : Counters) : Type 0 where
  pub begun : c.start < c.clock
  pub each : (number : ℕ) → is_among g.asked number ≡ true
      → IsCharged c.clock (before number) (g.more number) (g.most number) (charged_by c.start (counter_at c number)) (counter_at c number).seen

-- one is charged more than the most
abbrev pub IsOneBeyond : Charging → (ℕ → ℕ) → Type 0
IsOneBeyond g before = (number : ℕ) × (is_among g.asked number ≡ true) × (g.most number < before number + g.more number)

-- these instances have been charged
pub record HaveBeenCharged (g : Charging) (numbers : List ℕ) (old new : Counters) : Type 0 where
  pub counted : AreCounters g.count new
  pub start : new.start ≡ old.start
  pub clock : new.clock ≡ old.clock
  pub kept : (number : ℕ) → (counter_at old number).seen ≡ old.clock → (counter_at new number).seen ≡ new.clock
  pub seen : (number : ℕ) → is_among numbers number ≡ true → (counter_at new number).seen ≡ new.clock
  pub charged : (before : ℕ → ℕ) → AreCharged g before old → AreCharged g before new

-- one of them cannot be
pub record IsTooMuch (g : Charging) (old new : Counters) : Type 0 where
  pub counted : AreCounters g.count new
  pub beyond : (before : ℕ → ℕ) → AreCharged g before old → IsOneBeyond g before

abbrev pub Charges : Charging → List ℕ → Counters → Counters → Bool → Type 0
Charges g numbers old new true = HaveBeenCharged g numbers old new
Charges g numbers old new false = IsTooMuch g old new

-- ---- between zones

-- each of these instances is charged this much, and no more than the most
pub record AreStanding (asked : List ℕ) (most total : ℕ → ℕ) (c : Counters) : Type 0 where
  pub begun : c.start ≤ c.clock
  pub charged : (number : ℕ) → is_among asked number ≡ true → charged_by c.start (counter_at c number) ≡ total number
  pub within : (number : ℕ) → is_among asked number ≡ true → total number ≤ most number

-- one zone more has been charged
pub record HasPassed (g : Charging) (old new : Counters) : Type 0 where
  pub counted : AreCounters g.count new
  pub start : new.start ≡ old.start
  pub clock : new.clock ≡ old.clock + 1
  pub charged : (total : ℕ → ℕ) → AreStanding g.asked g.most total old → AreStanding g.asked g.most (λ number. total number + g.more number) new

pub record IsTooMuchNext (g : Charging) (old new : Counters) : Type 0 where
  pub counted : AreCounters g.count new
  pub beyond : (total : ℕ → ℕ) → AreStanding g.asked g.most total old → IsOneBeyond g total

abbrev pub ChargesShare : Charging → Counters → Counters → Bool → Type 0
ChargesShare g old new true = HasPassed g old new
ChargesShare g old new false = IsTooMuchNext g old new

-- ---- a value

-- what the instance with this number is charged by these shares
abbrev pub total_at : Task → List Atom → List Zone → List in_memory.Share → ℕ → ℕ
total_at task atoms zones shares number = sum_by (λ (s : in_memory.Share). share_charge_at task atoms zones (share_of s) number) shares

abbrev pub AreAllWithin : (allowed charged : ℕ → ℕ) → List ℕ → Type 0
AreAllWithin allowed charged asked = (number : ℕ) → is_among asked number ≡ true → charged number ≤ allowed number

abbrev pub IsSomeBeyond : (allowed charged : ℕ → ℕ) → List ℕ → Type 0
IsSomeBeyond allowed charged asked = (number : ℕ) × (is_among asked number ≡ true) × (allowed number < charged number)

abbrev pub Decides : (allowed charged : ℕ → ℕ) → List ℕ → Bool → Type 0
Decides allowed charged asked true = AreAllWithin allowed charged asked
Decides allowed charged asked false = IsSomeBeyond allowed charged asked

abbrev pub HasTotals : CutIndex → List Zone → List in_memory.Share → Allowance → Bool → Type 0
HasTotals index zones shares allowance result =
    Decides (allowed_at (task_of index) (atoms_of index) allowance) (total_at (task_of index) (atoms_of index) zones shares) (asked_in index) result
