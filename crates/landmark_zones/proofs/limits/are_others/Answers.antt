use Rattle.std.proofs.Common.{◌≡◌, ◌∙◌, ◌+◌, ℕ, Bool, List, not, drop, get_or, sym, ap}
use Rattle.std.specs.Prelude.{◌&&◌, ◌<◌, length}
use Rattle.std.proofs.lemmas.Option.{slice_get-get_or}
use Rattle.lower_bounds.specs.TableFunctions.{is_among}
use Rattle.landmark_zones.specs.Limits.{are_others}
use Rattle.landmark_zones.proofs.LimitsLemmas.{one-decides, found-among}
use Rattle.landmark_zones.proofs.limits.are_others.Goals as goal

-- what was found of this number, and the numbers after it, decide
step : (atoms numbers : List ℕ) (i : ℕ) (found : Bool) → i < length numbers → found ≡ is_among atoms (get_or numbers i 0)
    → are_others atoms (drop i numbers) ≡ not found && are_others atoms (drop (i + 1) numbers)
step atoms numbers i found within is =
    one-decides (λ number. not (is_among atoms number)) numbers i (get_or numbers i 0) (slice_get-get_or numbers i 0 within) (not found) (ap not is)

pub returns-then-is_ok : goal.returns-then-is_ok
returns-then-is_ok c =
    let atoms = c.args.atoms.now in
    let numbers = c.args.numbers.now in
    let i = c.loop-number.number-index in
    let found = c.is_ok.ensures.value ∙ found-among c.args.atom_count atoms (get_or numbers i 0) c.binary_search.result c.requires c.binary_search.ensures.position in
    sym (c.loop-number.invariant ∙ step atoms numbers i c.is_ok.result c.loop-number-test.true found ∙ (λ k. not (c.if-is_ok.true k) && are_others atoms (drop (i + 1) numbers)))

pub loop-number-preserved : goal.loop-number-preserved
loop-number-preserved c =
    let atoms = c.args.atoms.now in
    let numbers = c.args.numbers.now in
    let i = c.loop-number.number-index in
    let found = c.is_ok.ensures.value ∙ found-among c.args.atom_count atoms (get_or numbers i 0) c.binary_search.result c.requires c.binary_search.ensures.position in
    c.loop-number.invariant ∙ step atoms numbers i c.is_ok.result c.loop-number-test.true found ∙ (λ k. not (c.if-is_ok.false k) && are_others atoms (drop (i + 1) numbers))
