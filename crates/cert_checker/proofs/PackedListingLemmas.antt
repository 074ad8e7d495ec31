-- What a packed listing has to do with the certificate's states.
use Rattle.std.proofs.Common.{◌≡◌, ◌≢◌, ◌∙◌, ℕ, ◌<◌, ◌≤◌, Bool, List, ◌++◌, length, map, get_or, Some, refl, sym, ap, subst, arith, true}
use Rattle.std.specs.Prelude.{AllPairs, Contains, slice_get}
use Rattle.std.proofs.lemmas.List.{length-append, length-map}
use Rattle.std.proofs.lemmas.Option.{slice_get_within, slice_get-get_or}
use Rattle.packed_state.specs.declared.pooled.PooledStore.{PooledStore}
use Rattle.packed_state.specs.PooledView.{pooled_states, pooled_width}
use Rattle.packed_state.specs.Store.{AreDistinct}
use Rattle.certificate.specs.declared.cert.Cert.{Cert}
use Rattle.certificate.specs.Certificate.{certificate_of, store_in}
use Rattle.certificate.proofs.NumbersLemmas.{sets_are}
use Rattle.cert_checker.specs.FluentAtoms.{AreFluent}
use Rattle.cert_checker.specs.CheckedLines.{HasCost, IsListedBy}
use Rattle.cert_checker.specs.PackedLines.{packed_line, HoldsLines, IsPackedListing, NamesAtoms}
use Rattle.cert_checker.proofs.CertCheckerLemmas.{entry, got_mapped, lines_within_limits, slice_get-map}
use Rattle.cert_checker.proofs.WeightsLemmas.{alike, value-numbered}
use Rattle.cert_checker.specs.Weights.{HasItsWeights}
use Rattle.lower_bounds.specs.PotentialFunctions.{PotentialFunction, value, value_of_state}
use Rattle.cert_checker.proofs.GroundSuccessors.{leads_by, leads_by-successors}
use Rattle.cert_checker.proofs.RefusalsLemmas.{AreApart}
use Rattle.cert_checker.proofs.PackedLinesLemmas.{all_fluent, names_atoms, one_set, state_packed}
use Rattle.model.specs.Task.{Atom, Task}
use Rattle.model.specs.Meaning.{State, initial_state}
use Rattle.model.specs.Instances.{successors_of}
use Rattle.model.specs.Claims.{Line}
use Rattle.certificate_definitions.specs.Evidence.{LineMark}
use Rattle.certificate_definitions.specs.Certificates.{Certificate, StateLine, is_state_line, keeps_limits, state_of_line, lines_of}
use Rattle.model.specs.NumberedAtoms.{numbered_atoms, HasNumberedFluents}
use Rattle.model.specs.Grounding.{state_of_bits, bits_of_state, applicable_numbers, PacksStates}
use Rattle.certificate_definitions.proofs.CertificateRefusalsLemmas.{apart}
use Rattle.model.proofs.GroundTaskLemmas.{are_numbered, initial-numbered, packs_states}
use Rattle.model.proofs.ListLemmas.{Contains-got, Contains-place}
use Rattle.model.proofs.NumberingLemmas.{distinct-from_pairs}
use Rattle.model.proofs.Tests.{passes_got}

-- ---- the store

module _ (c : Certificate) (width : ℕ) (store : PooledStore) (holds : HoldsLines c width store) where
  pub set_there : (place : ℕ) (l : StateLine) → slice_get c.lines place ≡ Some l → slice_get (pooled_states store) place ≡ Some (packed_line width l)
  set_there place l at = subst (λ sets. slice_get sets place ≡ Some (packed_line width l)) (sym holds.sets) (slice_get-map (packed_line width) c.lines place l at)

  pub as_many : length (pooled_states store) ≡ length c.lines
  as_many = ap length holds.sets ∙ length-map c.lines (packed_line width)

  -- no state is listed twice
  pub lines_apart : (task : Task) → AreFluent task c.atoms → AreApart task c
  lines_apart task fluent i j d before within same =
      let first = got_mapped (entry task c) c.lines i (get_or (lines_of task c) i d) (slice_get-get_or (lines_of task c) i d (omega arith)) in
      let second = got_mapped (entry task c) c.lines j (get_or (lines_of task c) j d) (slice_get-get_or (lines_of task c) j d within) in
      let state : Line State → State = λ l. l.state in
      apart (λ (s t : List Bool). s ≢ t) (pooled_states store) i j (packed_line width first.0) (packed_line width second.0) holds.distinct before (set_there i first.0 first.1) (set_there j second.0 second.1)
      (one_set task c fluent width first.0 second.0 (holds.named first.0 (Contains-got c.lines i first.0 first.1)) (holds.named second.0 (Contains-got c.lines j second.0 second.1))
      (ap state first.2 ∙ same ∙ sym (ap state second.2)))

-- ---- a listing

unlike : (states : List (List Bool)) → AreDistinct states → AllPairs (λ (s t : List Bool). s ≢ t) states
unlike states distinct i j d before within same =
    let first : slice_get states i ≡ Some (get_or states j d) = slice_get-get_or states i d (omega (arith, before, within)) ∙ ap Some same in
    omega (arith, before, distinct i j (get_or states j d) first (slice_get-get_or states j d within))

names_its_atoms : (c : Certificate) → keeps_limits c ≡ true → (l : StateLine) → Contains c.lines l → NamesAtoms c l
names_its_atoms c keeps l among =
    let all = lines_within_limits c keeps in
    let (place, at) = Contains-place c.lines l among in
    names_atoms c.version (length c.atoms) l (passes_got (is_state_line c.version (length c.atoms)) c.lines place l at all)

pub holds_lines : (listing : Cert) (width : ℕ) → pooled_width (store_in listing) ≡ width → HoldsLines (certificate_of listing) width (store_in listing)
holds_lines listing width wide = record {
  wide = wide;
  sets = subst (λ w. pooled_states (store_in listing) ≡ map (packed_line w) (certificate_of listing).lines) wide (sym (sets_are listing));
  distinct = unlike (pooled_states (store_in listing)) (store_in listing).pooled.stored.distinct;
  named = names_its_atoms (certificate_of listing) listing.within_limits;
}

-- ---- the states

-- the certificate's atoms have the first numbers
first_numbered : (task : Task) (atoms : List Atom) (c : Certificate) → AreFluent task c.atoms → atoms ≡ numbered_atoms task c.atoms → (others : List Atom) × (atoms ≡ c.atoms ++ others)
first_numbered task atoms c fluent is =
    let first = (are_numbered task c.atoms).more_first (distinct-from_pairs c.atoms fluent.distinct) in (first.0, is ∙ first.1)

pub numbered_after : (task : Task) (atoms : List Atom) (c : Certificate) → AreFluent task c.atoms → atoms ≡ numbered_atoms task c.atoms → length c.atoms ≤ length atoms
numbered_after task atoms c fluent is =
    let first = first_numbered task atoms c fluent is in omega (arith, ap length first.1, length-append c.atoms first.0)

module _ (task : Task) (atoms : List Atom) (c : Certificate) (store : PooledStore) (listed : IsPackedListing task atoms c store) where
  pub packs : PacksStates task atoms
  packs = subst (PacksStates task) (sym listed.numbered) (packs_states task c.atoms (all_fluent task c.atoms listed.fluent))

  -- each set stands for the line's state
  pub line_state : (l : StateLine) → Contains c.lines l → state_of_bits task atoms (packed_line (length atoms) l) ≡ state_of_line task c l
  line_state l at =
      let first = first_numbered task atoms c listed.fluent listed.numbered in
      subst (λ those. state_of_bits task those (packed_line (length those) l) ≡ state_of_line task c l) (sym first.1) (state_packed task c first.0 l (listed.holds.named l at))

  pub found_there : (place : ℕ) (bits : List Bool) → slice_get (pooled_states store) place ≡ Some bits → (cost : ℕ) (mark : LineMark) → HasCost c place cost mark
      → IsListedBy task c place (state_of_bits task atoms bits) cost mark
  found_there place bits at cost mark (l, at_l, cost_is, mark_is) =
      let there = set_there c (length atoms) store listed.holds place l at_l in
      let set : packed_line (length atoms) l ≡ bits = cc in
      let same : state_of_line task c l ≡ state_of_bits task atoms bits = sym (line_state l (Contains-got c.lines place l at_l)) ∙ ap (state_of_bits task atoms) set in
      (l, at_l, same, cost_is, mark_is)

  pub place_within : (place : ℕ) (bits : List Bool) → slice_get (pooled_states store) place ≡ Some bits → place < length c.lines
  place_within place bits at = omega (arith, slice_get_within (pooled_states store) place bits at, as_many c (length atoms) store listed.holds)

  pub listed_apart : AreApart task c
  listed_apart = lines_apart c (length atoms) store listed.holds task listed.fluent

  -- ---- the ground task

  pub initial_there : (bits : List Bool) → bits ≡ bits_of_state atoms (initial_state task) → state_of_bits task atoms bits ≡ initial_state task
  initial_there bits is =
      ap (state_of_bits task atoms) is
      ∙ packs.packed (initial_state task) (λ q static. refl) (subst (λ those. HasNumberedFluents task those (initial_state task)) (sym listed.numbered) (initial-numbered task c.atoms))

  -- the applicable numbers, as successors of the state
  pub successors_there : (bits : List Bool) (numbers : List ℕ) → numbers ≡ applicable_numbers task atoms bits → map (leads_by task atoms bits) numbers ≡ successors_of task (state_of_bits task atoms bits)
  successors_there bits numbers is =
      ap (map (leads_by task atoms bits)) is
      ∙ subst (λ those. map (leads_by task those bits) (applicable_numbers task those bits) ≡ successors_of task (state_of_bits task those bits)) (sym listed.numbered)
      (leads_by-successors task c.atoms (all_fluent task c.atoms listed.fluent) bits)

  -- ---- the value

  -- the packed state has the value of the state that it stands for
  pub value_there : (said p : PotentialFunction) (bits : List Bool) → HasItsWeights said (length atoms) p → length said.weights ≡ length c.atoms → length bits ≡ length atoms
      → value p bits ≡ value_of_state c.atoms said (state_of_bits task atoms bits)
  value_there said p bits has weighed long =
      let first = first_numbered task atoms c listed.fluent listed.numbered in
      let state = state_of_bits task atoms bits in
      ap (value p) (sym (packs.one_packed bits long))
      ∙ value-numbered p said (alike said (length atoms) p has) atoms c.atoms first.0 state first.1 (omega (arith, weighed))
