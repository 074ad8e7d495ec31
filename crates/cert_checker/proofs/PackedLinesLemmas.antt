-- The states of a certificate's lines, as sets of numbers.
use Rattle.std.proofs.Common.{◌≡◌, ◌∙◌, ℕ, append-nil, zero, suc, ◌+◌, ◌<◌, ◌≤◌, Bool, true, false, ◌&&◌, ◌||◌, inl, inr, List, [], ◌∷◌, ◌++◌, length, get_or, Some, refl, sym, ap, arith, true≢false}
use Rattle.std.specs.Prelude.{IsTrue, All, Contains, if◌then◌else◌, nat_le, nat_lt, slice_get}
use Rattle.std.specs.List.{filter_map}
use Rattle.std.specs.Ordering.{eq_by_cmp}
use Rattle.std.specs.FinSet.{contains-from_list}
use Rattle.std.specs.Cmp.{both_ways}
use Rattle.std.proofs.lemmas.Bool.{or_cases, or_left, or_right, and_parts, ltb-true}
use Rattle.std.proofs.lemmas.List.{length-append, same_lists}
use Rattle.std.proofs.lemmas.List.FromFn.{get_or-map-range_with_len, length-map-range_with_len}
use Rattle.std.proofs.lemmas.List.Elements.{All-contains}
use Rattle.std.proofs.lemmas.Option.{slice_get_within}
use Rattle.packed_state.specs.Sets.{set_of}
use Rattle.certificate.proofs.NumbersLemmas.{is_among, among-Contains, Contains-among}
use Rattle.cert_checker.specs.FluentAtoms.{AreFluent}
use Rattle.cert_checker.specs.PackedLines.{NamesAtoms}
use Rattle.model.specs.Task.{Atom, Task}
use Rattle.model.specs.WellTyped.{is_atom}
use Rattle.model.specs.Meaning.{atom_cmp}
use Rattle.model.specs.Fluents.{is_fluent, static_atoms}
use Rattle.certificate_definitions.specs.Certificates.{Version, Certificate, StateLine, state_of_line, is_mark, is_number, is_state_line, rise}
use Rattle.model.specs.NumberedAtoms.{occurs_in, are_distinct}
use Rattle.model.specs.Grounding.{chosen, state_of_bits, bits_of_state}
use Rattle.model.proofs.Atoms.{atoms_total, same_state, occurs_in-append}
use Rattle.model.proofs.ListLemmas.{Contains-cases, Contains-none, Contains-filter_map, filter_map-Contains}
use Rattle.model.proofs.NumberingLemmas.{occurs_in-Contains, Contains-occurs_in, same_itself, distinct-from_pairs}
use Rattle.model.proofs.PackedStates.{bits_of-packed_state}
use Rattle.model.proofs.StaticLemmas.{same_atom}

-- ---- sets of numbers

pub length-set_of : (width : ℕ) (numbers : List ℕ) → length (set_of width numbers) ≡ width
length-set_of width numbers = length-map-range_with_len (is_among numbers) 0 width

has-set_of : (width k : ℕ) (numbers : List ℕ) (d : Bool) → k < width → get_or (set_of width numbers) k d ≡ is_among numbers k
has-set_of width k numbers d below = get_or-map-range_with_len (is_among numbers) 0 width k k d below (omega arith)

same_sets : (width : ℕ) (xs ys : List ℕ) → ((k : ℕ) → k < width → is_among xs k ≡ is_among ys k) → set_of width xs ≡ set_of width ys
same_sets width xs ys each =
    same_lists (set_of width xs) (set_of width ys) (length-set_of width xs ∙ sym (length-set_of width ys)) (λ k d below.
    let within : k < width = omega (arith, below, length-set_of width xs) in
    has-set_of width k xs d within ∙ each k within ∙ sym (has-set_of width k ys d within))

same_among : (width : ℕ) (xs ys : List ℕ) → set_of width xs ≡ set_of width ys → (k : ℕ) → k < width → is_among xs k ≡ is_among ys k
same_among width xs ys same k below =
    sym (has-set_of width k xs false below) ∙ ap (λ set. get_or set k false) same ∙ has-set_of width k ys false below

-- ---- the chosen atoms

chosen-at : (atoms : List Atom) (bits : List Bool) (k : ℕ) (q : Atom) → slice_get atoms k ≡ Some q → get_or bits k false ≡ true → occurs_in (chosen atoms bits) q ≡ true
chosen-at [] bits k q at is_set = absurd (cc)
chosen-at (a ∷ atoms) [] zero q at is_set = absurd (true≢false (sym is_set))
chosen-at (a ∷ atoms) [] (suc k) q at is_set = absurd (true≢false (sym is_set))
chosen-at (a ∷ atoms) (b ∷ bits) zero q at is_set =
    let same : a ≡ q = cc in
    ap (λ bit. occurs_in (if bit then a ∷ chosen atoms bits else chosen atoms bits) q) is_set
    ∙ or_left (eq_by_cmp atom_cmp q a) (occurs_in (chosen atoms bits) q) (ap (eq_by_cmp atom_cmp q) same ∙ same_itself q)
chosen-at (a ∷ atoms) (b ∷ bits) (suc k) q at is_set =
    let later = chosen-at atoms bits k q at is_set in
    elim b as (λ bit. occurs_in (if bit then a ∷ chosen atoms bits else chosen atoms bits) q ≡ true) [
      | true ↦ or_right (eq_by_cmp atom_cmp q a) (occurs_in (chosen atoms bits) q) later
      | false ↦ later
    ]

chosen-from : (atoms : List Atom) (bits : List Bool) (q : Atom) → occurs_in (chosen atoms bits) q ≡ true → (k : ℕ) × (slice_get atoms k ≡ Some q) × (get_or bits k false ≡ true)
chosen-from [] bits q at = absurd (true≢false (sym at))
chosen-from (a ∷ atoms) [] q at = absurd (true≢false (sym at))
chosen-from (a ∷ atoms) (true ∷ bits) q at =
    elim (or_cases (eq_by_cmp atom_cmp q a) (occurs_in (chosen atoms bits) q) at) [
      | inl here ↦ (0, ap Some (sym (same_atom q a here)), refl)
      | inr later ↦ let rest = chosen-from atoms bits q later in (suc rest.0, rest.1, rest.2)
    ]
chosen-from (a ∷ atoms) (false ∷ bits) q at = let rest = chosen-from atoms bits q at in (suc rest.0, rest.1, rest.2)

got_first : (xs ys : List Atom) (k : ℕ) → k < length xs → slice_get (xs ++ ys) k ≡ slice_get xs k
got_first [] ys k below = absurd (omega arith)
got_first (x ∷ xs) ys zero below = refl
got_first (x ∷ xs) ys (suc k) below = got_first xs ys k (omega (arith, below))

-- the atoms of some numbers are those chosen by the set of the numbers
named-chosen : (named others : List Atom) (numbers : List ℕ) (q : Atom) → ((k : ℕ) → Contains numbers k → k < length named)
    → occurs_in (filter_map (slice_get named) numbers) q ≡ occurs_in (chosen (named ++ others) (set_of (length (named ++ others)) numbers)) q
named-chosen named others numbers q within =
    let atoms = named ++ others in
    let width = length (named ++ others) in
    both_ways (occurs_in (filter_map (slice_get named) numbers) q) (occurs_in (chosen atoms (set_of width numbers)) q)
    (λ at.
    let (k, among, named_so) = filter_map-Contains (slice_get named) numbers q (occurs_in-Contains (filter_map (slice_get named) numbers) q at) in
    let below = within k among in
    let there : slice_get atoms k ≡ Some q = got_first named others k below ∙ named_so in
    chosen-at atoms (set_of width numbers) k q there (has-set_of width k numbers false (slice_get_within atoms k q there) ∙ Contains-among numbers k among))
    (λ at.
    let (k, there, is_set) = chosen-from atoms (set_of width numbers) q at in
    let among = among-Contains numbers k (sym (has-set_of width k numbers false (slice_get_within atoms k q there)) ∙ is_set) in
    Contains-occurs_in (filter_map (slice_get named) numbers) q (Contains-filter_map (slice_get named) numbers k q among (sym (got_first named others k (within k among)) ∙ there)))

-- ---- the states of lines

rise-within : (count least : ℕ) (numbers : List ℕ) → rise count least numbers ≡ true → (k : ℕ) → Contains numbers k → k < count
rise-within count least [] rises k at = absurd (Contains-none k at)
rise-within count least (n ∷ rest) rises k at =
    let outer = and_parts (nat_le least n && nat_lt n count) (rise count (n + 1) rest) rises in
    elim (Contains-cases n rest k at) [
      | inl here ↦ omega (arith, here, ltb-true n count (and_parts (nat_le least n) (nat_lt n count) outer.0).1)
      | inr later ↦ rise-within count (n + 1) rest outer.1 k later
    ]

pub all_fluent : (task : Task) (atoms : List Atom) → AreFluent task atoms → All (λ (a : Atom). IsTrue (is_fluent task a.predicate)) atoms
all_fluent task atoms right = λ place d within. let a = get_or atoms place d in (and_parts (is_atom task a) (is_fluent task a.predicate) (right.fluent place d within)).1

module _ (task : Task) (c : Certificate) where
  -- where the certificate's atoms have the first numbers
  pub state_packed : (others : List Atom) (l : StateLine) → NamesAtoms c l → state_of_bits task (c.atoms ++ others) (set_of (length (c.atoms ++ others)) l.atoms) ≡ state_of_line task c l
  state_packed others l names =
      same_state _ _ (λ q.
      contains-from_list atoms_total (chosen (c.atoms ++ others) (set_of (length (c.atoms ++ others)) l.atoms) ++ static_atoms task) q
      ∙ occurs_in-append (chosen (c.atoms ++ others) (set_of (length (c.atoms ++ others)) l.atoms)) (static_atoms task) q
      ∙ ap (λ b. b || occurs_in (static_atoms task) q) (sym (named-chosen c.atoms others l.atoms q names))
      ∙ sym (occurs_in-append (filter_map (slice_get c.atoms) l.atoms) (static_atoms task) q)
      ∙ sym (contains-from_list atoms_total (filter_map (slice_get c.atoms) l.atoms ++ static_atoms task) q))

  -- two lines with one set list one state
  pub one_state : (width : ℕ) (l m : StateLine) → length c.atoms ≤ width → NamesAtoms c l → NamesAtoms c m → set_of width l.atoms ≡ set_of width m.atoms → state_of_line task c l ≡ state_of_line task c m
  one_state width l m enough names_l names_m same =
      let few : length (c.atoms ++ []) ≤ width = omega (arith, enough, length-append c.atoms []) in
      sym (state_packed [] l names_l)
      ∙ ap (state_of_bits task (c.atoms ++ [])) (same_sets (length (c.atoms ++ [])) l.atoms m.atoms (λ k below. same_among width l.atoms m.atoms same k (omega arith)))
      ∙ state_packed [] m names_m

  -- and so the other way, where the atoms are distinct and fluent
  module _ (right : AreFluent task c.atoms) where
    distinct : are_distinct c.atoms ≡ true
    distinct = distinct-from_pairs c.atoms right.distinct

    fluent : (q : Atom) → occurs_in c.atoms q ≡ true → is_fluent task q.predicate ≡ true
    fluent q at = All-contains (λ (a : Atom). IsTrue (is_fluent task a.predicate)) c.atoms q (all_fluent task c.atoms right) (occurs_in-Contains c.atoms q at)

    one_set-first : (l m : StateLine) → NamesAtoms c l → NamesAtoms c m → state_of_line task c l ≡ state_of_line task c m → set_of (length (c.atoms ++ [])) l.atoms ≡ set_of (length (c.atoms ++ [])) m.atoms
    one_set-first l m names_l names_m same =
        sym (unpacked l) ∙ ap (bits_of_state (c.atoms ++ [])) (state_packed [] l names_l ∙ same ∙ sym (state_packed [] m names_m)) ∙ unpacked m
      where
        whole : c.atoms ++ [] ≡ c.atoms
        whole = append-nil c.atoms

        unpacked : (n : StateLine) → bits_of_state (c.atoms ++ []) (state_of_bits task (c.atoms ++ []) (set_of (length (c.atoms ++ [])) n.atoms)) ≡ set_of (length (c.atoms ++ [])) n.atoms
        unpacked n =
            bits_of-packed_state (is_fluent task) task.init (c.atoms ++ []) (λ q at. fluent q (ap (λ l. occurs_in l q) (sym whole) ∙ at)) (ap are_distinct whole ∙ distinct)
            (set_of (length (c.atoms ++ [])) n.atoms) (length-set_of (length (c.atoms ++ [])) n.atoms)

    pub one_set : (width : ℕ) (l m : StateLine) → NamesAtoms c l → NamesAtoms c m → state_of_line task c l ≡ state_of_line task c m → set_of width l.atoms ≡ set_of width m.atoms
    one_set width l m names_l names_m same =
        same_sets width l.atoms m.atoms (λ k below.
        both_ways (is_among l.atoms k) (is_among m.atoms k) (λ at. across l m names_l (one_set-first l m names_l names_m same) k at) (λ at. across m l names_m (sym (one_set-first l m names_l names_m same)) k at))
      where
        across : (a b : StateLine) → NamesAtoms c a → set_of (length (c.atoms ++ [])) a.atoms ≡ set_of (length (c.atoms ++ [])) b.atoms → (k : ℕ) → is_among a.atoms k ≡ true → is_among b.atoms k ≡ true
        across a b names sets k at =
            let within : k < length (c.atoms ++ []) = omega (arith, names k (among-Contains a.atoms k at), length-append c.atoms []) in
            sym (same_among (length (c.atoms ++ [])) a.atoms b.atoms sets k within) ∙ at

-- ---- the numbers of a certificate's lines

pub names_atoms : (v : Version) (count : ℕ) (l : StateLine) → is_state_line v count l ≡ true → (k : ℕ) → Contains l.atoms k → k < count
names_atoms v count l is = rise-within count 0 l.atoms (and_parts (is_number l.cost && is_mark v l.mark) (rise count 0 l.atoms) is).1
