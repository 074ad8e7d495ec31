-- The cheapest listed state that is alike, as it is found by its representative; without exchanges, as it is found itself.
use Rattle.std.proofs.Common.{◌≡◌, ◌∙◌, ℕ, ◌+◌, ◌<◌, ◌≤◌, Bool, List, [], ◌∷◌, ◌++◌, length, map, Option, None, Some, refl, sym, ap, subst, arith}
use Rattle.std.specs.Prelude.{Contains, slice_get, slice_set, MatchOption, ◌↔◌}
use Rattle.std.specs.FinSet.{contains}
use Rattle.std.proofs.lemmas.List.{length-map}
use Rattle.std.proofs.lemmas.Option.{same_Some, slice_get_within}
use Rattle.packed_state.specs.declared.pooled.PooledStore.{PooledStore}
use Rattle.packed_state.specs.PooledView.{pooled_states, pooled_width}
use Rattle.symmetries.specs.declared.representatives.Representatives.{Representatives}
use Rattle.certificate.specs.declared.cert.Cert.{Cert}
use Rattle.certificate.specs.Certificate.{certificate_of, store_in}
use Rattle.model.specs.Task.{Atom, Task}
use Rattle.model.specs.Meaning.{State}
use Rattle.model.specs.Claims.{Line}
use Rattle.model.specs.Grounding.{state_of_bits, bits_of_state}
use Rattle.model.proofs.ListLemmas.{Contains-got, Contains-place}
use Rattle.symmetries_definitions.specs.Exchanges.{Exchange}
use Rattle.symmetries_definitions.specs.Orbits.{ArePackedAlike, packed_representative, representative}
use Rattle.symmetries_definitions.proofs.PackedOrbits.{packed_states_are_alike}
use Rattle.certificate_definitions.specs.Certificates.{Certificate, StateLine, lines_of, AreAlikeFor}
use Rattle.certificate_definitions.specs.CertificateRefusals.{IsListed}
use Rattle.certificate_definitions.proofs.WithoutExchanges.{alike_alone, alike_itself}
use Rattle.cert_checker.specs.declared.checker.classes.Classes.{Classes}
use Rattle.cert_checker.specs.CheckedLines.{AreSymmetries, IsCheapestAt, IsLeastCost}
use Rattle.cert_checker.specs.CheapestPlaces.{AreCheapest, costs_of}
use Rattle.cert_checker.specs.Classified.{key_by, keys_in, AreOfOneWidth, AreCheapestUpTo, IsKeptFor, AreClassesOf}
use Rattle.cert_checker.specs.PackedLines.{packed_line, IsPackedListing}
use Rattle.cert_checker.specs.Represented.{Represents}
use Rattle.cert_checker.proofs.CheapestLemmas.{of_new_key, of_known_key, of_cheaper_state}
use Rattle.cert_checker.proofs.CertCheckerLemmas.{entry, got_mapped, slice_get-map}
use Rattle.cert_checker.proofs.PackedLinesLemmas.{all_fluent, length-set_of}
use Rattle.cert_checker.proofs.PackedListingLemmas.{line_state, listed_apart, packs, place_within, set_there}
use Rattle.cert_checker.proofs.RefusalsLemmas.{listed_once}
use Rattle.cert_checker.proofs.SymmetriesLemmas.{all_keep_atoms, all_symmetries, within}

-- a representative is as long as the atoms are many
pub length-representative : (task : Task) (atoms : List Atom) (exchanges : List Exchange) (bits : List Bool) → length (packed_representative task atoms exchanges bits) ≡ length atoms
length-representative task atoms exchanges bits = length-map atoms (contains (representative atoms exchanges (state_of_bits task atoms bits)))

pub none_of : {X Y : Type 0} (f : X → Y) (xs : List X) → length xs ≡ 0 → map f xs ≡ []
none_of f [] is = refl
none_of f (x ∷ xs) is = absurd (omega (arith, is))

module _ (task : Task) (atoms : List Atom) (c : Certificate) (store : PooledStore) (listed : IsPackedListing task atoms c store) where
  -- ---- lines and their sets

  -- the line at this place lists the state of this set
  record HasSet (place : ℕ) (line : Line State) (set : List Bool) : Type 0 where
    below : place < length c.lines
    there : slice_get (lines_of task c) place ≡ Some line
    stored : slice_get (pooled_states store) place ≡ Some set
    state : state_of_bits task atoms set ≡ line.state
    cost : slice_get (costs_of c) place ≡ Some line.cost
    long : length set ≡ length atoms

  has_set : (place : ℕ) (l : StateLine) → slice_get c.lines place ≡ Some l → HasSet place (entry task c l) (packed_line (length atoms) l)
  has_set place l at = record {
    below = slice_get_within c.lines place l at;
    there = slice_get-map (entry task c) c.lines place l at;
    stored = set_there c (length atoms) store listed.holds place l at;
    state = line_state task atoms c store listed l (Contains-got c.lines place l at);
    cost = slice_get-map (λ (l : StateLine). l.cost) c.lines place l at;
    long = length-set_of (length atoms) l.atoms;
  }

  set_at : (place : ℕ) → place < length c.lines → (line : Line State) × (set : List Bool) × HasSet place line set
  set_at place below =
      let (l, at) = within c.lines place below in
      (entry task c l, packed_line (length atoms) l, has_set place l at)

  set_of_line : (line : Line State) → Contains (lines_of task c) line → (place : ℕ) × (set : List Bool) × HasSet place line set
  set_of_line line among =
      let (place, at) = Contains-place (lines_of task c) line among in
      let (l, at_l, is) = got_mapped (entry task c) c.lines place line at in
      (place, packed_line (length atoms) l, subst (λ line. HasSet place line (packed_line (length atoms) l)) is (has_set place l at_l))

  -- what is found at a place is listed at the cost that the line there has
  pub cost_there : (alike : State → State → Type 0) (s : State) (place cost : ℕ) → IsCheapestAt alike (lines_of task c) s place → slice_get (costs_of c) place ≡ Some cost
      → IsLeastCost alike (lines_of task c) s cost
  cost_there alike s place cost cheapest costs_at =
      let (l, at, is) = got_mapped (entry task c) c.lines place cheapest.line cheapest.listed in (
        place,
        cheapest,
        ap (λ (line : Line State). line.cost) (sym is) ∙ same_Some l.cost cost (sym (slice_get-map (λ (l : StateLine). l.cost) c.lines place l at) ∙ costs_at),
      )

  module _ (bits : List Bool) where
    abbrev here : State
    here = state_of_bits task atoms bits

    abbrev Cheapest : ℕ → Type 0
    Cheapest = IsCheapestAt (AreAlikeFor task c) (lines_of task c) here

    abbrev NoneAlike : Type 0
    NoneAlike = ¬ IsListed (AreAlikeFor task c) (lines_of task c) here

    -- ---- by representatives

    module _ (symmetric : AreSymmetries task c) where
      abbrev key : List Bool → List Bool
      key = packed_representative task atoms c.exchanges

      keys_show : (set : List Bool) → (key set ≡ key bits) ↔ AreAlikeFor task c (state_of_bits task atoms set) here
      keys_show set =
          subst (λ those. ArePackedAlike task those c.exchanges set bits ↔ AreAlikeFor task c (state_of_bits task those set) (state_of_bits task those bits)) (sym listed.numbered)
          (packed_states_are_alike task c.atoms c.exchanges (all_fluent task c.atoms listed.fluent) (all_symmetries task c symmetric) (all_keep_atoms task c symmetric) set bits)

      module _ (keys : List (List Bool)) (places : List ℕ) (cheapest : AreCheapest key (pooled_states store) (costs_of c) (length c.lines) keys places) where
        found_cheapest : (at place : ℕ) → slice_get keys at ≡ Some (key bits) → slice_get places at ≡ Some place → Cheapest place
        found_cheapest at place has there =
            let (line, set, first) = set_at place (cheapest.within at place there) in
            record {
              line = line;
              listed = first.there;
              is_alike = subst (λ s. AreAlikeFor task c s here) first.state ((keys_show set).0 (cheapest.of_the_key at place set (key bits) has there first.stored));
              least = λ other among is_alike.
                  let (other_place, other_set, second) = set_of_line other among in
                  let same = (keys_show other_set).1 (subst (λ s. AreAlikeFor task c s here) (sym second.state) is_alike) in
                  cheapest.least at place other_place other_set other.cost line.cost second.below (has ∙ ap Some (sym same)) there second.stored second.cost first.cost;
            }

        none_found : ¬ Contains keys (key bits) → NoneAlike
        none_found unknown (other, among, is_alike) =
            let (place, set, second) = set_of_line other among in
            let same = (keys_show set).1 (subst (λ s. AreAlikeFor task c s here) (sym second.state) is_alike) in
            cheapest.known place set second.below second.stored (λ known. unknown (subst (Contains keys) same known))

      pub by_classes : (classes : Classes) → AreClassesOf task atoms c store classes → (o : Option ℕ)
          → MatchOption o (¬ Contains (keys_in classes) (key_by classes bits)) (IsKeptFor classes (key_by classes bits)) → MatchOption o NoneAlike Cheapest
      by_classes classes made None unknown = none_found (keys_in classes) classes.cheapest.items made.cheapest (subst (λ k. ¬ Contains (keys_in classes) k) (made.represents.same bits) unknown)
      by_classes classes made (Some place) (at, has, there) =
          found_cheapest (keys_in classes) classes.cheapest.items made.cheapest at place (has ∙ ap Some (made.represents.same bits)) there

    -- ---- without exchanges

    module _ (none : c.exchanges ≡ []) (long : length bits ≡ length atoms) where
      pub by_itself : (o : Option ℕ) → MatchOption o (¬ Contains (pooled_states store) bits) (λ place. slice_get (pooled_states store) place ≡ Some bits) → MatchOption o NoneAlike Cheapest
      by_itself None unknown =
          λ listed_there.
          let (other, among, is_alike) = listed_there in
          let (place, set, second) = set_of_line other among in
          let same = second.state ∙ alike_alone task c none other.state here is_alike in
          let pack = packs task atoms c store listed in
          unknown (subst (Contains (pooled_states store)) (sym (pack.one_packed set second.long) ∙ ap (bits_of_state atoms) same ∙ pack.one_packed bits long) (Contains-got (pooled_states store) place set second.stored))
      by_itself (Some place) there =
          let (line, set, first) = set_at place (place_within task atoms c store listed place bits there) in
          let same : set ≡ bits = same_Some set bits (sym first.stored ∙ there) in
          let state : here ≡ line.state = ap (state_of_bits task atoms) (sym same) ∙ first.state in
          record {
            line = line;
            listed = first.there;
            is_alike = alike_itself task c line.state here (sym state);
            least = λ other among is_alike.
                let one = listed_once (lines_of task c) place line other (listed_apart task atoms c store listed) first.there among (sym state ∙ sym (alike_alone task c none other.state here is_alike)) in
                omega (arith, ap (λ (l : Line State). l.cost) one);
          }

-- ---- classes that were made

pub made_of : (task : Task) (atoms : List Atom) (cert : Cert) (exchanges : List Exchange) (representatives : Representatives) (classes : Classes)
    → exchanges ≡ (certificate_of cert).exchanges → pooled_width (store_in cert) ≡ length atoms → Represents task atoms exchanges representatives
    → classes.cert.now ≡ cert → classes.representatives ≡ representatives → AreOfOneWidth classes → AreCheapestUpTo classes (length (certificate_of cert).lines)
    → AreClassesOf task atoms (certificate_of cert) (store_in cert) classes
made_of task atoms cert exchanges representatives classes are width represents same_cert same_representatives one_width cheapest = record {
  represents = for_cert;
  width = one_width.keys ∙ ap (λ (cert : Cert). pooled_width (store_in cert)) same_cert ∙ width;
  cheapest =
      subst (λ key. AreCheapest key (pooled_states (store_in cert)) (costs_of (certificate_of cert)) (length (certificate_of cert).lines) (keys_in classes) classes.cheapest.items) (λ i bits. for_cert.same bits i)
      (subst (λ (cert_now : Cert). AreCheapest (key_by classes) (pooled_states (store_in cert_now)) (costs_of (certificate_of cert_now)) (length (certificate_of cert).lines) (keys_in classes) classes.cheapest.items) same_cert cheapest);
}
  where
    for_cert : Represents task atoms (certificate_of cert).exchanges classes.representatives
    for_cert = subst (λ e. Represents task atoms e classes.representatives) are (subst (Represents task atoms exchanges) (sym same_representatives) represents)

-- ---- one state more

module _ (old : Classes) (place : ℕ) (bits key : List Bool) (before : AreCheapestUpTo old place) (here : slice_get (pooled_states (store_in old.cert.now)) place ≡ Some bits) (is_key : key ≡ key_by old bits)
    (new_keys : List (List Bool)) where
  abbrev states : List (List Bool)
  states = pooled_states (store_in old.cert.now)

  abbrev costs : List ℕ
  costs = costs_of (certificate_of old.cert.now)

  abbrev CheapestNow : List ℕ → Type 0
  CheapestNow = AreCheapest (key_by old) states costs (place + 1) new_keys

  pub taken_new : ¬ Contains (keys_in old) key → new_keys ≡ keys_in old ++ key ∷ [] → CheapestNow (old.cheapest.items ++ place ∷ [])
  taken_new absent are =
      subst (λ keys. AreCheapest (key_by old) states costs (place + 1) keys (old.cheapest.items ++ place ∷ [])) (ap (λ k. keys_in old ++ k ∷ []) (sym is_key) ∙ sym are)
      (of_new_key (key_by old) states costs place (keys_in old) old.cheapest.items before bits here (subst (λ k. ¬ Contains (keys_in old) k) is_key absent))

  module _ (at known cost lowest : ℕ) (key_there : slice_get (keys_in old) at ≡ Some key) (place_there : slice_get old.cheapest.items at ≡ Some known) (cost_here : slice_get costs place ≡ Some cost)
      (cost_known : slice_get costs known ≡ Some lowest) (are : new_keys ≡ keys_in old) where
    pub taken_known : lowest ≤ cost → CheapestNow old.cheapest.items
    taken_known dearer =
        subst (λ keys. AreCheapest (key_by old) states costs (place + 1) keys old.cheapest.items) (sym are)
        (of_known_key (key_by old) states costs place (keys_in old) old.cheapest.items before bits here old.keys.pooled.stored.distinct at known cost lowest (key_there ∙ ap Some is_key) place_there cost_here cost_known dearer)

    pub taken_cheaper : cost < lowest → CheapestNow (slice_set old.cheapest.items at place)
    taken_cheaper cheaper =
        subst (λ keys. AreCheapest (key_by old) states costs (place + 1) keys (slice_set old.cheapest.items at place)) (sym are)
        (of_cheaper_state (key_by old) states costs place (keys_in old) old.cheapest.items before bits here old.keys.pooled.stored.distinct at known cost lowest (key_there ∙ ap Some is_key) place_there cost_here cost_known cheaper)
