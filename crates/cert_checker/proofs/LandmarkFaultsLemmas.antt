-- What was found of each landmark value says which of them are fair, and which dead ends rest on one that is not dead-fair.
use Rattle.std.proofs.Common.{◌≡◌, ◌∙◌, ℕ, ◌+◌, ◌<◌, ◌≤◌, true, false, List, [], ◌∷◌, length, map, get_or, None, Option, Some, ap, refl, sym, subst, arith}
use Rattle.std.specs.Prelude.{◌&&◌, ◌||◌, All, Bool, Contains, IsTrue, nat_le, nat_lt, not, slice_get}
use Rattle.std.specs.List.{list_all}
use Rattle.std.proofs.lemmas.Bool.{and_parts, false≢true, leb-true, lt-ltb, ltb-true}
use Rattle.std.proofs.lemmas.List.{get_or-map, length-map}
use Rattle.std.proofs.lemmas.List.Elements.{All-contains_itself}
use Rattle.std.proofs.lemmas.Option.{get_or_from_slice_get, slice_get-get_or, slice_get_within}
use Rattle.model.specs.Task.{Task}
use Rattle.model.specs.NumberedAtoms.{numbered_atoms}
use Rattle.model.proofs.ListLemmas.{Contains-place, filter_map-Contains}
use Rattle.model.proofs.Tests.{passes_got}
use Rattle.lower_bounds.specs.TableFunctions.{is_among}
use Rattle.lower_bounds.specs.LandmarkFunctions.{LandmarkFunction, Zone}
use Rattle.lower_bounds.specs.LandmarkLines.{Share, functions_of as landmark_functions, is_value, is_zone, keep_limits, literal_count, most_entries, most_values, most_zones, share_count}
use Rattle.lower_bounds.specs.LandmarkLaws.{is_zone_over}
use Rattle.lower_bounds.specs.FairLandmarks.{IsDeadFair, IsFair}
use Rattle.landmarks.specs.declared.testing.Fairness.{Fairness}
use Rattle.landmarks.specs.declared.testing.Fairness.TheVariants.{Unfair}
use Rattle.landmarks.specs.Fairness.{AreFairness, is_dead_fair, is_unfair}
use Rattle.landmarks.proofs.FairnessLemmas.{dead-of, fair-of, undead-of, unfair-of}
use Rattle.certificate_definitions.specs.Evidence.{Basis, of_all, landmark, LineMark, expanded, cut, dead}
use Rattle.certificate_definitions.specs.Certificates.{Certificate, StateLine, AreLandmarksFair, dead_by, has_basis, has_landmarks, is_dead_by_landmark, keeps_limits, landmark_function, rise}
use Rattle.cert_checker.specs.LandmarkFaults.{IsFirstWhere, rests_on_another}
use Rattle.cert_checker.proofs.CertCheckerLemmas.{got_mapped, slice_get-map}
use Rattle.cert_checker.proofs.EvidenceLemmas.{function_of}
use Rattle.certificate.proofs.LimitsLemmas.{limits_of}

-- ---- the landmark value of a line

-- the mark is that of a dead end that rests on this value
resting : (mark : LineMark) (number : ℕ) → is_dead_by_landmark mark ≡ Some number → mark ≡ dead (landmark number)
resting expanded number is = absurd (cc is)
resting (cut basis rest) number is = absurd (cc is)
resting (dead of_all) number is = absurd (cc is)
resting (dead (landmark other)) number is = let same : other ≡ number = cc in ap (λ n. dead (landmark n)) same

module _ (c : Certificate) (keeps : IsTrue (keeps_limits c)) where
  -- there is the value that a line rests on
  basis_within : (place : ℕ) (l : StateLine) (number : ℕ) → slice_get c.lines place ≡ Some l → l.mark ≡ dead (landmark number) → number < length c.landmarks.values
  basis_within place l number at is =
      ltb-true number (length c.landmarks.values)
      (subst (λ mark. has_basis (length c.landmarks.values) mark ≡ true) is (passes_got (λ (l : StateLine). has_basis (length c.landmarks.values) l.mark) c.lines place l at (limits_of c keeps).bases))

  -- a number that a dead end rests on is that of a line
  line_of_number : (number : ℕ) → Contains (dead_by c) number → (place : ℕ) × (l : StateLine) × (slice_get c.lines place ≡ Some l) × (l.mark ≡ dead (landmark number))
  line_of_number number among =
      let (l, there, is) = filter_map-Contains (λ (l : StateLine). is_dead_by_landmark l.mark) c.lines number among in
      let (place, at) = Contains-place c.lines l there in
      (place, l, at, resting l.mark number is)

  -- without landmark values nothing is asked
  pub none_to_test : (task : Task) → length c.landmarks.values ≡ 0 → AreLandmarksFair task c
  none_to_test task none = record {
    values = λ k d below. absurd (omega (arith, below, length-map c.landmarks.values (function_of c.tables c.landmarks), none));
    dead_ends = λ k d below.
        let number = get_or (dead_by c) k d in
        let (place, l, at, is) = line_of_number number (All-contains_itself (dead_by c) k d below) in
        absurd (omega (arith, basis_within place l number at is, none));
  }

  -- ---- what was found

  module _ (task : Task) (found : List Fairness) (judged : AreFairness task (numbered_atoms task c.atoms) c.tables c.landmarks found) where
    abbrev functions : List LandmarkFunction
    functions = landmark_functions c.tables c.landmarks

    -- the value with this number
    abbrev function_at : ℕ → LandmarkFunction
    function_at number = function_of c.tables c.landmarks (get_or c.landmarks.values number [])

    as_many : length found ≡ length c.landmarks.values
    as_many = judged.as_many

    found_at : (k : ℕ) → k < length c.landmarks.values → slice_get found k ≡ Some (get_or found k Unfair)
    found_at k below = slice_get-get_or found k Unfair (omega (arith, below, as_many))

    function_is : (k : ℕ) (h : LandmarkFunction) → slice_get functions k ≡ Some h → (k < length c.landmarks.values) × (function_at k ≡ h)
    function_is k h at =
        let (shares, there, is) = got_mapped (function_of c.tables c.landmarks) c.landmarks.values k h at in
        (slice_get_within c.landmarks.values k shares there, ap (function_of c.tables c.landmarks) (get_or_from_slice_get c.landmarks.values k shares [] there) ∙ is)

    function_there : (k : ℕ) → k < length c.landmarks.values → slice_get functions k ≡ Some (function_at k)
    function_there k below = slice_get-map (function_of c.tables c.landmarks) c.landmarks.values k (get_or c.landmarks.values k []) (slice_get-get_or c.landmarks.values k [] below)

    fair_at : (k : ℕ) (f : Fairness) → slice_get found k ≡ Some f → is_unfair f ≡ false → IsFair task (numbered_atoms task c.atoms) (function_at k)
    fair_at k f at isnt = fair-of task (numbered_atoms task c.atoms) (function_at k) f isnt (judged.each k f at)

    -- values before the first that is not fair are fair
    pub fair_before : (place : ℕ) → ((k : ℕ) (f : Fairness) → k < place → slice_get found k ≡ Some f → is_unfair f ≡ false) → (k : ℕ) (h : LandmarkFunction) → k < place → slice_get functions k ≡ Some h
        → IsFair task (numbered_atoms task c.atoms) h
    fair_before place before k h below at =
        let (within, is) = function_is k h at in
        subst (IsFair task (numbered_atoms task c.atoms)) is (fair_at k (get_or found k Unfair) (found_at k within) (before k (get_or found k Unfair) below (found_at k within)))

    pub fair_all : IsFirstWhere is_unfair found None → All (IsFair task (numbered_atoms task c.atoms)) functions
    fair_all none k d below =
        let within : k < length c.landmarks.values = omega (arith, below, length-map c.landmarks.values (function_of c.tables c.landmarks)) in
        let is : get_or functions k d ≡ function_at k = get_or_from_slice_get functions k (function_at k) d (function_there k within) in
        subst (IsFair task (numbered_atoms task c.atoms)) (sym is) (fair_at k (get_or found k Unfair) (found_at k within) (none k (get_or found k Unfair) (found_at k within)))

    -- and that one is not
    pub unfair_at : (k : ℕ) → IsFirstWhere is_unfair found (Some k) → (h : LandmarkFunction) × (slice_get functions k ≡ Some h) × ¬ IsFair task (numbered_atoms task c.atoms) h
    unfair_at k (f, at, is, before) =
        let within : k < length c.landmarks.values = omega (arith, slice_get_within found k f at, as_many) in
        (function_at k, function_there k within, unfair-of task (numbered_atoms task c.atoms) (function_at k) f is (judged.each k f at))

    -- ---- dead ends

    number_is : (number : ℕ) → number < length c.landmarks.values → landmark_function c number ≡ function_at number
    number_is number within = get_or_from_slice_get functions number (function_at number) (record { landmarks = []; tables = c.tables }) (function_there number within)

    dead_fair_at : (number : ℕ) → number < length c.landmarks.values → rests_on_another found (dead (landmark number)) ≡ false → IsDeadFair task (numbered_atoms task c.atoms) (landmark_function c number)
    dead_fair_at number within isnt =
        let f = get_or found number Unfair in
        subst (IsDeadFair task (numbered_atoms task c.atoms)) (sym (number_is number within))
        (dead-of task (numbered_atoms task c.atoms) (function_at number) f (not_false (is_dead_fair f) isnt) (judged.each number f (found_at number within)))
      where
        not_false : (b : Bool) → not b ≡ false → b ≡ true
        not_false true is = refl
        not_false false is = sym is

    not_dead_fair_at : (number : ℕ) → number < length c.landmarks.values → rests_on_another found (dead (landmark number)) ≡ true → ¬ IsDeadFair task (numbered_atoms task c.atoms) (landmark_function c number)
    not_dead_fair_at number within is =
        let f = get_or found number Unfair in
        subst (λ h. ¬ IsDeadFair task (numbered_atoms task c.atoms) h) (sym (number_is number within))
        (undead-of task (numbered_atoms task c.atoms) (function_at number) f (not_true (is_dead_fair f) is) (judged.each number f (found_at number within)))
      where
        not_true : (b : Bool) → not b ≡ true → b ≡ false
        not_true true is = sym is
        not_true false is = refl

    -- lines before the first that rests on another rest on dead-fair ones
    pub dead_fair_before : (place : ℕ) → ((k : ℕ) (l : StateLine) → k < place → slice_get c.lines k ≡ Some l → rests_on_another found l.mark ≡ false) → (k : ℕ) (l : StateLine) (number : ℕ) → k < place → slice_get c.lines k ≡ Some l
        → l.mark ≡ dead (landmark number) → IsDeadFair task (numbered_atoms task c.atoms) (landmark_function c number)
    dead_fair_before place before k l number below at is =
        dead_fair_at number (basis_within k l number at is) (subst (λ mark. rests_on_another found mark ≡ false) is (before k l below at))

    pub landmarks_fair : IsFirstWhere is_unfair found None → IsFirstWhere (λ (l : StateLine). rests_on_another found l.mark) c.lines None → AreLandmarksFair task c
    landmarks_fair none none_dead = record {
      values = fair_all none;
      dead_ends = λ k d below.
          let number = get_or (dead_by c) k d in
          let (place, l, at, is) = line_of_number number (All-contains_itself (dead_by c) k d below) in
          dead_fair_at number (basis_within place l number at is) (subst (λ mark. rests_on_another found mark ≡ false) is (none_dead place l at));
    }

    -- and that one does not
    pub not_dead_at : (place : ℕ) → IsFirstWhere (λ (l : StateLine). rests_on_another found l.mark) c.lines (Some place)
        → (l : StateLine) × (number : ℕ) × (slice_get c.lines place ≡ Some l) × (l.mark ≡ dead (landmark number)) × ¬ IsDeadFair task (numbered_atoms task c.atoms) (landmark_function c number)
    not_dead_at place (l, at, is, before) =
        let (number, marked) = by_mark l.mark refl is in
        (l, number, at, marked, not_dead_fair_at number (basis_within place l number at marked) (subst (λ mark. rests_on_another found mark ≡ true) marked is))
      where
        by_mark : (mark : LineMark) → l.mark ≡ mark → rests_on_another found mark ≡ true → (number : ℕ) × (l.mark ≡ dead (landmark number))
        by_mark expanded same rests = absurd (false≢true rests)
        by_mark (cut basis rest) same rests = absurd (false≢true rests)
        by_mark (dead of_all) same rests = absurd (false≢true rests)
        by_mark (dead (landmark number)) same rests = (number, same)

-- ---- limits

record KeptParts (c : Certificate) : Type 0 where
  zones_each : list_all (is_zone (length c.atoms)) c.landmarks.zones ≡ true
  shares_few : nat_le (share_count c.landmarks.values) most_entries ≡ true

pub landmarks_keep_limits : (c : Certificate) → IsTrue (keeps_limits c) → IsTrue (keep_limits (length c.atoms) c.landmarks)
landmarks_keep_limits c keeps =
    (and_parts (has_landmarks c.version || (nat_le (length c.landmarks.zones) 0 && nat_le (length c.landmarks.values) 0)) (keep_limits (length c.atoms) c.landmarks) (limits_of c keeps).landmarks).1

kept_parts : (c : Certificate) → IsTrue (keeps_limits c) → KeptParts c
kept_parts c keeps =
    let l = c.landmarks in
    let zones_are = list_all (is_zone (length c.atoms)) l.zones && nat_le (length l.zones) most_zones in
    let values_are = list_all (is_value (length l.zones)) l.values && nat_le (length l.values) most_values in
    let (zones, values) = and_parts (zones_are && nat_le (literal_count l.zones) most_entries) (values_are && nat_le (share_count l.values) most_entries) (landmarks_keep_limits c keeps) in
    record {
      zones_each = (and_parts (list_all (is_zone (length c.atoms)) l.zones) (nat_le (length l.zones) most_zones) (and_parts zones_are (nat_le (literal_count l.zones) most_entries) zones).0).0;
      shares_few = (and_parts values_are (nat_le (share_count l.values) most_entries) values).1;
    }

-- the zones are over numbered atoms
pub zones_over : (c : Certificate) (width : ℕ) → IsTrue (keeps_limits c) → length c.atoms ≤ width → IsTrue (list_all (is_zone_over width) c.landmarks.zones)
zones_over c width keeps after = all_over (length c.atoms) width after c.landmarks.zones (kept_parts c keeps).zones_each
  where
    numbers_below : (count most least : ℕ) → count ≤ most → (numbers : List ℕ) → rise count least numbers ≡ true → list_all (λ number. nat_lt number most) numbers ≡ true
    numbers_below count most least few [] rises = refl
    numbers_below count most least few (n ∷ numbers) rises =
        let (here, more) = and_parts (nat_le least n && nat_lt n count) (rise count (n + 1) numbers) rises in
        let below = ltb-true n count (and_parts (nat_le least n) (nat_lt n count) here).1 in
        λ i. lt-ltb n most (omega (arith, below, few)) i && numbers_below count most (n + 1) few numbers more i

    all_over : (count most : ℕ) → count ≤ most → (zones : List Zone) → list_all (is_zone count) zones ≡ true → list_all (is_zone_over most) zones ≡ true
    all_over count most few [] all = refl
    all_over count most few (z ∷ zones) all =
        let (here, more) = and_parts (is_zone count z) (list_all (is_zone count) zones) all in
        let apart = list_all (λ number. not (is_among z.atoms number)) z.negated in
        let some = nat_le 1 (length z.atoms + length z.negated) in
        let both = (and_parts (rise count 0 z.atoms && rise count 0 z.negated) some (and_parts (rise count 0 z.atoms && rise count 0 z.negated && some) apart here).0).0 in
        let (atoms, negated) = and_parts (rise count 0 z.atoms) (rise count 0 z.negated) both in
        λ i. (numbers_below count most 0 few z.atoms atoms i && numbers_below count most 0 few z.negated negated i) && all_over count most few zones more i

-- there are not too many shares
pub few_shares : (c : Certificate) → IsTrue (keeps_limits c) → share_count c.landmarks.values ≤ 67108864
few_shares c keeps = leb-true (share_count c.landmarks.values) most_entries (kept_parts c keeps).shares_few
