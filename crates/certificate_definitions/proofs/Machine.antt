-- The state of a reader after some lines determines their content.
use Rattle.std.proofs.Common.{◌≡◌, ℕ, suc, ◌+◌, ◌<◌, ◌≤◌, Bool, true, false, List, [], ◌∷◌, ◌++◌, map, length, Option, None, Some, refl, sym, ap, ◌∙◌, subst, append_assoc, append-nil, length-append, arith}
use Rattle.std.specs.Prelude.{◌&&◌, ◌==◌, nat_le, nat_lt, ℤ, pos, IsTrue}
use Rattle.std.specs.List.{list_all}
use Rattle.std.specs.Option.{option_and_then}
use Rattle.std.proofs.lemmas.Bool.{and_parts, eqb-true, leb-true, le-leb, ltb-true, lt-ltb}
use Rattle.std.proofs.lemmas.Bool.Decides.{nat_tests}
use Rattle.std.proofs.lemmas.List.{map-append}
use Rattle.std.proofs.lemmas.List.Folds.{list_all-append, list_all-map}
use Rattle.model.specs.Claims.{Claim, none}
use Rattle.certificate_definitions.specs.Certificates.{Version, one, two, three, four, StateLine, has_basis, is_number, is_claim}
use Rattle.certificate_definitions.specs.Parts.{Part, PartCounts, no_parts, how_many, counted, may_follow, has_room, are_in_order, counts_after}
use Rattle.certificate_definitions.specs.CertificateText.{WeightedAtom, NamedCertificate, TextLine, version, claims, constant, swapped, atom, part, listed, last, Format, is_line, format_of, most_swaps, most_atoms, most_states, text_lines, keeps_text_limits, AreWhole, BeginCertificate, Beginning, head_lines, format_in}
use Rattle.certificate_definitions.specs.CertificateMachine.{Body, CertificatePlace, at_version, at_claim, at_constant, in_body, ended, no_format, no_body, swap_more, atom_more, part_more, state_more, swap_follows, atom_follows, part_follows, state_follows, only_if, next_place, place_from, place_after}
use Rattle.certificate_definitions.proofs.Beginnings.{body_lines}
use Rattle.certificate_definitions.proofs.PartLemmas.{counts_more, in_order_more, none_yet}

-- ---- what comes before a state

abbrev pub body_of : Beginning → Body
body_of g = record { format = format_in g; swaps = length g.swaps; parts = counts_after no_parts g.parts; states = length g.states }

-- the first lines are within the limits
pub record Keeps (g : Beginning) : Type 0 where
  pub claim_is : IsTrue (is_claim g.claim)
  pub constants_are : IsTrue (is_line (format_in g) (constant g.constants))
  pub swaps_are : IsTrue (list_all (λ names. is_line (format_in g) (swapped names)) g.swaps)
  pub atoms_are : IsTrue (list_all (λ a. is_line (format_in g) (atom a)) g.atoms)
  pub parts_are : IsTrue (list_all (λ p. is_line (format_in g) (part p)) g.parts)
  pub states_are : IsTrue (list_all (λ l. is_line (format_in g) (listed l)) g.states)
  pub in_order : IsTrue (are_in_order no_parts g.parts)
  pub few_swaps : length g.swaps ≤ most_swaps
  pub few_atoms : length g.atoms ≤ most_atoms
  pub few_states : length g.states ≤ most_states
  pub bases_given : IsTrue (list_all (λ (l : StateLine). has_basis (counts_after no_parts g.parts).values l.mark) g.states)

pub record IsBody (b : Body) (lines : List TextLine) : Type 0 where
  pub beginning : Beginning
  pub keeps : Keeps beginning
  pub body_is : body_of beginning ≡ b
  pub lines_are : lines ≡ head_lines beginning

abbrev pub ComesBefore : CertificatePlace → List TextLine → Type 0
ComesBefore at_version lines = lines ≡ []
ComesBefore (at_claim v) lines = lines ≡ version v ∷ []
ComesBefore (at_constant v) lines = (claim : Claim) × IsTrue (is_claim claim) × (lines ≡ version v ∷ claims claim ∷ [])
ComesBefore (in_body b) lines = IsBody b lines
ComesBefore ended lines = AreWhole lines

-- ---- one more line

pub only_where : (holds : Bool) (place next : CertificatePlace) → only_if holds place ≡ Some next → (holds ≡ true) × (place ≡ next)
only_where true place next same = (refl, cc same)
only_where false place next same = absurd (cc same)

pub place_same : (p q : CertificatePlace) → ◌≡◌ {A = Option CertificatePlace} (Some p) (Some q) → p ≡ q
place_same p q same = cc

pub never : {A : Type 0} (place : CertificatePlace) → ◌≡◌ {A = Option CertificatePlace} None (Some place) → A
never place same = absurd (cc same)

all_more : {X : Type 0} (test : X → Bool) (xs : List X) (x : X) → list_all test xs ≡ true → test x ≡ true → list_all test (xs ++ x ∷ []) ≡ true
all_more test [] x all is = ap (λ b. b && true) is
all_more test (y ∷ xs) x all is =
    let (here, more) = and_parts (test y) (list_all test xs) all in
    ap (λ b. b && list_all test (xs ++ x ∷ [])) here ∙ all_more test xs x more is

one_longer : {X : Type 0} (xs : List X) (x : X) → length (xs ++ x ∷ []) ≡ length xs + 1
one_longer xs x = omega (arith, length-append xs (x ∷ []))

pub no_states : (states : List StateLine) → length states ≡ 0 → states ≡ []
no_states [] empty = refl
no_states (l ∷ states) empty = absurd (omega (arith, empty))

pub no_atoms : (atoms : List WeightedAtom) → length atoms ≡ 0 → atoms ≡ []
no_atoms [] empty = refl
no_atoms (a ∷ atoms) empty = absurd (omega (arith, empty))

both_true : (a b : Bool) → a ≡ true → b ≡ true → a && b ≡ true
both_true a b x y = λ i. x i && y i

-- ---- one more line of a body

module _ (g : Beginning) (keeps : Keeps g) where
  -- the prefix with other atoms, parts or states
  abbrev with_parts : List WeightedAtom → List Part → List StateLine → Beginning
  with_parts atoms parts states = record { version = g.version; claim = g.claim; constants = g.constants; swaps = g.swaps; atoms = atoms; parts = parts; states = states }

  -- the exchanges and the atoms
  abbrev fronts : List TextLine
  fronts = map swapped g.swaps ++ map atom g.atoms

  abbrev first_three : List TextLine → List TextLine
  first_three lines = version g.version ∷ claims g.claim ∷ constant g.constants ∷ lines

  with_atom : (a : WeightedAtom) → g.parts ≡ [] → g.states ≡ [] → length g.atoms < most_atoms → is_line (format_in g) (atom a) ≡ true
      → IsBody (atom_more (body_of g)) (head_lines g ++ atom a ∷ [])
  with_atom a none_before no_states below is =
      let atoms : List WeightedAtom = g.atoms ++ a ∷ [] in
      let format : Format = format_in (with_parts atoms [] []) in
      record {
        beginning = with_parts atoms g.parts g.states;
        keeps = record {
          claim_is = keeps.claim_is;
          constants_are = keeps.constants_are;
          swaps_are = keeps.swaps_are;
          atoms_are = all_more (λ a. is_line (format_in g) (atom a)) g.atoms a keeps.atoms_are is;
          parts_are = ap (list_all (λ p. is_line format (part p))) none_before;
          states_are = ap (list_all (λ l. is_line format (listed l))) no_states;
          in_order = keeps.in_order;
          few_swaps = keeps.few_swaps;
          few_atoms = omega (arith, below, one_longer g.atoms a);
          few_states = keeps.few_states;
          bases_given = keeps.bases_given;
        };
        body_is = (λ i. record { format = record { version = g.version; weights = length g.constants; atoms = one_longer g.atoms a i }; swaps = length g.swaps; parts = counts_after no_parts g.parts; states = length g.states });
        lines_are =
            (λ i. first_three (body_lines g.swaps g.atoms (none_before i) (no_states i) ++ atom a ∷ []))
            ∙ ap (λ lines. first_three (lines ++ atom a ∷ [])) (append-nil ((map swapped g.swaps ++ map atom g.atoms) ++ []) ∙ append-nil (map swapped g.swaps ++ map atom g.atoms))
            ∙ ap first_three (append_assoc (map swapped g.swaps) (map atom g.atoms) (atom a ∷ []) ∙ ap (λ lines. map swapped g.swaps ++ lines) (sym (map-append atom g.atoms (a ∷ [])))
            ∙ sym (append-nil (map swapped g.swaps ++ map atom atoms)) ∙ sym (append-nil ((map swapped g.swaps ++ map atom atoms) ++ [])))
            ∙ (λ i. first_three (body_lines g.swaps atoms (sym none_before i) (sym no_states i)));
      }

  with_swap : (names : List (List ℕ)) → g.atoms ≡ [] → g.parts ≡ [] → g.states ≡ [] → length g.swaps < most_swaps → is_line (format_in g) (swapped names) ≡ true
      → IsBody (swap_more (body_of g)) (head_lines g ++ swapped names ∷ [])
  with_swap names no_atoms none_before no_states below is =
      let swaps : List (List (List ℕ)) = g.swaps ++ names ∷ [] in
      record {
        beginning = record { version = g.version; claim = g.claim; constants = g.constants; swaps = swaps; atoms = g.atoms; parts = g.parts; states = g.states };
        keeps = record {
          claim_is = keeps.claim_is;
          constants_are = keeps.constants_are;
          swaps_are = all_more (λ names. is_line (format_in g) (swapped names)) g.swaps names keeps.swaps_are is;
          atoms_are = keeps.atoms_are;
          parts_are = keeps.parts_are;
          states_are = keeps.states_are;
          in_order = keeps.in_order;
          few_swaps = omega (arith, below, one_longer g.swaps names);
          few_atoms = keeps.few_atoms;
          few_states = keeps.few_states;
          bases_given = keeps.bases_given;
        };
        body_is = (λ i. record { format = format_in g; swaps = one_longer g.swaps names i; parts = counts_after no_parts g.parts; states = length g.states });
        lines_are =
            (λ i. first_three (body_lines g.swaps (no_atoms i) (none_before i) (no_states i) ++ swapped names ∷ []))
            ∙ ap (λ lines. first_three (lines ++ swapped names ∷ [])) (append-nil ((map swapped g.swaps ++ []) ++ []) ∙ append-nil (map swapped g.swaps ++ []) ∙ append-nil (map swapped g.swaps))
            ∙ ap first_three (sym (map-append swapped g.swaps (names ∷ []))
            ∙ sym (append-nil (map swapped swaps)) ∙ sym (append-nil (map swapped swaps ++ [])) ∙ sym (append-nil ((map swapped swaps ++ []) ++ [])))
            ∙ (λ i. first_three (body_lines swaps (sym no_atoms i) (sym none_before i) (sym no_states i)));
      }

  with_part : (p : Part) → g.states ≡ [] → IsTrue (may_follow (counts_after no_parts g.parts) p) → has_room (counts_after no_parts g.parts) p ≡ true → is_line (format_in g) (part p) ≡ true
      → IsBody (part_more p (body_of g)) (head_lines g ++ part p ∷ [])
  with_part p no_states follows room is =
      let parts : List Part = g.parts ++ p ∷ [] in
      record {
        beginning = with_parts g.atoms parts g.states;
        keeps = record {
          claim_is = keeps.claim_is;
          constants_are = keeps.constants_are;
          swaps_are = keeps.swaps_are;
          atoms_are = keeps.atoms_are;
          parts_are = all_more (λ p. is_line (format_in g) (part p)) g.parts p keeps.parts_are is;
          states_are = keeps.states_are;
          in_order = in_order_more no_parts g.parts p keeps.in_order follows room;
          few_swaps = keeps.few_swaps;
          few_atoms = keeps.few_atoms;
          few_states = keeps.few_states;
          bases_given = ap (list_all (λ (l : StateLine). has_basis (counts_after no_parts parts).values l.mark)) no_states;
        };
        body_is = (λ i. record { format = format_in g; swaps = length g.swaps; parts = counts_more no_parts g.parts p i; states = length g.states });
        lines_are =
            (λ i. first_three (body_lines g.swaps g.atoms g.parts (no_states i) ++ part p ∷ []))
            ∙ ap (λ lines. first_three (lines ++ part p ∷ [])) (append-nil (fronts ++ map part g.parts))
            ∙ ap first_three (append_assoc fronts (map part g.parts) (part p ∷ [])
            ∙ ap (λ lines. fronts ++ lines) (sym (map-append part g.parts (p ∷ [])))
            ∙ sym (append-nil (fronts ++ map part parts)))
            ∙ (λ i. first_three (body_lines g.swaps g.atoms parts (sym no_states i)));
      }

  with_state : (l : StateLine) → has_basis (counts_after no_parts g.parts).values l.mark ≡ true → length g.states < most_states → is_line (format_in g) (listed l) ≡ true → IsBody (state_more (body_of g)) (head_lines g ++ listed l ∷ [])
  with_state l given below is = record {
    beginning = with_parts g.atoms g.parts (g.states ++ l ∷ []);
    keeps = record {
      claim_is = keeps.claim_is;
      constants_are = keeps.constants_are;
      swaps_are = keeps.swaps_are;
      atoms_are = keeps.atoms_are;
      parts_are = keeps.parts_are;
      states_are = all_more (λ l. is_line (format_in g) (listed l)) g.states l keeps.states_are is;
      in_order = keeps.in_order;
      few_swaps = keeps.few_swaps;
      few_atoms = keeps.few_atoms;
      few_states = omega (arith, below, one_longer g.states l);
      bases_given = all_more (λ (l : StateLine). has_basis (counts_after no_parts g.parts).values l.mark) g.states l keeps.bases_given given;
    };
    body_is = (λ i. record { format = format_in g; swaps = length g.swaps; parts = counts_after no_parts g.parts; states = one_longer g.states l i });
    lines_are =
        ap first_three (append_assoc (fronts ++ map part g.parts) (map listed g.states) (listed l ∷ [])
        ∙ ap (λ lines. (fronts ++ map part g.parts) ++ lines) (sym (map-append listed g.states (l ∷ []))));
  }

  -- the lines with the last one are a certificate
  whole : AreWhole (head_lines g ++ last (length g.states) ∷ [])
  whole =
      let c : NamedCertificate = record { version = g.version; claim = g.claim; constants = g.constants; swaps = g.swaps; atoms = g.atoms; parts = g.parts; lines = g.states } in
      let test : TextLine → Bool = is_line (format_in g) in
      let swaps : list_all test (map swapped g.swaps) ≡ true = list_all-map test swapped g.swaps ∙ keeps.swaps_are in
      let atoms : list_all test (map atom g.atoms) ≡ true = list_all-map test atom g.atoms ∙ keeps.atoms_are in
      let parts : list_all test (map part g.parts) ≡ true = list_all-map test part g.parts ∙ keeps.parts_are in
      let states : list_all test (map listed g.states) ≡ true = list_all-map test listed g.states ∙ keeps.states_are in
      let number : is_number (length g.states) ≡ true = lt-ltb (length g.states) 1152921504606846976 (omega (arith, keeps.few_states)) in
      let body : list_all test (body_lines g.swaps g.atoms g.parts g.states) ≡ true =
      list_all-append test (fronts ++ map part g.parts) (map listed g.states)
      ∙ both_true _ _ (list_all-append test fronts (map part g.parts) ∙ both_true _ _ (list_all-append test (map swapped g.swaps) (map atom g.atoms) ∙ both_true _ _ swaps atoms) parts) states in
      let following : list_all test (body_lines g.swaps g.atoms g.parts g.states ++ last (length g.states) ∷ []) ≡ true =
      list_all-append test (body_lines g.swaps g.atoms g.parts g.states) (last (length g.states) ∷ []) ∙ both_true _ _ body (both_true (is_number (length g.states)) true number refl) in
      let each : list_all test (text_lines c) ≡ true = both_true (is_claim g.claim) _ keeps.claim_is (both_true (test (constant g.constants)) _ keeps.constants_are following) in
      let few_swaps : nat_le (length g.swaps) most_swaps ≡ true = le-leb (length g.swaps) most_swaps keeps.few_swaps in
      let few : nat_le (length g.atoms) most_atoms ≡ true = le-leb (length g.atoms) most_atoms keeps.few_atoms in
      let few_states : nat_le (length g.states) most_states ≡ true = le-leb (length g.states) most_states keeps.few_states in
      (c, both_true _ _ (both_true _ _ (both_true _ _ (both_true _ _ few_swaps few) keeps.in_order) (both_true _ _ few_states keeps.bases_given)) each, refl)

  -- one more such line leads to the next state
  step_on : (line : TextLine) (next : CertificatePlace) → next_place (in_body (body_of g)) line ≡ Some next → ComesBefore next (head_lines g ++ line ∷ [])
  step_on (version w) next leads = never next leads
  step_on (claims claim) next leads = never next leads
  step_on (constant k) next leads = never next leads
  step_on (swapped names) next leads =
      let b : Body = body_of g in
      let (holds, same) = only_where (swap_follows b && nat_lt b.swaps most_swaps && is_line b.format (swapped names)) (in_body (swap_more b)) next leads in
      let (counts, is) = and_parts (swap_follows b && nat_lt b.swaps most_swaps) (is_line b.format (swapped names)) holds in
      let (follows, below) = and_parts (swap_follows b) (nat_lt b.swaps most_swaps) counts in
      let (before, empty) = and_parts ((b.format.atoms == 0) && (how_many b.parts == 0)) (b.states == 0) follows in
      let (no_atom, first) = and_parts (b.format.atoms == 0) (how_many b.parts == 0) before in
      subst (λ q. ComesBefore q (head_lines g ++ swapped names ∷ [])) same
      (with_swap names (no_atoms g.atoms (eqb-true b.format.atoms 0 no_atom)) (none_yet g.parts (eqb-true (how_many b.parts) 0 first)) (no_states g.states (eqb-true b.states 0 empty)) (ltb-true b.swaps most_swaps below) is)
  step_on (atom a) next leads =
      let b : Body = body_of g in
      let (holds, same) = only_where (atom_follows b && nat_lt b.format.atoms most_atoms && is_line b.format (atom a)) (in_body (atom_more b)) next leads in
      let (counts, is) = and_parts (atom_follows b && nat_lt b.format.atoms most_atoms) (is_line b.format (atom a)) holds in
      let (follows, below) = and_parts (atom_follows b) (nat_lt b.format.atoms most_atoms) counts in
      let (first, empty) = and_parts (how_many b.parts == 0) (b.states == 0) follows in
      subst (λ q. ComesBefore q (head_lines g ++ atom a ∷ [])) same
      (with_atom a (none_yet g.parts (eqb-true (how_many b.parts) 0 first)) (no_states g.states (eqb-true b.states 0 empty)) (ltb-true b.format.atoms most_atoms below) is)
  step_on (part p) next leads =
      let b : Body = body_of g in
      let (holds, same) = only_where (part_follows p b && has_room b.parts p && is_line b.format (part p)) (in_body (part_more p b)) next leads in
      let (counts, is) = and_parts (part_follows p b && has_room b.parts p) (is_line b.format (part p)) holds in
      let (place, room) = and_parts (part_follows p b) (has_room b.parts p) counts in
      let (empty, follows) = and_parts (b.states == 0) (may_follow b.parts p) place in
      subst (λ q. ComesBefore q (head_lines g ++ part p ∷ [])) same (with_part p (no_states g.states (eqb-true b.states 0 empty)) follows room is)
  step_on (listed l) next leads =
      let b : Body = body_of g in
      let (holds, same) = only_where (state_follows l b && nat_lt b.states most_states && is_line b.format (listed l)) (in_body (state_more b)) next leads in
      let (place, is) = and_parts (state_follows l b && nat_lt b.states most_states) (is_line b.format (listed l)) holds in
      let (given, below) = and_parts (state_follows l b) (nat_lt b.states most_states) place in
      subst (λ q. ComesBefore q (head_lines g ++ listed l ∷ [])) same (with_state l given (ltb-true b.states most_states below) is)
  step_on (last count) next leads =
      let (holds, same) = only_where (count == length g.states) ended next leads in
      subst (λ q. ComesBefore q (head_lines g ++ last count ∷ [])) same
      (subst (λ k. AreWhole (head_lines g ++ last k ∷ [])) (sym (eqb-true count (length g.states) holds)) whole)

-- one more line leads to the next state
step : (place : CertificatePlace) (line : TextLine) (next : CertificatePlace) (lines : List TextLine) → ComesBefore place lines → next_place place line ≡ Some next
    → ComesBefore next (lines ++ line ∷ [])
step at_version (version v) next lines occurs leads = subst (λ q. ComesBefore q (lines ++ version v ∷ [])) (place_same (at_claim v) next leads) (ap (λ lines. lines ++ version v ∷ []) occurs)
step at_version (claims claim) next lines occurs leads = never next leads
step at_version (constant k) next lines occurs leads = never next leads
step at_version (swapped names) next lines occurs leads = never next leads
step at_version (atom a) next lines occurs leads = never next leads
step at_version (part p) next lines occurs leads = never next leads
step at_version (listed l) next lines occurs leads = never next leads
step at_version (last count) next lines occurs leads = never next leads
step (at_claim v) (version w) next lines occurs leads = never next leads
step (at_claim v) (claims claim) next lines occurs leads =
    let (is, same) = only_where (is_line (no_format v) (claims claim)) (at_constant v) next leads in
    subst (λ q. ComesBefore q (lines ++ claims claim ∷ [])) same (claim, is, ap (λ lines. lines ++ claims claim ∷ []) occurs)
step (at_claim v) (constant k) next lines occurs leads = never next leads
step (at_claim v) (swapped names) next lines occurs leads = never next leads
step (at_claim v) (atom a) next lines occurs leads = never next leads
step (at_claim v) (part p) next lines occurs leads = never next leads
step (at_claim v) (listed l) next lines occurs leads = never next leads
step (at_claim v) (last count) next lines occurs leads = never next leads
step (at_constant v) (version w) next lines occurs leads = never next leads
step (at_constant v) (claims claim) next lines occurs leads = never next leads
step (at_constant v) (constant k) next lines occurs leads =
    let (claim, is, are) = occurs in
    let (holds, same) = only_where (is_line (no_format v) (constant k)) (in_body (no_body v (length k))) next leads in
    subst (λ q. ComesBefore q (lines ++ constant k ∷ [])) same (record {
      beginning = record { version = v; claim = claim; constants = k; swaps = []; atoms = []; parts = []; states = [] };
      keeps = record {
        claim_is = is;
        constants_are = holds;
        swaps_are = refl;
        atoms_are = refl;
        parts_are = refl;
        states_are = refl;
        in_order = refl;
        few_swaps = omega arith;
        few_atoms = omega arith;
        few_states = omega arith;
        bases_given = refl;
      };
      body_is = refl;
      lines_are = ap (λ lines. lines ++ constant k ∷ []) are;
    })
step (at_constant v) (swapped names) next lines occurs leads = never next leads
step (at_constant v) (atom a) next lines occurs leads = never next leads
step (at_constant v) (part p) next lines occurs leads = never next leads
step (at_constant v) (listed l) next lines occurs leads = never next leads
step (at_constant v) (last count) next lines occurs leads = never next leads
step (in_body b) line next lines body leads =
    subst (λ lines. ComesBefore next (lines ++ line ∷ [])) (sym body.lines_are)
    (step_on body.beginning body.keeps line next (subst (λ b. next_place (in_body b) line ≡ Some next) (sym body.body_is) leads))
step ended (version w) next lines occurs leads = never next leads
step ended (claims claim) next lines occurs leads = never next leads
step ended (constant k) next lines occurs leads = never next leads
step ended (swapped names) next lines occurs leads = never next leads
step ended (atom a) next lines occurs leads = never next leads
step ended (part p) next lines occurs leads = never next leads
step ended (listed l) next lines occurs leads = never next leads
step ended (last count) next lines occurs leads = never next leads

-- and this many lines lead to the state after them
pub comes_after : (lines done : List TextLine) (place after : CertificatePlace) → ComesBefore place done → place_from place lines ≡ Some after
    → ComesBefore after (done ++ lines)
comes_after [] done place after occurs leads =
    subst (λ q. ComesBefore q (done ++ [])) (place_same place after leads) (subst (ComesBefore place) (sym (append-nil done)) occurs)
comes_after (line ∷ lines) done place after occurs leads =
    by_next (λ next is more. comes_after lines (done ++ line ∷ []) next after (step place line next done occurs is) more) (next_place place line) refl leads
  where
    by_next : ((next : CertificatePlace) → next_place place line ≡ Some next → place_from next lines ≡ Some after → ComesBefore after ((done ++ line ∷ []) ++ lines))
        → (next : Option CertificatePlace) → next_place place line ≡ next → option_and_then (λ next. place_from next lines) next ≡ Some after
        → ComesBefore after (done ++ line ∷ lines)
    by_next rest None is leads = never after leads
    by_next rest (Some next) is leads = subst (ComesBefore after) (append_assoc done (line ∷ []) lines) (rest next is leads)

-- ---- prefixes of certificates, and whole ones

begins_before : (lines : List TextLine) (line : TextLine) → BeginCertificate (lines ++ line ∷ []) → BeginCertificate lines
begins_before lines line (rest, whole) = (line ∷ rest, subst AreWhole (append_assoc lines (line ∷ []) rest) whole)

abbrev zeros : Version → List ℤ
zeros one = pos 0 ∷ []
zeros two = pos 0 ∷ pos 0 ∷ []
zeros three = pos 0 ∷ pos 0 ∷ []
zeros four = pos 0 ∷ pos 0 ∷ []

zeros_are : (v : Version) → is_line (no_format v) (constant (zeros v)) ≡ true
zeros_are one = refl
zeros_are two = refl
zeros_are three = refl
zeros_are four = refl

begin_body : (b : Body) (lines : List TextLine) → IsBody b lines → BeginCertificate lines
begin_body b lines body = (last (length body.beginning.states) ∷ [], subst (λ lines. AreWhole (lines ++ last (length body.beginning.states) ∷ [])) (sym body.lines_are) (whole body.beginning body.keeps))

begin_constant : (v : Version) (lines : List TextLine) → ComesBefore (at_constant v) lines → BeginCertificate lines
begin_constant v lines occurs =
    let b : Body = no_body v (length (zeros v)) in
    begins_before lines (constant (zeros v))
    (begin_body b (lines ++ constant (zeros v) ∷ []) (step (at_constant v) (constant (zeros v)) (in_body b) lines occurs (ap (λ holds. only_if holds (in_body b)) (zeros_are v))))

begin_claim : (v : Version) (lines : List TextLine) → ComesBefore (at_claim v) lines → BeginCertificate lines
begin_claim v lines occurs = begins_before lines (claims none) (begin_constant v (lines ++ claims none ∷ []) (step (at_claim v) (claims none) (at_constant v) lines occurs refl))

begin : (place : CertificatePlace) (lines : List TextLine) → ComesBefore place lines → BeginCertificate lines
begin at_version lines occurs = begins_before lines (version one) (begin_claim one (lines ++ version one ∷ []) (step at_version (version one) (at_claim one) lines occurs refl))
begin (at_claim v) lines occurs = begin_claim v lines occurs
begin (at_constant v) lines occurs = begin_constant v lines occurs
begin (in_body b) lines occurs = begin_body b lines occurs
begin ended lines occurs = ([], subst AreWhole (sym (append-nil lines)) occurs)

-- if a state comes after lines, they are a prefix of a certificate, and a whole one at its end
module _ (lines : List TextLine) where
  pub occurs : (place : CertificatePlace) → place_after lines ≡ Some place → ComesBefore place lines
  occurs place leads = comes_after lines [] at_version place refl leads

  pub begins : (place : CertificatePlace) → place_after lines ≡ Some place → BeginCertificate lines
  begins place leads = begin place lines (occurs place leads)

  pub ends : place_after lines ≡ Some ended → AreWhole lines
  ends leads = occurs ended leads

-- ---- the converse

zero_more : (n : ℕ) → n ≡ n + 0
zero_more n = omega arith

from_zero : (n : ℕ) → 0 + n ≡ n
from_zero n = omega arith

one_more_counted : (n k : ℕ) → (n + 1) + k ≡ n + suc k
one_more_counted n k = omega arith

module _ (v : Version) (weights : ℕ) where
  abbrev format : ℕ → Format
  format n = record { version = v; weights = weights; atoms = n }

  abbrev body : (s n : ℕ) → PartCounts → (states : ℕ) → CertificatePlace
  body s n c m = in_body (record { format = format n; swaps = s; parts = c; states = m })

  swaps_read : (swaps : List (List (List ℕ))) (s : ℕ) (more : List TextLine) → list_all (λ names. is_line (format 0) (swapped names)) swaps ≡ true → s + length swaps ≤ most_swaps
      → place_from (body s 0 no_parts 0) (map swapped swaps ++ more) ≡ place_from (body (s + length swaps) 0 no_parts 0) more
  swaps_read [] s more all few = ap (λ k. place_from (body k 0 no_parts 0) more) (zero_more s)
  swaps_read (names ∷ swaps) s more all few =
      let (here, rest) = and_parts (is_line (format 0) (swapped names)) (list_all (λ names. is_line (format 0) (swapped names)) swaps) all in
      let below : nat_lt s most_swaps ≡ true = lt-ltb s most_swaps (omega (arith, few)) in
      ap (λ b. option_and_then (λ next. place_from next (map swapped swaps ++ more)) (only_if b (body (s + 1) 0 no_parts 0)))
      (both_true (true && nat_lt s most_swaps) (is_line (format 0) (swapped names)) below here)
      ∙ swaps_read swaps (s + 1) more rest (omega (arith, few))
      ∙ ap (λ k. place_from (body k 0 no_parts 0) more) (one_more_counted s (length swaps))

  atoms_read : (s : ℕ) (atoms : List WeightedAtom) (n : ℕ) (more : List TextLine) → list_all (λ a. is_line (format n) (atom a)) atoms ≡ true → n + length atoms ≤ most_atoms
      → place_from (body s n no_parts 0) (map atom atoms ++ more) ≡ place_from (body s (n + length atoms) no_parts 0) more
  atoms_read s [] n more all few = ap (λ k. place_from (body s k no_parts 0) more) (zero_more n)
  atoms_read s (a ∷ atoms) n more all few =
      let (here, rest) = and_parts (is_line (format n) (atom a)) (list_all (λ a. is_line (format n) (atom a)) atoms) all in
      let below : nat_lt n most_atoms ≡ true = lt-ltb n most_atoms (omega (arith, few)) in
      ap (λ b. option_and_then (λ next. place_from next (map atom atoms ++ more)) (only_if b (body s (n + 1) no_parts 0)))
      (both_true (true && nat_lt n most_atoms) (is_line (format n) (atom a)) below here)
      ∙ atoms_read s atoms (n + 1) more rest (omega (arith, few))
      ∙ ap (λ k. place_from (body s k no_parts 0) more) (one_more_counted n (length atoms))

  module _ (s n : ℕ) where
    parts_read : (c : PartCounts) (parts : List Part) (more : List TextLine) → list_all (λ p. is_line (format n) (part p)) parts ≡ true → are_in_order c parts ≡ true
        → place_from (body s n c 0) (map part parts ++ more) ≡ place_from (body s n (counts_after c parts) 0) more
    parts_read c [] more all ordered = refl
    parts_read c (p ∷ parts) more all ordered =
        let (here, rest) = and_parts (is_line (format n) (part p)) (list_all (λ p. is_line (format n) (part p)) parts) all in
        let (place, later) = and_parts (may_follow c p && has_room c p) (are_in_order (counted c p) parts) ordered in
        ap (λ b. option_and_then (λ next. place_from next (map part parts ++ more)) (only_if b (body s n (counted c p) 0)))
        (both_true (may_follow c p && has_room c p) (is_line (format n) (part p)) place here)
        ∙ parts_read (counted c p) parts more rest later

    states_read : (c : PartCounts) (states : List StateLine) (m : ℕ) (more : List TextLine) → list_all (λ l. is_line (format n) (listed l)) states ≡ true
        → list_all (λ (l : StateLine). has_basis c.values l.mark) states ≡ true → m + length states ≤ most_states
        → place_from (body s n c m) (map listed states ++ more) ≡ place_from (body s n c (m + length states)) more
    states_read c [] m more all given few = ap (λ k. place_from (body s n c k) more) (zero_more m)
    states_read c (l ∷ states) m more all given few =
        let (here, rest) = and_parts (is_line (format n) (listed l)) (list_all (λ l. is_line (format n) (listed l)) states) all in
        let (basis, others) = and_parts (has_basis c.values l.mark) (list_all (λ (l : StateLine). has_basis c.values l.mark) states) given in
        let below : nat_lt m most_states ≡ true = lt-ltb m most_states (omega (arith, few)) in
        ap (λ b. option_and_then (λ next. place_from next (map listed states ++ more)) (only_if b (body s n c (m + 1))))
        (both_true (has_basis c.values l.mark && nat_lt m most_states) (is_line (format n) (listed l)) (both_true (has_basis c.values l.mark) (nat_lt m most_states) basis below) here)
        ∙ states_read c states (m + 1) more rest others (omega (arith, few))
        ∙ ap (λ k. place_from (body s n c k) more) (one_more_counted m (length states))

same_count : (m k : ℕ) → k ≡ m → (k == m) ≡ true
same_count m k same = grind (arith, nat_tests, same)

last_read : (b : Body) → place_from (in_body b) (last b.states ∷ []) ≡ Some ended
last_read b = ap (λ holds. option_and_then (λ next. place_from next []) (only_if holds ended)) (same_count b.states b.states refl)

lines_read : (c : NamedCertificate) → IsTrue (keeps_text_limits c) → place_after (text_lines c) ≡ Some ended
lines_read c keeps =
    let v : Version = c.version in
    let k : ℕ = length c.atoms in
    let test : TextLine → Bool = is_line (format_of c) in
    let (counts, each) = and_parts _ (list_all test (text_lines c)) keeps in
    let given_all : Bool = list_all (λ (l : StateLine). has_basis (counts_after no_parts c.parts).values l.mark) c.lines in
    let (bodies, lasts) = and_parts _ (nat_le (length c.lines) most_states && given_all) counts in
    let (few_states, given) = and_parts (nat_le (length c.lines) most_states) given_all lasts in
    let (fews, ordered) = and_parts (nat_le (length c.swaps) most_swaps && nat_le k most_atoms) _ bodies in
    let (few_swaps, few) = and_parts (nat_le (length c.swaps) most_swaps) (nat_le k most_atoms) fews in
    let swap_lines : List TextLine = map swapped c.swaps in
    let atom_lines : List TextLine = map atom c.atoms in
    let part_lines : List TextLine = map part c.parts in
    let state_lines : List TextLine = map listed c.lines in
    let end : List TextLine = last (length c.lines) ∷ [] in
    let fronts : List TextLine = swap_lines ++ atom_lines in
    let all_lines : List TextLine = ((fronts ++ part_lines) ++ state_lines) ++ end in
    let (claim, other) = and_parts (is_claim c.claim) (list_all test (constant c.constants ∷ all_lines)) each in
    let (constant_is, following) = and_parts (test (constant c.constants)) (list_all test all_lines) other in
    let (body_is, _) = and_parts (list_all test ((fronts ++ part_lines) ++ state_lines)) (list_all test end) (sym (list_all-append test ((fronts ++ part_lines) ++ state_lines) end) ∙ following) in
    let (needed, states) = and_parts (list_all test (fronts ++ part_lines)) (list_all test state_lines) (sym (list_all-append test (fronts ++ part_lines) state_lines) ∙ body_is) in
    let (fronts_are, parts) = and_parts (list_all test fronts) (list_all test part_lines) (sym (list_all-append test fronts part_lines) ∙ needed) in
    let (swaps, atoms) = and_parts (list_all test swap_lines) (list_all test atom_lines) (sym (list_all-append test swap_lines atom_lines) ∙ fronts_are) in
    let swaps_are : list_all (λ names. test (swapped names)) c.swaps ≡ true = sym (list_all-map test swapped c.swaps) ∙ swaps in
    let atoms_are : list_all (λ a. test (atom a)) c.atoms ≡ true = sym (list_all-map test atom c.atoms) ∙ atoms in
    let parts_are : list_all (λ p. test (part p)) c.parts ≡ true = sym (list_all-map test part c.parts) ∙ parts in
    let states_are : list_all (λ l. test (listed l)) c.lines ≡ true = sym (list_all-map test listed c.lines) ∙ states in
    let swaps_within : length c.swaps ≤ most_swaps = leb-true (length c.swaps) most_swaps few_swaps in
    let atoms_within : k ≤ most_atoms = leb-true k most_atoms few in
    let states_within : length c.lines ≤ most_states = leb-true (length c.lines) most_states few_states in
    let w : ℕ = length c.constants in
    let counts : PartCounts = counts_after no_parts c.parts in
    ap (λ b. option_and_then (λ next. place_from next (constant c.constants ∷ all_lines)) (only_if b (at_constant v))) claim
    ∙ ap (λ b. option_and_then (λ next. place_from next all_lines) (only_if b (in_body (no_body v w)))) constant_is
    ∙ ap (place_from (in_body (no_body v w))) (append_assoc (fronts ++ part_lines) state_lines end ∙ append_assoc fronts part_lines (state_lines ++ end) ∙ append_assoc swap_lines atom_lines (part_lines ++ (state_lines ++ end)))
    ∙ swaps_read v w c.swaps 0 (atom_lines ++ (part_lines ++ (state_lines ++ end))) swaps_are (omega (arith, swaps_within))
    ∙ ap (λ n. place_from (body v w n 0 no_parts 0) (atom_lines ++ (part_lines ++ (state_lines ++ end)))) (from_zero (length c.swaps))
    ∙ atoms_read v w (length c.swaps) c.atoms 0 (part_lines ++ (state_lines ++ end)) atoms_are (omega (arith, atoms_within))
    ∙ ap (λ n. place_from (body v w (length c.swaps) n no_parts 0) (part_lines ++ (state_lines ++ end))) (from_zero k)
    ∙ parts_read v w (length c.swaps) k no_parts c.parts (state_lines ++ end) parts_are ordered
    ∙ states_read v w (length c.swaps) k counts c.lines 0 end states_are given (omega (arith, states_within))
    ∙ ap (λ m. place_from (body v w (length c.swaps) k counts m) end) (from_zero (length c.lines))
    ∙ last_read (record { format = format v w k; swaps = length c.swaps; parts = counts; states = length c.lines })

pub end_of_whole : (lines : List TextLine) → AreWhole lines → place_after lines ≡ Some ended
end_of_whole lines (c, keeps, are) = subst (λ lines. place_after lines ≡ Some ended) are (lines_read c keeps)

-- the state after the first of some lines
pub front_leads : (front rest : List TextLine) (place after : CertificatePlace) → place_from place (front ++ rest) ≡ Some after
    → (between : CertificatePlace) × (place_from place front ≡ Some between) × (place_from between rest ≡ Some after)
front_leads [] rest place after leads = (place, refl, leads)
front_leads (line ∷ front) rest place after leads =
    by_next (λ next. front_leads front rest next after) (next_place place line) leads
  where
    by_next : ((next : CertificatePlace) → place_from next (front ++ rest) ≡ Some after → (between : CertificatePlace) × (place_from next front ≡ Some between) × (place_from between rest ≡ Some after))
        → (next : Option CertificatePlace) → option_and_then (λ next. place_from next (front ++ rest)) next ≡ Some after
        → (between : CertificatePlace) × (option_and_then (λ next. place_from next front) next ≡ Some between) × (place_from between rest ≡ Some after)
    by_next more None leads = never after leads
    by_next more (Some next) leads = more next leads

pub place_of_beginning : (lines : List TextLine) → BeginCertificate lines → (place : CertificatePlace) × (place_after lines ≡ Some place)
place_of_beginning lines (rest, whole) =
    let (between, leads, more) = front_leads lines rest at_version ended (end_of_whole (lines ++ rest) whole) in
    (between, leads)

-- ---- what may follow

there_is : (next : Option CertificatePlace) (after : CertificatePlace) → option_and_then (λ next. place_from next []) next ≡ Some after → (place : CertificatePlace) × (next ≡ Some place)
there_is None after leads = never after leads
there_is (Some next) after leads = (next, refl)

module _ (before : List TextLine) (place : CertificatePlace) (leads : place_after before ≡ Some place) where
  pub follows : (line : TextLine) (next : CertificatePlace) → next_place place line ≡ Some next → BeginCertificate (before ++ line ∷ [])
  follows line next is = begin next (before ++ line ∷ []) (step place line next before (occurs before place leads) is)

  pub followed : (line : TextLine) → BeginCertificate (before ++ line ∷ []) → (next : CertificatePlace) × (next_place place line ≡ Some next)
  followed line begun =
      let (after, all) = place_of_beginning (before ++ line ∷ []) begun in
      let (between, first, second) = front_leads before (line ∷ []) at_version after all in
      let here : between ≡ place = place_same between place (sym first ∙ leads) in
      there_is (next_place place line) after (subst (λ p. place_from p (line ∷ []) ≡ Some after) here second)

  pub not_whole : (place ≡ ended → ⊥) → AreWhole before → ⊥
  not_whole other whole = other (place_same place ended (sym leads ∙ end_of_whole before whole))
