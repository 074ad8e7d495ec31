-- A text written to a sink in large pieces.
use Rattle.std.proofs.Common.{◌≡◌, ℕ, zero, suc, ◌+◌, ◌<◌, ◌≤◌, List, [], ◌∷◌, ◌++◌, length, map, take, drop, get_or, Option, refl, sym, ap, ◌∙◌, subst, append_assoc, append-nil, arith}
use Rattle.std.specs.Io.KnownBytes.{Appends}
use Rattle.std.specs.List.{flat_map}
use Rattle.std.specs.Option.{option_map}
use Rattle.std.proofs.KnownBytes.{Appends-nil, Appends-trans}
use Rattle.std.specs.Prelude.{Result, Ok, Err, OnOk, slice_get, Some}
use Rattle.std.proofs.lemmas.Option.{slice_get-map, slice_get_read, slice_get_within, get_or_from_slice_get}
use Rattle.std.proofs.lemmas.List.{length-map}
use Rattle.model.specs.Task.{Atom, Task}
use Rattle.model.proofs.Pieces.{parts_split, parts_more, parts_all}
use Rattle.devices.specs.Devices.{AppendsBeginning}
use Rattle.certificate_definitions.specs.Certificates.{Certificate}
use Rattle.certificate_definitions.specs.CertificateNames.{named_atom, weighted_atoms, weights_of_atom}
use Rattle.certificate.specs.Gathering.{IsPassedOn, atoms_weighed}

module _ (before : Option (List ℕ)) where
  -- nothing yet
  pub passed_nothing : (held : List ℕ) → IsPassedOn before before held held []
  passed_nothing held = ([], Appends-nil before, append-nil held)

  module _ (now : Option (List ℕ)) (held held_now text : List ℕ) (passed : IsPassedOn before now held held_now text) where
    -- more is buffered
    pub passed_held : (held_after more : List ℕ) → held_after ≡ held_now ++ more → IsPassedOn before now held held_after (text ++ more)
    passed_held held_after more is = (
      passed.0,
      passed.1,
      sym (append_assoc held text more) ∙ ap (λ xs. xs ++ more) passed.2 ∙ append_assoc passed.0 held_now more ∙ ap (λ xs. passed.0 ++ xs) (sym is),
    )

    -- more is written out
    pub passed_then : (after : Option (List ℕ)) (held_after more : List ℕ) → IsPassedOn now after held_now held_after more → IsPassedOn before after held held_after (text ++ more)
    passed_then after held_after more (written, taken, is) = (
      passed.0 ++ written,
      Appends-trans before now after passed.0 written passed.1 taken,
      sym (append_assoc held text more) ∙ ap (λ xs. xs ++ more) passed.2 ∙ append_assoc passed.0 held_now more
          ∙ ap (λ xs. passed.0 ++ xs) is ∙ sym (append_assoc passed.0 written held_after),
    )

    -- what is written is a prefix, whatever follows
    pub passed_partly : (later : List ℕ) → AppendsBeginning before now (held ++ (text ++ later))
    passed_partly later = (
      passed.0,
      held_now ++ later,
      sym (append_assoc held text later) ∙ ap (λ xs. xs ++ later) passed.2 ∙ append_assoc passed.0 held_now later,
      passed.1,
    )

    -- a prefix of what comes next is written
    pub passed_beginning : (after : Option (List ℕ)) (next later : List ℕ) → AppendsBeginning now after (held_now ++ next)
        → AppendsBeginning before after (held ++ (text ++ (next ++ later)))
    passed_beginning after next later (front, rest, is, taken) = (
      passed.0 ++ front,
      rest ++ later,
      sym (append_assoc held text (next ++ later)) ∙ ap (λ xs. xs ++ (next ++ later)) passed.2 ∙ append_assoc passed.0 held_now (next ++ later)
          ∙ ap (λ xs. passed.0 ++ xs) (sym (append_assoc held_now next later) ∙ ap (λ xs. xs ++ later) is ∙ append_assoc front rest later)
          ∙ sym (append_assoc passed.0 front (rest ++ later)),
      Appends-trans before now after passed.0 front passed.1 taken,
    )

    -- the whole buffer is written
    pub passed_all : (after : Option (List ℕ)) → Appends now after held_now → Appends before after (held ++ text)
    passed_all after taken = subst (Appends before after) (sym passed.2) (Appends-trans before now after passed.0 held_now passed.1 taken)

-- one more piece, read at its index
pub line_more : {Y : Type 0} (f : Y → List ℕ) (ys : List Y) (i : ℕ) (y : Y) → slice_get ys i ≡ Some y → flat_map f (take (i + 1) ys) ≡ flat_map f (take i ys) ++ f y
line_more f ys i y at = parts_more f ys i y (slice_get_within ys i y at) (get_or_from_slice_get ys i y y at)

-- a piece is buffered, and the buffer is written out or not
module _ (now after : Option (List ℕ)) (held held_added piece : List ℕ) (is : held_added ≡ held ++ piece) where
  pub added_passed : (held_after : List ℕ) → IsPassedOn now after held_added held_after [] → IsPassedOn now after held held_after piece
  added_passed held_after (written, taken, same) = (written, taken, sym is ∙ sym (append-nil held_added) ∙ same)

  pub added_begun : AppendsBeginning now after held_added → AppendsBeginning now after (held ++ piece)
  added_begun begun = subst (AppendsBeginning now after) is begun

-- pieces, of which those up to an index are written out
module _ {Y : Type 0} (f : Y → List ℕ) (ys : List Y) (before now : Option (List ℕ)) (held held_now : List ℕ) (i : ℕ) (passed : IsPassedOn before now held held_now (flat_map f (take i ys))) where
  -- they are a prefix of all
  pub so_far_begun : AppendsBeginning before now (held ++ flat_map f ys)
  so_far_begun =
      subst (AppendsBeginning before now) (ap (λ xs. held ++ xs) (sym (parts_split f ys i))) (passed_partly before now held held_now (flat_map f (take i ys)) passed (flat_map f (drop i ys)))

  pub all_passed : length ys ≤ i → IsPassedOn before now held held_now (flat_map f ys)
  all_passed past = subst (IsPassedOn before now held held_now) (parts_all f ys i past) passed

  -- one more piece is written out, or a prefix of it
  module _ (y : Y) (at : slice_get ys i ≡ Some y) (after : Option (List ℕ)) where
    pub next_passed : (held_after : List ℕ) → IsPassedOn now after held_now held_after (f y) → IsPassedOn before after held held_after (flat_map f (take (i + 1) ys))
    next_passed held_after then =
        subst (IsPassedOn before after held held_after) (sym (line_more f ys i y at)) (passed_then before now held held_now (flat_map f (take i ys)) passed after held_after (f y) then)

    pub next_begun : AppendsBeginning now after (held_now ++ f y) → AppendsBeginning before after (held ++ flat_map f ys)
    next_begun begun =
        let later = flat_map f (drop (i + 1) ys) in
        let whole : flat_map f (take i ys) ++ (f y ++ later) ≡ flat_map f ys =
        sym (append_assoc (flat_map f (take i ys)) (f y) later) ∙ ap (λ xs. xs ++ later) (sym (line_more f ys i y at)) ∙ sym (parts_split f ys (i + 1)) in
        subst (AppendsBeginning before after) (ap (λ xs. held ++ xs) whole) (passed_beginning before now held held_now (flat_map f (take i ys)) passed after (f y) later begun)

-- the atom at an index, by name, with its weights
weighed_from : (task : Task) (c : Certificate) (place : ℕ) (atoms : List Atom) (i : ℕ) (a : Atom) → slice_get atoms i ≡ Some a
    → slice_get (weighted_atoms task c place atoms) i ≡ Some (record { weights = weights_of_atom c (place + i); atom = named_atom task a })
weighed_from task c place [] i a at = absurd (cc)
weighed_from task c place (b ∷ atoms) zero a at =
    let same : b ≡ a = cc in
    let here : place ≡ place + 0 = omega arith in
    λ k. Some (record { weights = weights_of_atom c (here k); atom = named_atom task (same k) })
weighed_from task c place (b ∷ atoms) (suc i) a at =
    let further : suc place + i ≡ place + suc i = omega arith in
    weighed_from task c (suc place) atoms i a at ∙ ap (λ n. Some (record { weights = weights_of_atom c n; atom = named_atom task a })) further

pub weighed_at : {X : Type 0} (task : Task) (c : Certificate) (v : X → Atom) (atoms : List X) → map v atoms ≡ c.atoms → (i : ℕ) (a : X) → i < length atoms → a ≡ get_or atoms i a
    → slice_get (atoms_weighed task c) i ≡ Some (record { weights = weights_of_atom c i; atom = named_atom task (v a) })
weighed_at task c v atoms are i a within is =
    weighed_from task c 0 c.atoms i (v a)
    (ap (λ xs. slice_get xs i) (sym are) ∙ slice_get-map v atoms i ∙ ap (option_map v) (slice_get_read atoms (length atoms) i a refl within is))
    ∙ ap (λ n. Some (record { weights = weights_of_atom c n; atom = named_atom task (v a) })) (at_zero i)
  where
    at_zero : (n : ℕ) → 0 + n ≡ n
    at_zero n = omega arith

-- the number of weighted atoms is the number of atoms
length-weighed : (task : Task) (c : Certificate) (place : ℕ) (atoms : List Atom) → length (weighted_atoms task c place atoms) ≡ length atoms
length-weighed task c place [] = refl
length-weighed task c place (a ∷ atoms) = ap suc (length-weighed task c (suc place) atoms)

pub atoms_past : {X : Type 0} (task : Task) (c : Certificate) (v : X → Atom) (atoms : List X) → map v atoms ≡ c.atoms → (i : ℕ) → length atoms ≤ i → length (atoms_weighed task c) ≤ i
atoms_past task c v atoms are i past = omega (arith, length-weighed task c 0 c.atoms, ap length are, length-map atoms v, past)

-- a part written out after another one
pub then_where_ok : {T E : Type 0} (r : Result T E) (before now after : Option (List ℕ)) (held held_now held_after text more : List ℕ) → IsPassedOn before now held held_now text
    → OnOk r (IsPassedOn now after held_now held_after more) → OnOk r (IsPassedOn before after held held_after (text ++ more))
then_where_ok (Ok value) before now after held held_now held_after text more passed then = passed_then before now held held_now text passed after held_after more then
then_where_ok (Err error) before now after held held_now held_after text more passed then = tt

pub then_begun : (before now after : Option (List ℕ)) (held held_now text more : List ℕ) → IsPassedOn before now held held_now text → AppendsBeginning now after (held_now ++ more)
    → AppendsBeginning before after (held ++ (text ++ more))
then_begun before now after held held_now text more passed begun =
    subst (AppendsBeginning before after) (ap (λ xs. held ++ (text ++ xs)) (append-nil more)) (passed_beginning before now held held_now text passed after more [] begun)
