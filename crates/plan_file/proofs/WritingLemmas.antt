-- A text written piece by piece, and what a device has taken of it; the bytes of a step.
use Rattle.std.proofs.Common.{◌≡◌, ℕ, ◌+◌, ◌<◌, ◌≤◌, true, List, [], ◌∷◌, ◌++◌, length, map, take, drop, get_or, Option, None, Some, refl, sym, ap, ◌∙◌, subst, append_assoc, append-nil, arith}
use Rattle.std.specs.Prelude.{IsTrue, slice_get}
use Rattle.std.specs.Char.{is_ascii_alphabetic}
use Rattle.std.specs.Io.KnownBytes.{Appends}
use Rattle.std.specs.List.{flat_map, list_all}
use Rattle.std.specs.Option.{option_map, option_map_or}
use Rattle.std.specs.Str.{IsAscii}
use Rattle.std.proofs.KnownBytes.{Appends-trans}
use Rattle.std.proofs.lemmas.Bool.{and_parts}
use Rattle.std.proofs.lemmas.Bool.Decides.{nat_tests}
use Rattle.std.proofs.lemmas.Option.{slice_get-map}
use Rattle.std.proofs.lemmas.Str.{IsAscii-append}
use Rattle.std.proofs.lemmas.Str.Ascii.{IsAscii-nil, IsAscii-cons}
use Rattle.devices.specs.Devices.{AppendsBeginning}
use Rattle.model.specs.Words.{is_name, is_name_byte}
use Rattle.model.specs.Task.{Name, Object, Schema, Task, Instance}
use Rattle.model.specs.PlanText.{schema_names, object_names}
use Rattle.model.specs.PlanWriting.{schema_name, object_name, object_text, step_text, is_lower_name, differ, are_lower_names, has_names}
use Rattle.model.proofs.Pieces.{pieces_split, pieces_more, pieces_all}
use Rattle.model.proofs.Tests.{passes_got}

-- some of it was taken, and a prefix of what comes next
next_partly : (before now after : Option (List ℕ)) (done next later whole : List ℕ) → whole ≡ (done ++ next) ++ later → Appends before now done → AppendsBeginning now after next → AppendsBeginning before after whole
next_partly before now after done next later whole whole_is taken (front, rest, next_is, more) =
    let split : (done ++ (front ++ rest)) ++ later ≡ (done ++ front) ++ (rest ++ later) = simp append_assoc in
    (done ++ front, rest ++ later, whole_is ∙ ap (λ bs. (done ++ bs) ++ later) next_is ∙ split, Appends-trans before now after done front taken more)

-- the first i pieces of a list were taken
module _ {X Y : Type 0} (f : Y → List ℕ) (v : X → Y) (xs : List X) (i : ℕ) (before now after : Option (List ℕ))
    (taken : Appends before now (flat_map f (map v (take i xs)))) where
  -- and then the next one
  module _ (x : X) (within : i < length xs) (is : x ≡ get_or xs i x) where
    pub piece_partly : (ys : List Y) (last : List ℕ) → map v xs ≡ ys → AppendsBeginning now after (f (v x)) → AppendsBeginning before after (flat_map f ys ++ last)
    piece_partly ys last same part =
        next_partly before now after (flat_map f (map v (take i xs))) (f (v x)) (flat_map f (map v (drop (i + 1) xs)) ++ last) (flat_map f ys ++ last)
        (ap (λ zs. flat_map f zs ++ last) (sym same) ∙ ap (λ bs. bs ++ last) (pieces_split f v xs (i + 1)) ∙ append_assoc (flat_map f (map v (take (i + 1) xs))) (flat_map f (map v (drop (i + 1) xs))) last
        ∙ ap (λ bs. bs ++ (flat_map f (map v (drop (i + 1) xs)) ++ last)) (pieces_more f v xs i x within is))
        taken part

  -- and that is all of them
  module _ (past : length xs ≤ i) (ys : List Y) (same : map v xs ≡ ys) (last : List ℕ) where
    all_taken : Appends before now (flat_map f ys)
    all_taken = subst (Appends before now) (pieces_all f v xs i past ∙ ap (flat_map f) same) taken

    pub last_partly : AppendsBeginning now after last → AppendsBeginning before after (flat_map f ys ++ last)
    last_partly part = next_partly before now after (flat_map f ys) last [] (flat_map f ys ++ last) (sym (append-nil (flat_map f ys ++ last))) all_taken part

-- ---- the bytes of a step

name_byte_ascii : (byte : ℕ) → is_name_byte byte ≡ true → byte < 128
name_byte_ascii byte e = grind (arith, nat_tests)

letter_ascii : (byte : ℕ) → is_ascii_alphabetic byte ≡ true → byte < 128
letter_ascii byte e = grind (arith, nat_tests)

name_bytes_ascii : (bytes : List ℕ) → list_all is_name_byte bytes ≡ true → IsAscii bytes
name_bytes_ascii [] all = IsAscii-nil
name_bytes_ascii (byte ∷ bytes) all =
    let parts = and_parts (is_name_byte byte) (list_all is_name_byte bytes) all in
    IsAscii-cons byte bytes (name_byte_ascii byte parts.0) (name_bytes_ascii bytes parts.1)

name_ascii : (name : Name) → is_name name ≡ true → IsAscii name
name_ascii [] e = IsAscii-nil
name_ascii (byte ∷ others) e =
    let parts = and_parts (is_ascii_alphabetic byte) (list_all is_name_byte others) e in
    IsAscii-cons byte others (letter_ascii byte parts.0) (name_bytes_ascii others parts.1)

lower_ascii : (name : Name) → is_lower_name name ≡ true → IsAscii name
lower_ascii name e = name_ascii name (and_parts (is_name name) _ (and_parts _ _ e).0).0

name_of_ascii : {X : Type 0} (name : X → Name) (xs : List X) (k : ℕ) → are_lower_names (map name xs) ≡ true → IsAscii (option_map_or name (slice_get xs k) [])
name_of_ascii {X = X} name xs k named = by_entry (slice_get xs k) refl
  where
    by_entry : (o : Option X) → slice_get xs k ≡ o → IsAscii (option_map_or name o [])
    by_entry None at = IsAscii-nil
    by_entry (Some x) at =
        lower_ascii (name x)
        (passes_got is_lower_name (map name xs) k (name x) (slice_get-map name xs k ∙ ap (option_map name) at) (and_parts (list_all is_lower_name (map name xs)) (differ (map name xs)) named).0)

objects_ascii : (task : Task) (objects : List ℕ) → are_lower_names (object_names task) ≡ true → IsAscii (flat_map (object_text task) objects)
objects_ascii task [] named = IsAscii-nil
objects_ascii task (k ∷ objects) named =
    IsAscii-append (object_text task k) (flat_map (object_text task) objects)
    (IsAscii-cons 32 (object_name task k) (omega arith) (name_of_ascii (λ (o : Object). o.name) task.objects k named)) (objects_ascii task objects named)

-- if the names of a task are valid names, a step is all ASCII
pub step_ascii : (task : Task) (i : Instance) → IsTrue (has_names task) → IsAscii (step_text task i)
step_ascii task i named =
    let both = and_parts (are_lower_names (schema_names task)) (are_lower_names (object_names task)) named in
    IsAscii-append ((40 ∷ schema_name task i.schema) ++ flat_map (object_text task) i.objects) (41 ∷ [])
    (IsAscii-append (40 ∷ schema_name task i.schema) (flat_map (object_text task) i.objects)
    (IsAscii-cons 40 (schema_name task i.schema) (omega arith) (name_of_ascii (λ (s : Schema). s.name) task.schemas i.schema both.0)) (objects_ascii task i.objects both.1))
    (IsAscii-cons 41 [] (omega arith) IsAscii-nil)
