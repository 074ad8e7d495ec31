-- Lines of notes that are put together.
use Rattle.std.proofs.Common.{◌≡◌, ◌∙◌, ℕ, ◌+◌, ◌<◌, Bool, true, List, [], ◌∷◌, ◌++◌, append_assoc, append-nil, get_or, length, map, take, ap, sym, arith}
use Rattle.std.specs.Prelude.{nat_lt, OnOk, Result, Ok, Err}
use Rattle.std.specs.List.{flat_map}
use Rattle.std.proofs.lemmas.Bool.{lt-ltb}
use Rattle.std.proofs.lemmas.Grind.{flat_map-append}
use Rattle.std.proofs.lemmas.List.{length-map, map_push, take-map, take_more}
use Rattle.explain_tasks.specs.NoteLines.{line_if}

-- parts that are added in turn
pub three_parts : (a b c one two three : List ℕ) → one ≡ a → two ≡ one ++ b → three ≡ two ++ c → three ≡ a ++ (b ++ c)
three_parts a b c one two three first second third =
    third ∙ ap (λ (l : List ℕ). l ++ c) (second ∙ ap (λ (l : List ℕ). l ++ b) first) ∙ append_assoc a b c

pub four_parts : (a b c d one two three four : List ℕ) → one ≡ a → two ≡ one ++ b → three ≡ two ++ c → four ≡ three ++ d → four ≡ a ++ (b ++ (c ++ d))
four_parts a b c d one two three four first second third fourth =
    fourth ∙ ap (λ (l : List ℕ). l ++ d) (three_parts a b c one two three first second third) ∙ append_assoc a (b ++ c) d
    ∙ ap (λ (l : List ℕ). a ++ l) (append_assoc b c d)

-- the same behind what was there
pub four_added : (old a b c d one two three four : List ℕ) → one ≡ old ++ a → two ≡ one ++ b → three ≡ two ++ c → four ≡ three ++ d → four ≡ old ++ (a ++ (b ++ (c ++ d)))
four_added old a b c d one two three four first second third fourth =
    four_parts (old ++ a) b c d one two three four first second third fourth ∙ append_assoc old a (b ++ (c ++ d))

-- the lines of one item more
pub line_more : {X Y : Type 0} (view : X → Y) (line_of : Y → List (List ℕ)) (items : List X) (i : ℕ) (item : X) (old now new : List (List ℕ)) → i < length items → item ≡ get_or items i item
    → now ≡ old ++ flat_map line_of (map view (take i items)) → new ≡ now ++ line_of (view item) → new ≡ old ++ flat_map line_of (map view (take (i + 1) items))
line_more {X} {Y} view line_of items i item old now new below is are added =
    let before = take i items in
    let reported = flat_map line_of (map view before) in
    let more : take (i + 1) items ≡ before ++ item ∷ [] = take_more items i item below ∙ ap (λ (x : X). before ++ x ∷ []) (sym is) in
    let views : map view (take (i + 1) items) ≡ map view before ++ view item ∷ [] = ap (map view) more ∙ map_push view before item in
    let lines : flat_map line_of (map view (take (i + 1) items)) ≡ reported ++ line_of (view item) =
    ap (flat_map line_of) views ∙ flat_map-append line_of (map view before) (view item ∷ []) ∙ ap (λ (l : List (List ℕ)). reported ++ l) (append-nil (line_of (view item))) in
    added
    ∙ ap (λ (l : List (List ℕ)). l ++ line_of (view item)) are
    ∙ append_assoc old reported (line_of (view item))
    ∙ ap (λ (l : List (List ℕ)). old ++ l) (sym lines)

-- the first few lines, and the line that there are more
pub with_more : {X Y T E : Type 0} (result : Result T E) (view : X → Y) (line_of : Y → List (List ℕ)) (more : List ℕ) (items reported : List X) (old now new : List (List ℕ)) → reported ≡ take 10 items → 10 < length items
    → now ≡ old ++ flat_map line_of (map view reported) → OnOk result (new ≡ now ++ more ∷ [])
    → OnOk result (new ≡ old ++ (flat_map line_of (take 10 (map view items)) ++ line_if (nat_lt 10 (length (map view items))) more))
with_more {X} {Y} (Ok done) view line_of more items reported old now new first many are then =
    let same : map view reported ≡ take 10 (map view items) = ap (map view) first ∙ sym (take-map view 10 items) in
    let beyond : nat_lt 10 (length (map view items)) ≡ true = lt-ltb 10 (length (map view items)) (omega (arith, many, length-map items view)) in
    then
    ∙ ap (λ (l : List (List ℕ)). l ++ more ∷ []) are
    ∙ append_assoc old (flat_map line_of (map view reported)) (more ∷ [])
    ∙ ap (λ (ys : List Y). old ++ (flat_map line_of ys ++ more ∷ [])) same
    ∙ ap (λ (is : Bool). old ++ (flat_map line_of (take 10 (map view items)) ++ line_if is more)) (sym beyond)
with_more (Err refused) view line_of more items reported old now new first many are then = tt
