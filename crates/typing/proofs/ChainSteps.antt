-- How a chain of parents grows step by step, and how the types and the faults of their chains continue by number.
use Rattle.std.proofs.Common.{◌≡◌, ℕ, ◌+◌, ◌-◌, ◌<◌, ◌≤◌, List, [], ◌∷◌, ◌++◌, map, length, get_or, drop, take, slice_index, refl, ap, sym, ◌∙◌, arith, zero, suc, if◌then◌else◌}
use Rattle.std.specs.Map.{keys_of}
use Rattle.std.proofs.lemmas.List.{append_assoc, append-nil, drop_more, drop_all, length-map}
use Rattle.std.specs.Global.{Vec}
use Rattle.indexmap.specs.IndexMap.{set_value_at}
use Rattle.task.specs.declared.atoms.TypeId.{TypeId}
use Rattle.task.specs.TaskParts.{type_entry_of, type_of}
use Rattle.typing.specs.Scope.{keys_in}
use Rattle.model.specs.Typing.{TypingFault, Declared, chain, comes_back, cycle_faults_from, refused_word, types_from, whole_chain}
use Rattle.typing.specs.Walk.{Findings, found}
use Rattle.typing.proofs.Found.{found-append}

-- one more type, other than `object`
pub one_type_more : (parents : List ℕ) (n i next after : ℕ) (so_far whole : List ℕ) → i < n → (next ≡ 0 → ⊥) → after ≡ slice_index parents next
    → so_far ++ chain parents (n - i) next ≡ whole → (so_far ++ next ∷ []) ++ chain parents (n - (i + 1)) after ≡ whole
one_type_more parents n i zero after so_far whole l not_root is h = absurd (not_root refl)
one_type_more parents n i (suc k) after so_far whole l not_root is h =
    let left : n - i ≡ suc (n - (i + 1)) = omega (arith, l) in
    ap (λ a. (so_far ++ suc k ∷ []) ++ chain parents (n - (i + 1)) a) is
    ∙ append_assoc so_far (suc k ∷ []) (chain parents (n - (i + 1)) (slice_index parents (suc k)))
    ∙ ap (λ m. so_far ++ chain parents m (suc k)) (sym left) ∙ h

-- and `object` ends the chain
pub root_ends : (parents : List ℕ) (n i next : ℕ) (so_far whole : List ℕ) → i < n → next ≡ 0
    → so_far ++ chain parents (n - i) next ≡ whole → so_far ++ next ∷ [] ≡ whole
root_ends parents n i next so_far whole l is h =
    let left : n - i ≡ suc (n - (i + 1)) = omega (arith, l) in
    ap (λ a. so_far ++ a ∷ []) is
    ∙ sym (ap (λ a. so_far ++ chain parents (n - i) a) is ∙ ap (λ m. so_far ++ chain parents m 0) left) ∙ h

-- no step is left
pub steps_end : (parents : List ℕ) (n i next : ℕ) (so_far whole : List ℕ) → n ≤ i
    → so_far ++ chain parents (n - i) next ≡ whole → so_far ≡ whole
steps_end parents n i next so_far whole l h =
    let none : n - i ≡ 0 = omega (arith, l) in
    sym (append-nil so_far) ∙ sym (ap (λ m. so_far ++ chain parents m next) none) ∙ h

-- one more type is examined
pub cycle_step : {X : Type 0} (parents : List ℕ) (seen : X → Declared) (xs : List X) (i : ℕ) (d : X) → i < length xs
    → (least new whole : Findings)
    → new ≡ found least (if comes_back parents (i + 1) then refused_word (seen (get_or xs i d)).file 15 (seen (get_or xs i d)).name else [])
    → found least (cycle_faults_from parents (i + 1) (map seen (drop i xs))) ≡ whole
    → found new (cycle_faults_from parents ((i + 1) + 1) (map seen (drop (i + 1) xs))) ≡ whole
cycle_step parents seen xs i d l least new whole finds h =
    let x = seen (get_or xs i d) in
    let own = if comes_back parents (i + 1) then refused_word x.file 15 x.name else [] in
    let rest = cycle_faults_from parents ((i + 1) + 1) (map seen (drop (i + 1) xs)) in
    ap (λ o. found o rest) finds ∙ sym (found-append least own rest)
    ∙ sym (ap (λ ys. found least (cycle_faults_from parents (i + 1) (map seen ys))) (drop_more xs i d l)) ∙ h

pub cycle_end : {X : Type 0} (parents : List ℕ) (seen : X → Declared) (xs : List X) (i : ℕ) → length xs ≤ i
    → (least whole : Findings) → found least (cycle_faults_from parents (i + 1) (map seen (drop i xs))) ≡ whole → least ≡ whole
cycle_end parents seen xs i l least whole h =
    sym (ap (λ ys. found least (cycle_faults_from parents (i + 1) (map seen ys))) (drop_all i xs l)) ∙ h

-- one more type gets its supertypes
pub one_filled : (parents : List ℕ) (start i : ℕ) (es : List (Vec ℕ × Vec TypeId)) (supertypes : Vec TypeId) → i < length es → map type_of supertypes.items ≡ whole_chain parents (start + i)
    → take i (map type_entry_of es) ≡ take i (types_from parents start (keys_in es))
    → take (suc i) (map type_entry_of (set_value_at es i supertypes)) ≡ take (suc i) (types_from parents start (keys_in es))
one_filled parents start i [] supertypes l is h = absurd (omega (arith, l))
one_filled parents start zero (e ∷ es) supertypes l is h =
    let whole : map type_of supertypes.items ≡ whole_chain parents start = is ∙ ap (whole_chain parents) (omega arith) in
    λ j. record { name = e.0.items; supertypes = whole j } ∷ []
one_filled parents start (suc i) (e ∷ es) supertypes l is h =
    let first : type_entry_of e ≡ record { name = e.0.items; supertypes = whole_chain parents start } = cc in
    let others : take i (map type_entry_of es) ≡ take i (types_from parents (start + 1) (keys_in es)) = cc in
    let next : map type_of supertypes.items ≡ whole_chain parents ((start + 1) + i) = is ∙ ap (whole_chain parents) (omega arith) in
    λ j. first j ∷ one_filled parents (start + 1) i es supertypes (omega (arith, l)) next others j

-- a table has as many names as entries
pub length_keys : {V : Type 0} (es : List (Vec ℕ × V)) → length (keys_in es) ≡ length es
length_keys es = length-map (keys_of es) (λ k. k.items) ∙ length-map es (λ e. e.0)
