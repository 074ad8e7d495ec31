-- Paths without `.` and `..`, and their comparison.
use Rattle.std.proofs.Common.{◌≡◌, ◌≢◌, ◌∙◌, ℕ, suc, ◌+◌, Bool, true, false, ◌&&◌, ◌||◌, not, List, [], ◌∷◌, ◌++◌, length, Option, None, Some, refl, sym, ap, subst, arith}
use Rattle.std.specs.Prelude.{nat_eq, ◌==◌, IsTrue, MatchOption, is_some, reverse}
use Rattle.std.specs.Borrow.{Bor}
use Rattle.std.specs.Cmp.Lexicographic.{pointwise, bytes_decides}
use Rattle.std.specs.Path.{HasNoSlash, cur_dir, is_name, parent_dir, root_dir}
use Rattle.std.specs.Str.{bytes_eq}
use Rattle.std.proofs.lemmas.Bool.{false≢true}
use Rattle.std.proofs.lemmas.List.{append_assoc, map-append, reverse-append}
use Rattle.clap.specs.Walk.{Text}
use Rattle.command_line.specs.OneFile.{leave_out, unless_left}
use Rattle.command_line.specs.View.{texts}

-- borrowed texts are compared as texts
pub same_texts : (one other : List (Bor Text)) → pointwise (λ (x y : Bor Text). pointwise nat_eq x.now y.now) one other ≡ pointwise bytes_eq (texts one) (texts other)
same_texts [] [] = refl
same_texts [] (y ∷ other) = refl
same_texts (x ∷ one) [] = refl
same_texts (x ∷ one) (y ∷ other) = ap (λ (same : Bool). bytes_eq x.now y.now && same) (same_texts one other)

-- ---- a name that comes from the end

last_false : (a b : Bool) → not (a || b) ≡ true → b ≡ false
last_false true b is = absurd (false≢true is)
last_false false true is = absurd (false≢true is)
last_false false false is = refl

differ : (one other : Text) → one ≢ other → bytes_eq one other ≡ false
differ one other apart =
    elim (bytes_eq one other) as (λ (b : Bool). bytes_eq one other ≡ b → b ≡ false) [
      | true ↦ λ is. absurd (apart ((bytes_decides one other).0 is))
      | false ↦ λ _. refl
    ] refl

-- a name has no slash, so it is not the root
no_root : (name : Text) → HasNoSlash name → name ≢ root_dir
no_root name plain is = absurd (subst HasNoSlash is plain)

name_step : (name : Text) → IsTrue (is_name name) → name ≢ parent_dir → HasNoSlash name → (up : ℕ) (before : List Text) → leave_out up (name ∷ before) ≡ unless_left name up (λ n. leave_out n before)
name_step name named apart plain up before =
    rw (differ name root_dir (no_root name plain), last_false (length name == 0) (bytes_eq name cur_dir) named, differ name parent_dir apart) refl

pub name_left : (name : Text) → IsTrue (is_name name) × (name ≢ parent_dir) × HasNoSlash name → (up : ℕ) (old new : List Text) → old ≡ new ++ name ∷ []
    → leave_out up (reverse old) ≡ unless_left name up (λ n. leave_out n (reverse new))
name_left name well up old new is =
    ap (λ (parts : List Text). leave_out up (reverse parts)) is ∙ ap (leave_out up) (reverse-append new (name ∷ [])) ∙ name_step name well.0 well.1 well.2 up (reverse new)

-- it is listed if no `..` is left
pub name_listed : (parts : List (Bor Text)) (name : Bor Text) (up : ℕ) (rest : ℕ → List Text) → up ≡ 0 → texts parts ++ unless_left name.now up rest ≡ texts (parts ++ name ∷ []) ++ rest 0
name_listed parts name up rest none =
    ap (λ (n : ℕ). texts parts ++ unless_left name.now n rest) none ∙ sym (append_assoc (texts parts) (name.now ∷ []) (rest 0))
    ∙ ap (λ (listed : List Text). listed ++ rest 0) (sym (map-append (λ (x : Bor Text). x.now) parts (name ∷ [])))

-- and else it takes one with it
pub name_skipped : (name : Text) (up less : ℕ) (rest : ℕ → List Text) → less + 1 ≡ up → unless_left name up rest ≡ rest less
name_skipped name up less rest is = let more : up ≡ suc less = omega (arith, is) in ap (λ (n : ℕ). unless_left name n rest) more

-- ---- what is taken from a list's end

pub none_taken : {X : Type 0} (o : Option X) (before after : ℕ) → is_some o ≡ false → MatchOption o ((before ≡ 0) × (after ≡ 0)) (λ _. after + 1 ≡ before) → (before ≡ 0) × (after ≡ 0)
none_taken None before after none cases = cases
none_taken (Some x) before after none cases = absurd (false≢true (sym none))

pub one_taken : {X : Type 0} (o : Option X) (before after : ℕ) → is_some o ≡ true → MatchOption o ((before ≡ 0) × (after ≡ 0)) (λ _. after + 1 ≡ before) → after + 1 ≡ before
one_taken None before after some cases = absurd (false≢true some)
one_taken (Some x) before after some cases = cases
