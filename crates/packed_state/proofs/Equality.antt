-- Packed sets are equal exactly where their widths and words are.
use Rattle.std.proofs.Common.{◌≡◌, ◌≢◌, ◌↔◌, IsTrue, Bool, false, length, refl, sym, ap, ◌∙◌}
use Rattle.std.specs.Bool.{Decides, one_answer, beq}
use Rattle.std.specs.Cmp.{booleans_Decides}
use Rattle.std.specs.Cmp.Lexicographic.{pointwise, pointwise_decides}
use Rattle.std.proofs.lemmas.Bool.{false_from_ne_true}
use Rattle.packed_state.specs.declared.packed.Packed.{Packed}
use Rattle.packed_state.specs.Packed.{bits_of}
use Rattle.packed_state.specs.Words.{bits_in}
use Rattle.packed_state.proofs.PackedLemmas.{as_many, same_words}

-- `==` of packed sets
abbrev pub packed_eq : Packed → Packed → Bool
packed_eq a b = pointwise beq (bits_of a) (bits_of b)

pub packed_Decides : (a b : Packed) → Decides (packed_eq a b) (bits_of a ≡ bits_of b)
packed_Decides a b = pointwise_decides booleans_Decides (bits_of a) (bits_of b)

pub same_packed : (a b : Packed) → bits_of a ≡ bits_of b → (a.width ≡ b.width) × (a.words.items ≡ b.words.items)
unfolding bits_of
same_packed a b same =
    let wide : a.width ≡ b.width = (as_many a.width b.width a.words.items b.words.items a.packed b.packed (ap length same)).0 in
    (wide, same_words a.width a.words.items b.words.items a.packed (rw wide b.packed) (same ∙ rw wide refl))

-- of one width, they are equal where their words are
pub same_width : (a b : Packed) (same : Bool) → a.width ≡ b.width → IsTrue same ↔ (a.words.items ≡ b.words.items) → same ≡ packed_eq a b
unfolding bits_of
same_width a b same wide reported =
    one_answer same (packed_eq a b) (λ is i. bits_in (wide i) (reported.0 is i), λ bits. reported.1 (same_packed a b bits).1) (packed_Decides a b)

-- and of two widths never
pub other_width : (a b : Packed) → a.width ≢ b.width → false ≡ packed_eq a b
other_width a b differ = sym (false_from_ne_true (packed_eq a b) (λ is. differ (same_packed a b ((packed_Decides a b).0 is)).0))
