-- What `fill` writes into a buffer, and the rest of the bytes.
use Rattle.std.proofs.Common.{◌≡◌, ℕ, ◌+◌, ◌-◌, List, ◌++◌, ◌∙◌, length, take, drop, min, sym, ap, length-take}
use Rattle.std.proofs.lemmas.List.{drop-drop, drop_min, take_rest, take_at, drop_at}

-- `&items[place..]` as the prover sees it, for a slice with these items
pub from_place : (slice items : List ℕ) (place : ℕ) → slice ≡ items → take (length slice - place) (drop place slice) ≡ drop place items
from_place slice items place same = take_rest slice place ∙ ap (drop place) same

-- the contents of the filled part of the buffer, and past it
pub past : (into bytes new : List ℕ) (count : ℕ) → count ≡ min (length into) (length bytes)
    → new ≡ take (length into) bytes ++ drop (length bytes) into
    → (take count new ≡ take (length into) bytes) × (drop count new ≡ drop (length bytes) into)
past into bytes new count counted room =
    let long : length (take (length into) bytes) ≡ count = length-take (length into) bytes ∙ sym counted in (
      ap (take count) room ∙ take_at (take (length into) bytes) (drop (length bytes) into) count long,
      ap (drop count) room ∙ drop_at (take (length into) bytes) (drop (length bytes) into) count long,
    )

-- the rest after the bytes that filled the buffer
pub rest_of : (bytes : List ℕ) (place count room : ℕ) → count ≡ min room (length (drop place bytes)) → drop (place + count) bytes ≡ drop room (drop place bytes)
rest_of bytes place count room counted =
    sym (drop-drop count place bytes) ∙ ap (λ k. drop k (drop place bytes)) counted ∙ drop_min room (drop place bytes)
