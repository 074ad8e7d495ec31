use Rattle.std.proofs.Common.{◌≡◌, ℕ, ◌+◌, ◌<◌, List, [], ◌++◌, ◌∙◌, length, take, drop, min, sym, ap, arith, take-append-drop, drop_of_length-le, length-drop}
use Rattle.devices.proofs.Filling.{from_place, past, rest_of}
use Rattle.devices.proofs.memory.MemorySource.read.Goals as goal

-- nothing comes into a non-empty buffer only if nothing is left
at_end : (bytes into new : List ℕ) (next count : ℕ) → count ≡ min (length into) (length (drop next bytes)) → length new ≡ length into
    → count ≡ 0 → 0 < length new → drop (next + count) bytes ≡ []
at_end bytes into new next count counted long none room =
    drop_of_length-le bytes (omega (arith, counted, long, none, room, length-drop next bytes))

pub returns-clause-bytes : goal.returns-clause-bytes
returns-clause-bytes c =
    let into = c.args.into.now in
    let bytes = c.args.self.now.bytes.items in
    let next = c.args.self.now.next in
    let count = c.fill-count.result in
    let rest = from_place _ _ next c.as_slice.ensures.value in
    let counted : count ≡ min (length into) (length (drop next bytes)) = c.fill-count.ensures.count ∙ ap (λ l. min (length into) (length l)) rest in
    let (front, following) = past into (drop next bytes) c.fill-count.new.into count counted (c.fill-count.ensures.room ∙ ap (λ l. take (length into) l ++ drop (length l) into) rest) in (
      sym (take-append-drop (length into) (drop next bytes)) ∙ ap (λ l. l ++ drop (length into) (drop next bytes)) (sym front)
          ∙ ap (λ l. take count c.fill-count.new.into ++ l) (sym (rest_of bytes next count (length into) counted)),
      λ none room. at_end bytes into c.fill-count.new.into next count counted c.fill-count.auto.into none room,
    )
