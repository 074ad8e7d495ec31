use Rattle.std.proofs.Common.{◌≡◌, ◌∙◌, ◌++◌, Bool, length, ap, arith}
use Rattle.std.specs.Prelude.{cond}
use Rattle.packed_state.specs.Packed.{bits_of}
use Rattle.search_spaces.proofs.RowLemmas.{length-states, stride_long, rows_pushed, states_pushed}
use Rattle.search_spaces.proofs.rows.States.push_reserved.Goals as goal

pub overflow_add-self : goal.overflow_add-self
overflow_add-self c =
    let s = c.args.self.now in
    record { fits = omega (arith, c.requires.few, length-states s.width s.stride s.count s.words.items s.rows) }

pub invariant_of-self : goal.invariant_of-self
invariant_of-self c =
    let s = c.args.self.now in
    let row = c.words.result.now in
    let long = stride_long s.width s.stride s.count s.words.items s.rows (length (bits_of c.args.state.now)) row c.requires.width c.words.ensures.packed in
    let room = c.requires.room in
    let pushed : c.extend_from_slice-room_was_made.new.self.items ≡ s.words.items ++ row =
    c.extend_from_slice-room_was_made.ensures.items
    ∙ ap (λ (b : Bool). cond b (s.words.items ++ row) s.words.items) (c.extend_from_slice-room_was_made.ensures.succeeds (omega (arith, room, long))) in
    record { rows = rows_pushed s.width s.stride s.count s.words.items s.rows (length (bits_of c.args.state.now)) row c.requires.width c.words.ensures.packed c.extend_from_slice-room_was_made.new.self.items pushed }

pub returns-clause-states : goal.returns-clause-states
returns-clause-states c =
    let s = c.args.self.now in
    let row = c.words.result.now in
    let long = stride_long s.width s.stride s.count s.words.items s.rows (length (bits_of c.args.state.now)) row c.requires.width c.words.ensures.packed in
    let room = c.requires.room in
    let pushed : c.extend_from_slice-room_was_made.new.self.items ≡ s.words.items ++ row =
    c.extend_from_slice-room_was_made.ensures.items
    ∙ ap (λ (b : Bool). cond b (s.words.items ++ row) s.words.items) (c.extend_from_slice-room_was_made.ensures.succeeds (omega (arith, room, long))) in
    states_pushed s.width s.stride s.count s.words.items s.rows (length (bits_of c.args.state.now)) row c.requires.width c.words.ensures.packed c.extend_from_slice-room_was_made.new.self.items
    (bits_of c.args.state.now) pushed c.words.ensures.bits
