use Rattle.std.proofs.Common.{List, ℕ, sym, subst}
use Rattle.std.proofs.lemmas.Result.{on_ok_weaker}
use Rattle.packed_state.specs.Packed.{bits_of}
use Rattle.search.specs.Transitions.{AreApplicable}
use Rattle.search_tests.specs.Rooms.{rooms}
use Rattle.search_tests.proofs.RoomLemmas.{are_doors}
use Rattle.search_tests.proofs.rooms.RoomsTransitionSystem.applicable.Goals as goal

pub returns-clause-ok : goal.returns-clause-ok
returns-clause-ok c =
    let r = c.args.self.now in
    let state = bits_of c.args.state.now in
    on_ok_weaker c.list_numbers.result
    (λ is. subst (λ (doors : List ℕ). AreApplicable (rooms r.first r.doors.now) state doors) (sym is) (are_doors r.first r.doors.now state)) c.list_numbers.ensures.ok
