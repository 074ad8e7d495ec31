use Rattle.std.proofs.Common.{◌≡◌, ◌∙◌, Bool, List, None, Some, if◌then◌else◌, ap, sym}
use Rattle.packed_state.specs.Packed.{bits_of}
use Rattle.packed_state.specs.Sets.{has}
use Rattle.search_tests.specs.Rooms.{behind, room}
use Rattle.search_tests.proofs.RoomLemmas.{leads}
use Rattle.search_tests.proofs.rooms.RoomsTransitionSystem.successor.Goals as goal

pub returns-clause-step : goal.returns-clause-step
returns-clause-step c =
    let r = c.args.self.now in
    leads (has (bits_of c.args._state.now) c.args.door) (room (behind r.first r.doors.now c.args.door)) c.requires.applicable
    ∙ ap (λ (s : List Bool). Some s) (sym (c.enter.ensures.room ∙ ap room c.behind.ensures))
