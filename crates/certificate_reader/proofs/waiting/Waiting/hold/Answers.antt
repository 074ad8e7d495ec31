use Rattle.std.specs.Result.{is_ok}
use Rattle.certificate_reader.specs.Ends.{is_end}
use Rattle.certificate_reader.proofs.FirstPlaces.{known_still}
use Rattle.certificate_reader.proofs.waiting.Waiting.hold.Goals as goal

pub invariant_of-self : goal.invariant_of-self
invariant_of-self c =
    let waiting = c.args.self.now in
    let still = known_still is_end waiting.start waiting.passed_over waiting.held.items _ c.extend_from_slice.new.self.items (is_ok c.extend_from_slice.result) waiting.starts_within waiting.no_end_before c.extend_from_slice.ensures.items in
    record { starts_within = still.0; no_end_before = still.1 }
