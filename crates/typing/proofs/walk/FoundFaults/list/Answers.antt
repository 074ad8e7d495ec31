use Rattle.std.proofs.Common.{◌<◌, ◌≤◌, length, arith}
use Rattle.typing.proofs.Least.{listed_none, listed_one}
use Rattle.typing.proofs.walk.FoundFaults.list.Goals as goal

pub returns-then-len-ge-MAX_LISTED-clause-listed : goal.returns-then-len-ge-MAX_LISTED-clause-listed
returns-then-len-ge-MAX_LISTED-clause-listed c =
    let held = c.args.self.now.listed in
    let many : 1000 ≤ length held.items = omega (arith, c.len.ensures, held.ok.0, c.if-len-ge-MAX_LISTED.true) in
    listed_none held.items c.args.fault many

pub returns-clause-listed : goal.returns-clause-listed
returns-clause-listed c =
    let held = c.args.self.now.listed in
    let few : length held.items < 1000 = omega (arith, c.len.ensures, held.ok.0, c.if-len-ge-MAX_LISTED.false) in
    listed_one held.items c.push_reserved.new.self.items c.args.fault few c.push_reserved.ensures.items
