use Rattle.std.proofs.Common.{◌≡◌, ◌∙◌, ◌+◌, ◌++◌, length, ap, arith, length-append}
use Rattle.landmark_zones.specs.declared.zones.ZoneEnd.{ZoneEnd}
use Rattle.landmark_zones.specs.Rows.{zones_from, are_zone_ends}
use Rattle.landmark_zones.proofs.RowLemmas.{ok_fact}
use Rattle.landmark_zones.proofs.ZoneLemmas.{zone-ends-more, zones-more}
use Rattle.landmark_zones.proofs.zones.Zones.push.Goals as goal

pub returns-clause-fit : goal.returns-clause-fit
returns-clause-fit c =
    let z = c.args.self.now in
    let atoms = c.args.zone.atoms.now in
    let negated = c.args.zone.negated.now in
    let numbers = ok_fact _ c.extend.result c.if-is_err.ensures.negation c.extend.ensures.numbers in
    let ends = ok_fact _ c.extend.result c.if-is_err.ensures.negation c.extend.ensures.ends in
    let more : ZoneEnd = record { atoms = length z.numbers.items + length atoms; negated = length z.numbers.items + length atoms + length negated } in
    let long : length c.extend.new.self.numbers.items ≡ more.negated =
    omega (arith, ap length numbers, length-append (z.numbers.items ++ atoms) negated, length-append z.numbers.items atoms) in
    (λ i. are_zone_ends 0 (ends i) (long i)) ∙ zone-ends-more 0 z.ends.items (length z.numbers.items) more c.requires (omega arith) (omega arith)

pub returns-clause-ok : goal.returns-clause-ok
returns-clause-ok c =
    let z = c.args.self.now in
    let numbers = ok_fact _ c.extend.result c.if-is_err.ensures.negation c.extend.ensures.numbers in
    let ends = ok_fact _ c.extend.result c.if-is_err.ensures.negation c.extend.ensures.ends in
    (λ i. zones_from 0 (ends i) (numbers i)) ∙ zones-more 0 z.ends.items z.numbers.items c.args.zone.atoms.now c.args.zone.negated.now c.requires
