use Rattle.std.proofs.Common.{◌≡◌, arith}
use Rattle.certificate_definitions.specs.Certificates.{one, two, three, four}
use Rattle.certificate_reader.proofs.ParseLemmas.{is_version, no_version}
use Rattle.certificate_reader.proofs.parsing.head_line.Goals as goal

pub returns-in-Some-eq1 : goal.returns-in-Some-eq1
returns-in-Some-eq1 c =
    let first : c.in-Some-eq1.field-0 ≡ 1 = omega (arith, c.in-Some-eq1.field-0-test) in
    is_version c.args.rest.now c.in-Some-eq1.field-0 one first c.in-Some-eq1.ensures.some.1

pub returns-in-Some-eq2 : goal.returns-in-Some-eq2
returns-in-Some-eq2 c =
    let second : c.in-Some-eq2.field-0 ≡ 2 = omega (arith, c.in-Some-eq2.field-0-test) in
    is_version c.args.rest.now c.in-Some-eq2.field-0 two second c.in-Some-eq2.ensures.some.1

pub returns-in-Some-eq3 : goal.returns-in-Some-eq3
returns-in-Some-eq3 c =
    let third : c.in-Some-eq3.field-0 ≡ 3 = omega (arith, c.in-Some-eq3.field-0-test) in
    is_version c.args.rest.now c.in-Some-eq3.field-0 three third c.in-Some-eq3.ensures.some.1

pub returns-in-Some-eq4 : goal.returns-in-Some-eq4
returns-in-Some-eq4 c =
    let fourth : c.in-Some-eq4.field-0 ≡ 4 = omega (arith, c.in-Some-eq4.field-0-test) in
    is_version c.args.rest.now c.in-Some-eq4.field-0 four fourth c.in-Some-eq4.ensures.some.1

pub returns-in-None : goal.returns-in-None
returns-in-None c = λ f. (no_version c.args.rest.now c.in-None.ensures.none f, λ same. c.in-None.ensures.none)
