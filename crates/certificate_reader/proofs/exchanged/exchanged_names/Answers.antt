use Rattle.std.proofs.Common.{rules, ◌≡◌, true, false, map}
use Rattle.certificate_definitions.specs.CertificateText.{are_paired, differ}
use Rattle.certificate_reader.specs.Lines.{name_of}
use Rattle.certificate_reader.proofs.ExchangedRead.{exchanged_from, passed_by, not_paired, not_different}
use Rattle.certificate_reader.proofs.exchanged.exchanged_names.Goals as goal

pub returns-in_default-clause-none : goal.returns-in_default-clause-none
returns-in_default-clause-none c =
    let never = rw c.in_default.is at c.in_ok-names.ensures.none in
    λ names are splits. never names (passed_by names are).lower splits

pub returns-then-not-are_paired-clause-none : goal.returns-then-not-are_paired-clause-none
returns-then-not-are_paired-clause-none c =
    let read = rw c.in-Some.is at c.in_ok-names.ensures.some in
    let left : are_paired (map name_of c.in-Some.names.items) ≡ false = search rules in
    not_paired (map name_of c.in-Some.names.items) c.args.rest.now read.0 read.1 left

pub returns-then-not-differ-clause-none : goal.returns-then-not-differ-clause-none
returns-then-not-differ-clause-none c =
    let read = rw c.in-Some.is at c.in_ok-names.ensures.some in
    let twice : differ (map name_of c.in-Some.names.items) ≡ false = search rules in
    not_different (map name_of c.in-Some.names.items) c.args.rest.now read.0 read.1 twice

pub returns-clause-some : goal.returns-clause-some
returns-clause-some c =
    let read = rw c.in-Some.is at c.in_ok-names.ensures.some in
    let paired : are_paired (map name_of c.in-Some.names.items) ≡ true = search rules in
    let different : differ (map name_of c.in-Some.names.items) ≡ true = search rules in
    (exchanged_from (map name_of c.in-Some.names.items) c.args.rest.now paired different read.0 read.1, read.1)
