use Rattle.std.proofs.Common.{◌≡◌, ◌<◌, Some, length, sym, ap, subst, arith}
use Rattle.std.specs.Prelude.{slice_get, slice_index_or}
use Rattle.std.proofs.lemmas.List.{length-map}
use Rattle.std.proofs.lemmas.Option.{slice_get-get_or}
use Rattle.packed_state.specs.Packed.{bits_of}
use Rattle.packed_state.specs.PooledView.{pooled_states}
use Rattle.certificate_reader.specs.declared.line.Mark.TheVariants.{Expanded}
use Rattle.certificate.specs.ListedSets.{marked}
use Rattle.certificate.specs.CertificateParts.{listed_of}
use Rattle.certificate.specs.Certificate.{certificate_of, store_in}
use Rattle.certificate.proofs.NumbersLemmas.{count_of_lines, few_lines, line_read, where_listed}
use Rattle.certificate.proofs.cert.Cert.read_line.Goals as goal

pub overflow_cast-place : goal.overflow_cast-place
overflow_cast-place c = omega (arith, c.requires.there, few_lines c.args.self.now)

pub get-requires-clause-there : goal.get-requires-clause-there
get-requires-clause-there c =
    subst (λ store. c.args.place < length (pooled_states store)) (sym c.sets.ensures) (omega (arith, c.requires.there, count_of_lines c.args.self.now))

pub returns-clause-line : goal.returns-clause-line
returns-clause-line c =
    let cert = c.args.self.now in
    let mark = slice_index_or c.marks.result.now c.args.place (record { cost = 0; mark = Expanded }) in
    let within : c.args.place < length c.marks.result.now =
    omega (arith, c.requires.there, length-map c.marks.result.now listed_of, ap length c.marks.ensures.marks, length-map (certificate_of cert).lines marked) in
    let set : slice_get (pooled_states (store_in cert)) c.args.place ≡ Some (bits_of c.get.new.into) =
    subst (λ store. slice_get (pooled_states store) c.args.place ≡ Some (bits_of c.get.new.into)) c.sets.ensures c.get.ensures.set in
    where_listed c.list_numbers.result (certificate_of cert).lines c.args.place (listed_of mark) (bits_of c.get.new.into) c.list_numbers.new.into.items
    (line_read cert c.args.place c.marks.result.now mark (bits_of c.get.new.into) c.marks.ensures.marks (slice_get-get_or c.marks.result.now c.args.place (record { cost = 0; mark = Expanded }) within) set)
    c.list_numbers.ensures.ok
