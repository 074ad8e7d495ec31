use Rattle.std.proofs.Common.{◌≡◌, ◌+◌, List, [], map, length, sym, subst}
use Rattle.std.proofs.lemmas.List.Elements.{All-nil}
use Rattle.task.specs.TaskParts.{atom_of}
use Rattle.model.specs.Task.{Atom}
use Rattle.model.specs.Claims.{bound}
use Rattle.symmetries_definitions.specs.Exchanges as code
use Rattle.lower_bounds.specs.LandmarkLines.{NumberedLandmarks}
use Rattle.certificate_definitions.specs.Certificates.{one, no_landmarks}
use Rattle.certificate.specs.CertificateParts.{exchange_in}
use Rattle.certificate.specs.Evidence.{potential_of}
use Rattle.lower_bounds.specs.PotentialFunctions.{PotentialFunction}
use Rattle.lower_bounds.specs.TableFunctions.{SeveralValues, Table as ModelTable}
use Rattle.table_rows.specs.Tables.{table_of, weight_count_of}
use Rattle.table_rows.specs.declared.table.Table.{Table}
use Rattle.cert_checker.specs.Given.{HaveGiven, Heading}
use Rattle.cert_checker.specs.Tabled.{HaveWeights}
use Rattle.cert_checker.proofs.GivenLemmas.{reported_nothing}
use Rattle.cert_checker.proofs.header.nothing_reported.Goals as goal

pub returns-clause-taken : goal.returns-clause-taken
returns-clause-taken c = λ task.
    let evidence : List PotentialFunction → List ModelTable → SeveralValues = λ values tables. record { values = values; dead_ends = potential_of c.of_no_atoms.result; tables = tables } in
    let begun_beside : NumberedLandmarks → List code.Exchange → List Atom → List PotentialFunction → List ModelTable → Heading =
    λ landmarks exchanges atoms values tables. record { version = one; claim = bound 0; exchanges = exchanges; atoms = atoms; evidence = evidence values tables; landmarks = landmarks } in
    let begun : List code.Exchange → List Atom → List PotentialFunction → List ModelTable → Heading = begun_beside no_landmarks in
    subst (λ landmarks. HaveGiven task [] (begun_beside landmarks (map exchange_in c.new.result.items) (map atom_of c.new-2.result.keys) (map potential_of c.new-3.result.items) (map table_of c.new-4.result.items))) (sym c.none.ensures)
    (subst (λ exchanges. HaveGiven task [] (begun (map exchange_in exchanges) (map atom_of c.new-2.result.keys) (map potential_of c.new-3.result.items) (map table_of c.new-4.result.items))) (sym c.new.ensures.items)
    (subst (λ values. HaveGiven task [] (begun [] (map atom_of c.new-2.result.keys) (map potential_of values) (map table_of c.new-4.result.items))) (sym c.new-3.ensures.items)
    (subst (λ tables. HaveGiven task [] (begun [] (map atom_of c.new-2.result.keys) [] (map table_of tables))) (sym c.new-4.ensures.items)
    (subst (λ keys. HaveGiven task [] (begun [] (map atom_of keys) [] [])) (sym c.new-2.ensures.empty)
    (subst (λ p. HaveGiven task [] (record { version = one; claim = bound 0; exchanges = []; atoms = []; evidence = record { values = []; dead_ends = p; tables = [] }; landmarks = no_landmarks })) (sym c.of_no_atoms.ensures) (reported_nothing task))))))

pub returns-clause-weighed : goal.returns-clause-weighed
returns-clause-weighed c =
    let count = length c.new-3.result.items + 1 in
    subst (HaveWeights count) (sym c.new-4.ensures.items) (All-nil (λ (t : Table). weight_count_of t ≡ count))
