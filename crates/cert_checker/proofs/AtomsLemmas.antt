-- Atoms that are added, and atoms that occurred before.
use Rattle.std.proofs.Common.{◌≡◌, Bool, true, false, not, List, [], ◌∷◌, ◌++◌, map, refl, sym, ap, ◌∙◌, subst}
use Rattle.std.specs.Prelude.{ℤ, IsTrue, Contains, if◌then◌else◌}
use Rattle.std.specs.List.{list_any}
use Rattle.std.proofs.lemmas.Bool.{false≢true}
use Rattle.std.proofs.lemmas.List.{map-append}
use Rattle.std.proofs.lemmas.List.Folds.{list_any_at}
use Rattle.std.proofs.lemmas.Map.Views.{Contains-from_any}
use Rattle.indexmap.specs.IndexSet.{insert_key}
use Rattle.task.specs.declared.atoms.Atom as code
use Rattle.task.specs.TaskParts.{atom_of}
use Rattle.formulas.proofs.Equality.{atom_eq, equal_atoms, same_atoms, one_atom}
use Rattle.model.specs.Task.{Atom, Task}
use Rattle.model.specs.WellTyped.{is_atom}
use Rattle.model.specs.Fluents.{is_fluent}
use Rattle.model.proofs.ListLemmas.{Contains-map, map-Contains}
use Rattle.certificate_definitions.specs.CertificateText.{WeightedAtom, TextLine, atom, BeginCertificate}
use Rattle.certificate_definitions.specs.CertificateNames.{Names}
use Rattle.certificate_definitions.specs.CertificateChecking.{IsWrongAfter}
use Rattle.cert_checker.specs.Given.{Heading, HaveGiven, with_weights}
use Rattle.cert_checker.proofs.GivenLemmas.{reported_new_atom, wrong_again}

any_there : (x : code.Atom) (keys : List code.Atom) → Contains (map atom_of keys) (atom_of x) → list_any (atom_eq x) keys ≡ true
any_there x keys among =
    let (y, at, is) = map-Contains atom_of keys (atom_of x) among in
    list_any_at (atom_eq x) keys at.0 y at.1 (ap (atom_eq x) at.2 ∙ same_atoms x y (sym is))

was_there : (is_new old : Bool) → is_new ≡ not old → is_new ≡ false → old ≡ true
was_there is_new true is fails = refl
was_there is_new false is fails = absurd (false≢true (sym fails ∙ is))

was_new : (is_new old : Bool) → is_new ≡ not old → is_new ≡ true → old ≡ false
was_new is_new true is holds = absurd (false≢true (sym is ∙ holds))
was_new is_new false is holds = refl

-- the header with these atoms, and the weights of one more
abbrev pub with_atom : Heading → List ℤ → List Atom → Heading
with_atom heading weights atoms = record { version = heading.version; claim = heading.claim; exchanges = heading.exchanges; atoms = atoms; evidence = with_weights heading.evidence weights; landmarks = heading.landmarks }

module _ (task : Task) (before : List TextLine) (heading : Heading) (keys : List code.Atom) (atoms_are : heading.atoms ≡ map atom_of keys)
    (reported : HaveGiven task before heading) (said : WeightedAtom) (a : code.Atom) (names : Names task said.atom (atom_of a)) (typed : IsTrue (is_atom task (atom_of a)))
    (changes : IsTrue (is_fluent task (atom_of a).predicate)) (is_new : Bool) (added : is_new ≡ not (list_any (atom_eq a) keys)) where
  pub new_is_reported : is_new ≡ true → BeginCertificate (before ++ atom said ∷ []) → (after : List code.Atom) → after ≡ insert_key atom_eq keys a → HaveGiven task (before ++ atom said ∷ []) (with_atom heading said.weights (map atom_of after))
  new_is_reported holds begun after is =
      let absent = was_new is_new (list_any (atom_eq a) keys) added holds in
      subst (λ atoms. HaveGiven task (before ++ atom said ∷ []) (with_atom heading said.weights atoms))
      (ap (λ atoms. atoms ++ atom_of a ∷ []) atoms_are ∙ sym (ap (map atom_of) (is ∙ ap (λ b. if b then keys else keys ++ a ∷ []) absent) ∙ map-append atom_of keys (a ∷ [])))
      (reported_new_atom task before heading reported said (atom_of a) names typed changes
      (λ among. false≢true (sym absent ∙ any_there a keys (subst (λ atoms. Contains atoms (atom_of a)) atoms_are among))) begun)

  pub again_is_wrong : is_new ≡ false → IsWrongAfter task before (atom said) 44
  again_is_wrong fails =
      wrong_again task before heading reported said (atom_of a) names typed changes
      (subst (λ atoms. Contains atoms (atom_of a)) (sym atoms_are)
      (Contains-map atom_of keys a (Contains-from_any (λ a b alike. one_atom a b (equal_atoms a b alike)) a keys (was_there is_new (list_any (atom_eq a) keys) added fails))))
