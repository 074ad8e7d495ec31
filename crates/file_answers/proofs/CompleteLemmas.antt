-- No fault of a pair is left out.
use Rattle.std.proofs.Common.{◌≡◌, ◌∙◌, ◌≤◌, ◌<◌, ◌+◌, get_or, suc, ℕ, List, [], ◌∷◌, ◌++◌, length, map, take, Contains, ◌⊎◌, inl, inr, refl, sym, ap, subst, arith}
use Rattle.std.proofs.lemmas.List.{length-append, map_push}
use Rattle.std.proofs.Math.Seq.{take-suc}
use Rattle.std.proofs.lemmas.List.Elements.{All-contains_itself, Contains-append_cases, Contains-append_left, Contains-append_right}
use Rattle.std.proofs.lemmas.List.Sorted.{Contains-permutation}
use Rattle.explain_hints.specs.Refusals.{FileRefusal}
use Rattle.explain_faults.specs.SameMistake.{AreOfOneMistake, Texts}
use Rattle.typing.specs.Listed.{AreListed, faults_listed}
use Rattle.typing.specs.Task.{refusal_of}
use Rattle.pddl_tree.specs.declared.tree.TaskFile.{TaskFile}
use Rattle.pddl_tree.specs.declared.tree.TaskFile.TheVariants as pair
use Rattle.pddl_tree.specs.Tree.{file_of}
use Rattle.explain_hints.specs.Files.{file_view}
use Rattle.model.specs.Files.{of_task}
use Rattle.file_answers.specs.Complete.{AreListedOf, IsAccounted, IsComplete, IsReportedAmong, TaskRefusal, fault_in, of_pair, one_of_files}
use Rattle.file_answers.specs.FurtherFaults.{IsReportedAt}
use Rattle.file_answers.specs.declared.explanation.FurtherFault.{FurtherFault}
use Rattle.explain_hints.specs.declared.texts.File.TheVariants.{Domain, Problem}
use Rattle.model.proofs.ListLemmas.{Contains-cases, Contains-here, Contains-map, Contains-none, Contains-there, map-Contains}
use Rattle.model.specs.Resolution.{TypingFault}

-- a fault of a pair is reported for its file
at_file : (file : TaskFile) → file_view (one_of_files file) ≡ of_task (file_of file)
at_file pair.Domain = refl
at_file pair.Problem = refl

pub of_pair_reported : (r : TaskRefusal) → IsReportedAt (refusal_of r) (of_pair r)
of_pair_reported r = record { file = at_file r.file; fault = refl }

-- what holds of the first elements and of the next one holds of one more
pub taken_more : {A : Type 0} (items : List A) (i : ℕ) (P : A → Type 0) (d : A) → i < length items → ((x : A) → Contains (take i items) x → P x) → P (get_or items i d)
    → (x : A) → Contains (take (i + 1) items) x → P x
taken_more items i P d below before next x at =
    let next_is : i + 1 ≡ suc i = omega arith in
    let one : take (i + 1) items ≡ take i items ++ (get_or items i d ∷ []) = ap (λ n. take n items) next_is ∙ take-suc items i d below in
    elim (Contains-append_cases (take i items) (get_or items i d ∷ []) x (subst (λ l. Contains l x) one at)) [
      | inl early ↦ before x early
      | inr last ↦ elim (Contains-cases (get_or items i d) [] x last) [
        | inl is ↦ subst P is next
        | inr none ↦ absurd (Contains-none x none)
      ]
    ]

module _ (text_of : Texts) (first : FileRefusal) where
  -- what the last of the further faults adds
  module _ (old : List FurtherFault) (f : FurtherFault) (new : List FurtherFault) (is : new ≡ old ++ f ∷ []) where
    among_new : (other : FileRefusal) → Contains ((first ∷ map fault_in old) ++ fault_in f ∷ []) other → Contains (first ∷ map fault_in new) other
    among_new other at = subst (λ fs. Contains (first ∷ fs) other) (sym (ap (map fault_in) is ∙ map_push fault_in old f)) at

    pub still_accounted : (fault : FileRefusal) → IsAccounted text_of first old fault → IsAccounted text_of first new fault
    still_accounted fault (inl full) = inl (omega (arith, full, ap length is, length-append old (f ∷ [])))
    still_accounted fault (inr (other, among, from)) =
        inr (other, among_new other (Contains-append_left (first ∷ map fault_in old) (fault_in f ∷ []) other among), from)

    pub one_more_accounted : IsAccounted text_of first new (fault_in f)
    one_more_accounted =
        inr (fault_in f, among_new (fault_in f) (Contains-append_right (first ∷ map fault_in old) (fault_in f ∷ []) (fault_in f) (Contains-here (fault_in f) [])), inl refl)

  -- it comes from the mistake of the first, or of a further one
  pub of_first : (further : List FurtherFault) (fault : FileRefusal) → AreOfOneMistake text_of fault first → IsReportedAmong text_of (first ∷ map fault_in further) fault
  of_first further fault same = (first, Contains-here first (map fault_in further), inr same)

  pub of_further : (further : List FurtherFault) (fault : FileRefusal) (k : ℕ) (d : FurtherFault) → k < length further
      → AreOfOneMistake text_of fault (get_or further k d).fault → IsReportedAmong text_of (first ∷ map fault_in further) fault
  of_further further fault k d below same =
      let other = get_or further k d in
      let among : Contains further other = All-contains_itself further k d below in
      (fault_in other, Contains-there first (map fault_in further) (fault_in other) (Contains-map fault_in further other among), inr same)

  -- Each of the pair's faults in this list is accounted for, and so is each that is found with them.
  pub complete : (further : List FurtherFault) (found : List TaskRefusal) → AreListedOf (text_of Domain) (text_of Problem) found
      → ((r : TaskRefusal) → Contains found r → IsAccounted text_of first further (of_pair r)) → IsComplete text_of first further
  complete further found listed each of_typing d p d_reads p_reads typed at =
      let are = listed d p d_reads p_reads in
      let from = map-Contains refusal_of are.found typed (subst (λ l. Contains l typed) (sym are.are) at) in
      let r = from.0 in
      (of_pair r, subst (λ (t : TypingFault). IsReportedAt t (of_pair r)) from.2 (of_pair_reported r), each r (Contains-permutation are.found found r are.ordered from.1))
