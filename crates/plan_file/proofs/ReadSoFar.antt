-- The plan reader's invariant from word to word: the form of the text so far, and the meaning of its steps.
use Rattle.std.proofs.Common.{◌≡◌, ℕ, ◌≤◌, List, [], ◌∷◌, ◌++◌, length, map, Option, Some, None, IfSome, ap, ◌∙◌, subst, sym, append_assoc, true, false, true≢false}
use Rattle.std.specs.Prelude.{is_some}
use Rattle.std.proofs.lemmas.List.{map-append}
use Rattle.tokens.specs.Reported.{reported_by}
use Rattle.faults.specs.declared.refused.TextRefusal.{TextRefusal}
use Rattle.faults.specs.declared.refused.Refused.TheVariants.{At}
use Rattle.model.specs.Fault.{Span, Fault}
use Rattle.model.specs.Task.{Task, Instance}
use Rattle.model.specs.PlanText.{Placed, Step, HasSteps, Means, AllMean, IsPlanText, IsPlanFault}
use Rattle.model.specs.Words.{longest_text}
use Rattle.model.specs.PlanMachine.{PlanPlace, outside, Advance, goes, ends, after_turn, at_end, outcome}
use Rattle.model.proofs.PlanMeaning.{all_mean_push}
use Rattle.plan_file.specs.PlanFile.{IsFirstFault, MeanOrRefused, IsMeaning}
use Rattle.plan_file.specs.declared.steps.Meaning.{Meaning}
use Rattle.plan_file.proofs.PlanWords.{Keeps, keeps_on, keeps_step, all_read}
use Rattle.plan_file.proofs.PlanSteps.{reported_more, meaning_refused}

-- There are steps so far, which are not stored in memory: the text up to here reads as them, and this is their meaning.
pub record IsReadSoFar (task : Task) (text : List ℕ) (left : List Placed) (place : PlanPlace) (meaning : Meaning) : Type 0 where
  pub steps : List Step
  pub keeps : Keeps text left place steps
  pub mean : IsMeaning task steps meaning

-- one more step
module _ (task : Task) (steps : List Step) (step : Step) where
  more_mean : {A : Type 0} (f : A → Instance) (items more : List A) (x : A) → more ≡ items ++ x ∷ [] → AllMean task steps (map f items) → Means task step (f x)
      → AllMean task (steps ++ step ∷ []) (map f more)
  more_mean f items more x more_is mean means =
      subst (AllMean task (steps ++ step ∷ [])) (sym (ap (map f) more_is ∙ map-append f items (x ∷ [])))
      (all_mean_push task steps (map f items) step (f x) mean means)

  -- the first refusal stays
  stays_first : (o : Option Fault) → IfSome o (IsFirstFault task steps) → IfSome o (IsFirstFault task (steps ++ step ∷ []))
  stays_first o h =
      reported_more (IsFirstFault task steps) (IsFirstFault task (steps ++ step ∷ [])) o
      (λ fault first. record {
        before = first.before;
        after = first.after ++ step ∷ [];
        step = first.step;
        plan = first.plan;
        in_order = ap (λ ss. ss ++ step ∷ []) first.in_order ∙ append_assoc first.before (first.step ∷ first.after) (step ∷ []);
        mean = first.mean;
        wrong = first.wrong;
      }) h

  -- after the first faulty step none is taken
  pub none_taken : (o : Option TextRefusal) → is_some o ≡ true → (plan : List Instance) → MeanOrRefused task steps o plan → MeanOrRefused task (steps ++ step ∷ []) o plan
  none_taken None refused plan mean = absurd (true≢false (sym refused))
  none_taken (Some refusal) refused plan first = stays_first (reported_by (At refusal)) first

  pub instance_taken : {A : Type 0} (f : A → Instance) (items more : List A) (x : A) → more ≡ items ++ x ∷ [] → (o : Option TextRefusal) → is_some o ≡ false → MeanOrRefused task steps o (map f items)
      → Means task step (f x) → MeanOrRefused task (steps ++ step ∷ []) o (map f more)
  instance_taken f items more x more_is None unrefused mean means = more_mean f items more x more_is mean means
  instance_taken f items more x more_is (Some refusal) unrefused mean means = absurd (true≢false unrefused)

-- the effect of a word here
module _ (task : Task) (text : List ℕ) (left after : List Placed) (place : PlanPlace) (t : Advance) (span : Span) (meaning : Meaning)
    (read : outcome (length text) left place ≡ after_turn span t (outcome (length text) after)) (so_far : IsReadSoFar task text left place meaning) where
  pub may_continue : (next : PlanPlace) → t ≡ goes next → IsReadSoFar task text after next meaning
  may_continue next e = record { steps = so_far.steps; keeps = keeps_on text left after place t span so_far.steps read so_far.keeps next e; mean = so_far.mean }

  pub takes_step : (step : Step) → t ≡ ends step → (taken : Meaning) → ((steps : List Step) → IsMeaning task steps meaning → IsMeaning task (steps ++ step ∷ []) taken)
      → IsReadSoFar task text after outside taken
  takes_step step e meant taken = record {
    steps = so_far.steps ++ step ∷ [];
    keeps = keeps_step text left after place t span so_far.steps read so_far.keeps step e;
    mean = taken so_far.steps so_far.mean;
  }

-- the end of the text, outside of steps
module _ (task : Task) (text : List ℕ) (left : List Placed) (place : PlanPlace) (meaning : Meaning) (short : length text ≤ longest_text)
    (read : outcome (length text) left place ≡ at_end (length text) place) (so_far : IsReadSoFar task text left place meaning) (is_outside : place ≡ outside) where
  has : HasSteps text so_far.steps
  has = all_read text left place so_far.steps short read so_far.keeps is_outside

  pub plan_read : (plan : List Instance) → ((task : Task) (steps : List Step) → IsMeaning task steps meaning → AllMean task steps plan) → IsPlanText task text plan
  plan_read plan mean = (so_far.steps, has, mean task so_far.steps so_far.mean)

  pub fault_read : (o : Option Fault) → ((task : Task) (steps : List Step) → IsMeaning task steps meaning → IfSome o (IsFirstFault task steps)) → IfSome o (IsPlanFault task text)
  fault_read o first = meaning_refused task text so_far.steps has o (first task so_far.steps so_far.mean)
