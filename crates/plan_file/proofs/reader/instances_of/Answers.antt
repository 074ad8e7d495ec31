use Rattle.std.proofs.Common.{rules, arith, ◌≡◌, ◌++◌, ◌∷◌, [], ◌∙◌, ◌≤◌, sym, ap, subst, ⊎_elim, length, map, List}
use Rattle.std.proofs.lemmas.Result.{err_from_is_err_and}
use Rattle.task.specs.Task.{task_of}
use Rattle.formulas.specs.State.{instance_of}
use Rattle.tokens.specs.Reported.{reported_by}
use Rattle.faults.proofs.Results.{if_ok, if_err}
use Rattle.model.specs.PlanMachine.{turn, ends, open_at, at_end, refuses}
use Rattle.model.specs.PlanText.{Step}
use Rattle.plan_file.specs.PlanFile.{step_of, place_of, turn_of, span_of, sort_of, name_of, IsMeaning}
use Rattle.tokens.specs.declared.lexeme.Lexeme.{Lexeme}
use Rattle.tokens.specs.Lexeme.{placed_of, lexemes_left}
use Rattle.plan_file.specs.declared.text.PlanPlace.TheVariants.{Opened, Inside}
use Rattle.plan_file.proofs.PlanWords.{keeps_at_start, word_read, end_read, word_refused, end_refused}
use Rattle.plan_file.proofs.PlanSteps.{form_refused}
use Rattle.plan_file.proofs.ReadSoFar.{takes_step, plan_read, fault_read}
use Rattle.plan_file.proofs.reader.instances_of.Goals as goal

pub returns-in_err-next-clause-refused : goal.returns-in_err-next-clause-refused
returns-in_err-next-clause-refused c =
    let p = err_from_is_err_and c.from_residual.result c.from_residual.ensures.1 in
    let text = c.args.text.now in
    let short : length text ≤ 16777216 = search rules in
    let so_far = c.words.invariant.so_far in
    let place = place_of c.words.place c.words.objects.items in
    let read = word_read (length text) (lexemes_left c.words.word-iterator) (lexemes_left c.next.new.self) (placed_of c.in-Some.word) (sort_of c.of-sort.result) place c.in-Some.ensures.steps c.of-sort.ensures in
    rw (p.1, p.2)
    (form_refused (task_of c.args.task.now) text _
    (word_refused text (lexemes_left c.words.word-iterator) (lexemes_left c.next.new.self) place _ (span_of c.in-Some.word) so_far.steps read so_far.keeps short _ c.in_err-next.ensures.refused))

pub words-init : goal.words-init
words-init c = record {
  so_far = record {
    steps = [];
    keeps = keeps_at_start c.args.text.now _ (ap lexemes_left c.into_iter-word-iterator.ensures.into_iter_gives ∙ c.of-word-items.ensures);
    mean = c.new-meaning.ensures (task_of c.args.task.now);
  };
}

pub words-preserved : goal.words-preserved
words-preserved c =
    let task = task_of c.args.task.now in
    let text = c.args.text.now in
    let word = c.in-Some.word in
    let place = place_of c.words.place c.words.objects.items in
    let objects = c.after.new.objects.items in
    let read = word_read (length text) (lexemes_left c.words.word-iterator) (lexemes_left c.next.new.self) (placed_of word) (sort_of c.of-sort.result) place c.in-Some.ensures.steps c.of-sort.ensures in
    let action = c.in-Ends.action in
    let over : turn place (sort_of c.of-sort.result) (name_of word) ≡ ends (step_of action objects) = c.in_ok-next.ensures.may_continue ∙ ap (λ t. turn_of t objects) c.in-Ends.is in
    let taken : (steps : List Step) → IsMeaning task steps c.words.meaning → IsMeaning task (steps ++ step_of action objects ∷ []) c.take.new.self =
    subst (λ names. (steps : List Step) → IsMeaning task steps c.words.meaning → IsMeaning task (steps ++ step_of action names ∷ []) c.take.new.self) c.as_slice.ensures.value c.in_ok-take-in-Ends.ensures in
    record {
      so_far = takes_step task text (lexemes_left c.words.word-iterator) (lexemes_left c.next.new.self) place _ (span_of word) c.words.meaning read c.words.invariant.so_far (step_of action objects) over c.take.new.self taken;
    }

pub returns-in-Outside-clause-plan : goal.returns-in-Outside-clause-plan
returns-in-Outside-clause-plan c =
    let short : length c.args.text.now ≤ 16777216 = search rules in
    let place = place_of c.words.place c.words.objects.items in
    let is_outside = ap (λ p. place_of p c.words.objects.items) c.in-Outside.is in
    if_ok c.into_instances.result
    (λ found mean. plan_read (task_of c.args.task.now) c.args.text.now (lexemes_left c.words.word-iterator) place c.words.meaning short (end_read (length c.args.text.now) (lexemes_left c.words.word-iterator) place c.in-None.ensures.steps.0) c.words.invariant.so_far is_outside (map instance_of found.items) mean)
    c.into_instances.ensures.mean

pub returns-in-Outside-clause-refused : goal.returns-in-Outside-clause-refused
returns-in-Outside-clause-refused c =
    let short : length c.args.text.now ≤ 16777216 = search rules in
    let place = place_of c.words.place c.words.objects.items in
    let is_outside = ap (λ p. place_of p c.words.objects.items) c.in-Outside.is in
    if_err c.into_instances.result
    (λ fault first. fault_read (task_of c.args.task.now) c.args.text.now (lexemes_left c.words.word-iterator) place c.words.meaning short (end_read (length c.args.text.now) (lexemes_left c.words.word-iterator) place c.in-None.ensures.steps.0) c.words.invariant.so_far is_outside (reported_by fault) first)
    c.into_instances.ensures.refused

pub returns : goal.returns
returns c =
    let text = c.args.text.now in
    let end = length text in
    let short : end ≤ 16777216 = search rules in
    let objects = c.words.objects.items in
    let place = place_of c.words.place objects in
    let so_far = c.words.invariant.so_far in
    let left : at_end end place ≡ refuses (open_at end) =
    ⊎_elim (λ (e : c.words.place ≡ Opened). ap (λ p. at_end end (place_of p objects)) e) (λ (x : (action : Lexeme) × (c.words.place ≡ Inside action)). ap (λ p. at_end end (place_of p objects)) x.1) c.in-Opened.is in
    record {
      plan = tt;
      refused = form_refused (task_of c.args.task.now) text (reported_by c.refusal-in-Opened.result)
          (end_refused text (lexemes_left c.words.word-iterator) place so_far.steps short (end_read end (lexemes_left c.words.word-iterator) place c.in-None.ensures.steps.0) so_far.keeps left (reported_by c.refusal-in-Opened.result) c.refusal-in-Opened.ensures);
      too_long = λ long. absurd (omega (arith, short));
    }
