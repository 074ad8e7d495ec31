use Rattle.task.specs.Task.{task_of}
use Rattle.tokens.specs.Lexeme.{lexemes_left}
use Rattle.plan_file.specs.PlanFile.{place_of}
use Rattle.plan_file.proofs.ReadSoFar.{IsReadSoFar}
use Rattle.plan_file.proofs.reader.instances_of.Given as goal

abbrev pub invariant-words : goal.invariant-words
invariant-words l = record {
  so_far : IsReadSoFar (task_of l.task) l.text (lexemes_left l.word-iterator) (place_of l.place l.objects.items) l.meaning;
}
