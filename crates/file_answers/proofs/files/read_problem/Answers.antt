use Rattle.std.proofs.Common.{map}
use Rattle.std.proofs.lemmas.Result.{err_from_is_err_and}
use Rattle.tokens.specs.Word.{word_of}
use Rattle.model.specs.Trees.{problem_file}
use Rattle.file_answers.proofs.FilesRead.{words_refused, tree_refused_in}
use Rattle.file_answers.proofs.files.read_problem.Goals as goal

pub returns-in_err-words-clause-refused : goal.returns-in_err-words-clause-refused
returns-in_err-words-clause-refused c =
    let p = err_from_is_err_and c.from_residual.result c.from_residual.ensures.1 in
    rw (p.1, p.2) (words_refused problem_file c.args.text.now _ c.in_err-words.ensures.refused)

pub returns-clause-refused : goal.returns-clause-refused
returns-clause-refused c =
    let refused = rw c.deref.ensures.value at c.problem.ensures.refused in
    tree_refused_in problem_file c.args.text.now (map word_of c.in_ok-words.words.items) c.in_ok-words.ensures.words c.problem.result refused
