use Rattle.std.proofs.Common.{◌≢◌, map, arith}
use Rattle.tokens.specs.Word.{word_of}
use Rattle.tokens.proofs.Order.{words_in_order}
use Rattle.model.specs.Words.{end_of}
use Rattle.pddl_tree.specs.Tree.{file_of}
use Rattle.explain_words.specs.Expected.{candidates_text}
use Rattle.explain_words.proofs.Followed.{end_apart, first_fails, second_tells}
use Rattle.explain_words.proofs.candidates.begin.Goals as goal

pub returns-then-to_first : goal.returns-then-to_first
returns-then-to_first c =
    let first = c.index-candidates-0.result in
    let second = c.index-candidates-1.result in
    let apart : end_of (word_of first) ≢ end_of (word_of second) =
    end_apart 0 candidates_text c.args.candidates.now first second (words_in_order candidates_text (map word_of c.args.candidates.now) c.requires) (omega arith)
    c.index-candidates-0.is c.index-candidates-1.is in
    second_tells (file_of c.args.file) (map word_of c.args.before.now) (word_of first) (word_of second) c.in_ok-of_first.of_first c.in_ok-of_second.of_second
    c.is_read_to-to_second.result c.in_ok-of_first.ensures c.in_ok-of_second.ensures apart (c.is_read_to-to_first.ensures.0 c.if-to_first.true)
    c.is_read_to-to_second.ensures

pub returns-else-to_first : goal.returns-else-to_first
returns-else-to_first c =
    first_fails (file_of c.args.file) (map word_of c.args.before.now) (word_of c.index-candidates-0.result) c.in_ok-of_first.of_first c.is_read_to-to_first.result
    c.in_ok-of_first.ensures c.is_read_to-to_first.ensures c.if-to_first.false
