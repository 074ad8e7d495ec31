use Rattle.std.proofs.Common.{◌++◌, ◌∷◌, [], map, refl, subst}
use Rattle.tokens.specs.Word.{word_of}
use Rattle.pddl_tree.specs.Tree.{file_of}
use Rattle.explain_words.specs.Verdict.{IsVerdict}
use Rattle.explain_words.proofs.Followed.{follows_as_read, follows_whole}
use Rattle.explain_words.proofs.candidates.may_follow.Goals as goal

pub returns-in-Some : goal.returns-in-Some
returns-in-Some c =
    follows_as_read (file_of c.args.file) c.args.before.now c.args.word c.in-Some.refusal c.is_at_end.result c.requires.begins c.requires.has_bytes
    (subst (λ found. IsVerdict (file_of c.args.file) (map word_of c.args.before.now ++ word_of c.args.word ∷ []) found) c.in-Some.is c.in_ok-refused.ensures)
    c.is_at_end.ensures

pub returns-in-None : goal.returns-in-None
returns-in-None c = (
  λ is. follows_whole (file_of c.args.file) c.args.before.now c.args.word
      (subst (λ found. IsVerdict (file_of c.args.file) (map word_of c.args.before.now ++ word_of c.args.word ∷ []) found) c.in-None.is c.in_ok-refused.ensures),
  λ follows. refl,
)
