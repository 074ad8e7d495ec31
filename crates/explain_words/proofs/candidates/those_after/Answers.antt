use Rattle.std.proofs.Common.{◌≡◌, List, true, subst, sym}
use Rattle.tokens.specs.declared.word.Word.{Word}
use Rattle.pddl_tree.specs.Tree.{file_of}
use Rattle.explain_words.specs.Expected.{AreThose, MayFollow}
use Rattle.explain_words.proofs.Reported.{none_follow, none_stated}
use Rattle.explain_words.proofs.candidates.those_after.Goals as goal

pub returns-then-not-begin : goal.returns-then-not-begin
returns-then-not-begin c =
    let P : Word → Type 0 = MayFollow (file_of c.args.file) c.args.before.now in
    subst (λ (items : List Word). AreThose P c.args.candidates.now items) (sym c.new.ensures.items)
    (none_stated P c.args.candidates.now
    (none_follow (file_of c.args.file) c.args.before.now (λ begun. absurd (let is : c.in_ok-begin.begin ≡ true = c.in_ok-begin.ensures.1 begun in cc))))
