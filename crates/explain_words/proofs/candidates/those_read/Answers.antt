use Rattle.std.proofs.Common.{◌≡◌, ◌+◌, ◌<◌, true, List, [], ◌∷◌, ◌++◌, length, map, subst, sym, take, rules}
use Rattle.std.proofs.lemmas.List.{take_all}
use Rattle.std.proofs.lemmas.List.Elements.{All-get_or}
use Rattle.tokens.specs.Word.{word_of}
use Rattle.tokens.specs.declared.word.Word.{Word}
use Rattle.tokens.proofs.Order.{words_in_order}
use Rattle.pddl_tree.specs.Tree.{file_of}
use Rattle.explain_words.specs.Expected.{AreThose, MayFollow, candidates_text, none}
use Rattle.explain_words.proofs.Followed.{have_bytes}
use Rattle.explain_words.proofs.Reported.{left_out_so_far, reported_so_far}
use Rattle.explain_words.proofs.candidates.those_read.Goals as goal
use Rattle.explain_words.proofs.candidates.those_read.Goals.{then-follows+in_ok-push, else-follows}

pub loop-word-init : goal.loop-word-init
loop-word-init c =
    subst (λ (items : List Word). AreThose (MayFollow (file_of c.args.file) c.args.before.now) [] items) (sym c.new-found.ensures.items) none

pub may_follow-requires-clause-has_bytes : goal.may_follow-requires-clause-has_bytes
may_follow-requires-clause-has_bytes c =
    let words : List Word = c.args.candidates.now in
    let below : c.loop-word.word-index < length words = search rules in
    let P : Word → Type 0 = λ w. 0 < length (word_of w).text in
    subst P (sym c.word-item.is)
    (All-get_or P words c.loop-word.word-index c.word-item.result below
    (have_bytes 0 candidates_text words (words_in_order candidates_text (map word_of words) c.requires.candidates)))

pub loop-word-preserved : goal.loop-word-preserved
loop-word-preserved c =
    let P : Word → Type 0 = MayFollow (file_of c.args.file) c.args.before.now in
    let words : List Word = c.args.candidates.now in
    let index = c.loop-word.word-index in
    let below : index < length words = search rules in
    let word : Word = c.word-item.result in
    let found : List Word = c.loop-word.found.items in
    let new : List Word = c.if-follows.found.items in
    elim c.if-follows.branch [
      | then-follows+in_ok-push w ↦
          let items : new ≡ found ++ word ∷ [] = search rules in
          subst (AreThose P (take (index + 1) words)) (sym items)
          (reported_so_far P words found index word below c.word-item.is c.loop-word.invariant (c.in_ok-follows.ensures.0 w.if-follows.true))
      | else-follows w ↦
          let items : new ≡ found = search rules in
          subst (AreThose P (take (index + 1) words)) (sym items)
          (left_out_so_far P words found index word below c.word-item.is c.loop-word.invariant
          (λ follows. absurd (let is : c.in_ok-follows.follows ≡ true = c.in_ok-follows.ensures.1 follows in cc)))
    ]

pub returns : goal.returns
returns c =
    subst (λ (w : List Word). AreThose (MayFollow (file_of c.args.file) c.args.before.now) w c.loop-word.found.items)
    (take_all c.loop-word.word-index c.args.candidates.now (search rules)) c.loop-word.invariant
