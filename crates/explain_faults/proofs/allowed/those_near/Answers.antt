use Rattle.std.proofs.Common.{◌≡◌, ◌<◌, List, [], ◌∷◌, ◌++◌, length, sym, subst, rules}
use Rattle.std.proofs.lemmas.List.{take_all}
use Rattle.tokens.specs.declared.word.Word.{Word}
use Rattle.explain_faults.specs.Expected.{AreSome, no_more}
use Rattle.explain_faults.proofs.Candidates.{taken_so_far, passed_so_far}
use Rattle.explain_faults.proofs.allowed.those_near.Goals as goal
use Rattle.explain_faults.proofs.allowed.those_near.Goals.{then-is_like+in_ok-push, else-is_like}

pub loop-word-init : goal.loop-word-init
loop-word-init c =
    let items : c.new-near.result.items ≡ [] = c.new-near.ensures.items in
    subst (λ (items : List Word). AreSome [] items) (sym items) no_more

pub loop-word-preserved : goal.loop-word-preserved
loop-word-preserved c =
    let words : List Word = c.args.words.now in
    let below : c.loop-word.word-index < length words = search rules in
    let near : List Word = c.loop-word.near.items in
    let new : List Word = c.if-is_like.near.items in
    let word : Word = c.word-item.result in
    elim c.if-is_like.branch [
      | then-is_like+in_ok-push w ↦
          let items : new ≡ near ++ word ∷ [] = search rules in
          taken_so_far words near new c.loop-word.word-index word below c.word-item.is items c.loop-word.invariant
      | else-is_like w ↦
          let items : new ≡ near = search rules in
          passed_so_far words near new c.loop-word.word-index word below c.word-item.is items c.loop-word.invariant
    ]

pub returns : goal.returns
returns c =
    subst (λ (w : List Word). AreSome w c.loop-word.near.items) (take_all c.loop-word.word-index c.args.words.now (search rules)) c.loop-word.invariant
