use mir.Facts.{Fits-lt-pow}
use Rattle.packed_state.proofs.WordLemmas.{changed_words, changed_small}
use Rattle.packed_state.proofs.words.change.Goals as goal

pub returns-clause-has : goal.returns-clause-has
returns-clause-has c =
    changed_words c.args.words.now c.args.deletes.now c.args.adds.now c.change.new.words c.requires.deletes c.requires.adds c.change.ensures.length
    (λ place. Fits-lt-pow (c.type_inv.deletes place)) c.change.ensures.changed

pub returns-clause-small : goal.returns-clause-small
returns-clause-small c =
    changed_small c.args.words.now c.args.deletes.now c.args.adds.now c.change.new.words c.change.ensures.length c.requires.small
    (λ place. Fits-lt-pow (c.type_inv.adds place)) c.change.ensures.changed
