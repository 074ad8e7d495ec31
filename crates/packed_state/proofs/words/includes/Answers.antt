use mir.Facts.{Fits-lt-pow}
use Rattle.packed_state.proofs.WordLemmas.{included_words, not_included}
use Rattle.packed_state.proofs.words.includes.Goals as goal

pub returns : goal.returns
returns c =
    let words = c.args.words.now in
    let part = c.args.part.now in (
      λ is. included_words words part c.requires (λ place. Fits-lt-pow (c.type_inv.words place)) (λ place within. c.all.ensures.0 is place (rw (← c.requires) within)),
      λ each. c.all.ensures.1 (λ place _. not_included words part place (Fits-lt-pow (c.type_inv.words place)) (Fits-lt-pow (c.type_inv.part place)) each),
    )
