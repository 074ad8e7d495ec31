use mir.Facts.{Fits-lt-pow}
use Rattle.packed_state.proofs.WordLemmas.{disjoint_words, not_disjoint}
use Rattle.packed_state.proofs.words.are_disjoint.Goals as goal

pub returns : goal.returns
returns c =
    let words = c.args.words.now in
    let others = c.args.others.now in (
      λ is k both. disjoint_words words others (λ place within. c.all.ensures.0 is place (rw (← c.requires) within)) k both.0 both.1,
      λ none. c.all.ensures.1 (λ place _. not_disjoint words others place (Fits-lt-pow (c.type_inv.words place)) (λ k has too. none k (has, too))),
    )
