use Rattle.packed_state.proofs.WordLemmas.{put_in, put_small}
use Rattle.packed_state.proofs.words.insert.Goals as goal

pub returns-clause-has : goal.returns-clause-has
returns-clause-has c k = put_in c.args.words.now c.args.number c.requires.within k

pub returns-clause-small : goal.returns-clause-small
returns-clause-small c = put_small c.args.words.now c.args.number c.requires.within c.requires.small
