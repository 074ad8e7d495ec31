use Rattle.packed_state.proofs.PlainLemmas.{found_words}
use Rattle.packed_state.proofs.plain.PlainStore.place_of.Goals as goal

pub returns : goal.returns
returns c = found_words c.args.words.now c.args.self.now.rows.keys c.get_index_of.result c.get_index_of.ensures.index c.get_index_of.ensures.found
