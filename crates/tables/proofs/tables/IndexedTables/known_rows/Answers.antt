use Rattle.std.proofs.Common.{◌∙◌, true≢false, sym}
use Rattle.std.proofs.lemmas.Option.{slice_get_within}
use Rattle.tables.specs.AllTables.{tables_of}
use Rattle.tables.proofs.tables.IndexedTables.known_rows.Goals as goal

pub find_touched-requires-clause-known : goal.find_touched-requires-clause-known
find_touched-requires-clause-known c = λ k t at untouched.
    absurd (true≢false (sym (c.in_ok-projections.ensures.touched k (slice_get_within (tables_of c.args.self.now) k t at)) ∙ untouched))
