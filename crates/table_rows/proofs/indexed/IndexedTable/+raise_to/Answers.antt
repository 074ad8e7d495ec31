use Rattle.std.proofs.Common.{◌∙◌, ◌-◌, Bool, List, take, drop, get_or, length, sym, ap, subst, arith}
use Rattle.packed_state.specs.Packed.{bits_of}
use Rattle.table_rows.specs.Afters.{turned, ways}
use Rattle.table_rows.specs.Columns.{RaisesTo}
use Rattle.table_rows.specs.Tables.{table_of}
use Rattle.table_rows.proofs.AfterLemmas.{turned-back}
use Rattle.table_rows.proofs.ColumnLemmas.{then-raises}
use Rattle.table_rows.proofs.FateLemmas.{ways-first}
use Rattle.table_rows.proofs.indexed.IndexedTable.+raise_to.Goals as goal

pub returns-else-not-raise_to-clause-raised : goal.returns-else-not-raise_to-clause-raised
returns-else-not-raise_to-clause-raised t c =
    let table = table_of c.args.self.now.table.now in
    let from = c.args.from.now in
    let set = bits_of c.args.set.now in
    let free = c.args.free.now in
    let first = get_or free 0 0 in
    let others = take (length free - 1) (drop 1 free) in
    let old = c.args.most.now in
    let mid = c.raise_to.new.most in
    let new = c.raise_to-are_rows.new.most in
    let are = c.raise_to-are_rows.result in
    let changed : RaisesTo table from (ways (turned set first) others) mid new are =
    subst (λ s. RaisesTo table from (ways s others) mid new are) (c.turn.ensures ∙ ap (λ s. turned s first) c.raise_to.ensures.set) c.raise_to-are_rows.ensures.raised in
    subst (λ (sets : List (List Bool)). RaisesTo table from sets old new are) (sym (ways-first set free c.in-len1-up.len_at_least))
    (then-raises table from (ways set others) (ways (turned set first) others) old mid new are c.if-not-raise_to.ensures.raised changed)

pub returns-else-not-raise_to-clause-set : goal.returns-else-not-raise_to-clause-set
returns-else-not-raise_to-clause-set t c =
    let set = bits_of c.args.set.now in
    let first = get_or c.args.free.now 0 0 in
    c.turn-in-len1-up.ensures ∙ ap (λ s. turned s first) (c.raise_to-are_rows.ensures.set ∙ c.turn.ensures ∙ ap (λ s. turned s first) c.raise_to.ensures.set)
    ∙ turned-back set first (let within = c.requires.free 0 0 (omega (arith, c.in-len1-up.len_at_least)) in omega (arith, within, c.requires.width))
