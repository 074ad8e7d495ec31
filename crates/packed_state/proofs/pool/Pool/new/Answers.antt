use Rattle.std.proofs.Common.{◌∙◌, ◌*◌, ℕ, length, ap, sym, refl, subst, arith}
use Rattle.packed_state.specs.Pool.{rows_in, row_at, key_of}
use Rattle.packed_state.specs.Table.{IsTable}
use Rattle.packed_state.proofs.PoolLemmas.{no_rows, no_words}
use Rattle.packed_state.proofs.TableLemmas.{empty_table}
use Rattle.packed_state.proofs.pool.Pool.new.Goals as goal

pub returns-clause-linked : goal.returns-clause-linked
returns-clause-linked c =
    let words = c.new-2.result.items in
    let table = c.in_ok-table.table in
    let key : ℕ → ℕ = λ n. key_of (row_at c.args.stride words n) in
    let P : ℕ → Type 0 = λ n. IsTable key n table.entries.items in
    record {
      few = omega (arith, c.in_ok-table.ensures.1);
      counted = ap length c.new-3.ensures.items ∙ sym c.in_ok-table.ensures.1;
      keyed = λ n within. absurd (omega (arith, c.in_ok-table.ensures.1));
      long = no_words c.args.stride (length words) (ap length c.new-2.ensures.items) ∙ ap (λ n. n * c.args.stride) (sym c.in_ok-table.ensures.1);
      table = subst P (sym c.in_ok-table.ensures.1) (empty_table key c.args.slots table.entries.items c.requires.some c.requires.few c.in_ok-table.ensures.0);
    }

pub returns-clause-rows : goal.returns-clause-rows
returns-clause-rows c = (ap (λ count. rows_in c.args.stride c.new-2.result.items count) c.in_ok-table.ensures.1 ∙ no_rows c.args.stride c.new-2.result.items, refl)
