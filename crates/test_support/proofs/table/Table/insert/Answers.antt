use Rattle.std.proofs.Common.{Some, refl}
use Rattle.test_support.proofs.TableLemmas.{put_at_place, put_at_end}
use Rattle.test_support.proofs.table.Table.insert.Goals as goal

pub returns-in-Some-clause-put : goal.returns-in-Some-clause-put
returns-in-Some-clause-put c =
    let entries = c.args.self.now.entries.items in
    let place = rw c.as_str.ensures.value at c.in-Some.ensures in (
      put_at_place (λ entry. Some entry.bytes.items) _ _ refl entries c.in-Some.i place,
      put_at_place (λ entry. entry.reads_before) _ _ refl entries c.in-Some.i place,
    )

pub returns-in_ok-push-in-None-clause-put : goal.returns-in_ok-push-in-None-clause-put
returns-in_ok-push-in-None-clause-put c =
    let entries = c.args.self.now.entries.items in
    let place = rw c.as_str.ensures.value at c.in-None.ensures in
    rw c.in_ok-push-in-None.ensures.items (
      put_at_end (λ entry. Some entry.bytes.items) _ _ refl entries place,
      put_at_end (λ entry. entry.reads_before) _ _ refl entries place,
    )
