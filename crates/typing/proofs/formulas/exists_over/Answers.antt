use Rattle.std.proofs.Common.{◌≡◌, ◌∙◌, map, sym, ap, arith}
use Rattle.std.proofs.lemmas.Bool.{eqb-true}
use Rattle.std.proofs.lemmas.List.{nil_from_length}
use Rattle.std.specs.Prelude.{vec_len}
use Rattle.task.specs.TaskParts as parts
use Rattle.typing.proofs.Trees.{exists_over_none}
use Rattle.typing.proofs.formulas.exists_over.Goals as goal

pub returns-in_ok-vec : goal.returns-in_ok-vec
returns-in_ok-vec c =
    let unions = c.args.unions in
    let none : vec_len unions ≡ 0 = eqb-true (vec_len unions) 0 (sym c.is_empty.ensures ∙ c.if-is_empty.true) in
    let empty = nil_from_length unions.items (omega (arith, none, unions.ok.0)) in
    exists_over_none c.in_ok-vec.field-0 c.args.part (map parts.union_of unions.items) c.in_ok-vec.ensures.items (ap (map parts.union_of) empty)
