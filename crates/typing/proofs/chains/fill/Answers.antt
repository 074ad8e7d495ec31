use Rattle.std.proofs.Common.{◌≡◌, ◌≤◌, ◌<◌, ◌∙◌, ◌+◌, map, take, length, suc, ap, sym, arith}
use Rattle.std.proofs.lemmas.List.{length-map, take_all}
use Rattle.indexmap.specs.IndexMap.{set_value_at}
use Rattle.indexmap.proofs.CallerLemmas.{index_map_len-with_value_at, keys-with_value_at}
use Rattle.task.specs.TaskParts as parts
use Rattle.typing.specs.Scope.{keys_in, names_in}
use Rattle.model.specs.Typing as typing
use Rattle.typing.proofs.ChainSteps.{one_filled, length_keys}
use Rattle.typing.proofs.Declaring.{length-types}
use Rattle.typing.proofs.chains.fill.Goals as goal

pub loop-index-preserved : goal.loop-index-preserved
loop-index-preserved c =
    let ps = map parts.type_of c.args.parents.now in let i = c.loop-index.index in let es = c.loop-index.types.entries in
    let names = c.loop-index.invariant.names in let supertypes = c.in_ok-supertypes.supertypes in
    let more : i + 1 ≡ suc i = omega arith in
    let below : i < length es = omega (arith, c.loop-index-test.true, c.len-count.ensures.len, c.loop-index.invariant.count) in
    let one = one_filled ps 0 i es supertypes below (c.in_ok-supertypes.ensures ∙ ap (typing.whole_chain ps) (omega arith))
    (c.loop-index.invariant.types ∙ ap (λ ns. take i (typing.types_from ps 0 ns)) (sym names)) in
    record {
      count = index_map_len-with_value_at c.loop-index.types i supertypes ∙ c.loop-index.invariant.count;
      names = ap names_in (keys-with_value_at c.loop-index.types i supertypes) ∙ names;
      types = ap (λ n. take n (map parts.type_entry_of (set_value_at es i supertypes))) more ∙ one ∙ (λ j. take (sym more j) (typing.types_from ps 0 (names j)));
    }

pub returns : goal.returns
returns c =
    let ps = map parts.type_of c.args.parents.now in let es = c.loop-index.types.entries in let before = c.args.types.now.entries in
    let names = c.loop-index.invariant.names in
    let end : length before ≤ c.loop-index.index = omega (arith, c.loop-index-test.false, c.len-count.ensures.len) in
    record {
      names = names;
      types = sym (take_all c.loop-index.index (map parts.type_entry_of es) (omega (arith, end, length-map es parts.type_entry_of, c.loop-index.invariant.count)))
          ∙ c.loop-index.invariant.types
          ∙ take_all c.loop-index.index (typing.types_from ps 0 (keys_in before)) (omega (arith, end, length-types ps 0 (keys_in before), length_keys before));
    }
