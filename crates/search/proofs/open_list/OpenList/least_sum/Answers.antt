use Rattle.std.proofs.Common.{◌≡◌, ◌<◌, [], ◌++◌, map, sym, arith, refl}
use Rattle.std.specs.Prelude.{Contains}
use Rattle.std.specs.BinaryHeap.{heap_items, heap_len}
use Rattle.std.proofs.lemmas.Bool.{false≢true}
use Rattle.std.proofs.lemmas.List.{nil_from_length}
use Rattle.std.proofs.lemmas.List.Elements.{All-contains, Contains-append_left, Contains-append_right}
use Rattle.model.proofs.ListLemmas.{Contains-map}
use Rattle.search.specs.Nodes.{sum_of}
use Rattle.search.specs.OpenList.{entry_of}
use Rattle.search.proofs.OpenListLemmas.{first_near, first_far, least_first}
use Rattle.search.proofs.open_list.OpenList.least_sum.Goals.{In-None}
use Rattle.search.proofs.open_list.OpenList.least_sum.Goals as goal

pub returns-in-Some : goal.returns-in-Some
returns-in-Some c =
    let near = heap_items c.args.self.now.near in
    let far = heap_items c.args.self.now.far in
    let word = c.in-Some.field-0.now in
    let there : Contains near word = (0, omega (arith, c.in-Some.ensures.variant.0 refl, c.args.self.now.near.data.ok.0), sym c.in-Some.ensures.lookup) in
    rw c.entry_in.ensures (
      (entry_of word, Contains-append_left (map entry_of near) far (entry_of word) (Contains-map entry_of near word there), refl),
      λ was. least_first (entry_of word) (map entry_of near ++ far)
          (first_near near far word (c.in-Some.ensures.greatest was.near_heap) (All-contains (λ x. sum_of (entry_of x) < 1048576) near word was.near there) was.far),
    )

-- no entry is near
none_near : (c : In-None) → heap_items c.args.self.now.near ≡ []
none_near c =
    let empty : ¬ (0 < heap_len c.args.self.now.near) = λ some. false≢true (c.in-None.ensures.variant.1 some) in
    nil_from_length (heap_items c.args.self.now.near) (omega (arith, empty, c.args.self.now.near.data.ok.0))

pub returns-in-Some-peek : goal.returns-in-Some-peek
returns-in-Some-peek c =
    let near = heap_items c.args.self.now.near in
    let far = heap_items c.args.self.now.far in
    let first = c.in-Some-peek.field-0.now in
    let none = none_near (goal.at.returns-in-Some-peek c).In-None in
    let there : Contains far first = (0, omega (arith, c.in-Some-peek.ensures.variant.0 refl, c.args.self.now.far.data.ok.0), sym c.in-Some-peek.ensures.lookup) in (
      (first, Contains-append_right (map entry_of near) far first there, refl),
      λ was. least_first first (map entry_of near ++ far) (first_far near far first none (c.in-Some-peek.ensures.greatest was.far_heap)),
    )
