use Rattle.std.proofs.Common.{◌≡◌, ◌∙◌, ◌≤◌, true≢false, nat_lt, map, length, sym, ap, arith}
use Rattle.std.specs.List.{list_all}
use Rattle.std.proofs.lemmas.Bool.{leb-true, le-leb, ltb-true}
use Rattle.std.proofs.lemmas.List.{length-map}
use Rattle.pddl_tree.specs.Tree.{name_of, ground_atom_of}
use Rattle.typing.specs.Scope.{known_of}
use Rattle.task.specs.TaskParts.{object_of, predicate_of}
use Rattle.model.specs.Task as task
use Rattle.typing.proofs.Named.{all_named, not_named, objects_known}
use Rattle.typing.proofs.scope.Scope.is_named.Goals.{then-atom-len, else-atom-len}
use Rattle.typing.proofs.scope.Scope.is_named.Goals as goal

pub returns-then-len-le-MAX_ARGUMENTS : goal.returns-then-len-le-MAX_ARGUMENTS
returns-then-len-le-MAX_ARGUMENTS c =
    let known = known_of c.args.self.now in
    let given = ground_atom_of c.args.given.now in
    let count : length known.predicates ≡ c.len.result = length-map c.args.self.now.symbols.now.entries predicate_of ∙ sym c.len.ensures.len in
    let names : length given.objects ≡ length c.args.given.now.objects.items = length-map c.args.given.now.objects.items name_of in
    let objects = map object_of c.args.atom.now.objects.items in
    elim c.if-atom-len.branch [
      | then-atom-len w ↦
          let few : length given.objects ≤ 8 = omega (arith, names, w.len-then-atom-len.ensures, leb-true w.len-then-atom-len.result 8 (sym w.value-is ∙ c.if-len-le-MAX_ARGUMENTS.true)) in
          all_named known given c.args.atom.now.predicate.0 (ap (λ (a : task.Atom). a.predicate) c.requires) (omega (arith, count, w.if-atom-len.true)) few c.all_known.result
          (c.all_known.ensures ∙ ap (λ os. list_all (λ n. nat_lt n (length known.objects)) (map object_of os)) c.deref.ensures.0
          ∙ objects_known known given.objects objects (ap (λ (a : task.Atom). a.objects) c.requires) few)
      | else-atom-len w ↦ absurd (omega (arith, w.if-atom-len.false, ltb-true c.args.atom.now.predicate.0 c.len.result (sym w.value-is ∙ c.if-len-le-MAX_ARGUMENTS.true)))
    ]

pub returns-else-len-le-MAX_ARGUMENTS : goal.returns-else-len-le-MAX_ARGUMENTS
returns-else-len-le-MAX_ARGUMENTS c =
    let known = known_of c.args.self.now in
    let given = ground_atom_of c.args.given.now in
    let count : length known.predicates ≡ c.len.result = length-map c.args.self.now.symbols.now.entries predicate_of ∙ sym c.len.ensures.len in
    let names : length given.objects ≡ length c.args.given.now.objects.items = length-map c.args.given.now.objects.items name_of in
    c.if-len-le-MAX_ARGUMENTS.false ∙ not_named known given c.args.atom.now.predicate.0 (ap (λ (a : task.Atom). a.predicate) c.requires)
    (λ below few. elim c.if-atom-len.branch [
      | then-atom-len w ↦ absurd (true≢false (sym (le-leb w.len-then-atom-len.result 8 (omega (arith, few, names, w.len-then-atom-len.ensures))) ∙ sym w.value-is ∙ c.if-len-le-MAX_ARGUMENTS.false))
      | else-atom-len w ↦ omega (arith, below, count, w.if-atom-len.false)
    ])
