use Rattle.pddl_tree.proofs.Names.{map, arith, name_of}
use Rattle.pddl_tree.proofs.Looks.{either_answers}
use Rattle.pddl_tree.proofs.typed_lists.either.Goals as goal

pub returns : goal.returns
returns c =
    either_answers (λ names. map name_of names.items) c.args.words.now c.args.at c.in_ok-next.next _ _ c.list.result (omega (arith, c.in_ok-next.ensures.1)) c.in_ok-next.ensures.0 c.in_ok-_first.ensures.0 c.list.ensures
