use Rattle.pddl_tree.proofs.Names.{name_of, file_of}
use Rattle.pddl_tree.proofs.Heads.{opened, has_head}
use Rattle.pddl_tree.proofs.reader.head.Goals as goal

pub returns-clause-head : goal.returns-clause-head
returns-clause-head c =
    let words = c.args.words.now in
    has_head (file_of c.args.file) (name_of c.in_ok-name.name) (opened words c.args.at c.in_ok-next.next c.in_ok-next.ensures.0 c.in_ok-next.ensures.1.0) c.in_ok-next-2.ensures.0 (opened words c.in_ok-next-2.next c.in_ok-next-3.next c.in_ok-next-3.ensures.0 c.in_ok-next-3.ensures.1.0) c.in_ok-next-4.ensures.0 c.in_ok-name.ensures.0 c.in_ok-next-5.ensures.0
