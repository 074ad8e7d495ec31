use Rattle.std.proofs.Common.{◌∙◌, ap, sym}
use Rattle.std.specs.Option.{option_map}
use Rattle.grounding.specs.Ground.{task_in, atoms_in}
use Rattle.symmetries.specs.Exchange.{exchange_of}
use Rattle.symmetries.specs.ObjectPairs.{exchange_among, pairs_in}
use Rattle.symmetries_definitions.specs.Exchanges.{objects_in}
use Rattle.cert_checker.proofs.SymmetriesLemmas.{is_symmetric, none_symmetric, not_symmetric}
use Rattle.cert_checker.proofs.checker.symmetry.symmetric_exchange.Goals as goal

pub returns-in_default : goal.returns-in_default
returns-in_default c =
    let g = c.args.grounded.now in
    let e = pairs_in c.args.pairs.now in
    none_symmetric (task_in g) (atoms_in g) e c.requires.said
    (ap (λ t. exchange_among t (objects_in e)) (sym c.task.ensures) ∙ sym c.in_ok-exchange.ensures ∙ ap (option_map exchange_of) c.in_default.is)

pub returns-then-symmetric : goal.returns-then-symmetric
returns-then-symmetric c =
    let g = c.args.grounded.now in
    let e = pairs_in c.args.pairs.now in
    is_symmetric (task_in g) (atoms_in g) e (exchange_of c.in-Some.exchange) c.in_ok-symmetric.symmetric
    (ap (λ t. exchange_among t (objects_in e)) (sym c.task.ensures) ∙ sym c.in_ok-exchange.ensures ∙ ap (option_map exchange_of) c.in-Some.is) c.in_ok-symmetric.ensures c.if-symmetric.true

pub returns-else-symmetric : goal.returns-else-symmetric
returns-else-symmetric c =
    let g = c.args.grounded.now in
    let e = pairs_in c.args.pairs.now in
    not_symmetric (task_in g) (atoms_in g) e (exchange_of c.in-Some.exchange) c.in_ok-symmetric.symmetric
    (ap (λ t. exchange_among t (objects_in e)) (sym c.task.ensures) ∙ sym c.in_ok-exchange.ensures ∙ ap (option_map exchange_of) c.in-Some.is) c.in_ok-symmetric.ensures c.if-symmetric.false
