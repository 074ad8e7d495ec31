use Rattle.std.proofs.Common.{◌∙◌, length, map, sym, subst}
use Rattle.std.proofs.lemmas.Bool.{eqb-true}
use Rattle.std.proofs.lemmas.Option.{same_Some}
use Rattle.grounding.specs.Ground.{task_in, atoms_in}
use Rattle.symmetries.specs.Exchange.{exchange_of}
use Rattle.certificate.specs.Certificate.{certificate_of, store_in}
use Rattle.cert_checker.specs.Classified.{AreClassesOf}
use Rattle.cert_checker.proofs.ClassLemmas.{made_of, none_of}
use Rattle.cert_checker.proofs.checker.classes.classes_by.Goals as goal

pub returns-then-is_empty : goal.returns-then-is_empty
returns-then-is_empty c =
    let empty = eqb-true (length c.args.exchanges.now) 0 (sym c.if-is_empty.ensures) in
    record { alone = λ _. sym c.requires.exchanges ∙ none_of exchange_of c.args.exchanges.now empty; by_exchanges = λ found is. absurd (cc is) }

pub new-requires : goal.new-requires
new-requires c = c.in_ok-representatives.ensures.width ∙ sym c.requires.width

pub returns : goal.returns
returns c =
    let g = c.args.grounded.now in
    let cert = c.args.cert.now in
    record {
      alone = λ none. absurd (cc none);
      by_exchanges = λ found is.
          subst (AreClassesOf (task_in g) (atoms_in g) (certificate_of cert) (store_in cert)) (same_Some c.in_ok-classes.classes found is)
          (made_of (task_in g) (atoms_in g) cert (map exchange_of c.args.exchanges.now) c.in_ok-representatives.representatives c.in_ok-classes.classes c.requires.exchanges c.requires.width
          c.in_ok-representatives.ensures c.in_ok-classes.ensures.cert c.in_ok-classes.ensures.representatives c.in_ok-classes.ensures.width c.in_ok-classes.ensures.cheapest);
    }
