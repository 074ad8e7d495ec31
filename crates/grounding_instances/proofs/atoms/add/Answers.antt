use Rattle.std.proofs.Common.{◌≡◌, ◌∙◌, ◌≤◌, false, map, length, sym, subst}
use Rattle.std.specs.List.{each_same, list_any}
use Rattle.std.proofs.lemmas.List.{length-map}
use Rattle.task.specs.TaskParts.{atom_of}
use Rattle.formulas.proofs.Equality.{atom_eq}
use Rattle.formulas.proofs.States.{copied}
use Rattle.grounding_instances.specs.KeptNumbers.{IsNumberOf}
use Rattle.grounding_instances.proofs.NumberLists.{among-alike, numbered-new, numbered-full}
use Rattle.grounding_instances.proofs.LaterNumbers.{none-apart, gets-number}
use Rattle.grounding_instances.proofs.atoms.add.Goals.{In_ok-insert}
use Rattle.grounding_instances.proofs.atoms.add.Goals as goal

pub returns-then-number-ge-MAX_ATOMS-clause-reported : goal.returns-then-number-ge-MAX_ATOMS-clause-reported
returns-then-number-ge-MAX_ATOMS-clause-reported c =
    let keys = c.args.atoms.now.keys in
    let apart : list_any (atom_eq c.args.atom.now) keys ≡ false = among-alike c.args.atom.now keys ∙ none-apart (map atom_of keys) (atom_of c.args.atom.now) c.requires.new in
    numbered-full c.args.atom.now keys apart (subst (λ n. 1048576 ≤ n) c.len-number.ensures.len c.if-number-ge-MAX_ATOMS.true)

pub returns-clause-numbered : goal.returns-clause-numbered
returns-clause-numbered c =
    let keys = c.args.atoms.now.keys in
    let apart : list_any (atom_eq c.args.atom.now) keys ≡ false = among-alike c.args.atom.now keys ∙ none-apart (map atom_of keys) (atom_of c.args.atom.now) c.requires.new in
    let copy = c.in_ok-clone.field-0 in
    let same = copied c.args.atom.now copy c.in_ok-clone.ensures.cases.0 (each_same c.args.atom.now.objects.items copy.objects.items c.in_ok-clone.ensures.cases.1) in
    numbered-new c.args.atom.now keys copy c.insert.new.self.keys apart same c.in_ok-insert.ensures.keys

pub returns-clause-number : goal.returns-clause-number
returns-clause-number c =
    let keys = c.args.atoms.now.keys in
    let apart : list_any (atom_eq c.args.atom.now) keys ≡ false = among-alike c.args.atom.now keys ∙ none-apart (map atom_of keys) (atom_of c.args.atom.now) c.requires.new in
    let copy = c.in_ok-clone.field-0 in
    let same = copied c.args.atom.now copy c.in_ok-clone.ensures.cases.0 (each_same c.args.atom.now.objects.items copy.objects.items c.in_ok-clone.ensures.cases.1) in
    subst (λ l. IsNumberOf l (atom_of c.args.atom.now) c.len-number.result) (sym (numbered-new c.args.atom.now keys copy c.insert.new.self.keys apart same c.in_ok-insert.ensures.keys))
    (gets-number (map atom_of keys) (atom_of c.args.atom.now) c.requires.new c.len-number.result (c.len-number.ensures.len ∙ sym (length-map keys atom_of)))
