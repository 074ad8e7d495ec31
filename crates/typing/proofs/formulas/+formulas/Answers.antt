use Rattle.std.proofs.Common.{◌∙◌, ◌++◌, ap, sym}
use Rattle.task.specs.Names.{names_in}
use Rattle.typing.specs.Resolver.{file_in, known_to}
use Rattle.typing.specs.Walk.{found_by}
use Rattle.typing.proofs.Quantified.{names_by_and, names_by_or}
use Rattle.typing.proofs.Trees.{and_by_parts, and_faults_by_parts, or_by_parts, or_faults_by_parts}
use Rattle.typing.proofs.formulas.+formulas.Goals as goal

pub formula-returns-in_ok-parts-in-And-clause-value : goal.formula-returns-in_ok-parts-in-And-clause-value
formula-returns-in_ok-parts-in-And-clause-value t c =
    and_by_parts (file_in c.args.resolver.now) (known_to c.args.resolver.now) c.args.given.now c.in-And.parts c.deref.result.now c.deref.ensures.value
    c.in-And.is c.in_ok-parts-in-And.parts c.in_ok-parts-in-And.ensures.value

pub formula-returns-in_ok-parts-in-And-clause-finds : goal.formula-returns-in_ok-parts-in-And-clause-finds
formula-returns-in_ok-parts-in-And-clause-finds t c =
    and_faults_by_parts (file_in c.args.resolver.now) (known_to c.args.resolver.now) c.args.given.now c.in-And.parts c.deref.result.now c.deref.ensures.value
    c.in-And.is (found_by c.several.new.resolver.walk) (found_by c.args.resolver.now.walk) c.in_ok-parts-in-And.ensures.finds

pub formula-returns-in_ok-parts-in-Or-clause-value : goal.formula-returns-in_ok-parts-in-Or-clause-value
formula-returns-in_ok-parts-in-Or-clause-value t c =
    or_by_parts (file_in c.args.resolver.now) (known_to c.args.resolver.now) c.args.given.now c.in-Or.parts c.deref-in-Or.result.now c.deref-in-Or.ensures.value
    c.in-Or.is c.in_ok-parts-in-Or.parts c.in_ok-parts-in-Or.ensures.value

pub formula-returns-in_ok-parts-in-Or-clause-finds : goal.formula-returns-in_ok-parts-in-Or-clause-finds
formula-returns-in_ok-parts-in-Or-clause-finds t c =
    or_faults_by_parts (file_in c.args.resolver.now) (known_to c.args.resolver.now) c.args.given.now c.in-Or.parts c.deref-in-Or.result.now c.deref-in-Or.ensures.value
    c.in-Or.is (found_by c.several-in-Or.new.resolver.walk) (found_by c.args.resolver.now.walk) c.in_ok-parts-in-Or.ensures.finds

pub formula-returns-in_ok-parts-in-And-clause-names : goal.formula-returns-in_ok-parts-in-And-clause-names
formula-returns-in_ok-parts-in-And-clause-names t c =
    c.in_ok-parts-in-And.ensures.names
    ∙ ap (λ l. names_in c.args.resolver.now.names.items ++ l) (sym (names_by_and c.args.given.now c.in-And.parts c.deref.result.now c.in-And.is c.deref.ensures.value))

pub formula-returns-in_ok-parts-in-Or-clause-names : goal.formula-returns-in_ok-parts-in-Or-clause-names
formula-returns-in_ok-parts-in-Or-clause-names t c =
    c.in_ok-parts-in-Or.ensures.names
    ∙ ap (λ l. names_in c.args.resolver.now.names.items ++ l) (sym (names_by_or c.args.given.now c.in-Or.parts c.deref-in-Or.result.now c.in-Or.is c.deref-in-Or.ensures.value))
