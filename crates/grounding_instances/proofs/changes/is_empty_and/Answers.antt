use Rattle.std.proofs.Common.{◌≡◌, ◌∙◌, ℕ, sym, ap, List, [], ◌∷◌, length, arith}
use Rattle.std.specs.Prelude.{◌==◌, vec_len}
use Rattle.std.proofs.lemmas.Bool.{ne_eqb}
use Rattle.task.specs.declared.schemas.Formula.{Formula}
use Rattle.task.specs.TaskParts.{formula_of}
use Rattle.formulas.proofs.Trees.{formula_of-And, formulas_in}
use Rattle.model.specs.Task.{and}
use Rattle.model.specs.StaticallyFalse as statically_false
use Rattle.grounding_instances.proofs.changes.is_empty_and.Goals as goal

no_parts : (n : ℕ) (items : List Formula) → n ≡ length items → (n == 0) ≡ statically_false.is_empty_and (and (formulas_in items))
no_parts n [] is = ap (λ m. m == 0) is
no_parts n (first ∷ rest) is = ne_eqb n 0 (λ none. absurd (omega (arith, is, none)))

pub returns-in-And : goal.returns-in-And
returns-in-And c =
    let parts = c.in-And.parts in
    let long : vec_len parts ≡ length parts.items = omega (arith, parts.ok.0) in
    c.is_empty.ensures ∙ no_parts (vec_len parts) parts.items long
    ∙ sym (ap statically_false.is_empty_and (ap formula_of c.in-And.is ∙ formula_of-And parts))
