-- The parts of a conjunction as a list: what they resolve to, and the faults found in them.
use Rattle.std.proofs.Common.{◌≡◌, List, [], ◌∷◌, ◌++◌, map, refl, sym, ap, ◌∙◌}
use Rattle.std.specs.Global.{Vec}
use Rattle.std.specs.List.{flat_map}
use mathlib.Core.Former.{Count}
use Rattle.task.specs.declared.schemas.Formula.{Formula, Row_of-Formula, end_of-Formula, more_of-Formula, items-the_row-Formula, items_hidden-the_row-Formula-0}
use Rattle.task.specs.declared.schemas.Formula as formula
use Rattle.pddl_tree.specs.declared.tree.Formula as read_formula
use Rattle.pddl_tree.specs.Tree as read
use Rattle.pddl_tree.proofs.Rows as rows
use Rattle.task.specs.TaskParts.{formula_of, formulas_of}
use Rattle.model.specs.Task as task
use Rattle.model.specs.Trees.{TaskFile, formulas}
use Rattle.model.specs.Typing.{Known, formula_in, formulas_in, formula_faults, formulas_faults, exists_each, forall_each, exists_over, forall_over}
use Rattle.typing.specs.Walk.{Findings, found}

-- ---- formulas

abbrev pub joined_formulas : List task.Formula → task.Formulas
joined_formulas [] = task.no_formula
joined_formulas (part ∷ rest) = task.more_formulas part (joined_formulas rest)

formulas_row : (n : _) (row : Row_of-Formula n) → formulas_of row ≡ joined_formulas (map formula_of (items-the_row-Formula n row))
formulas_row n end_of-Formula = refl
formulas_row n (more_of-Formula part rest) = ap (task.more_formulas (formula_of part)) (formulas_row _ rest)

abbrev formula_row : Formula → (n : Count) × Row_of-Formula n
formula_row (formula.And' _ row) = (_, row)
formula_row (formula.Or' _ row) = (_, row)
formula_row _ = (_, end_of-Formula)

formula_of-And : (parts : Vec Formula) → formula_of (formula.And parts) ≡ task.and (joined_formulas (map formula_of parts.items))
formula_of-And parts =
    let row = formula_row (formula.And parts) in
    ap task.and (formulas_row row.0 row.1 ∙ ap (λ items. joined_formulas (map formula_of items)) (items_hidden-the_row-Formula-0 parts))

formula_of-Or : (parts : Vec Formula) → formula_of (formula.Or parts) ≡ task.or (joined_formulas (map formula_of parts.items))
formula_of-Or parts =
    let row = formula_row (formula.Or parts) in
    ap task.or (formulas_row row.0 row.1 ∙ ap (λ items. joined_formulas (map formula_of items)) (items_hidden-the_row-Formula-0 parts))

formulas_in-joined : (file : TaskFile) (known : Known) (parts : List read_formula.Formula)
    → formulas_in file known (formulas (map read.formula_of parts)) ≡ joined_formulas (map (λ x. formula_in file known (read.formula_of x)) parts)
formulas_in-joined file known [] = refl
formulas_in-joined file known (part ∷ rest) = ap (task.more_formulas (formula_in file known (read.formula_of part))) (formulas_in-joined file known rest)

formulas_faults-joined : (file : TaskFile) (known : Known) (parts : List read_formula.Formula) → formulas_faults file known (formulas (map read.formula_of parts)) ≡ flat_map (λ x. formula_faults file known (read.formula_of x)) parts
formulas_faults-joined file known [] = refl
formulas_faults-joined file known (part ∷ rest) = ap (λ faults. formula_faults file known (read.formula_of part) ++ faults) (formulas_faults-joined file known rest)

-- a conjunction or a disjunction resolves to the list of its resolved parts, and has the faults of its parts
module _ (file : TaskFile) (known : Known) (whole : read_formula.Formula) (parts : Vec read_formula.Formula) (items : List read_formula.Formula) (same : items ≡ parts.items) where
  joined_parts : (resolved : List task.Formula) → resolved ≡ map (λ x. formula_in file known (read.formula_of x)) items → joined_formulas resolved ≡ formulas_in file known (formulas (map read.formula_of parts.items))
  joined_parts resolved are = ap joined_formulas (are ∙ ap (map (λ x. formula_in file known (read.formula_of x))) same) ∙ sym (formulas_in-joined file known parts.items)

  found_in_parts : (least before : Findings) → least ≡ found before (flat_map (λ x. formula_faults file known (read.formula_of x)) items) → least ≡ found before (formulas_faults file known (formulas (map read.formula_of parts.items)))
  found_in_parts least before finds =
      finds ∙ ap (λ ys. found before (flat_map (λ x. formula_faults file known (read.formula_of x)) ys)) same ∙ ap (found before) (sym (formulas_faults-joined file known parts.items))

  pub and_by_parts : whole ≡ read_formula.And parts → (resolved : Vec Formula) → map formula_of resolved.items ≡ map (λ x. formula_in file known (read.formula_of x)) items
      → formula_of (formula.And resolved) ≡ formula_in file known (read.formula_of whole)
  and_by_parts is resolved are =
      formula_of-And resolved ∙ ap task.and (joined_parts (map formula_of resolved.items) are) ∙ ap (formula_in file known) (sym (ap read.formula_of is ∙ rows.formula_of-And parts))

  pub and_faults_by_parts : whole ≡ read_formula.And parts → (least before : Findings) → least ≡ found before (flat_map (λ x. formula_faults file known (read.formula_of x)) items)
      → least ≡ found before (formula_faults file known (read.formula_of whole))
  and_faults_by_parts is least before finds = found_in_parts least before finds ∙ ap (λ f. found before (formula_faults file known f)) (sym (ap read.formula_of is ∙ rows.formula_of-And parts))

  pub or_by_parts : whole ≡ read_formula.Or parts → (resolved : Vec Formula) → map formula_of resolved.items ≡ map (λ x. formula_in file known (read.formula_of x)) items
      → formula_of (formula.Or resolved) ≡ formula_in file known (read.formula_of whole)
  or_by_parts is resolved are =
      formula_of-Or resolved ∙ ap task.or (joined_parts (map formula_of resolved.items) are) ∙ ap (formula_in file known) (sym (ap read.formula_of is ∙ rows.formula_of-Or parts))

  pub or_faults_by_parts : whole ≡ read_formula.Or parts → (least before : Findings) → least ≡ found before (flat_map (λ x. formula_faults file known (read.formula_of x)) items)
      → least ≡ found before (formula_faults file known (read.formula_of whole))
  or_faults_by_parts is least before finds = found_in_parts least before finds ∙ ap (λ f. found before (formula_faults file known f)) (sym (ap read.formula_of is ∙ rows.formula_of-Or parts))

-- one more quantifier, inside the others
pub exists_each-push : (us : List task.Union) (u : task.Union) (part : task.Formula) → exists_each (us ++ u ∷ []) part ≡ exists_each us (task.exists u part)
exists_each-push [] u part = refl
exists_each-push (v ∷ us) u part = ap (task.exists v) (exists_each-push us u part)

pub forall_each-push : (us : List task.Union) (u : task.Union) (part : task.Formula) → forall_each (us ++ u ∷ []) part ≡ forall_each us (task.forall u part)
forall_each-push [] u part = refl
forall_each-push (v ∷ us) u part = ap (task.forall v) (forall_each-push us u part)

-- a quantifier over no variables
pub exists_over_none : (parts : Vec Formula) (part : Formula) (us : List task.Union) → parts.items ≡ part ∷ [] → us ≡ [] → formula_of (formula.Or parts) ≡ exists_over us (formula_of part)
exists_over_none parts part us one none =
    formula_of-Or parts ∙ ap (λ items. task.or (joined_formulas (map formula_of items))) one ∙ sym (ap (λ vs. exists_over vs (formula_of part)) none)

pub forall_over_none : (parts : Vec Formula) (part : Formula) (us : List task.Union) → parts.items ≡ part ∷ [] → us ≡ [] → formula_of (formula.And parts) ≡ forall_over us (formula_of part)
forall_over_none parts part us one none =
    formula_of-And parts ∙ ap (λ items. task.and (joined_formulas (map formula_of items))) one ∙ sym (ap (λ vs. forall_over vs (formula_of part)) none)
