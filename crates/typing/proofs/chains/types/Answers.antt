use Rattle.std.proofs.Common.{◌≡◌, ◌≤◌, ◌∙◌, [], ◌∷◌, ◌++◌, codes, map, length, ap, sym, subst, arith}
use Rattle.std.proofs.lemmas.List.{length-map}
use Rattle.std.proofs.lemmas.Result.{IfErr-weaker, IfOk-weaker}
use Rattle.pddl_tree.specs.Tree.{domain_of, problem_of, group_of}
use Rattle.typing.specs.Chains.{cycles}
use Rattle.typing.specs.Task.{ReportsAll}
use Rattle.typing.specs.TypedLists.{declared_of}
use Rattle.typing.specs.Declarations.{type_faults_of, AreTypesOf}
use Rattle.model.specs.Trees.{domain_file}
use Rattle.model.specs.Trees as tree
use Rattle.model.specs.Typing as typing
use Rattle.typing.proofs.Empty as empty
use Rattle.model.specs.Typing.{first_filled}
use Rattle.typing.proofs.Reports.{reports_here, reports_later}
use Rattle.faults.proofs.Results.{passed_on}
use Rattle.typing.proofs.chains.types.Goals.{In_ok-names}
use Rattle.typing.proofs.chains.types.Goals as goal

same : (c : In_ok-names) → map declared_of c.as_slice-declared.result.now ≡ typing.declared_types (domain_of c.args.domain.now)
same c = ap (map declared_of) c.as_slice-declared.ensures.value ∙ c.in_ok-list.ensures ∙ ap (λ gs. typing.declared domain_file (map group_of gs)) c.as_slice-groups.ensures.value

-- the types are not repeated, and within the limit
once_of : (d : tree.Domain) (p : tree.Problem) → typing.domain_name_faults d p ++ typing.type_declaration_faults d ≡ []
    → (typing.repeated_after (codes "object" ∷ []) (typing.words_of (typing.declared_types d)) ≡ []) × (length (typing.declared_types d) ≤ 4095)
once_of d p none =
    let xs = typing.declared_types d in
    let types = empty.nil_right (typing.domain_name_faults d p) (typing.type_declaration_faults d) none in
    let twice = typing.refused 16 (typing.repeated_after (codes "object" ∷ []) (typing.words_of xs)) in
    let unknown = typing.type_faults (typing.type_names d) xs in
    let many = typing.refused 25 (typing.one_after 4095 (typing.words_of xs)) in (
      empty.not_refused 16 (typing.repeated_after (codes "object" ∷ []) (typing.words_of xs)) (empty.nil_left twice unknown (empty.nil_left (twice ++ unknown) many types)),
      omega (arith, empty.within 25 4095 (typing.words_of xs) (empty.nil_right (twice ++ unknown) many types), length-map xs (λ (y : typing.Declared). typing.placed y.file y.name)),
    )

once : (c : In_ok-names) → (typing.repeated_after (codes "object" ∷ []) (typing.words_of (typing.declared_types (domain_of c.args.domain.now))) ≡ []) × (length (typing.declared_types (domain_of c.args.domain.now)) ≤ 4095)
once c = once_of (domain_of c.args.domain.now) (problem_of c.args.problem.now) c.in_ok-names.ensures.ok.0

pub names-requires : goal.names-requires
names-requires c = ap (map declared_of) c.as_slice-declared.ensures.value ∙ c.in_ok-list.ensures ∙ ap (λ gs. typing.declared domain_file (map group_of gs)) c.as_slice-groups.ensures.value

pub filled-requires : goal.filled-requires
filled-requires c =
    let s = (goal.at.filled-requires c).In_ok-names in
    omega (arith, (once s).1, ap length (same s), length-map c.as_slice-declared.result.now declared_of)

pub returns-in_err-names-clause-err : goal.returns-in_err-names-clause-err
returns-in_err-names-clause-err c =
    let d = domain_of c.args.domain.now in let p = problem_of c.args.problem.now in let e = c.in_err-names.field-0.0 in
    passed_on (ReportsAll (type_faults_of d p)) c.from_residual-in_err-names.result e c.from_residual-in_err-names.ensures.1
    (reports_here (typing.domain_name_faults d p ++ typing.type_declaration_faults d) _ e c.in_err-names.ensures.err)

pub returns-clause-err : goal.returns-clause-err
returns-clause-err c =
    let s = (goal.at.returns-clause-err c).In_ok-names in
    let d = domain_of c.args.domain.now in let p = problem_of c.args.problem.now in
    IfErr-weaker c.filled.result _ (ReportsAll (type_faults_of d p))
    (λ e reported. reports_later (typing.domain_name_faults d p ++ typing.type_declaration_faults d) _ c.in_ok-names.ensures.ok.0 e
    (reports_here (typing.cycle_faults d) [] e (subst (λ fs. ReportsAll fs e) (λ i. cycles (c.in_ok-names.ensures.ok.1 i) (same s i)) reported))) c.filled.ensures.err

pub returns-clause-ok : goal.returns-clause-ok
returns-clause-ok c =
    let s = (goal.at.returns-clause-ok c).In_ok-names in
    let d = domain_of c.args.domain.now in let p = problem_of c.args.problem.now in
    let names = c.in_ok-names.ensures.ok.1 in
    IfOk-weaker c.filled.result _ (λ t. (type_faults_of d p ≡ []) × AreTypesOf d t)
    (λ t are.
    let cycle = sym (λ i. cycles (names i) (same s i)) ∙ are.right in (
      λ i. first_filled (c.in_ok-names.ensures.ok.0 i ∷ cycle i ∷ []),
      record { names = are.names_are ∙ names; all = are.types ∙ (λ i. typing.types_from (typing.parents_in (names i) (same s i)) 0 (names i)) },
    )) c.filled.ensures.ok
