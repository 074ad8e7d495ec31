use Rattle.std.proofs.Common.{◌≡◌, ◌≤◌, ◌∙◌, List, [], ◌∷◌, ◌++◌, codes, fold, length, ap, arith}
use Rattle.std.proofs.lemmas.List.{length-map}
use Rattle.std.specs.Map.{keys_of}
use Rattle.typing.specs.Scope.{keys_in}
use Rattle.typing.specs.Walk.{found, found_by, nothing}
use Rattle.pddl_tree.specs.Tree as read
use Rattle.model.specs.Typing as typing
use Rattle.typing.proofs.Found as finding
use Rattle.typing.proofs.Reports as printing
use Rattle.typing.proofs.Empty as empty
use Rattle.typing.proofs.Declared.{names_are}
use Rattle.typing.proofs.domain.checked_names.Goals as goal

pub returns : goal.returns
returns c =
    let d = read.domain_of c.args.domain.now in let p = read.problem_of c.args.problem.now in
    let xs = typing.declared_types d in
    let same = c.requires in
    let names = c.in_ok-names.names in
    let other = typing.domain_name_faults d p in
    let twice = λ (ys : List typing.Declared). typing.refused 16 (typing.repeated_after (codes "object" ∷ []) (typing.words_of ys)) in
    let unknown = λ (ys : List typing.Declared). typing.type_faults (typing.type_names d) ys in
    let many = λ (ys : List typing.Declared). typing.refused 25 (typing.one_after 4095 (typing.words_of ys)) in
    let faults = other ++ typing.type_declaration_faults d in
    let are : keys_in names.entries ≡ typing.type_names d = c.in_ok-names.ensures.names ∙ ap (λ ys. fold typing.with_name (codes "object" ∷ []) (typing.names_of ys)) same in
    let total : found_by c.limit.new.walk ≡ found nothing faults =
    finding.found_after nothing (found_by c.compare.new.walk) _ other ((twice xs ++ unknown xs) ++ many xs) (c.compare.ensures ∙ ap (λ o. found o other) c.in_ok-walk.ensures)
    (finding.found_after (found_by c.compare.new.walk) (found_by c.check_all.new.walk) _ (twice xs ++ unknown xs) (many xs)
    (finding.found_after (found_by c.compare.new.walk) (found_by c.type_names.new.walk) _ (twice xs) (unknown xs) (c.in_ok-names.ensures.finds ∙ ap (λ ys. found (found_by c.compare.new.walk) (twice ys)) same) (c.in_ok-check_all.ensures ∙ (λ i. found (found_by c.type_names.new.walk) (typing.type_faults (are i) (same i)))))
    (c.limit.ensures ∙ ap (λ ys. found (found_by c.check_all.new.walk) (many ys)) same)) in
    let few : faults ≡ [] → length names.entries ≤ 4096 =
    λ none. let types = empty.nil_right other (typing.type_declaration_faults d) none in
    let once = empty.not_refused 16 (typing.repeated_after (codes "object" ∷ []) (typing.words_of xs)) (empty.nil_left (twice xs) (unknown xs) (empty.nil_left (twice xs ++ unknown xs) (many xs) types)) in
    let low = empty.within 25 4095 (typing.words_of xs) (empty.nil_right (twice xs ++ unknown xs) (many xs) types) in
    let count = ap length (are ∙ names_are xs once) in
    omega (arith, count, low, length-map names.entries (λ e. e.0), length-map (keys_of names.entries) (λ k. k.items), length-map (typing.names_of xs) typing.folded, length-map xs (λ (y : typing.Declared). y.name), length-map xs (λ (y : typing.Declared). typing.placed y.file y.name)) in
    record {
      ok = printing.given (λ m. (keys_in m.entries ≡ typing.type_names d) × (length m.entries ≤ 4096)) names faults _ total (λ none. (are, few none)) c.finish.result c.finish.ensures.none;
      err = printing.reports_result faults _ total c.finish.result c.finish.ensures.some;
    }
