use Rattle.std.proofs.Common.{◌≡◌, ◌∙◌, Bool, List, [], ◌∷◌, ◌++◌, map, refl, ap, sym, if◌then◌else◌}
use Rattle.std.proofs.lemmas.List.{append-nil, map-append}
use Rattle.typing.specs.TypedLists.{declared_of}
use Rattle.typing.specs.Scope.{keys_in, variable_entry_of}
use Rattle.typing.specs.Walk.{found_in}
use Rattle.model.specs.Typing as typing
use Rattle.typing.proofs.Tables as tables
use Rattle.typing.proofs.variables.add_variable.Goals.{After-contains_key}
use Rattle.typing.proofs.variables.add_variable.Goals as goal

-- the look-up's result for the name
known : (c : After-contains_key) → c.contains_key.result ≡ typing.is_known (typing.names_of_variables (map variable_entry_of c.args.variables.now.entries)) (declared_of c.args.declared.now).name
known c =
    let entries = c.args.variables.now.entries in let q = c.as_slice.result.now in
    c.contains_key.ensures ∙ tables.lookup-any (tables.key_is q) entries
    ∙ sym (tables.is_known-shown variable_entry_of (λ v. v.name) (λ e. refl) (declared_of c.args.declared.now).name q (c.as_slice.ensures.value ∙ c.in_ok-fold.ensures.folded) entries)

pick : Bool → List typing.Variable → typing.Variable → List typing.Variable
pick b vs v = if b then vs else vs ++ v ∷ []

pub returns-then-contains_key : goal.returns-then-contains_key
unfolding pick
returns-then-contains_key c =
    let vs = map variable_entry_of c.args.variables.now.entries in
    let v = typing.variable_in (keys_in c.args.types.now.by_name.entries) (declared_of c.args.declared.now) in
    let is = known (goal.at.returns-then-contains_key c).After-contains_key in
    record {
      variables = sym (ap (λ b. pick b vs v) (sym is ∙ c.if-contains_key.true));
      kept = ([], sym (append-nil _));
      found = ap found_in c.fold.ensures.found;
    }

pub returns : goal.returns
unfolding pick
returns c =
    let entries = c.args.variables.now.entries in let name = (declared_of c.args.declared.now).name in
    let vs = map variable_entry_of entries in let union = c.in_ok-union.union in
    let v = typing.variable_in (keys_in c.args.types.now.by_name.entries) (declared_of c.args.declared.now) in
    let new = sym (known (goal.at.returns c).After-contains_key) ∙ c.if-contains_key.false in
    let one = c.in_ok-put.ensures.added (ap (λ ns. typing.is_known ns name) (tables.keys_in-named variable_entry_of (λ w. w.name) (λ e. refl) entries) ∙ new) in
    let made : variable_entry_of (one.0, union) ≡ v = λ i. record { name = one.1 i; types = c.in_ok-union.ensures i } in
    record {
      variables = ap (map variable_entry_of) one.2 ∙ map-append variable_entry_of entries ((one.0, union) ∷ []) ∙ ap (λ w. vs ++ w ∷ []) made ∙ sym (ap (λ b. pick b vs v) new);
      kept = ((one.0, union) ∷ [], one.2);
      found = ap found_in c.fold.ensures.found;
    }
