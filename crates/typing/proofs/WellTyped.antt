-- The task of a pair of trees without faults is well-typed.
use Rattle.std.proofs.Common.{◌≡◌, ℕ, ◌+◌, ◌≤◌, ◌<◌, ◌==◌, Bool, true, false, List, [], ◌∷◌, ◌++◌, map, length, slice_get, refl, ap, sym, ◌∙◌, Option, None, Some, if◌then◌else◌, arith, zero, suc, nat_lt, nat_le}
use Rattle.std.specs.Cmp.Lexicographic.{pointwise}
use Rattle.std.specs.List.{flat_map, list_all}
use Rattle.std.specs.Option.{option_map, option_map_or}
use Rattle.std.proofs.lemmas.Bool.{eqb-true}
use Rattle.std.proofs.lemmas.Bool.Decides.{nat_tests}
use Rattle.std.proofs.lemmas.List.{length-map, length-append, length_push, append_assoc, append-nil}
use Rattle.std.proofs.lemmas.Option.{slice_get-map}
use Rattle.model.specs.Task as task
use Rattle.model.specs.Trees as tree
use Rattle.model.specs.Trees.{TaskFile, domain_file}
use Rattle.model.specs.Typing.{Known, Placed, Variable, Declared, declared, folded, is_same, is_known, number_in, names_of_objects, names_of_predicates, names_of_variables, unions_in, union_in, repeated, one_after, refused, refused_word, words_of, unknown_faults, faults_against, predicate_faults, predicate_in_known, arguments_in, fits_in, term_faults, misfit_faults, terms_faults, atom_faults, formula_faults, formulas_faults, effect_literal_faults, effect_faults, effects_faults, increase_faults, amount_faults, ground_atom_faults, initial_cost_faults, fact_faults, value_faults, facts_faults, type_faults, argument_faults, schema_faults, term_in, lifted_atom_in, formula_in, formulas_in, effect_literal_in, effect_in, effects_in, atom_in, atoms_in, values_after, predicate_in, in_function, increase_in, known_in_action, schema_in, known_with, known_among, variable_faults, one_too_many, exists_each, forall_each, exists_over, forall_over, each_of}
use Rattle.model.specs.Meaning.{is_below_in, is_of}
use Rattle.model.specs.WellTyped.{is_term, is_some_term, is_lifted_atom, is_atom, is_formula, are_formulas, is_effect_literal, is_effect, are_effects, is_increase, is_schema}
use Rattle.typing.proofs.Lists.{list_any-position}
use Rattle.typing.proofs.Declaring.{variables_are, few_variables}
use Rattle.typing.proofs.Empty.{nil_left, nil_right, within, and_true}

-- ---- look-ups

known_number : (file : TaskFile) (code : ℕ) (names : List task.Name) (name : tree.Name) → unknown_faults file code names name ≡ [] → number_in names name < length names
known_number file code names name e = by (is_known names name) (list_any-position (is_same (folded name)) names) e
  where
    by : (b : Bool) → b ≡ nat_lt (number_in names name) (length names) → (if b then [] else refused_word file code name) ≡ [] → number_in names name < length names
    by true t f = grind (arith, nat_tests)
    by false t f = absurd (cc)

got_below : {X : Type 0} (xs : List X) (n : ℕ) → n < length xs → (x : X) × (slice_get xs n ≡ Some x)
got_below [] n l = absurd (omega (arith, l))
got_below (x ∷ xs) zero l = (x, refl)
got_below (x ∷ xs) (suc n) l = got_below xs n (omega (arith, l))

-- the declaration of a predicate without fault
pub declared_count : (file : TaskFile) (known : Known) (name : tree.Name) (count : ℕ) → predicate_faults file known name count ≡ []
    → (p : task.Predicate) × (predicate_in_known known name ≡ Some p) × (count ≡ length p.arguments)
declared_count file known name count e = by (predicate_in_known known name) refl e
  where
    right : (p : task.Predicate) (b : Bool) → (count == length p.arguments) ≡ b → (if b then [] else refused_word file 18 name) ≡ [] → count ≡ length p.arguments
    right p true t f = eqb-true count (length p.arguments) t
    right p false t f = absurd (cc)

    by : (o : Option task.Predicate) → predicate_in_known known name ≡ o → faults_against file o name count ≡ []
        → (p : task.Predicate) × (predicate_in_known known name ≡ Some p) × (count ≡ length p.arguments)
    by None at f = absurd (cc)
    by (Some p) at f = (p, at, right p (count == length p.arguments) refl f)

right_word : (file : TaskFile) (word : tree.Name) (b : Bool) → (if b then [] else refused_word file 19 word) ≡ [] → b ≡ true
right_word file word true e = refl
right_word file word false e = absurd (cc)

-- ---- resolved parts

-- the visible names belong to the task
pub record Fits (t : task.Task) (scope : List task.Union) (known : Known) : Type 0 where
  pub types : known.types ≡ t.types
  pub predicates : known.predicates ≡ t.predicates
  pub functions : known.functions ≡ t.functions
  pub variables : map (λ (v : Variable). v.types) known.variables ≡ scope
  pub objects : (n : ℕ) (o : task.Object) → slice_get known.objects n ≡ Some o → slice_get t.objects n ≡ Some o

module _ (t : task.Task) (scope : List task.Union) (file : TaskFile) (known : Known) (fits : Fits t scope known) where
  term_fits : (required_types : task.Union) (x : tree.Term) → term_faults file known x ≡ [] → misfit_faults file known (Some required_types) x ≡ [] → is_term t scope required_types (term_in known x) ≡ true
  term_fits required_types (tree.variable name) e m =
      let n = number_in (names_of_variables known.variables) name in
      let low = known_number file 17 (names_of_variables known.variables) name e in
      let v = got_below known.variables n (omega (arith, low, length-map known.variables (λ (x : Variable). x.name))) in
      let at : slice_get scope n ≡ Some v.0.types =
      ap (λ us. slice_get us n) (sym fits.variables) ∙ slice_get-map (λ (x : Variable). x.types) known.variables n ∙ ap (option_map (λ (x : Variable). x.types)) v.1 in
      let test = right_word file name (fits_in known required_types (task.variable n)) m in
      ap (λ o. option_map_or (list_all (is_below_in t.types required_types)) o false) at
      ∙ ap (λ ts. list_all (is_below_in ts required_types) v.0.types) (sym fits.types)
      ∙ sym (ap (λ o. option_map_or (λ (x : Variable). list_all (is_below_in known.types required_types) x.types) o true) v.1) ∙ test
  term_fits required_types (tree.object name) e m =
      let n = number_in (names_of_objects known.objects) name in
      let low = known_number file 17 (names_of_objects known.objects) name e in
      let o = got_below known.objects n (omega (arith, low, length-map known.objects (λ (x : task.Object). x.name))) in
      let test = right_word file name (fits_in known required_types (task.object n)) m in
      ap (λ q. option_map_or (λ (x : task.Object). is_below_in t.types required_types x.type) q false) (fits.objects n o.0 o.1)
      ∙ ap (λ ts. is_below_in ts required_types o.0.type) (sym fits.types)
      ∙ sym (ap (λ q. option_map_or (λ (x : task.Object). is_below_in known.types required_types x.type) q true) o.1) ∙ test

  terms_fit : (arguments : List task.Union) (xs : List tree.Term) → length xs ≡ length arguments → terms_faults file known arguments xs ≡ []
      → pointwise (is_term t scope) arguments (map (term_in known) xs) ≡ true
  terms_fit [] [] same e = refl
  terms_fit [] (x ∷ xs) same e = absurd (omega (arith, same))
  terms_fit (required_types ∷ arguments) [] same e = absurd (omega (arith, same))
  terms_fit (required_types ∷ arguments) (x ∷ xs) same e =
      let own = term_faults file known x in let misfit = misfit_faults file known (Some required_types) x in
      let rest = terms_faults file known arguments xs in
      and_true _ _ (term_fits required_types x (nil_left own misfit (nil_left (own ++ misfit) rest e)) (nil_right own misfit (nil_left (own ++ misfit) rest e)))
      (terms_fit arguments xs (omega (arith, same)) (nil_right (own ++ misfit) rest e))

  -- the objects of a ground atom, as terms
  objects_fit : (arguments : List task.Union) (names : List tree.Name) → length names ≡ length arguments → terms_faults file known arguments (map (λ (n : tree.Name). tree.object n) names) ≡ []
      → pointwise (is_of t) arguments (map (number_in (names_of_objects known.objects)) names) ≡ true
  objects_fit [] [] same e = refl
  objects_fit [] (x ∷ xs) same e = absurd (omega (arith, same))
  objects_fit (required_types ∷ arguments) [] same e = absurd (omega (arith, same))
  objects_fit (required_types ∷ arguments) (x ∷ xs) same e =
      let own = term_faults file known (tree.object x) in let misfit = misfit_faults file known (Some required_types) (tree.object x) in
      let rest = terms_faults file known arguments (map (λ (n : tree.Name). tree.object n) xs) in
      and_true _ _ (term_fits required_types (tree.object x) (nil_left own misfit (nil_left (own ++ misfit) rest e)) (nil_right own misfit (nil_left (own ++ misfit) rest e)))
      (objects_fit arguments xs (omega (arith, same)) (nil_right (own ++ misfit) rest e))

  -- terms that fit the arguments of a known predicate are valid with it
  with_predicate : {X : Type 0} (may : task.Union → X → Bool) (name : tree.Name) (xs : List X) (p : task.Predicate) → predicate_in_known known name ≡ Some p → pointwise may p.arguments xs ≡ true
      → option_map_or (λ (q : task.Predicate). pointwise may q.arguments xs) (slice_get t.predicates (number_in (names_of_predicates known.predicates) name)) false ≡ true
  with_predicate may name xs p at each =
      let n = number_in (names_of_predicates known.predicates) name in
      ap (λ (ps : List task.Predicate). option_map_or (λ (q : task.Predicate). pointwise may q.arguments xs) (slice_get ps n) false) (sym fits.predicates)
      ∙ ap (λ o. option_map_or (λ (q : task.Predicate). pointwise may q.arguments xs) o false) at ∙ each

  pub atom_fits : (a : tree.Atom) → atom_faults file known a ≡ [] → is_lifted_atom t scope (lifted_atom_in known a) ≡ true
  atom_fits a e =
      let faults = predicate_faults file known a.predicate (length a.terms) in
      let terms = terms_faults file known (arguments_in known a.predicate) a.terms in
      let found = declared_count file known a.predicate (length a.terms) (nil_left faults terms e) in
      with_predicate (is_term t scope) a.predicate (map (term_in known) a.terms) found.0 found.1
      (terms_fit found.0.arguments a.terms found.2 (ap (λ o. terms_faults file known (option_map_or (λ (p : task.Predicate). p.arguments) o []) a.terms) (sym found.1) ∙ nil_right faults terms e))

  pub ground_atom_fits : (a : tree.GroundAtom) → ground_atom_faults file known a ≡ [] → is_atom t (atom_in known a) ≡ true
  ground_atom_fits a e =
      let as_terms = map (λ (n : tree.Name). tree.object n) a.objects in
      let faults = predicate_faults file known a.predicate (length a.objects) in
      let terms = terms_faults file known (arguments_in known a.predicate) as_terms in
      let found = declared_count file known a.predicate (length a.objects) (nil_left faults terms e) in
      with_predicate (is_of t) a.predicate (map (number_in (names_of_objects known.objects)) a.objects) found.0 found.1
      (objects_fit found.0.arguments a.objects found.2 (ap (λ o. terms_faults file known (option_map_or (λ (p : task.Predicate). p.arguments) o []) as_terms) (sym found.1) ∙ nil_right faults terms e))

  pub literal_fits : (l : tree.EffectLiteral) → effect_literal_faults file known l ≡ [] → is_effect_literal t scope (effect_literal_in known l) ≡ true
  literal_fits (tree.add a) e = atom_fits a e
  literal_fits (tree.delete a) e = atom_fits a e

  pub literals_fit : (ls : List tree.EffectLiteral) → flat_map (effect_literal_faults file known) ls ≡ [] → list_all (is_effect_literal t scope) (map (effect_literal_in known) ls) ≡ true
  literals_fit [] e = refl
  literals_fit (l ∷ ls) e =
      and_true _ _ (literal_fits l (nil_left (effect_literal_faults file known l) (flat_map (effect_literal_faults file known) ls) e))
      (literals_fit ls (nil_right (effect_literal_faults file known l) (flat_map (effect_literal_faults file known) ls) e))

  pub facts_fit : (fs : List tree.Fact) → flat_map (fact_faults file known) fs ≡ [] → list_all (is_atom t) (flat_map (atoms_in known) fs) ≡ true
  facts_fit [] e = refl
  facts_fit (tree.fact a ∷ fs) e =
      and_true _ _ (ground_atom_fits a (nil_left (ground_atom_faults file known a) (flat_map (fact_faults file known) fs) e)) (facts_fit fs (nil_right (ground_atom_faults file known a) (flat_map (fact_faults file known) fs) e))
  facts_fit (tree.negated word a ∷ fs) e = absurd (cc)
  facts_fit (tree.initial_cost c ∷ fs) e = facts_fit fs (nil_right (initial_cost_faults file known c) (flat_map (fact_faults file known) fs) e)
  facts_fit (tree.initial_value v ∷ fs) e = facts_fit fs (nil_right (ground_atom_faults file (in_function known) v.function) (flat_map (fact_faults file known) fs) e)

-- the facts have no fault of their own if there is none in total
pub own_faults : (file : TaskFile) (known : Known) (given : List task.FunctionValue) (fs : List tree.Fact) → facts_faults file known given fs ≡ [] → flat_map (fact_faults file known) fs ≡ []
own_faults file known given [] e = refl
own_faults file known given (f ∷ fs) e =
    let own = fact_faults file known f in let other = value_faults file known given f in
    let after = values_after known given (f ∷ []) in
    let rest = facts_faults file known after fs in
    λ i. nil_left own other (nil_left (own ++ other) rest e) i ++ own_faults file known after fs (nil_right (own ++ other) rest e) i

-- the amount of an increase: a function, with the functions in place of the predicates
increase_fits : (t : task.Task) (scope : List task.Union) (file : TaskFile) (known : Known) → Fits t scope known → (amount : tree.Amount) → amount_faults file known amount ≡ []
    → is_increase t scope (increase_in known amount) ≡ true
increase_fits t scope file known fits (tree.by_number n) e = refl
increase_fits t scope file known fits (tree.by_function f) e =
    let functions : task.Task = record t { predicates = t.functions } in
    let fit : Fits functions scope (in_function known) =
    record { types = fits.types; predicates = fits.functions; functions = fits.functions; variables = fits.variables; objects = fits.objects } in
    atom_fits functions scope file (in_function known) fit f e

increase_of_fits : (t : task.Task) (scope : List task.Union) (file : TaskFile) (known : Known) → Fits t scope known → (increases : List tree.Increase)
    → flat_map (λ (i : tree.Increase). amount_faults file known i.amount) increases ≡ []
    → is_increase t scope (option_map_or (λ (i : tree.Increase). increase_in known i.amount) (slice_get increases 0) (task.by_number 0)) ≡ true
increase_of_fits t scope file known fits [] e = refl
increase_of_fits t scope file known fits (i ∷ others) e =
    increase_fits t scope file known fits i.amount (nil_left (amount_faults file known i.amount) (flat_map (λ (j : tree.Increase). amount_faults file known j.amount) others) e)

-- ---- formulas

lt_true : (a b : ℕ) → a < b → nat_lt a b ≡ true
lt_true a b l = grind (arith, nat_tests)

got_low : {X : Type 0} (xs : List X) (n : ℕ) (x : X) → slice_get xs n ≡ Some x → n < length xs
got_low [] n x e = absurd (cc)
got_low (y ∷ xs) zero x e = omega arith
got_low (y ∷ xs) (suc n) x e = omega (arith, got_low xs n x e)

-- one quantifier for each of some variables, if they fit in scope
each_exists : (t : task.Task) (scope us : List task.Union) (part : task.Formula) → length scope + length us ≤ 16 → is_formula t (scope ++ us) part ≡ true → is_formula t scope (exists_each us part) ≡ true
each_exists t scope [] part low typed = ap (λ s. is_formula t s part) (sym (append-nil scope)) ∙ typed
each_exists t scope (u ∷ us) part low typed =
    and_true _ _ (lt_true (length scope) 16 (omega (arith, low)))
    (each_exists t (scope ++ u ∷ []) us part (omega (arith, low, length_push scope u)) (ap (λ s. is_formula t s part) (append_assoc scope (u ∷ []) us) ∙ typed))

each_forall : (t : task.Task) (scope us : List task.Union) (part : task.Formula) → length scope + length us ≤ 16 → is_formula t (scope ++ us) part ≡ true → is_formula t scope (forall_each us part) ≡ true
each_forall t scope [] part low typed = ap (λ s. is_formula t s part) (sym (append-nil scope)) ∙ typed
each_forall t scope (u ∷ us) part low typed =
    and_true _ _ (lt_true (length scope) 16 (omega (arith, low)))
    (each_forall t (scope ++ u ∷ []) us part (omega (arith, low, length_push scope u)) (ap (λ s. is_formula t s part) (append_assoc scope (u ∷ []) us) ∙ typed))

-- the quantifier of a file over these variables
over_exists : (t : task.Task) (scope us : List task.Union) (part : task.Formula) → length scope + length us ≤ 16 → is_formula t (scope ++ us) part ≡ true → is_formula t scope (exists_over us part) ≡ true
over_exists t scope [] part low typed = and_true _ _ (each_exists t scope [] part low typed) refl
over_exists t scope (u ∷ us) part low typed = each_exists t scope (u ∷ us) part low typed

over_forall : (t : task.Task) (scope us : List task.Union) (part : task.Formula) → length scope + length us ≤ 16 → is_formula t (scope ++ us) part ≡ true → is_formula t scope (forall_over us part) ≡ true
over_forall t scope [] part low typed = and_true _ _ (each_forall t scope [] part low typed) refl
over_forall t scope (u ∷ us) part low typed = each_forall t scope (u ∷ us) part low typed

each_effect : (t : task.Task) (scope us : List task.Union) (part : task.Effect) → length scope + length us ≤ 16 → is_effect t (scope ++ us) part ≡ true → is_effect t scope (each_of us part) ≡ true
each_effect t scope [] part low typed = ap (λ s. is_effect t s part) (sym (append-nil scope)) ∙ typed
each_effect t scope (u ∷ us) part low typed =
    and_true _ _ (lt_true (length scope) 16 (omega (arith, low)))
    (each_effect t (scope ++ u ∷ []) us part (omega (arith, low, length_push scope u)) (ap (λ s. is_effect t s part) (append_assoc scope (u ∷ []) us) ∙ typed))

-- what a list of variables without faults brings into scope
pub record BringsIn (t : task.Task) (scope : List task.Union) (known : Known) (xs : List Declared) : Type 0 where
  pub few : length scope + length (unions_in known.type_names xs) ≤ 16
  pub fits : Fits t (scope ++ unions_in known.type_names xs) (known_with known xs)

brings_in : (t : task.Task) (scope : List task.Union) (known : Known) → Fits t scope known → length scope ≤ 16 → (xs : List Declared) → variable_faults known.type_names known.variables xs ≡ [] → BringsIn t scope known xs
brings_in t scope known fits low xs e =
    let unknown = type_faults known.type_names xs in
    let twice = refused 16 (repeated (words_of xs)) in
    let shadows = refused 20 (known_among (names_of_variables known.variables) (words_of xs)) in
    let many = refused 25 (one_too_many (length known.variables) (words_of xs)) in
    let first = nil_left ((unknown ++ twice) ++ shadows) many e in
    let count : length known.variables ≡ length scope = sym (length-map known.variables (λ (v : Variable). v.types)) ∙ ap length fits.variables in
    let fit = few_variables (length known.variables) (words_of xs) (omega (arith, count, low)) (nil_right ((unknown ++ twice) ++ shadows) many e) in
    let word : Declared → Placed = λ x. record { file = x.file; word = x.name } in
    record {
      few = omega (arith, fit, count, length-map xs (λ (x : Declared). union_in known.type_names x.types), length-map xs word);
      fits = record {
        types = fits.types;
        predicates = fits.predicates;
        functions = fits.functions;
        variables = variables_are known.type_names known.variables xs (nil_right unknown twice (nil_left (unknown ++ twice) shadows first)) (nil_right (unknown ++ twice) shadows first)
            ∙ ap (λ us. us ++ unions_in known.type_names xs) fits.variables;
        objects = fits.objects;
      };
    }

some_term_fits : (t : task.Task) (scope : List task.Union) (file : TaskFile) (known : Known) → Fits t scope known → (x : tree.Term) → term_faults file known x ≡ [] → is_some_term t scope (term_in known x) ≡ true
some_term_fits t scope file known fits (tree.variable name) e =
    let n = number_in (names_of_variables known.variables) name in
    let low = known_number file 17 (names_of_variables known.variables) name e in
    lt_true n (length scope) (omega (arith, low, length-map known.variables (λ (v : Variable). v.name), length-map known.variables (λ (v : Variable). v.types), ap length fits.variables))
some_term_fits t scope file known fits (tree.object name) e =
    let n = number_in (names_of_objects known.objects) name in
    let low = known_number file 17 (names_of_objects known.objects) name e in
    let o = got_below known.objects n (omega (arith, low, length-map known.objects (λ (x : task.Object). x.name))) in
    lt_true n (length t.objects) (got_low t.objects n o.0 (fits.objects n o.0 o.1))

module _ (t : task.Task) (file : TaskFile) where
  mutual
    pub formula_fits : (scope : List task.Union) (known : Known) → Fits t scope known → length scope ≤ 16 → (f : tree.Formula) → formula_faults file known f ≡ [] → is_formula t scope (formula_in file known f) ≡ true
    formula_fits scope known fits low (tree.atom a) e = atom_fits t scope file known fits a e
    formula_fits scope known fits low (tree.equal x y) e =
        and_true _ _ (some_term_fits t scope file known fits x (nil_left (term_faults file known x) (term_faults file known y) e))
        (some_term_fits t scope file known fits y (nil_right (term_faults file known x) (term_faults file known y) e))
    formula_fits scope known fits low (tree.and parts) e = formulas_fit scope known fits low parts e
    formula_fits scope known fits low (tree.or parts) e = formulas_fit scope known fits low parts e
    formula_fits scope known fits low (tree.not part) e = formula_fits scope known fits low part e
    formula_fits scope known fits low (tree.imply premise conclusion) e =
        and_true _ _ (formula_fits scope known fits low premise (nil_left (formula_faults file known premise) (formula_faults file known conclusion) e))
        (formula_fits scope known fits low conclusion (nil_right (formula_faults file known premise) (formula_faults file known conclusion) e))
    formula_fits scope known fits low (tree.exists groups part) e =
        let xs = declared file groups in
        let heads = variable_faults known.type_names known.variables xs in
        let inner = formula_faults file (known_with known xs) part in
        let us = unions_in known.type_names xs in
        let brought = brings_in t scope known fits low xs (nil_left heads inner e) in
        over_exists t scope us (formula_in file (known_with known xs) part) brought.few
        (formula_fits (scope ++ us) (known_with known xs) brought.fits (omega (arith, brought.few, length-append scope us)) part (nil_right heads inner e))
    formula_fits scope known fits low (tree.forall groups part) e =
        let xs = declared file groups in
        let heads = variable_faults known.type_names known.variables xs in
        let inner = formula_faults file (known_with known xs) part in
        let us = unions_in known.type_names xs in
        let brought = brings_in t scope known fits low xs (nil_left heads inner e) in
        over_forall t scope us (formula_in file (known_with known xs) part) brought.few
        (formula_fits (scope ++ us) (known_with known xs) brought.fits (omega (arith, brought.few, length-append scope us)) part (nil_right heads inner e))

    formulas_fit : (scope : List task.Union) (known : Known) → Fits t scope known → length scope ≤ 16 → (fs : tree.Formulas) → formulas_faults file known fs ≡ [] → are_formulas t scope (formulas_in file known fs) ≡ true
    formulas_fit scope known fits low tree.no_formula e = refl
    formulas_fit scope known fits low (tree.more_formulas first rest) e =
        and_true _ _ (formula_fits scope known fits low first (nil_left (formula_faults file known first) (formulas_faults file known rest) e))
        (formulas_fit scope known fits low rest (nil_right (formula_faults file known first) (formulas_faults file known rest) e))

-- ---- effects

module _ (t : task.Task) (file : TaskFile) where
  mutual
    pub effect_fits : (scope : List task.Union) (known : Known) → Fits t scope known → length scope ≤ 16 → (f : tree.Effect) → effect_faults file known f ≡ [] → is_effect t scope (effect_in file known f) ≡ true
    effect_fits scope known fits low (tree.literal l) e = literal_fits t scope file known fits l e
    effect_fits scope known fits low (tree.both parts) e = effects_fit scope known fits low parts e
    effect_fits scope known fits low (tree.each groups part) e =
        let xs = declared file groups in
        let heads = variable_faults known.type_names known.variables xs in
        let inner = effect_faults file (known_with known xs) part in
        let us = unions_in known.type_names xs in
        let brought = brings_in t scope known fits low xs (nil_left heads inner e) in
        each_effect t scope us (effect_in file (known_with known xs) part) brought.few
        (effect_fits (scope ++ us) (known_with known xs) brought.fits (omega (arith, brought.few, length-append scope us)) part (nil_right heads inner e))
    effect_fits scope known fits low (tree.when condition literals) e =
        let before = formula_faults file known condition in
        let after = flat_map (effect_literal_faults file known) literals in
        and_true _ _ (formula_fits t file scope known fits low condition (nil_left before after e)) (literals_fit t scope file known fits literals (nil_right before after e))

    effects_fit : (scope : List task.Union) (known : Known) → Fits t scope known → length scope ≤ 16 → (fs : tree.Effects) → effects_faults file known fs ≡ [] → are_effects t scope (effects_in file known fs) ≡ true
    effects_fit scope known fits low tree.no_effect e = refl
    effects_fit scope known fits low (tree.more_effects first rest) e =
        and_true _ _ (effect_fits scope known fits low first (nil_left (effect_faults file known first) (effects_faults file known rest) e))
        (effects_fit scope known fits low rest (nil_right (effect_faults file known first) (effects_faults file known rest) e))

-- ---- declarations

le_true : (a b : ℕ) → a ≤ b → nat_le a b ≡ true
le_true a b l = grind (arith, nat_tests)

few_unions : (types : List task.Name) (xs : List Declared) (most : ℕ) → length (words_of xs) ≤ most → nat_le (length (unions_in types xs)) most ≡ true
few_unions types xs most low =
    let word : Declared → Placed = λ x. record { file = x.file; word = x.name } in
    le_true (length (unions_in types xs)) most (omega (arith, low, length-map xs (λ (x : Declared). union_in types x.types), length-map xs word))

pub arities_fit : (types : List task.Name) (qs : List tree.Predicate) → flat_map (argument_faults types) qs ≡ []
    → list_all (λ (p : task.Predicate). nat_le (length p.arguments) 8) (map (predicate_in types) qs) ≡ true
arities_fit types [] e = refl
arities_fit types (q ∷ qs) e =
    let xs = declared domain_file q.parameters in
    let own = nil_left (argument_faults types q) (flat_map (argument_faults types) qs) e in
    let low = within 25 8 (words_of xs) (nil_right (type_faults types xs) (refused 25 (one_after 8 (words_of xs))) own) in
    and_true _ _ (few_unions types xs 8 low) (arities_fit types qs (nil_right (argument_faults types q) (flat_map (argument_faults types) qs) e))

-- ---- actions

module _ (t : task.Task) (known : Known) (types : known.types ≡ t.types) (predicates : known.predicates ≡ t.predicates) (functions : known.functions ≡ t.functions)
    (objects : (n : ℕ) (o : task.Object) → slice_get known.objects n ≡ Some o → slice_get t.objects n ≡ Some o) where
  schema_fits : (a : tree.Action) → schema_faults known a ≡ [] → is_schema t (schema_in known a) ≡ true
  schema_fits a e =
      let xs = declared domain_file a.parameters in
      let inner = known_in_action known a in
      let heads = variable_faults known.type_names [] xs in
      let precondition = formula_faults domain_file inner a.precondition in
      let effect = effect_faults domain_file inner a.effect in
      let increases = increase_faults domain_file inner a in
      let amounts = flat_map (λ (i : tree.Increase). amount_faults domain_file inner i.amount) a.increases in
      let all = ((precondition ++ effect) ++ increases) ++ amounts in
      let us = unions_in known.type_names xs in
      let none : Known = record known { variables = [] } in
      let fits : Fits t [] none = record { types = types; predicates = predicates; functions = functions; variables = refl; objects = objects } in
      let brought = brings_in t [] none fits (omega arith) xs (nil_left heads all e) in
      let of_body = nil_right heads all e in
      let body = nil_left (precondition ++ effect) increases (nil_left ((precondition ++ effect) ++ increases) amounts of_body) in
      and_true _ _ (and_true _ _ (and_true _ _ (le_true (length us) 16 (omega (arith, brought.few)))
      (increase_of_fits t us domain_file inner brought.fits a.increases (nil_right ((precondition ++ effect) ++ increases) amounts of_body)))
      (formula_fits t domain_file us inner brought.fits (omega (arith, brought.few)) a.precondition (nil_left precondition effect body)))
      (effect_fits t domain_file us inner brought.fits (omega (arith, brought.few)) a.effect (nil_right precondition effect body))

  pub schemas_fit : (as' : List tree.Action) → flat_map (schema_faults known) as' ≡ [] → list_all (is_schema t) (map (schema_in known) as') ≡ true
  schemas_fit [] e = refl
  schemas_fit (a ∷ rest) e =
      and_true _ _ (schema_fits a (nil_left (schema_faults known a) (flat_map (schema_faults known) rest) e)) (schemas_fit rest (nil_right (schema_faults known a) (flat_map (schema_faults known) rest) e))
