-- The writer's text of a plan reads back as that plan.
use Rattle.std.proofs.Common.{◌≡◌, ℕ, zero, suc, ◌+◌, ◌≤◌, Bool, true, false, not, ◌&&◌, ◌||◌, cond, true≢false, List, [], ◌∷◌, ◌++◌, length, map, Option, None, Some, refl, sym, ap, ◌∙◌, subst, append_assoc, arith, ⊎_elim}
use Rattle.std.specs.Prelude.{IsTrue, slice_get, codes, is_some, ◌==◌, nat_lt, nat_le, ◌/◌, ◌%◌}
use Rattle.std.specs.Char.{is_ascii_alphabetic, is_ascii_digit, to_ascii_lowercase}
use Rattle.std.specs.Cmp.Lexicographic.{pointwise, same_text}
use Rattle.std.specs.Fmt.{decimal, digits, digits_onto, digit_glyph}
use Rattle.std.specs.Int.{is_in_range}
use Rattle.std.specs.List.{flat_map, list_all, list_any, position, position_or_len}
use Rattle.std.specs.Option.{option_map, option_map_or}
use Rattle.std.proofs.lemmas.Bool.{and_parts, or_cases, or_left, or_right, ne_eqb, leb-true, le-leb, lt-ltb, eqb-true}
use Rattle.std.proofs.lemmas.Cmp.{nat_list_eq_equiv}
use Rattle.std.proofs.lemmas.Option.{slice_get_within, slice_get-map}
use Rattle.model.specs.Words.{blank, comment, opening, closing, run, form_of, is_run, may_continue, is_gap, Part, form, bytes, size, EndsBefore, AreParts, is_name, is_name_byte, longest_text, longest_run}
use Rattle.model.specs.Trees as tree
use Rattle.model.specs.Task.{Name, Object, Schema, Task, Union, Instance}
use Rattle.model.specs.Meaning.{is_of, is_instance, fits, is_below}
use Rattle.model.specs.Resolution.{folded, is_same}
use Rattle.model.specs.PlanText.{Placed, placed_from, Step, AreNames, AreSteps, IsNumberOf, AreNumbersOf, schema_names, object_names, AllMean, IsPlanText}
use Rattle.model.specs.PlanWriting.{schema_name, object_name, object_text, step_line, cost_line, plan_text, is_lower_name, differ, are_lower_names, has_names}
use Rattle.model.proofs.Tests.{passes_got}

-- ---- a name is a run

-- the bytes of names are bytes of runs
printable_is_run : (byte : ℕ) → 45 ≤ byte → byte ≤ 122 → (byte ≡ 59 → ⊥) → form_of byte ≡ run
printable_is_run byte low high other =
    rw (
      ne_eqb byte 32 (λ h. omega arith),
      ne_eqb byte 9 (λ h. omega arith),
      ne_eqb byte 10 (λ h. omega arith),
      ne_eqb byte 13 (λ h. omega arith),
      ne_eqb byte 59 other,
      ne_eqb byte 40 (λ h. omega arith),
      ne_eqb byte 41 (λ h. omega arith),
      le-leb 33 byte (omega arith),
      le-leb byte 126 (omega arith),
    )

in_range : (low high byte : ℕ) → is_in_range low high byte ≡ true → (low ≤ byte) × (byte ≤ high)
in_range low high byte e = let b = and_parts _ _ e in (leb-true low byte b.0, leb-true byte high b.1)

letter_is_run : (byte : ℕ) → is_ascii_alphabetic byte ≡ true → form_of byte ≡ run
letter_is_run byte e = ⊎_elim
    (λ (h : is_in_range 65 90 byte ≡ true). let b = in_range 65 90 byte h in printable_is_run byte (omega arith) (omega arith) (λ i. omega arith))
    (λ (h : is_in_range 97 122 byte ≡ true). let b = in_range 97 122 byte h in printable_is_run byte (omega arith) (omega arith) (λ i. omega arith))
    (or_cases (is_in_range 65 90 byte) (is_in_range 97 122 byte) e)

digit_is_run : (byte : ℕ) → is_ascii_digit byte ≡ true → form_of byte ≡ run
digit_is_run byte e = let b = in_range 48 57 byte e in printable_is_run byte (omega arith) (omega arith) (λ i. omega arith)

name_byte_is_run : (byte : ℕ) → is_name_byte byte ≡ true → form_of byte ≡ run
name_byte_is_run byte e = ⊎_elim (λ (marked : (is_ascii_alphabetic byte || is_ascii_digit byte || byte == 45) ≡ true). ⊎_elim
    (λ (of_word : (is_ascii_alphabetic byte || is_ascii_digit byte) ≡ true). ⊎_elim (letter_is_run byte) (digit_is_run byte) (or_cases (is_ascii_alphabetic byte) (is_ascii_digit byte) of_word))
    (λ (dash : (byte == 45) ≡ true). let is = eqb-true byte 45 dash in printable_is_run byte (omega arith) (omega arith) (λ i. omega arith))
    (or_cases (is_ascii_alphabetic byte || is_ascii_digit byte) (byte == 45) marked))
    (λ (low_line : (byte == 95) ≡ true). let is = eqb-true byte 95 low_line in printable_is_run byte (omega arith) (omega arith) (λ i. omega arith))
    (or_cases (is_ascii_alphabetic byte || is_ascii_digit byte || byte == 45) (byte == 95) e)

name_continues : (others : List ℕ) → list_all is_name_byte others ≡ true → list_all (may_continue run) others ≡ true
name_continues [] all = refl
name_continues (byte ∷ others) all =
    let here = and_parts (is_name_byte byte) (list_all is_name_byte others) all in
    λ i. ap is_run (name_byte_is_run byte here.0) i && name_continues others here.1 i

-- a name as a part
record IsRunOf (name : Name) : Type 0 where
  part : Part
  bytes_are : bytes part ≡ name
  a_run : form part ≡ run
  to_its_end : list_all (may_continue (form part)) part.others ≡ true
  named : is_name (bytes part) ≡ true

run_of : (name : Name) → is_name name ≡ true → IsRunOf name
run_of [] e = absurd (true≢false (sym e))
run_of (first ∷ others) e =
    let letters = and_parts (is_ascii_alphabetic first) (list_all is_name_byte others) e in
    let here = letter_is_run first letters.0 in
    record {
      part = record { first = first; others = others };
      bytes_are = refl;
      a_run = here;
      to_its_end = ap (λ f. list_all (may_continue f) others) here ∙ name_continues others letters.1;
      named = e;
    }

-- ---- the name of a number, and its number

-- a test passes at some place
passes_somewhere : (p : Name → Bool) (names : List Name) (k : ℕ) (name : Name) → slice_get names k ≡ Some name → p name ≡ true → list_any p names ≡ true
passes_somewhere p [] k name at passes = absurd (cc)
passes_somewhere p (first ∷ names) zero name at passes = let same : first ≡ name = cc in or_left (p first) (list_any p names) (ap p same ∙ passes)
passes_somewhere p (first ∷ names) (suc k) name at passes = or_right (p first) (list_any p names) (passes_somewhere p names k name at passes)

-- the first of distinct names equals none of the others
none_same : (first : Name) (names : List Name) (k : ℕ) (name : Name) → not (list_any (is_same first) names) ≡ true → slice_get names k ≡ Some name → is_same name first ≡ false
none_same first names k name none at = by_test (is_same name first) refl
  where
    by_test : (t : Bool) → is_same name first ≡ t → t ≡ false
    by_test false e = refl
    by_test true e =
        let same : name ≡ first = same_text name first (sym e) in
        let among = passes_somewhere (is_same first) names k name at (ap (λ n. is_same first n) same ∙ nat_list_eq_equiv.refl first) in
        absurd (true≢false (sym none ∙ ap not among))

-- each of distinct names is the first one equal to itself
pub first_at : (names : List Name) (k : ℕ) (name : Name) → differ names ≡ true → slice_get names k ≡ Some name → position_or_len (is_same name) names ≡ k
first_at [] k name differs at = absurd (cc)
first_at (first ∷ names) zero name differs at =
    let same : first ≡ name = cc in
    ap (λ t. cond (not t) (1 + position_or_len (is_same name) names) 0) (ap (is_same name) same ∙ nat_list_eq_equiv.refl name)
first_at (first ∷ names) (suc k) name differs at =
    let parts = and_parts (not (list_any (is_same first) names)) (differ names) differs in
    ap (λ t. cond (not t) (1 + position_or_len (is_same name) names) 0) (none_same first names k name parts.0 at)
    ∙ (let later = first_at names k name parts.1 at in omega (arith, later))

number_of_name : (names : List Name) (k : ℕ) (name : Name) (word : tree.Name) → differ names ≡ true → slice_get names k ≡ Some name → folded word ≡ name → IsNumberOf names word k
number_of_name names k name word differs at same =
    ap (λ t. position (is_same t) names) same
    ∙ ap (λ j. cond (nat_lt j (length names)) (Some j) None) (first_at names k name differs at)
    ∙ ap (λ b. cond b (Some k) None) (lt-ltb k (length names) (slice_get_within names k name at))

-- each of these names is a run, and a word with its bytes has its number
record IsDeclaredAt (declared : List Name) (k : ℕ) (name : Name) : Type 0 where
  a_run : IsRunOf name
  number : (word : tree.Name) → word.text ≡ name → IsNumberOf declared word k

declared_at : (declared : List Name) (k : ℕ) (name : Name) → are_lower_names declared ≡ true → slice_get declared k ≡ Some name → IsDeclaredAt declared k name
declared_at declared k name named at =
    let both = and_parts (list_all is_lower_name declared) (differ declared) named in
    let lower = passes_got is_lower_name declared k name at both.0 in
    let short = and_parts (is_name name && is_same (map to_ascii_lowercase name) name) (nat_le (length name) longest_run) lower in
    let parts = and_parts (is_name name) (is_same (map to_ascii_lowercase name) name) short.0 in
    record {
      a_run = run_of name parts.0;
      number = λ word text. number_of_name declared k name word both.1 at (ap (map to_ascii_lowercase) text ∙ same_text (map to_ascii_lowercase name) name (sym parts.1));
    }

exists : {X : Type 0} (o : Option X) (test : X → Bool) → option_map_or test o false ≡ true → is_some o ≡ true
exists None test e = absurd (true≢false (sym e))
exists (Some x) test e = refl

name_got : {X : Type 0} (name : X → Name) (o : Option X) → is_some o ≡ true → option_map name o ≡ Some (option_map_or name o [])
name_got name None e = absurd (true≢false (sym e))
name_got name (Some x) e = refl

-- ---- reading the writer's text

-- from this offset on the text is gaps and the steps of this plan
record ReadsFrom (task : Task) (start : ℕ) (text : List ℕ) (plan : List Instance) : Type 0 where
  parts : List Part
  cut : AreParts text parts
  steps : List Step
  in_steps : AreSteps (placed_from start parts) steps
  mean : AllMean task steps plan

-- from this offset on it consists of the names of these objects, a closing parenthesis, and gaps and the steps of this plan
record ObjectsFrom (task : Task) (start : ℕ) (text : List ℕ) (objects : List ℕ) (plan : List Instance) : Type 0 where
  parts : List Part
  cut : AreParts text parts
  words : List Placed
  last : Placed
  rest : List Placed
  in_order : placed_from start parts ≡ words ++ last ∷ rest
  names : List tree.Name
  named : AreNames words names
  numbers : AreNumbersOf (object_names task) names objects
  closes : form last.part ≡ closing
  steps : List Step
  in_steps : AreSteps rest steps
  mean : AllMean task steps plan

abbrev alone : ℕ → Part
alone byte = record { first = byte; others = [] }

-- a part of one byte is not continued
ends_blank : (text : List ℕ) → EndsBefore blank text
ends_blank [] = tt
ends_blank (byte ∷ text) = refl

ends_opening : (text : List ℕ) → EndsBefore opening text
ends_opening [] = tt
ends_opening (byte ∷ text) = refl

-- a run goes into the words
run_placed : (start : ℕ) (part : Part) (parts : List Part) → form part ≡ run → placed_from start (part ∷ parts) ≡ record { start = start; part = part } ∷ placed_from (start + size part) parts
run_placed start part parts e = ap (λ f. cond (is_gap f) (placed_from (start + size part) parts) (record { start = start; part = part } ∷ placed_from (start + size part) parts)) e

abbrev name_read : Placed → tree.Name
name_read word = record { text = bytes word.part; span = record { start = word.start; end = word.start + size word.part } }

module _ (task : Task) (schemas_named : are_lower_names (schema_names task) ≡ true) (objects_named : are_lower_names (object_names task) ≡ true) where
  object_at : (k : ℕ) → is_some (slice_get task.objects k) ≡ true → IsDeclaredAt (object_names task) k (object_name task k)
  object_at k there = declared_at (object_names task) k (object_name task k) objects_named
      (slice_get-map (λ (o : Object). o.name) task.objects k ∙ name_got (λ (o : Object). o.name) (slice_get task.objects k) there)

  schema_at : (k : ℕ) → is_some (slice_get task.schemas k) ≡ true → IsDeclaredAt (schema_names task) k (schema_name task k)
  schema_at k there = declared_at (schema_names task) k (schema_name task k) schemas_named
      (slice_get-map (λ (s : Schema). s.name) task.schemas k ∙ name_got (λ (s : Schema). s.name) (slice_get task.schemas k) there)

  -- a run ends before a blank and before a closing parenthesis
  ends_before_objects : (objects more : List ℕ) → EndsBefore run (flat_map (object_text task) objects ++ 41 ∷ more)
  ends_before_objects [] more = refl
  ends_before_objects (k ∷ objects) more = refl

  -- if the lines that follow are read from any offset
  module _ (more : List ℕ) (plan : List Instance) (follow : (start : ℕ) → ReadsFrom task start more plan) where
    objects_read : (unions : List Union) (objects : List ℕ) → pointwise (is_of task) unions objects ≡ true → (start : ℕ)
        → ObjectsFrom task start (flat_map (object_text task) objects ++ 41 ∷ 10 ∷ more) objects plan
    objects_read [] [] fit start =
        let after = follow (start + 1 + 1) in
        record {
          parts = alone 41 ∷ alone 10 ∷ after.parts;
          cut = (10 ∷ more, refl, refl, refl, (more, refl, refl, ends_blank more, after.cut));
          words = [];
          last = record { start = start; part = alone 41 };
          rest = placed_from (start + 1 + 1) after.parts;
          in_order = refl;
          names = [];
          named = tt;
          numbers = tt;
          closes = refl;
          steps = after.steps;
          in_steps = after.in_steps;
          mean = after.mean;
        }
    objects_read (types ∷ unions) [] fit start = absurd (cc)
    objects_read [] (k ∷ objects) fit start = absurd (cc)
    objects_read (types ∷ unions) (k ∷ objects) fit start =
        let parts = and_parts (is_of task types k) (pointwise (is_of task) unions objects) fit in
        let here = object_at k (exists (slice_get task.objects k) (λ (o : Object). is_below task types o.type) parts.0) in
        let part = here.a_run.part in
        let word : Placed = record { start = start + 1; part = part } in
        let after = objects_read unions objects parts.1 (start + 1 + size part) in
        let texts = flat_map (object_text task) objects in
        let left = texts ++ 41 ∷ 10 ∷ more in
        record {
          parts = alone 32 ∷ part ∷ after.parts;
          cut = (
            (object_name task k ++ texts) ++ 41 ∷ 10 ∷ more,
            refl,
            refl,
            ends_blank _,
            (
              left,
              append_assoc (object_name task k) texts (41 ∷ 10 ∷ more) ∙ ap (λ bs. bs ++ left) (sym here.a_run.bytes_are),
              here.a_run.to_its_end,
              subst (λ f. EndsBefore f left) (sym here.a_run.a_run) (ends_before_objects objects (10 ∷ more)),
              after.cut,
            ),
          );
          words = word ∷ after.words;
          last = after.last;
          rest = after.rest;
          in_order = run_placed (start + 1) part after.parts here.a_run.a_run ∙ ap (λ ws. word ∷ ws) after.in_order;
          names = name_read word ∷ after.names;
          named = (record { well_formed = here.a_run.named; text = refl; span = refl }, after.named);
          numbers = (here.number (name_read word) here.a_run.bytes_are, after.numbers);
          closes = after.closes;
          steps = after.steps;
          in_steps = after.in_steps;
          mean = after.mean;
        }

    step_read : (i : Instance) → is_instance task i ≡ true → (start : ℕ) → ReadsFrom task start (step_line task i ++ more) (i ∷ plan)
    step_read i fit start = by_schema (slice_get task.schemas i.schema) refl fit
      where
        by_schema : (o : Option Schema) → slice_get task.schemas i.schema ≡ o → option_map_or (λ schema. fits task schema i.objects) o false ≡ true → ReadsFrom task start (step_line task i ++ more) (i ∷ plan)
        by_schema None at e = absurd (true≢false (sym e))
        by_schema (Some schema) at e =
            let here = schema_at i.schema (ap is_some at) in
            let part = here.a_run.part in
            let first : Placed = record { start = start; part = alone 40 } in
            let word : Placed = record { start = start + 1; part = part } in
            let after = objects_read schema.parameters i.objects e (start + 1 + size part) in
            let texts = flat_map (object_text task) i.objects in
            let left = texts ++ 41 ∷ 10 ∷ more in
            let step : Step = record { action = name_read word; objects = after.names } in
            let these : List Placed = first ∷ (word ∷ after.words) ++ after.last ∷ [] in
            let text_is : (((schema_name task i.schema ++ texts) ++ 41 ∷ []) ++ 10 ∷ []) ++ more ≡ schema_name task i.schema ++ left = simp append_assoc in
            record {
              parts = alone 40 ∷ part ∷ after.parts;
              cut = (
                schema_name task i.schema ++ left,
                ap (λ bs. 40 ∷ bs) text_is,
                refl,
                ends_opening (schema_name task i.schema ++ left),
                (
                  left,
                  ap (λ bs. bs ++ left) (sym here.a_run.bytes_are),
                  here.a_run.to_its_end,
                  subst (λ f. EndsBefore f left) (sym here.a_run.a_run) (ends_before_objects i.objects (10 ∷ more)),
                  after.cut,
                ),
              );
              steps = step ∷ after.steps;
              in_steps = (
                these,
                after.rest,
                ap (λ ws. first ∷ ws) (run_placed (start + 1) part after.parts here.a_run.a_run ∙ ap (λ ws. word ∷ ws) (after.in_order ∙ sym (append_assoc after.words (after.last ∷ []) after.rest))),
                record {
                  first = first;
                  names = word ∷ after.words;
                  last = after.last;
                  in_order = refl;
                  opens = refl;
                  closes = after.closes;
                  named = (record { well_formed = here.a_run.named; text = refl; span = refl }, after.named);
                },
                after.in_steps,
              );
              mean = (
                record {
                  action = here.number (name_read word) here.a_run.bytes_are;
                  objects = after.numbers;
                  fits = fit;
                },
                after.mean,
              );
            }

  -- the digits of a cost continue a comment
  digits_go_on : (k n : ℕ) (more : List ℕ) → list_all (may_continue comment) more ≡ true → list_all (may_continue comment) (digits_onto k 10 false n more) ≡ true
  digits_go_on zero n more all = all
  digits_go_on (suc k) n more all = by_last (n / 10 == 0) (digits_go_on k (n / 10) (digit_glyph false (n % 10) ∷ more))
    where
      digit : (low : Bool) (d : ℕ) → may_continue comment (cond low (48 + d) (87 + d)) ≡ true
      digit true d = ap not (ne_eqb (48 + d) 10 (λ e. omega arith))
      digit false d = ap not (ne_eqb (87 + d) 10 (λ e. omega arith))

      longer : list_all (may_continue comment) (digit_glyph false (n % 10) ∷ more) ≡ true
      longer = λ i. digit (nat_lt (n % 10) 10) (n % 10) i && all i

      by_last : (done : Bool) → (list_all (may_continue comment) (digit_glyph false (n % 10) ∷ more) ≡ true → list_all (may_continue comment) (digits_onto k 10 false (n / 10) (digit_glyph false (n % 10) ∷ more)) ≡ true)
          → list_all (may_continue comment) (cond done (digit_glyph false (n % 10) ∷ more) (digits_onto k 10 false (n / 10) (digit_glyph false (n % 10) ∷ more))) ≡ true
      by_last true later = longer
      by_last false later = later longer

  decimal_continues : (cost : ℕ) → list_all (may_continue comment) (decimal cost) ≡ true
  unfolding digits
  decimal_continues cost = digits_go_on 64 cost [] refl

  plan_read : (plan : List Instance) → list_all (is_instance task) plan ≡ true → (cost start : ℕ) → ReadsFrom task start (plan_text task plan cost) plan
  plan_read [] all cost start = record {
    parts = record { first = 59; others = codes " cost = " ++ decimal cost } ∷ alone 10 ∷ [];
    cut = (10 ∷ [], refl, decimal_continues cost, refl, ([], refl, refl, tt, refl));
    steps = [];
    in_steps = refl;
    mean = tt;
  }
  plan_read (i ∷ plan) all cost start =
      let both = and_parts (is_instance task i) (list_all (is_instance task) plan) all in
      subst (λ text. ReadsFrom task start text (i ∷ plan)) (sym (append_assoc (step_line task i) (flat_map (step_line task) plan) (cost_line cost)))
      (step_read (plan_text task plan cost) plan (plan_read plan both.1 cost) i both.0 start)

-- the text of a plan, if it is within the limit, reads back as the plan
pub reads_back : (task : Task) (plan : List Instance) (cost : ℕ) → IsTrue (has_names task) → IsTrue (list_all (is_instance task) plan) → length (plan_text task plan cost) ≤ longest_text
    → IsPlanText task (plan_text task plan cost) plan
reads_back task plan cost named all short =
    let both = and_parts (are_lower_names (schema_names task)) (are_lower_names (object_names task)) named in
    let read = plan_read task both.0 both.1 plan all cost 0 in
    (read.steps, record { short = short; parts = read.parts; cut = read.cut; steps_of_parts = read.in_steps }, read.mean)
