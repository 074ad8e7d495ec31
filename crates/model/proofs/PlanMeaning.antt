-- The steps of a plan text mean a unique list of instances, or the first step without a meaning is faulty.
use Rattle.std.proofs.Common.{◌≡◌, ℕ, suc, ◌+◌, ◌≤◌, Bool, true, false, cond, List, [], ◌∷◌, ◌++◌, length, Option, Some, sym, refl, ap, ◌∙◌, subst, arith, append_assoc}
use Rattle.std.specs.Cmp.Lexicographic.{pointwise, as_long}
use Rattle.std.specs.List.{list_all}
use Rattle.std.specs.Option.{option_map_or}
use Rattle.std.specs.Prelude.{slice_get}
use Rattle.std.proofs.lemmas.Bool.{and_parts, and_from}
use Rattle.std.proofs.lemmas.List.{length-append, append-nil}
use Rattle.model.specs.Fault.{Span, Fault}
use Rattle.model.specs.Words.{Part, form, bytes, size, is_gap, AreParts, longest_text}
use Rattle.model.specs.Trees.{Name}
use Rattle.model.specs.Task.{Union, Task, Schema, Instance}
use Rattle.model.specs.Meaning.{is_of, is_instance, fits}
use Rattle.model.specs.PlanText.{Placed, placed_from, Step, AreSteps, HasSteps, BeginsSteps, IsNumberOfWord, timed, untimed, IsFormFault, too_long, refused, open_at_end, IsNumberOf, AreNumbersOf, schema_names, object_names, Means, AllMean, IsPlanText, NamesObject, NameObjects, IsStepFault, unknown_action, wrong_count, wrong_object, IsPlanFault, of_form, of_step}
use Rattle.model.proofs.PlanReading.{one_list}
use Rattle.model.proofs.Places.{Places, at_one, comes_before, comes_after, places}

-- A name has one number.
one_number : (declared : List (List ℕ)) (name : Name) (a b : ℕ) → IsNumberOf declared name a → IsNumberOf declared name b → a ≡ b
one_number declared name a b h g = let both : Some a ≡ Some b = sym h ∙ g in cc

one_numbers : (declared : List (List ℕ)) (names : List Name) (a b : List ℕ) → AreNumbersOf declared names a → AreNumbersOf declared names b → a ≡ b
one_numbers declared [] [] [] h g = refl
one_numbers declared [] [] (m ∷ ms) h g = absurd g
one_numbers declared [] (n ∷ ns) b h g = absurd h
one_numbers declared (name ∷ names) [] b h g = absurd h
one_numbers declared (name ∷ names) (n ∷ ns) [] h g = absurd g
one_numbers declared (name ∷ names) (n ∷ ns) (m ∷ ms) h g =
    ap (λ k. k ∷ ns) (one_number declared name n m h.0 g.0) ∙ ap (λ ks. m ∷ ks) (one_numbers declared names ns ms h.1 g.1)

same_instance : (i j : Instance) → i.schema ≡ j.schema → i.objects ≡ j.objects → i ≡ j
same_instance i j schema objects =
    ap (λ s. let k : Instance = record { schema = s; objects = i.objects } in k) schema
    ∙ ap (λ os. let k : Instance = record { schema = j.schema; objects = os } in k) objects

one_meaning : (task : Task) (step : Step) (i j : Instance) → Means task step i → Means task step j → i ≡ j
one_meaning task step i j h g =
    same_instance i j (one_number (schema_names task) step.action i.schema j.schema h.action g.action)
    (one_numbers (object_names task) step.objects i.objects j.objects h.objects g.objects)

one_plan : (task : Task) (steps : List Step) (a b : List Instance) → AllMean task steps a → AllMean task steps b → a ≡ b
one_plan task [] [] [] h g = refl
one_plan task [] [] (j ∷ b) h g = absurd g
one_plan task [] (i ∷ a) b h g = absurd h
one_plan task (step ∷ steps) [] b h g = absurd h
one_plan task (step ∷ steps) (i ∷ a) [] h g = absurd g
one_plan task (step ∷ steps) (i ∷ a) (j ∷ b) h g =
    ap (λ k. k ∷ a) (one_meaning task step i j h.0 g.0) ∙ ap (λ ks. j ∷ ks) (one_plan task steps a b h.1 g.1)

-- A step that means an instance is not faulty.
pub numbers_length : (declared : List (List ℕ)) (names : List Name) (numbers : List ℕ) → AreNumbersOf declared names numbers → length names ≡ length numbers
numbers_length declared [] [] h = refl
numbers_length declared [] (n ∷ ns) h = absurd h
numbers_length declared (name ∷ names) [] h = absurd h
numbers_length declared (name ∷ names) (n ∷ ns) h = ap suc (numbers_length declared names ns h.1)

-- names whose numbers fit are names of objects that fit
pub names_each : (task : Task) (unions : List Union) (names : List Name) (numbers : List ℕ) → AreNumbersOf (object_names task) names numbers → pointwise (is_of task) unions numbers ≡ true → NameObjects task unions names
names_each task [] [] [] are fit = tt
names_each task (types ∷ unions) [] [] are fit = absurd (cc)
names_each task unions [] (n ∷ ns) are fit = absurd are
names_each task unions (name ∷ names) [] are fit = absurd are
names_each task [] (name ∷ names) (n ∷ ns) are fit = absurd (cc)
names_each task (types ∷ unions) (name ∷ names) (n ∷ ns) are fit =
    let parts = and_parts (is_of task types n) (pointwise (is_of task) unions ns) fit in
    ((n, are.0, parts.0), names_each task unions names ns are.1 parts.1)

-- if more names fit in the longer of two splits of the same types, the name after the first ones fits its own type
named_before : (task : Task) (before after : List Name) (name : Name) (theirs all others rest : List Union) (types : Union)
    → NameObjects task theirs before → NameObjects task all (before ++ name ∷ after) → theirs ++ types ∷ others ≡ all ++ rest → NamesObject task types name
named_before task [] after name [] [] others rest types named each split = absurd each
named_before task [] after name [] (first ∷ all) others rest types named each split =
    let same : types ≡ first = cc in subst (λ u. NamesObject task u name) (sym same) each.0
named_before task [] after name (their ∷ theirs) all others rest types named each split = absurd named
named_before task (n ∷ before) after name [] all others rest types named each split = absurd named
named_before task (n ∷ before) after name (their ∷ theirs) [] others rest types named each split = absurd each
named_before task (n ∷ before) after name (their ∷ theirs) (first ∷ all) others rest types named each split =
    named_before task before after name theirs all others rest types named.1 each.1 (cc)

-- an instance has one object for each parameter
fits_there : (task : Task) (i : Instance) (schema : Schema) → is_instance task i ≡ true → slice_get task.schemas i.schema ≡ Some schema → pointwise (is_of task) schema.parameters i.objects ≡ true
fits_there task i schema is here = sym (ap (λ (o : Option Schema). option_map_or (λ (s : Schema). fits task s i.objects) o false) here) ∙ is

right_count : (task : Task) (i : Instance) (schema : Schema) → is_instance task i ≡ true → slice_get task.schemas i.schema ≡ Some schema → length i.objects ≡ length schema.parameters
right_count task i schema is here = sym (as_long (is_of task) schema.parameters i.objects (fits_there task i schema is here))

means_no_fault : (task : Task) (step : Step) (i : Instance) (fault : Fault) → Means task step i → IsStepFault task step fault → ⊥
means_no_fault task step i fault h (unknown_action none code span) = none (i.schema, h.action)
means_no_fault task step i fault h (wrong_count number schema is here differs code span) =
    let same = one_number (schema_names task) step.action number i.schema is h.action in
    let there = subst (λ k. slice_get task.schemas k ≡ Some schema) same here in
    differs (numbers_length (object_names task) step.objects i.objects h.objects ∙ right_count task i schema h.fits there)
means_no_fault task step i fault h (wrong_object number schema is here counted before after name theirs others types objects_are split named none code span) =
    let same = one_number (schema_names task) step.action number i.schema is h.action in
    let there = subst (λ k. slice_get task.schemas k ≡ Some schema) same here in
    let each = names_each task schema.parameters step.objects i.objects h.objects (fits_there task i schema h.fits there) in
    none (named_before task before after name theirs schema.parameters others [] types named (subst (NameObjects task schema.parameters) objects_are each) (sym split ∙ sym (append-nil schema.parameters)))

each_means : (task : Task) (before after : List Step) (step : Step) (plan : List Instance) → AllMean task (before ++ step ∷ after) plan → (i : Instance) × Means task step i
each_means task [] after step [] h = absurd h
each_means task [] after step (i ∷ plan) h = (i, h.0)
each_means task (first ∷ before) after step [] h = absurd h
each_means task (first ∷ before) after step (i ∷ plan) h = each_means task before after step plan h.1

-- one more step
pub all_mean_push : (task : Task) (steps : List Step) (plan : List Instance) (step : Step) (i : Instance) → AllMean task steps plan → Means task step i → AllMean task (steps ++ step ∷ []) (plan ++ i ∷ [])
all_mean_push task [] [] step i h m = (m, tt)
all_mean_push task [] (j ∷ plan) step i h m = absurd h
all_mean_push task (first ∷ steps) [] step i h m = absurd h
all_mean_push task (first ∷ steps) (j ∷ plan) step i h m = (h.0, all_mean_push task steps plan step i h.1 m)

pub numbers_push : (declared : List (List ℕ)) (names : List Name) (numbers : List ℕ) (name : Name) (number : ℕ) → AreNumbersOf declared names numbers → IsNumberOf declared name number → AreNumbersOf declared (names ++ name ∷ []) (numbers ++ number ∷ [])
numbers_push declared [] [] name number h is = (is, tt)
numbers_push declared [] (n ∷ ns) name number h is = absurd h
numbers_push declared (m ∷ names) [] name number h is = absurd h
numbers_push declared (m ∷ names) (n ∷ ns) name number h is = (h.0, numbers_push declared names ns name number h.1 is)

-- what steps mean are instances of the task
pub are_instances : (task : Task) (steps : List Step) (plan : List Instance) → AllMean task steps plan → list_all (is_instance task) plan ≡ true
are_instances task [] [] h = refl
are_instances task [] (i ∷ plan) h = absurd h
are_instances task (step ∷ steps) [] h = absurd h
are_instances task (step ∷ steps) (i ∷ plan) h = and_from (is_instance task i) (list_all (is_instance task) plan) h.0.fits (are_instances task steps plan h.1)

pub plan_length : (task : Task) (steps : List Step) (plan : List Instance) → AllMean task steps plan → length plan ≡ length steps
plan_length task [] [] h = refl
plan_length task [] (i ∷ plan) h = absurd h
plan_length task (step ∷ steps) [] h = absurd h
plan_length task (step ∷ steps) (i ∷ plan) h = ap suc (plan_length task steps plan h.1)

-- A text has no more steps than bytes.
words_within : (text : List ℕ) (start : ℕ) (parts : List Part) → AreParts text parts → length (placed_from start parts) ≤ length text
words_within text start [] h = omega arith
words_within text start (part ∷ parts) (rest, text_is, _, _, more) = by_gap (is_gap (form part)) (words_within rest (start + size part) parts more)
  where
    joined : length text ≡ size part + length rest
    joined = ap length text_is ∙ length-append (bytes part) rest

    by_gap : (gap : Bool) → length (placed_from (start + size part) parts) ≤ length rest → length (cond gap (placed_from (start + size part) parts) (record { start = start; part = part } ∷ placed_from (start + size part) parts)) ≤ length text
    by_gap true inner = omega (arith, joined)
    by_gap false inner = omega (arith, joined)

steps_within : (words : List Placed) (steps : List Step) → AreSteps words steps → length steps ≤ length words
steps_within words [] h = omega arith
steps_within words (step ∷ steps) (these, rest, words_are, is, more) =
    let inner = steps_within rest steps more in
    let whole : length words ≡ length these + length rest = ap length words_are ∙ length-append these rest in
    let first : length these ≡ suc (length (is.names ++ is.last ∷ [])) = ap length is.in_order in
    omega (arith, inner, whole, first)

pub few_steps : (text : List ℕ) (steps : List Step) → HasSteps text steps → length steps ≤ longest_text
few_steps text steps h =
    let a = steps_within (placed_from 0 h.parts) steps h.steps_of_parts in
    let b = words_within text 0 h.parts h.cut in
    let c = h.short in
    omega (arith, a, b, c)

-- The fault reported for a step, and that for the form of a text, is unique.
same_fault : (f g : Fault) → f.code ≡ g.code → f.span ≡ g.span → f ≡ g
same_fault f g code span = ap (λ c. let k : Fault = record { code = c; span = f.span } in k) code ∙ ap (λ s. let k : Fault = record { code = g.code; span = s } in k) span

same_span : (a b : Span) → a.start ≡ b.start → a.end ≡ b.end → a ≡ b
same_span a b start end = ap (λ n. let s : Span = record { start = n; end = a.end } in s) start ∙ ap (λ n. let s : Span = record { start = b.start; end = n } in s) end

one_schema : (task : Task) (a b : ℕ) (s t : Schema) → a ≡ b → slice_get task.schemas a ≡ Some s → slice_get task.schemas b ≡ Some t → s ≡ t
one_schema task a b s t same at there = let both : Some s ≡ Some t = sym at ∙ ap (slice_get task.schemas) same ∙ there in cc

-- the first name that is not that of an object of the types at its index is unique
one_name : (task : Task) (b c r s : List Name) (w x : Name) (us vs more others : List Union) (u v : Union) → b ++ w ∷ r ≡ c ++ x ∷ s → us ++ u ∷ more ≡ vs ++ v ∷ others
    → NameObjects task us b → NameObjects task vs c → (NamesObject task u w → ⊥) → (NamesObject task v x → ⊥) → w ≡ x
one_name task b c r s w x us vs more others u v e types are be unknown not_known = by_places (places b c r s w x e)
  where
    by_places : Places b c w x → w ≡ x
    by_places (at_one p q) = q
    by_places (comes_before rest p) = absurd (unknown (named_before task b rest w us vs more (v ∷ others) u are (subst (NameObjects task vs) p be) types))
    by_places (comes_after rest p) = absurd (not_known (named_before task c rest x vs us others (u ∷ more) v be (subst (NameObjects task us) p are) (sym types)))

one_step_fault : (task : Task) (step : Step) (f g : Fault) → IsStepFault task step f → IsStepFault task step g → f ≡ g
one_step_fault task step f g (unknown_action none code span) (unknown_action never number place) = same_fault f g (code ∙ sym number) (span ∙ sym place)
one_step_fault task step f g (unknown_action none code span) (wrong_count k s is at differs number place) = absurd (none (k, is))
one_step_fault task step f g (unknown_action none code span) (wrong_object k s is at counts b a name us more u split types are never number place) = absurd (none (k, is))
one_step_fault task step f g (wrong_count k s is at differs code span) (unknown_action none number place) = absurd (none (k, is))
one_step_fault task step f g (wrong_count k s is at differs code span) (wrong_count l t be there counted number place) = same_fault f g (code ∙ sym number) (span ∙ sym place)
one_step_fault task step f g (wrong_count k s is at differs code span) (wrong_object l t be there counts b a name us more u split types are never number place) =
    let schemas = one_schema task l k t s (one_number (schema_names task) step.action l k be is) there at in
    absurd (differs (counts ∙ ap (λ (x : Schema). length x.parameters) schemas))
one_step_fault task step f g (wrong_object k s is at counts b a name us more u split types are never code span) (unknown_action none number place) = absurd (none (k, is))
one_step_fault task step f g (wrong_object k s is at counts b a name us more u split types are never code span) (wrong_count l t be there differs number place) =
    let schemas = one_schema task k l s t (one_number (schema_names task) step.action k l is be) at there in
    absurd (differs (counts ∙ ap (λ (x : Schema). length x.parameters) schemas))
one_step_fault task step f g (wrong_object k s is at counts b a name us more u split types are never code span) (wrong_object l t be there count c d other vs others v parts unions were none number place) =
    let schemas = one_schema task k l s t (one_number (schema_names task) step.action k l is be) at there in
    let names = one_name task b c a d name other us vs more others u v (sym split ∙ parts) (sym types ∙ ap (λ (x : Schema). x.parameters) schemas ∙ unions) are were never none in
    same_fault f g (code ∙ sym number) (span ∙ ap (λ (n : Name). n.span) names ∙ sym place)

-- no step is faulty among steps that mean instances
all_mean : (task : Task) (all before after : List Step) (step : Step) (plan : List Instance) (fault : Fault) → AllMean task all plan → all ≡ before ++ step ∷ after → IsStepFault task step fault → ⊥
all_mean task all before after step plan fault mean split wrong =
    let here = each_means task before after step plan (subst (λ steps. AllMean task steps plan) split mean) in
    means_no_fault task step here.0 fault here.1 wrong

one_first_fault : (task : Task) (b c r s : List Step) (w x : Step) (m n : List Instance) (f g : Fault) → b ++ w ∷ r ≡ c ++ x ∷ s → AllMean task b m → AllMean task c n
    → IsStepFault task w f → IsStepFault task x g → f ≡ g
one_first_fault task b c r s w x m n f g e mean meant wrong bad = by_places (places b c r s w x e)
  where
    by_places : Places b c w x → f ≡ g
    by_places (at_one p q) = one_step_fault task w f g wrong (subst (λ y. IsStepFault task y g) (sym q) bad)
    by_places (comes_before rest p) = absurd (all_mean task c b rest w n f meant p wrong)
    by_places (comes_after rest p) = absurd (all_mean task b c rest x m g mean p bad)

-- a prefix of a plan text has no unexpected word
may_continue : (all before after : List Placed) (word : Placed) → all ≡ before ++ word ∷ after → BeginsSteps all → BeginsSteps (before ++ word ∷ [])
may_continue all before after word split (more, steps, are) =
    let shorter : all ++ more ≡ (before ++ word ∷ []) ++ (after ++ more) =
    ap (λ ws. ws ++ more) (split ∙ sym (append_assoc before (word ∷ []) after)) ∙ append_assoc (before ++ word ∷ []) after more in
    (after ++ more, steps, subst (λ ws. AreSteps ws steps) shorter are)

-- the number reported for a refused word is unique
one_number_of_word : (before : List Placed) (word : Placed) (m n : ℕ) → IsNumberOfWord before word m → IsNumberOfWord before word n → m ≡ n
one_number_of_word before word m n (timed t is) (timed u be) = is ∙ sym be
one_number_of_word before word m n (timed t is) (untimed never be) = absurd (never t)
one_number_of_word before word m n (untimed never is) (timed t be) = absurd (never t)
one_number_of_word before word m n (untimed never is) (untimed none be) = is ∙ sym be

-- Laws of plan texts, given that a text is cut into parts in one way.
module _ (text : List ℕ) (one_cut : (a b : List Part) → AreParts text a → AreParts text b → a ≡ b) where
  pub one_steps : (steps others : List Step) → HasSteps text steps → HasSteps text others → steps ≡ others
  one_steps steps others h g =
      one_list (placed_from 0 h.parts) steps others h.steps_of_parts
      (subst (λ parts. AreSteps (placed_from 0 parts) others) (one_cut g.parts h.parts g.cut h.cut) g.steps_of_parts)

  -- a text reads as at most one list
  pub one_reading : (task : Task) (plan other : List Instance) → IsPlanText task text plan → IsPlanText task text other → plan ≡ other
  one_reading task plan other (steps, has, mean) (others, had, meant) =
      one_plan task steps plan other mean (subst (λ ss. AllMean task ss other) (one_steps others steps had has) meant)

  -- the form of a plan text is not faulty
  no_form_fault : (steps : List Step) (fault : Fault) → HasSteps text steps → IsFormFault text fault → ⊥
  no_form_fault steps fault h (too_long long _ _ _) = let short = h.short in omega (arith, short)
  no_form_fault steps fault h (refused short parts cut before after word words_are begins dead _ _ _) =
      let all = subst (λ ps. AreSteps (placed_from 0 ps) steps) (one_cut h.parts parts h.cut cut) h.steps_of_parts in
      dead (after, steps, subst (λ ws. AreSteps ws steps) (words_are ∙ sym (append_assoc before (word ∷ []) after)) all)
  no_form_fault steps fault h (open_at_end short parts cut begins none _ _ _) =
      none steps (subst (λ ps. AreSteps (placed_from 0 ps) steps) (one_cut h.parts parts h.cut cut) h.steps_of_parts)

  -- no fault is reported for a plan text
  pub no_fault : (task : Task) (plan : List Instance) (fault : Fault) → IsPlanText task text plan → IsPlanFault task text fault → ⊥
  no_fault task plan fault (steps, has, mean) (of_form wrong) = no_form_fault steps fault has wrong
  no_fault task plan fault (steps, has, mean) (of_step others before after step partial had are meant wrong) =
      let same = one_steps steps others has had ∙ are in
      let here = each_means task before after step plan (subst (λ ss. AllMean task ss plan) same mean) in
      means_no_fault task step here.0 fault here.1 wrong

  -- the fault of the form is unique
  one_form_fault : (a b : Fault) → IsFormFault text a → IsFormFault text b → a ≡ b
  one_form_fault a b (too_long long code start end) (too_long over number from to) = same_fault a b (code ∙ sym number) (same_span a.span b.span (start ∙ sym from) (end ∙ sym to))
  one_form_fault a b (too_long long code start end) (refused short parts cut before after word split begins dead number from to) = absurd (omega arith)
  one_form_fault a b (too_long long code start end) (open_at_end short parts cut begins none number from to) = absurd (omega arith)
  one_form_fault a b (refused short parts cut before after word split begins dead code start end) (too_long over number from to) = absurd (omega arith)
  one_form_fault a b (refused short parts cut before after word split begins dead code start end) (refused brief others cuts earlier later other is begin die number from to) =
      by_places (places before earlier after later word other (sym split ∙ ap (placed_from 0) (one_cut parts others cut cuts) ∙ is))
    where
      by_places : Places before earlier word other → a ≡ b
      by_places (at_one p q) =
          same_fault a b (one_number_of_word earlier other a.code b.code (subst (λ w. IsNumberOfWord earlier w a.code) q (subst (λ ws. IsNumberOfWord ws word a.code) p code)) number)
          (same_span a.span b.span (start ∙ ap (λ (w : Placed). w.start) q ∙ sym from) (end ∙ ap (λ (w : Placed). w.start + size w.part) q ∙ sym to))
      by_places (comes_before rest p) = absurd (dead (may_continue earlier before rest word p begin))
      by_places (comes_after rest p) = absurd (die (may_continue before earlier rest other p begins))
  one_form_fault a b (refused short parts cut before after word split begins dead code start end) (open_at_end brief others cuts begin none number from to) =
      absurd (dead (may_continue (placed_from 0 others) before after word (ap (placed_from 0) (one_cut others parts cuts cut) ∙ split) begin))
  one_form_fault a b (open_at_end short parts cut begins none code start end) (too_long over number from to) = absurd (omega arith)
  one_form_fault a b (open_at_end short parts cut begins none code start end) (refused brief others cuts earlier later other is begin die number from to) =
      absurd (die (may_continue (placed_from 0 parts) earlier later other (ap (placed_from 0) (one_cut parts others cut cuts) ∙ is) begins))
  one_form_fault a b (open_at_end short parts cut begins none code start end) (open_at_end brief others cuts begin never number from to) =
      same_fault a b (code ∙ sym number) (same_span a.span b.span (start ∙ sym from) (end ∙ sym to))

  -- at most one fault is reported for a text
  pub one_fault : (task : Task) (fault other : Fault) → IsPlanFault task text fault → IsPlanFault task text other → fault ≡ other
  one_fault task fault other (of_form wrong) (of_form bad) = one_form_fault fault other wrong bad
  one_fault task fault other (of_form wrong) (of_step steps b r step plan has are mean bad) = absurd (no_form_fault steps fault has wrong)
  one_fault task fault other (of_step steps b r step plan has are mean wrong) (of_form bad) = absurd (no_form_fault steps other has bad)
  one_fault task fault other (of_step steps b r step plan has are mean wrong) (of_step others c s last list had be meant bad) =
      one_first_fault task b c r s step last plan list fault other (sym are ∙ one_steps steps others has had ∙ be) mean meant wrong bad
