-- The words that the machine has taken are a prefix of a file: from each nonterminal some words can be derived.
use Rattle.std.proofs.Common.{◌≡◌, ℕ, Bool, true, false, cond, ◌&&◌, ◌||◌, List, [], ◌∷◌, ◌++◌, fold, None, Some, refl, sym, ◌∙◌, ap, subst}
use Rattle.std.proofs.lemmas.List.{append_assoc, append-nil}
use Rattle.model.specs.Trees.{TaskFile, domain_file, problem_file, Name, no_name, formulas, effects}
use Rattle.model.specs.Trees as tree
use Rattle.model.specs.GrammarWords.{Token, opens, closes, free, ordinary, define, reserved, variable, keyword, number, SectionKeyword, of_section, PartKeyword, of_part, requirement_key}
use Rattle.model.specs.GrammarWords as words
use Rattle.model.specs.Grammar
use Rattle.model.specs.Grammar.{Sort, Value, Phrase, gives, ◌>>=◌, Section, Part, change, value_of_all, after, Derives, by, Follows, nothing, next, Tree, file, sections, section, parts, section_after, section_of, seen_with, keyword_in, left_of, sections_of, has_all, required_of, has_section, has_part, is_section, IsFile, tree_from, action_from, with_section, no_contents}
use Rattle.model.specs.Refusals.{IsWhole, Begins, step, number_after, after_all, start}
use Rattle.model.specs.GrammarMachine.{finished, stopped, go_on, run}
use Rattle.model.proofs.GrammarMeaning.{phrase_run, file_run, run_file}
use Rattle.model.proofs.GrammarStops.{leads}

-- some words and their tree
data Shortest (s : Sort) : Type 0 where
  short : (w : List Token) (x : Value s) → ((r : List Token) → Derives s (w ++ r) x r) → Shortest s

abbrev word : Token
word = free ordinary no_name

-- ---- sections

is_section-self : (k : SectionKeyword) → is_section k k ≡ true
is_section-self words.requirements = refl
is_section-self words.types = refl
is_section-self words.constants = refl
is_section-self words.predicates = refl
is_section-self words.functions = refl
is_section-self words.action = refl
is_section-self words.domain_keyword = refl
is_section-self words.objects = refl
is_section-self words.init = refl
is_section-self words.goal = refl
is_section-self words.metric = refl

pub same_section : (j k : SectionKeyword) → is_section j k ≡ true → j ≡ k
same_section words.requirements words.requirements e = refl
same_section words.types words.types e = refl
same_section words.constants words.constants e = refl
same_section words.predicates words.predicates e = refl
same_section words.functions words.functions e = refl
same_section words.action words.action e = refl
same_section words.domain_keyword words.domain_keyword e = refl
same_section words.objects words.objects e = refl
same_section words.init words.init e = refl
same_section words.goal words.goal e = refl
same_section words.metric words.metric e = refl
same_section j k e = absurd (cc)

-- the sections that have occurred, and one more
seen_before : (seen : List SectionKeyword) (j k : SectionKeyword) → has_section seen k ≡ true → has_section (seen ++ j ∷ []) k ≡ true
seen_before [] j k e = absurd (cc)
seen_before (i ∷ seen) j k e = by_first (is_section k i) (seen_before seen j k) e
  where
    by_first : (b : Bool) → (has_section seen k ≡ true → has_section (seen ++ j ∷ []) k ≡ true) → b || has_section seen k ≡ true → b || has_section (seen ++ j ∷ []) k ≡ true
    by_first true rest e = refl
    by_first false rest e = rest e

seen_now : (seen : List SectionKeyword) (k : SectionKeyword) → has_section (seen ++ k ∷ []) k ≡ true
seen_now [] k = ap (λ b. b || false) (is_section-self k)
seen_now (i ∷ seen) k = by_first (is_section k i) (seen_now seen k)
  where
    by_first : (b : Bool) → has_section (seen ++ k ∷ []) k ≡ true → b || has_section (seen ++ k ∷ []) k ≡ true
    by_first true e = refl
    by_first false e = e

-- a section that has not occurred remains
pub is_left : (k : SectionKeyword) (all seen : List SectionKeyword) → has_section all k ≡ true → has_section seen k ≡ false → has_section (left_of all seen) k ≡ true
is_left k [] seen e n = absurd (cc)
is_left k (j ∷ all) seen e n = by_first (is_section k j) refl (has_section seen j) refl (is_left k all seen) e
  where
    by_first : (b : Bool) → is_section k j ≡ b → (c : Bool) → has_section seen j ≡ c → (has_section all k ≡ true → has_section seen k ≡ false → has_section (left_of all seen) k ≡ true) → b || has_section all k ≡ true → has_section (cond c (left_of all seen) (j ∷ left_of all seen)) k ≡ true
    by_first true is true was rest e = let same = same_section k j is in absurd (let both = sym n ∙ ap (has_section seen) same ∙ was in cc)
    by_first true is false was rest e = ap (λ b. b || has_section (left_of all seen) k) is
    by_first false is true was rest e = rest e n
    by_first false is false was rest e = ap (λ b. b || has_section (left_of all seen) k) is ∙ rest e n

-- the words of a section after its keyword, independent of the other sections that may occur
abbrev IsRest : TaskFile → SectionKeyword → List Token → Section → Type 0
IsRest f k u x = (j : SectionKeyword) (others : List SectionKeyword) (r : List Token) → Follows (section f j others) (section_after k) (u ++ r) x r

-- one more section
one_more : (f : TaskFile) (seen : List SectionKeyword) (k : SectionKeyword) (u : List Token) (x : Section) → keyword_in x ≡ k → has_section (sections_of f) k ≡ true → has_section seen k ≡ false → IsRest f k u x → Shortest (sections f (seen_with seen k)) → Shortest (sections f seen)
one_more f seen k u x is here new rest (short w xs d) = short (opens ∷ keyword (of_section k) ∷ u ++ w) (x ∷ xs) (λ r. by_left r (left_of (sections_of f) seen) refl (is_left k (sections_of f) seen here new))
  where
    by_left : (r : List Token) (l : List SectionKeyword) → left_of (sections_of f) seen ≡ l → has_section l k ≡ true → Derives (sections f seen) (opens ∷ keyword (of_section k) ∷ (u ++ w) ++ r) (x ∷ xs) r
    by_left r [] is_empty has = absurd (cc)
    by_left r (j ∷ others) are has =
        let among : after (section f j others) (keyword (of_section k)) ≡ Some (section_after k) = ap (λ b. cond b (Some (section_after k)) None) has in
        let words : List Token → Type 0 = λ v. Derives (section f j others) (keyword (of_section k) ∷ v) x (w ++ r) in
        let first : Derives (section f j others) (keyword (of_section k) ∷ (u ++ w) ++ r) x (w ++ r) = subst words (sym (append_assoc u w r)) (by among (rest j others (w ++ r))) in
        let after_it : (q : SectionKeyword) → keyword_in x ≡ q → k ≡ q → Derives (sections f (seen_with seen q)) (w ++ r) xs r = λ q a b. subst (λ y. Derives (sections f (seen_with seen y)) (w ++ r) xs r) b (d r) in
        by (ap (section_of f seen) are) (next first (next (after_it (keyword_in x) refl (sym is)) nothing))

closed : (f : TaskFile) (seen : List SectionKeyword) → has_all (required_of f) seen ≡ true → Shortest (sections f seen)
closed f seen all = short (closes ∷ []) [] (λ r. by (ap (λ b. cond b (Some (gives [])) None) all) nothing)

domain_sections : (seen : List SectionKeyword) (b : Bool) → has_section seen words.predicates ≡ b → Shortest (sections domain_file seen)
domain_sections seen true e = closed domain_file seen (ap (λ b. b && true) e)
domain_sections seen false e = one_more domain_file seen words.predicates (closes ∷ []) (Grammar.predicates []) refl refl e (λ j others r. next (by refl nothing) nothing) (closed domain_file (seen ++ words.predicates ∷ []) (ap (λ b. b && true) (seen_now seen words.predicates)))

with_goal : (seen : List SectionKeyword) → has_section seen words.domain_keyword ≡ true → has_section seen words.init ≡ true → (b : Bool) → has_section seen words.goal ≡ b → Shortest (sections problem_file seen)
with_goal seen d i true g = closed problem_file seen (λ n. d n && (i n && (g n && true)))
with_goal seen d i false g =
    one_more problem_file seen words.goal (opens ∷ word ∷ closes ∷ closes ∷ []) (Grammar.goal (tree.atom (record { predicate = no_name; terms = [] }))) refl refl g
    (λ j others r. next (by refl (next (by refl (next (by refl nothing) nothing)) nothing)) (next (by refl nothing) nothing))
    (closed problem_file (seen ++ words.goal ∷ []) (λ n. seen_before seen words.goal words.domain_keyword d n && (seen_before seen words.goal words.init i n && (seen_now seen words.goal n && true))))

with_init : (seen : List SectionKeyword) → has_section seen words.domain_keyword ≡ true → (b : Bool) → has_section seen words.init ≡ b → Shortest (sections problem_file seen)
with_init seen d true i = with_goal seen d i (has_section seen words.goal) refl
with_init seen d false i =
    one_more problem_file seen words.init (closes ∷ []) (Grammar.init []) refl refl i (λ j others r. next (by refl nothing) nothing)
    (with_goal (seen ++ words.init ∷ []) (seen_before seen words.init words.domain_keyword d) (seen_now seen words.init) (has_section (seen ++ words.init ∷ []) words.goal) refl)

problem_sections : (seen : List SectionKeyword) (b : Bool) → has_section seen words.domain_keyword ≡ b → Shortest (sections problem_file seen)
problem_sections seen true d = with_init seen d (has_section seen words.init) refl
problem_sections seen false d =
    one_more problem_file seen words.domain_keyword (word ∷ closes ∷ []) (Grammar.domain no_name) refl refl d (λ j others r. next (by refl nothing) (next (by refl nothing) nothing))
    (with_init (seen ++ words.domain_keyword ∷ []) (seen_now seen words.domain_keyword) (has_section (seen ++ words.domain_keyword ∷ []) words.init) refl)

some_sections : (f : TaskFile) (seen : List SectionKeyword) → Shortest (sections f seen)
some_sections domain_file seen = domain_sections seen (has_section seen words.predicates) refl
some_sections problem_file seen = problem_sections seen (has_section seen words.domain_keyword) refl

-- ---- all

some_section : (k : SectionKeyword) → (u : List Token) × (x : Section) × ((f : TaskFile) → IsRest f k u x)
some_section words.requirements = (closes ∷ [], Grammar.requirements, λ f j others r. next (by refl nothing) nothing)
some_section words.types = (closes ∷ [], Grammar.types [], λ f j others r. next (by refl nothing) nothing)
some_section words.constants = (closes ∷ [], Grammar.constants [], λ f j others r. next (by refl nothing) nothing)
some_section words.predicates = (closes ∷ [], Grammar.predicates [], λ f j others r. next (by refl nothing) nothing)
some_section words.functions = (closes ∷ [], Grammar.functions [], λ f j others r. next (by refl nothing) nothing)
some_section words.action = (
  word ∷ keyword (of_part words.parameters) ∷ opens ∷ closes ∷ closes ∷ [],
  Grammar.action (action_from no_name (Grammar.parameters [] ∷ [])),
  λ f j others r. next (by refl nothing) (next (by refl (next (by refl nothing) (next (by refl nothing) (next (by refl nothing) nothing)))) nothing),
)
some_section words.domain_keyword = (word ∷ closes ∷ [], Grammar.domain no_name, λ f j others r. next (by refl nothing) (next (by refl nothing) nothing))
some_section words.objects = (closes ∷ [], Grammar.objects [], λ f j others r. next (by refl nothing) nothing)
some_section words.init = (closes ∷ [], Grammar.init [], λ f j others r. next (by refl nothing) nothing)
some_section words.goal = (
  opens ∷ word ∷ closes ∷ closes ∷ [],
  Grammar.goal (tree.atom (record { predicate = no_name; terms = [] })),
  λ f j others r. next (by refl (next (by refl (next (by refl nothing) nothing)) nothing)) (next (by refl nothing) nothing),
)
some_section words.metric = (
  free words.minimize no_name ∷ opens ∷ reserved words.total_cost no_name ∷ closes ∷ closes ∷ [],
  Grammar.metric no_name,
  λ f j others r. next (by refl nothing) (next (by refl (next (by refl (next (by refl nothing) nothing)) nothing)) (next (by refl nothing) nothing)),
)

one_section : (f : TaskFile) (k : SectionKeyword) (others : List SectionKeyword) → Shortest (section f k others)
one_section f k others =
    let among : after (section f k others) (keyword (of_section k)) ≡ Some (section_after k) = ap (λ b. cond (b || has_section others k) (Some (section_after k)) None) (is_section-self k) in
    short (keyword (of_section k) ∷ (some_section k).0) (some_section k).1 (λ r. by among ((some_section k).2 f k others r))

some_parts : (seen : List PartKeyword) (b : Bool) → has_part seen words.parameters ≡ b → Shortest (parts seen)
some_parts seen true e = short (closes ∷ []) [] (λ r. by (ap (λ b. cond b (Some (gives [])) None) e) nothing)
some_parts seen false e =
    short (keyword (of_part words.parameters) ∷ opens ∷ closes ∷ closes ∷ []) (Grammar.parameters [] ∷ [])
    (λ r. by (ap (λ b. cond b None (Some (Grammar.parts_after seen words.parameters))) e) (next (by refl nothing) (next (by refl nothing) (next (by (ap (λ b. cond b (Some (gives [])) None) (parameters_seen seen)) nothing) nothing))))
  where
    parameters_seen : (seen : List PartKeyword) → has_part (seen ++ words.parameters ∷ []) words.parameters ≡ true
    parameters_seen [] = refl
    parameters_seen (words.parameters ∷ seen) = refl
    parameters_seen (k ∷ seen) = parameters_seen seen

shortest : (s : Sort) → Shortest s
shortest Grammar.close = short (closes ∷ []) tt (λ r. by refl nothing)
shortest Grammar.a_name = short (word ∷ []) no_name (λ r. by refl nothing)
shortest Grammar.term = short (word ∷ []) (tree.object no_name) (λ r. by refl nothing)
shortest Grammar.key = short (keyword requirement_key ∷ []) tt (λ r. by refl nothing)
shortest (Grammar.listed s) = in_list (shortest s)
  where
    in_list : Shortest s → Shortest (Grammar.listed s)
    in_list (short w x d) = short (opens ∷ w) x (λ r. by refl (next (d r) nothing))
shortest (Grammar.many s) = short (closes ∷ []) [] (λ r. by refl nothing)
shortest Grammar.formula = short (word ∷ closes ∷ []) (tree.atom (record { predicate = no_name; terms = [] })) (λ r. by refl (next (by refl nothing) nothing))
shortest Grammar.precondition_list = short (closes ∷ []) (tree.and (formulas [])) (λ r. by refl nothing)
shortest Grammar.effect_list = short (word ∷ closes ∷ []) (tree.literal (tree.add (record { predicate = no_name; terms = [] }))) (λ r. by refl (next (by refl nothing) nothing))
shortest Grammar.effect_value = short (closes ∷ []) (value_of_all []) (λ r. by refl nothing)
shortest Grammar.item = short (word ∷ closes ∷ []) (change (tree.literal (tree.add (record { predicate = no_name; terms = [] })))) (λ r. by refl (next (by refl nothing) nothing))
shortest Grammar.conditional = short (word ∷ closes ∷ []) (tree.add (record { predicate = no_name; terms = [] }) ∷ []) (λ r. by refl (next (by refl nothing) nothing))
shortest Grammar.conditional_literal = short (word ∷ closes ∷ []) (tree.add (record { predicate = no_name; terms = [] })) (λ r. by refl (next (by refl nothing) nothing))
shortest Grammar.conditional_atom = short (word ∷ closes ∷ []) (record { predicate = no_name; terms = [] }) (λ r. by refl (next (by refl nothing) nothing))
shortest Grammar.atom = short (word ∷ closes ∷ []) (record { predicate = no_name; terms = [] }) (λ r. by refl (next (by refl nothing) nothing))
shortest Grammar.declaration = short (word ∷ closes ∷ []) (record { name = no_name; parameters = [] }) (λ r. by refl (next (by refl nothing) nothing))
shortest Grammar.fact = short (word ∷ closes ∷ []) (tree.fact (record { predicate = no_name; objects = [] })) (λ r. by refl (next (by refl nothing) nothing))
shortest Grammar.ground_atom = short (word ∷ closes ∷ []) (record { predicate = no_name; objects = [] }) (λ r. by refl (next (by refl nothing) nothing))
shortest (Grammar.typed l) = short (closes ∷ []) [] (λ r. by refl nothing)
shortest (Grammar.group l) = short (closes ∷ []) (Grammar.ends_group [] ∷ []) (λ r. by refl nothing)
shortest (Grammar.type Grammar.names) = short (word ∷ []) (no_name ∷ []) (λ r. by refl nothing)
shortest (Grammar.type Grammar.variables) = short (word ∷ []) (no_name ∷ []) (λ r. by refl nothing)
shortest Grammar.either_word = short (reserved words.either no_name ∷ []) tt (λ r. by refl nothing)
shortest Grammar.total_cost = short (reserved words.total_cost no_name ∷ closes ∷ []) no_name (λ r. by refl (next (by refl nothing) nothing))
shortest Grammar.amount = short (number 0 no_name ∷ []) (0, no_name) (λ r. by refl nothing)
shortest Grammar.increase_amount = short (number 0 no_name ∷ []) (tree.by_number 0) (λ r. by refl nothing)
shortest Grammar.valued = short (reserved words.total_cost no_name ∷ closes ∷ []) (Grammar.the_total_cost no_name) (λ r. by refl (next (by refl nothing) nothing))
shortest Grammar.function_declaration = short (reserved words.total_cost no_name ∷ closes ∷ []) (record { name = no_name; parameters = [] }) (λ r. by refl (next (by refl nothing) nothing))
shortest Grammar.function_list = short (closes ∷ []) [] (λ r. by refl nothing)
shortest Grammar.function_type = short (closes ∷ []) [] (λ r. by refl nothing)
shortest Grammar.number_type = short (free words.number_word no_name ∷ []) tt (λ r. by refl nothing)
shortest Grammar.minimize_word = short (free words.minimize no_name ∷ []) tt (λ r. by refl nothing)
shortest Grammar.action_name = short (word ∷ []) no_name (λ r. by refl nothing)
shortest (parts seen) = some_parts seen (has_part seen words.parameters) refl
shortest (Grammar.value seen) = short (opens ∷ []) tt (λ r. by refl nothing)
shortest (sections f seen) = some_sections f seen
shortest (section f k others) = one_section f k others
shortest (file f) = in_file (some_sections f []) (shortest_kind f)
  where
    shortest_kind : (f : TaskFile) → Shortest (Grammar.kind_word f)
    shortest_kind domain_file = short (free words.domain no_name ∷ []) tt (λ r. by refl nothing)
    shortest_kind problem_file = short (free words.problem no_name ∷ []) tt (λ r. by refl nothing)

    in_file : Shortest (sections f []) → Shortest (Grammar.kind_word f) → Shortest (file f)
    in_file (short w x d) (short v y e) =
        let k : List Token = opens ∷ free define no_name ∷ opens ∷ (v ++ word ∷ closes ∷ w) in
        short k (tree_from f no_name (fold with_section no_contents x)) (λ r. by refl (next (by refl nothing) (next (by refl nothing) (next (subst (λ u. Derives (Grammar.kind_word f) u y (word ∷ closes ∷ w ++ r)) (sym (append_assoc v (word ∷ closes ∷ w) r)) (e (word ∷ closes ∷ w ++ r))) (next (by refl nothing) (next (by refl nothing) (next (d r) nothing)))))))
shortest Grammar.define_word = short (free define no_name ∷ []) tt (λ r. by refl nothing)
shortest Grammar.kind_list = short (opens ∷ []) tt (λ r. by refl nothing)
shortest (Grammar.kind_word domain_file) = short (free words.domain no_name ∷ []) tt (λ r. by refl nothing)
shortest (Grammar.kind_word problem_file) = short (free words.problem no_name ∷ []) tt (λ r. by refl nothing)

-- ---- what must follow can be completed

data Completed (s : Sort) (p : Phrase (Value s)) : Type 0 where
  complete : (w : List Token) (x : Value s) → ((r : List Token) → Follows s p (w ++ r) x r) → Completed s p

completed : (s : Sort) (p : Phrase (Value s)) → Completed s p
completed s (gives x) = complete [] x (λ r. nothing)
completed s (u >>= k) = by_first (shortest u) (λ y. completed s (k y))
  where
    by_first : Shortest u → ((y : Value u) → Completed s (k y)) → Completed s (u >>= k)
    by_first (short w y d) again = by_rest (again y)
      where
        by_rest : Completed s (k y) → Completed s (u >>= k)
        by_rest (complete v x f) = complete (w ++ v) x (λ r. subst (λ z. Follows s (u >>= k) z x r) (sym (append_assoc w v r)) (next (d (v ++ r)) (f r)))

-- a prefix of a prefix of a file is a prefix of a file
pub fewer : (f : TaskFile) (b u : List Token) → Begins f (b ++ u) → Begins f b
fewer f b u h = (u ++ h.0, subst (IsWhole f) (append_assoc b u h.0) h.1)

-- the words that lead to what must follow are a prefix of a file
pub begins : (f : TaskFile) (b : List Token) (q : Phrase Tree) → after_all b (start f) ≡ Some q → Begins f b
begins f b q e = by_end (completed (file f) q)
  where
    by_end : Completed (file f) q → Begins f b
    by_end (complete w x d) =
        let ends : run w q ≡ finished x = ap (λ v. run v q) (sym (append-nil w)) ∙ phrase_run (d []) in
        (w, (x, run_file f (b ++ w) x (leads b (start f) q w e ∙ ends)))

-- no file continues with a word that may not follow
pub dead : (f : TaskFile) (b : List Token) (q : Phrase Tree) (t : Token) → after_all b (start f) ≡ Some q → step q t ≡ None → Begins f (b ++ t ∷ []) → ⊥
dead f b q t e stops h =
    let words : run (b ++ t ∷ h.0) (start f) ≡ finished h.1.0 = ap (λ v. run v (start f)) (sym (append_assoc b (t ∷ []) h.0)) ∙ file_run h.1.1 in
    let here : run (t ∷ h.0) q ≡ stopped (number_after q t) (t ∷ h.0) = ap (λ o. go_on o (run h.0) (stopped (number_after q t) (t ∷ h.0))) stops in
    let led : run (b ++ t ∷ h.0) (start f) ≡ run (t ∷ h.0) q = leads b (start f) q (t ∷ h.0) e in
    apart (sym words ∙ led ∙ here)
  where
    apart : {x : Tree} {code : ℕ} {w : List Token} → finished x ≡ stopped code w → ⊥
    apart e = cc
