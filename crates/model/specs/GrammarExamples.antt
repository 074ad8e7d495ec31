-- Worked examples of words and refusals: what the definitions say about small files, each chosen to expose a wrong reading.
use Rattle.std.specs.Prelude.{ℕ, List, [], ◌∷◌, ◌++◌, codes, Some, None}
use Rattle.model.specs.Fault.{Fault}
use Rattle.model.specs.GrammarWords.{tokens_of}
use Rattle.model.specs.Grammar.{IsDomain, IsProblem}
use Rattle.model.specs.Refusals.{IsRefused}
use Rattle.model.specs.Words.{Word, Kind, name, variable, keyword, number, dash, equals, opens, closes}
use Rattle.model.specs.Trees.{domain_file, problem_file, Name, Group, Formula, Effect, Increase, Domain, Problem, formulas, effects}
use Rattle.model.specs.Trees as tree

abbrev pub word : Kind → List ℕ → ℕ → Word
word kind text start = record { kind = kind; text = text; start = start }

-- a fault by its number and the offsets of its first byte and after its last
abbrev pub fault : ℕ → ℕ → ℕ → Fault
fault code start end = record { code = code; span = record { start = start; end = end } }

-- ()
abbrev pub empty_list : List Word
empty_list = word opens (codes "(") 0 ∷ word closes (codes ")") 1 ∷ []

-- (define)
abbrev pub no_kind : List Word
no_kind = word opens (codes "(") 0 ∷ word name (codes "define") 1 ∷ word closes (codes ")") 7 ∷ []

-- (define (DOMAIN d)
abbrev pub domain_head : List Word → List Word
domain_head rest =
    word opens (codes "(") 0 ∷ word name (codes "define") 1 ∷ word opens (codes "(") 8 ∷ word name (codes "DOMAIN") 9 ∷ word name (codes "d") 16 ∷ word closes (codes ")") 17 ∷ rest

-- (define (DOMAIN d))
abbrev pub no_predicates : List Word
no_predicates = domain_head (word closes (codes ")") 18 ∷ [])

-- (define (DOMAIN d)(:predicates))
abbrev pub shortest_domain : List Word
shortest_domain =
    domain_head (word opens (codes "(") 18 ∷ word keyword (codes ":predicates") 19 ∷ word closes (codes ")") 30 ∷ word closes (codes ")") 31 ∷ [])

-- (define (DOMAIN d)(:predicates))x
abbrev pub word_too_many : List Word
word_too_many =
    domain_head (word opens (codes "(") 18 ∷ word keyword (codes ":predicates") 19 ∷ word closes (codes ")") 30 ∷ word closes (codes ")") 31 ∷ word name (codes "x") 32 ∷ [])

-- (define (DOMAIN d)(:predicates)(:PREDICATES
abbrev pub repeated_section : List Word
repeated_section =
    domain_head (word opens (codes "(") 18 ∷ word keyword (codes ":predicates") 19 ∷ word closes (codes ")") 30 ∷ word opens (codes "(") 31 ∷ word keyword (codes ":PREDICATES") 32 ∷ [])

-- (define (DOMAIN d)(:objects
abbrev pub section_of_the_other_file : List Word
section_of_the_other_file = domain_head (word opens (codes "(") 18 ∷ word keyword (codes ":objects") 19 ∷ [])

-- (define (DOMAIN d)(:derived
abbrev pub section_left_out : List Word
section_left_out = domain_head (word opens (codes "(") 18 ∷ word keyword (codes ":derived") 19 ∷ [])

-- (define (DOMAIN d)(:action a :effect)
abbrev pub no_parameters : List Word
no_parameters =
    domain_head (word opens (codes "(") 18 ∷ word keyword (codes ":action") 19 ∷ word name (codes "a") 27 ∷ word keyword (codes ":effect") 29 ∷ word closes (codes ")") 36 ∷ [])

-- (define (problem p)(:domain d)(:requirements)(:objects)(:init)(:goal(x))(:metric minimize(total-cost))(
abbrev pub full_problem : List Word
full_problem =
    word opens (codes "(") 0 ∷ word name (codes "define") 1 ∷ word opens (codes "(") 8 ∷ word name (codes "problem") 9 ∷ word name (codes "p") 17 ∷ word closes (codes ")") 18
    ∷ word opens (codes "(") 19 ∷ word keyword (codes ":domain") 20 ∷ word name (codes "d") 28 ∷ word closes (codes ")") 29
    ∷ word opens (codes "(") 30 ∷ word keyword (codes ":requirements") 31 ∷ word closes (codes ")") 44 ∷ word opens (codes "(") 45 ∷ word keyword (codes ":objects") 46 ∷ word closes (codes ")") 54
    ∷ word opens (codes "(") 55 ∷ word keyword (codes ":init") 56 ∷ word closes (codes ")") 61
    ∷ word opens (codes "(") 62 ∷ word keyword (codes ":goal") 63 ∷ word opens (codes "(") 68 ∷ word name (codes "x") 69 ∷ word closes (codes ")") 70 ∷ word closes (codes ")") 71
    ∷ word opens (codes "(") 72 ∷ word keyword (codes ":metric") 73 ∷ word name (codes "minimize") 81 ∷ word opens (codes "(") 89 ∷ word name (codes "total-cost") 90 ∷ word closes (codes ")") 100 ∷ word closes (codes ")") 101
    ∷ word opens (codes "(") 102 ∷ []

-- (define (DOMAIN d)(:types a b - c d)(:predicates)
abbrev pub typed_list : List Word
typed_list =
    domain_head (word opens (codes "(") 18 ∷ word keyword (codes ":types") 19 ∷ word name (codes "a") 26 ∷ word name (codes "b") 28 ∷ word dash (codes "-") 30 ∷ word name (codes "c") 32 ∷ word name (codes "d") 34 ∷ word closes (codes ")") 35
    ∷ word opens (codes "(") 36 ∷ word keyword (codes ":predicates") 37 ∷ word closes (codes ")") 48 ∷ word closes (codes ")") 49 ∷ [])

abbrev pub named : List ℕ → ℕ → ℕ → Name
named text start end = record { text = text; span = record { start = start; end = end } }

-- the names before a `-` are of the type after it; those after the last type are untyped
abbrev pub typed_groups : List Group
typed_groups =
    record { names = named (codes "a") 26 27 ∷ named (codes "b") 28 29 ∷ []; types = named (codes "c") 32 33 ∷ [] }
    ∷ record { names = named (codes "d") 34 35 ∷ []; types = [] } ∷ []

-- (define (DOMAIN d)(:types - c
abbrev pub type_of_nothing : List Word
type_of_nothing = domain_head (word opens (codes "(") 18 ∷ word keyword (codes ":types") 19 ∷ word dash (codes "-") 26 ∷ word name (codes "c") 28 ∷ [])

-- (define (DOMAIN d)(:constants a - (either b c))
abbrev pub either_of_a_constant : List Word
either_of_a_constant =
    domain_head (word opens (codes "(") 18 ∷ word keyword (codes ":constants") 19 ∷ word name (codes "a") 30 ∷ word dash (codes "-") 32 ∷ word opens (codes "(") 34 ∷ word name (codes "either") 35 ∷ [])

-- (define (problem p)(:goal
abbrev pub goal_head : List Word → List Word
goal_head rest =
    word opens (codes "(") 0 ∷ word name (codes "define") 1 ∷ word opens (codes "(") 8 ∷ word name (codes "problem") 9 ∷ word name (codes "p") 17 ∷ word closes (codes ")") 18
    ∷ word opens (codes "(") 19 ∷ word keyword (codes ":goal") 20 ∷ rest

-- .. (not(p)(
abbrev pub not_of_two : List Word
not_of_two = goal_head (word opens (codes "(") 26 ∷ word name (codes "not") 27 ∷ word opens (codes "(") 30 ∷ word name (codes "p") 31 ∷ word closes (codes ")") 32 ∷ word opens (codes "(") 33 ∷ [])

-- .. (imply(p))
abbrev pub imply_of_one : List Word
imply_of_one = goal_head (word opens (codes "(") 26 ∷ word name (codes "imply") 27 ∷ word opens (codes "(") 32 ∷ word name (codes "p") 33 ∷ word closes (codes ")") 34 ∷ word closes (codes ")") 35 ∷ [])

-- .. (exists ?x
abbrev pub bare_variable : List Word
bare_variable = goal_head (word opens (codes "(") 26 ∷ word name (codes "exists") 27 ∷ word variable (codes "?x") 34 ∷ [])

-- .. (= a b c
abbrev pub three_terms : List Word
three_terms = goal_head (word opens (codes "(") 26 ∷ word equals (codes "=") 27 ∷ word name (codes "a") 29 ∷ word name (codes "b") 31 ∷ word name (codes "c") 33 ∷ [])

-- .. (when
abbrev pub form_of_an_effect : List Word
form_of_an_effect = goal_head (word opens (codes "(") 26 ∷ word name (codes "when") 27 ∷ [])

-- .. ()
abbrev pub empty_goal : List Word
empty_goal = goal_head (word opens (codes "(") 26 ∷ word closes (codes ")") 27 ∷ [])

-- (define (DOMAIN d)(:predicates)(:action a :parameters() :precondition formula))
abbrev pub with_precondition : List Word → List Word
with_precondition formula =
    domain_head (word opens (codes "(") 18 ∷ word keyword (codes ":predicates") 19 ∷ word closes (codes ")") 30
    ∷ word opens (codes "(") 31 ∷ word keyword (codes ":action") 32 ∷ word name (codes "a") 40
    ∷ word keyword (codes ":parameters") 42 ∷ word opens (codes "(") 53 ∷ word closes (codes ")") 54 ∷ word keyword (codes ":precondition") 56
    ∷ formula ++ word closes (codes ")") 99 ∷ word closes (codes ")") 100 ∷ [])

-- its tree
abbrev pub domain_with : Formula → Domain
domain_with formula = record {
  name = named (codes "d") 16 17;
  types = [];
  constants = [];
  predicates = [];
  functions = [];
  actions = record { name = named (codes "a") 40 41; parameters = []; precondition = formula; effect = tree.both (effects []); increases = [] } ∷ [];
}

-- ()
abbrev pub empty_precondition : List Word
empty_precondition = with_precondition (word opens (codes "(") 70 ∷ word closes (codes ")") 71 ∷ [])

-- (FORALL(?x - t)(imply(= ?x and)(p)))
abbrev pub quantified : List Word
quantified =
    with_precondition
    (word opens (codes "(") 70 ∷ word name (codes "FORALL") 71 ∷ word opens (codes "(") 77 ∷ word variable (codes "?x") 78 ∷ word dash (codes "-") 81 ∷ word name (codes "t") 83 ∷ word closes (codes ")") 84
    ∷ word opens (codes "(") 85 ∷ word name (codes "imply") 86 ∷ word opens (codes "(") 87 ∷ word equals (codes "=") 88 ∷ word variable (codes "?x") 89 ∷ word name (codes "and") 91 ∷ word closes (codes ")") 94
    ∷ word opens (codes "(") 95 ∷ word name (codes "p") 96 ∷ word closes (codes ")") 97 ∷ word closes (codes ")") 97 ∷ word closes (codes ")") 98 ∷ [])

abbrev pub quantified_formula : Formula
quantified_formula =
    tree.forall (record { names = named (codes "?x") 78 80 ∷ []; types = named (codes "t") 83 84 ∷ [] } ∷ [])
    (tree.imply (tree.equal (tree.variable (named (codes "?x") 89 91)) (tree.object (named (codes "and") 91 94))) (tree.atom (record { predicate = named (codes "p") 96 97; terms = [] })))

-- (define (DOMAIN d)(:predicates)(:functions(total-cost)- number)(:action a :parameters():effect
abbrev pub effect_head : List Word → List Word
effect_head rest =
    domain_head (word opens (codes "(") 18 ∷ word keyword (codes ":predicates") 19 ∷ word closes (codes ")") 30 ∷ word opens (codes "(") 31 ∷ word keyword (codes ":functions") 32 ∷ word opens (codes "(") 42
    ∷ word name (codes "total-cost") 43 ∷ word closes (codes ")") 53 ∷ word dash (codes "-") 54 ∷ word name (codes "number") 56 ∷ word closes (codes ")") 62 ∷ word opens (codes "(") 63
    ∷ word keyword (codes ":action") 64 ∷ word name (codes "a") 72 ∷ word keyword (codes ":parameters") 74 ∷ word opens (codes "(") 85 ∷ word closes (codes ")") 86 ∷ word keyword (codes ":effect") 87 ∷ rest)

-- .. (when(p)(when
abbrev pub when_under_when : List Word
when_under_when =
    effect_head
    (word opens (codes "(") 95 ∷ word name (codes "when") 96 ∷ word opens (codes "(") 100 ∷ word name (codes "p") 101 ∷ word closes (codes ")") 102 ∷ word opens (codes "(") 103
    ∷ word name (codes "when") 104 ∷ [])

-- .. (when(p)(and(p)(FORALL
abbrev pub forall_under_when : List Word
forall_under_when =
    effect_head
    (word opens (codes "(") 95 ∷ word name (codes "when") 96 ∷ word opens (codes "(") 100 ∷ word name (codes "p") 101 ∷ word closes (codes ")") 102 ∷ word opens (codes "(") 103
    ∷ word name (codes "and") 104 ∷ word opens (codes "(") 107 ∷ word name (codes "p") 108 ∷ word closes (codes ")") 109 ∷ word opens (codes "(") 110 ∷ word name (codes "FORALL") 111 ∷ [])

-- .. (when(p)(not(when
abbrev pub when_under_not : List Word
when_under_not =
    effect_head
    (word opens (codes "(") 95 ∷ word name (codes "when") 96 ∷ word opens (codes "(") 100 ∷ word name (codes "p") 101 ∷ word closes (codes ")") 102 ∷ word opens (codes "(") 103
    ∷ word name (codes "not") 104 ∷ word opens (codes "(") 107 ∷ word name (codes "when") 108 ∷ [])

-- .. (when(when
abbrev pub when_as_condition : List Word
when_as_condition =
    effect_head
    (word opens (codes "(") 95 ∷ word name (codes "when") 96 ∷ word opens (codes "(") 100 ∷ word name (codes "when") 101 ∷ [])

-- .. (when(p)(and(and
abbrev pub and_under_and : List Word
and_under_and =
    effect_head
    (word opens (codes "(") 95 ∷ word name (codes "when") 96 ∷ word opens (codes "(") 100 ∷ word name (codes "p") 101 ∷ word closes (codes ")") 102 ∷ word opens (codes "(") 103
    ∷ word name (codes "and") 104 ∷ word opens (codes "(") 107 ∷ word name (codes "and") 108 ∷ [])

-- .. (when(p)(assign
abbrev pub left_out_under_when : List Word
left_out_under_when =
    effect_head
    (word opens (codes "(") 95 ∷ word name (codes "when") 96 ∷ word opens (codes "(") 100 ∷ word name (codes "p") 101 ∷ word closes (codes ")") 102 ∷ word opens (codes "(") 103
    ∷ word name (codes "assign") 104 ∷ [])

-- .. (when(p)(p)(
abbrev pub when_of_two : List Word
when_of_two =
    effect_head
    (word opens (codes "(") 95 ∷ word name (codes "when") 96 ∷ word opens (codes "(") 100 ∷ word name (codes "p") 101 ∷ word closes (codes ")") 102 ∷ word opens (codes "(") 103
    ∷ word name (codes "p") 104 ∷ word closes (codes ")") 105 ∷ word opens (codes "(") 106 ∷ [])

-- .. (not(not
abbrev pub not_of_a_not : List Word
not_of_a_not =
    effect_head
    (word opens (codes "(") 95 ∷ word name (codes "not") 96 ∷ word opens (codes "(") 99 ∷ word name (codes "not") 100 ∷ [])

-- .. (and(increase(total-cost)1)(and(increase
abbrev pub increase_in_and : List Word
increase_in_and =
    effect_head
    (word opens (codes "(") 95 ∷ word name (codes "and") 96 ∷ word opens (codes "(") 99 ∷ word name (codes "increase") 100 ∷ word opens (codes "(") 108 ∷ word name (codes "total-cost") 109
    ∷ word closes (codes ")") 119 ∷ word number (codes "1") 120 ∷ word closes (codes ")") 121 ∷ word opens (codes "(") 122 ∷ word name (codes "and") 123 ∷ word opens (codes "(") 126
    ∷ word name (codes "increase") 127 ∷ [])

-- .. (when(p)(increase
abbrev pub increase_under_when : List Word
increase_under_when =
    effect_head
    (word opens (codes "(") 95 ∷ word name (codes "when") 96 ∷ word opens (codes "(") 100 ∷ word name (codes "p") 101 ∷ word closes (codes ")") 102 ∷ word opens (codes "(") 103
    ∷ word name (codes "increase") 104 ∷ [])

-- .. (forall()(increase
abbrev pub increase_in_forall : List Word
increase_in_forall =
    effect_head
    (word opens (codes "(") 95 ∷ word name (codes "forall") 96 ∷ word opens (codes "(") 102 ∷ word closes (codes ")") 103 ∷ word opens (codes "(") 104 ∷ word name (codes "increase") 105 ∷ [])

-- .. (increase(fuel
abbrev pub other_function : List Word
other_function =
    effect_head
    (word opens (codes "(") 95 ∷ word name (codes "increase") 96 ∷ word opens (codes "(") 104 ∷ word name (codes "fuel") 105 ∷ [])

-- .. (increase fuel
abbrev pub bare_function : List Word
bare_function =
    effect_head
    (word opens (codes "(") 95 ∷ word name (codes "increase") 96 ∷ word name (codes "fuel") 105 ∷ [])

-- .. (increase(total-cost)2147483648
abbrev pub large_increase : List Word
large_increase =
    effect_head
    (word opens (codes "(") 95 ∷ word name (codes "increase") 96 ∷ word opens (codes "(") 104 ∷ word name (codes "total-cost") 105 ∷ word closes (codes ")") 115 ∷ word number (codes "2147483648") 116 ∷ [])

-- .. (increase(total-cost)(total-cost
abbrev pub increase_by_the_total_cost : List Word
increase_by_the_total_cost =
    effect_head
    (word opens (codes "(") 95 ∷ word name (codes "increase") 96 ∷ word opens (codes "(") 104 ∷ word name (codes "total-cost") 105 ∷ word closes (codes ")") 115 ∷ word opens (codes "(") 116
    ∷ word name (codes "total-cost") 117 ∷ [])

-- .. (increase(total-cost)f
abbrev pub increase_by_a_bare_name : List Word
increase_by_a_bare_name =
    effect_head
    (word opens (codes "(") 95 ∷ word name (codes "increase") 96 ∷ word opens (codes "(") 104 ∷ word name (codes "total-cost") 105 ∷ word closes (codes ")") 115 ∷ word name (codes "f") 116 ∷ [])

-- .. (p 2147483648
abbrev pub large_term : List Word
large_term =
    effect_head
    (word opens (codes "(") 95 ∷ word name (codes "p") 96 ∷ word number (codes "2147483648") 98 ∷ [])

-- .. (DECREASE
abbrev pub decreased : List Word
decreased =
    effect_head
    (word opens (codes "(") 95 ∷ word name (codes "DECREASE") 96 ∷ [])

-- .. (total-cost
abbrev pub total_cost_as_predicate : List Word
total_cost_as_predicate =
    effect_head
    (word opens (codes "(") 95 ∷ word name (codes "total-cost") 96 ∷ [])

-- the tree of a domain with an action that has this effect and these increases
abbrev pub domain_of_effect : Effect → List Increase → Domain
domain_of_effect effect increases = record {
  name = named (codes "d") 16 17;
  types = [];
  constants = [];
  predicates = [];
  functions = record { name = named (codes "total-cost") 43 53; parameters = [] } ∷ [];
  actions = record { name = named (codes "a") 72 73; parameters = []; precondition = tree.and (formulas []); effect = effect; increases = increases } ∷ [];
}

-- .. ()
abbrev pub empty_effect : List Word
empty_effect =
    effect_head
    (word opens (codes "(") 95 ∷ word closes (codes ")") 96 ∷ word closes (codes ")") 97 ∷ word closes (codes ")") 98 ∷ [])

-- .. (increase(total-cost)2147483647)
abbrev pub only_increase : List Word
only_increase =
    effect_head
    (word opens (codes "(") 95 ∷ word name (codes "increase") 96 ∷ word opens (codes "(") 104 ∷ word name (codes "total-cost") 105 ∷ word closes (codes ")") 115 ∷ word number (codes "2147483647") 116
    ∷ word closes (codes ")") 126 ∷ word closes (codes ")") 127 ∷ word closes (codes ")") 128 ∷ [])

-- .. (and(INCREASE(total-cost)007)(and)(q)(increase(total-cost)0))
abbrev pub two_increases : List Word
two_increases =
    effect_head
    (word opens (codes "(") 95 ∷ word name (codes "and") 96 ∷ word opens (codes "(") 99 ∷ word name (codes "INCREASE") 100 ∷ word opens (codes "(") 108 ∷ word name (codes "total-cost") 109
    ∷ word closes (codes ")") 119 ∷ word number (codes "007") 120 ∷ word closes (codes ")") 123 ∷ word opens (codes "(") 124 ∷ word name (codes "and") 125 ∷ word closes (codes ")") 128
    ∷ word opens (codes "(") 129 ∷ word name (codes "q") 130 ∷ word closes (codes ")") 131 ∷ word opens (codes "(") 132 ∷ word name (codes "increase") 133 ∷ word opens (codes "(") 141
    ∷ word name (codes "total-cost") 142 ∷ word closes (codes ")") 152 ∷ word number (codes "0") 153 ∷ word closes (codes ")") 154 ∷ word closes (codes ")") 155 ∷ word closes (codes ")") 156
    ∷ word closes (codes ")") 157 ∷ [])

-- its effects and increases
abbrev pub effects_among_increases : Effect
effects_among_increases = tree.both (effects (tree.both (effects []) ∷ tree.literal (tree.add (record { predicate = named (codes "q") 130 131; terms = [] })) ∷ []))

abbrev pub both_increases : List Increase
both_increases = record { word = named (codes "INCREASE") 100 108; amount = tree.by_number 7 } ∷ record { word = named (codes "increase") 133 141; amount = tree.by_number 0 } ∷ []

-- .. (forall(?x - t)(and(not(p ?x))(when(p)(q))(when(q)(and(p)(not(q))))))
abbrev pub each_when : List Word
each_when =
    effect_head
    (word opens (codes "(") 95 ∷ word name (codes "forall") 96 ∷ word opens (codes "(") 102 ∷ word variable (codes "?x") 103 ∷ word dash (codes "-") 106 ∷ word name (codes "t") 108
    ∷ word closes (codes ")") 109 ∷ word opens (codes "(") 110 ∷ word name (codes "and") 111 ∷ word opens (codes "(") 114 ∷ word name (codes "not") 115 ∷ word opens (codes "(") 118
    ∷ word name (codes "p") 119 ∷ word variable (codes "?x") 121 ∷ word closes (codes ")") 123 ∷ word closes (codes ")") 124 ∷ word opens (codes "(") 125 ∷ word name (codes "when") 126
    ∷ word opens (codes "(") 130 ∷ word name (codes "p") 131 ∷ word closes (codes ")") 132 ∷ word opens (codes "(") 133 ∷ word name (codes "q") 134 ∷ word closes (codes ")") 135
    ∷ word closes (codes ")") 136 ∷ word opens (codes "(") 137 ∷ word name (codes "when") 138 ∷ word opens (codes "(") 142 ∷ word name (codes "q") 143 ∷ word closes (codes ")") 144
    ∷ word opens (codes "(") 145 ∷ word name (codes "and") 146 ∷ word opens (codes "(") 149 ∷ word name (codes "p") 150 ∷ word closes (codes ")") 151 ∷ word opens (codes "(") 152
    ∷ word name (codes "not") 153 ∷ word opens (codes "(") 156 ∷ word name (codes "q") 157 ∷ word closes (codes ")") 158 ∷ word closes (codes ")") 159 ∷ word closes (codes ")") 160
    ∷ word closes (codes ")") 161 ∷ word closes (codes ")") 162 ∷ word closes (codes ")") 163 ∷ word closes (codes ")") 164 ∷ word closes (codes ")") 165 ∷ [])

-- its effect
abbrev pub each_when_effect : Effect
each_when_effect =
    tree.each (record { names = named (codes "?x") 103 105 ∷ []; types = named (codes "t") 108 109 ∷ [] } ∷ [])
    (tree.both (effects (
    tree.literal (tree.delete (record { predicate = named (codes "p") 119 120; terms = tree.variable (named (codes "?x") 121 123) ∷ [] }))
    ∷ tree.when (tree.atom (record { predicate = named (codes "p") 131 132; terms = [] })) (tree.add (record { predicate = named (codes "q") 134 135; terms = [] }) ∷ [])
    ∷ tree.when (tree.atom (record { predicate = named (codes "q") 143 144; terms = [] })) (tree.add (record { predicate = named (codes "p") 150 151; terms = [] }) ∷ tree.delete (record { predicate = named (codes "q") 157 158; terms = [] }) ∷ []) ∷ []
    )))

-- (define (DOMAIN d)(:functions(and
abbrev pub functions_of_a_reserved_word : List Word
functions_of_a_reserved_word =
    domain_head
    (word opens (codes "(") 18 ∷ word keyword (codes ":functions") 19 ∷ word opens (codes "(") 29 ∷ word name (codes "and") 30 ∷ [])

-- (define (DOMAIN d)(:functions(total-cost ?x
abbrev pub total_cost_of_a_variable : List Word
total_cost_of_a_variable =
    domain_head
    (word opens (codes "(") 18 ∷ word keyword (codes ":functions") 19 ∷ word opens (codes "(") 29 ∷ word name (codes "total-cost") 30 ∷ word variable (codes "?x") 41 ∷ [])

-- (define (DOMAIN d)(:functions(total-cost)- fuel
abbrev pub functions_of_a_type : List Word
functions_of_a_type =
    domain_head
    (word opens (codes "(") 18 ∷ word keyword (codes ":functions") 19 ∷ word opens (codes "(") 29 ∷ word name (codes "total-cost") 30 ∷ word closes (codes ")") 40 ∷ word dash (codes "-") 41
    ∷ word name (codes "fuel") 43 ∷ [])

-- (define (DOMAIN d)(:functions(total-cost)(total-cost)- number)(:predicates))
abbrev pub two_functions : List Word
two_functions =
    domain_head
    (word opens (codes "(") 18 ∷ word keyword (codes ":functions") 19 ∷ word opens (codes "(") 29 ∷ word name (codes "total-cost") 30 ∷ word closes (codes ")") 40 ∷ word opens (codes "(") 41
    ∷ word name (codes "total-cost") 42 ∷ word closes (codes ")") 52 ∷ word dash (codes "-") 53 ∷ word name (codes "number") 55 ∷ word closes (codes ")") 61 ∷ word opens (codes "(") 62
    ∷ word keyword (codes ":predicates") 63 ∷ word closes (codes ")") 74 ∷ word closes (codes ")") 75 ∷ [])

-- (define (DOMAIN d)(:functions(F ?x - t ?y)- number(total-cost))(:predicates)(:action a :parameters(?x):effect(increase(total-cost)(f ?x k))))
abbrev pub functions_and_an_increase : List Word
functions_and_an_increase =
    domain_head
    (word opens (codes "(") 18 ∷ word keyword (codes ":functions") 19 ∷ word opens (codes "(") 29 ∷ word name (codes "F") 30 ∷ word variable (codes "?x") 32 ∷ word dash (codes "-") 35
    ∷ word name (codes "t") 37 ∷ word variable (codes "?y") 39 ∷ word closes (codes ")") 41 ∷ word dash (codes "-") 42 ∷ word name (codes "number") 44 ∷ word opens (codes "(") 50
    ∷ word name (codes "total-cost") 51 ∷ word closes (codes ")") 61 ∷ word closes (codes ")") 62 ∷ word opens (codes "(") 63 ∷ word keyword (codes ":predicates") 64 ∷ word closes (codes ")") 75
    ∷ word opens (codes "(") 76 ∷ word keyword (codes ":action") 77 ∷ word name (codes "a") 85 ∷ word keyword (codes ":parameters") 87 ∷ word opens (codes "(") 98 ∷ word variable (codes "?x") 99
    ∷ word closes (codes ")") 101 ∷ word keyword (codes ":effect") 102 ∷ word opens (codes "(") 109 ∷ word name (codes "increase") 110 ∷ word opens (codes "(") 118
    ∷ word name (codes "total-cost") 119 ∷ word closes (codes ")") 129 ∷ word opens (codes "(") 130 ∷ word name (codes "f") 131 ∷ word variable (codes "?x") 133 ∷ word name (codes "k") 136
    ∷ word closes (codes ")") 137 ∷ word closes (codes ")") 138 ∷ word closes (codes ")") 139 ∷ word closes (codes ")") 140 ∷ [])

-- its tree: names keep their case, and variables after the last type are untyped
abbrev pub domain_of_functions : Domain
domain_of_functions = record {
  name = named (codes "d") 16 17;
  types = [];
  constants = [];
  predicates = [];
  functions =
      record {
        name = named (codes "F") 30 31;
        parameters = record { names = named (codes "?x") 32 34 ∷ []; types = named (codes "t") 37 38 ∷ [] } ∷ record { names = named (codes "?y") 39 41 ∷ []; types = [] } ∷ [];
      }
      ∷ record { name = named (codes "total-cost") 51 61; parameters = [] } ∷ [];
  actions =
      record {
        name = named (codes "a") 85 86;
        parameters = record { names = named (codes "?x") 99 101 ∷ []; types = [] } ∷ [];
        precondition = tree.and (formulas []);
        effect = tree.both (effects []);
        increases = record { word = named (codes "increase") 110 118; amount = tree.by_function (record { predicate = named (codes "f") 131 132; terms = tree.variable (named (codes "?x") 133 135) ∷ tree.object (named (codes "k") 136 137) ∷ [] }) } ∷ [];
      } ∷ [];
}

-- (define (problem p)(:metric maximize
abbrev pub maximized : List Word
maximized =
    word opens (codes "(") 0 ∷ word name (codes "define") 1 ∷ word opens (codes "(") 8 ∷ word name (codes "problem") 9 ∷ word name (codes "p") 17 ∷ word closes (codes ")") 18
    ∷ word opens (codes "(") 19 ∷ word keyword (codes ":metric") 20 ∷ word name (codes "maximize") 28 ∷ []

-- (define (problem p)(:metric minimize(fuel
abbrev pub minimized_another : List Word
minimized_another =
    word opens (codes "(") 0 ∷ word name (codes "define") 1 ∷ word opens (codes "(") 8 ∷ word name (codes "problem") 9 ∷ word name (codes "p") 17 ∷ word closes (codes ")") 18
    ∷ word opens (codes "(") 19 ∷ word keyword (codes ":metric") 20 ∷ word name (codes "minimize") 28 ∷ word opens (codes "(") 36 ∷ word name (codes "fuel") 37 ∷ []

-- (define (problem p)(:metric minimize total-cost
abbrev pub minimized_bare : List Word
minimized_bare =
    word opens (codes "(") 0 ∷ word name (codes "define") 1 ∷ word opens (codes "(") 8 ∷ word name (codes "problem") 9 ∷ word name (codes "p") 17 ∷ word closes (codes ")") 18
    ∷ word opens (codes "(") 19 ∷ word keyword (codes ":metric") 20 ∷ word name (codes "minimize") 28 ∷ word name (codes "total-cost") 37 ∷ []

-- (define (problem p)(:metric minimize(total-cost))(:metric
abbrev pub metric_again : List Word
metric_again =
    word opens (codes "(") 0 ∷ word name (codes "define") 1 ∷ word opens (codes "(") 8 ∷ word name (codes "problem") 9 ∷ word name (codes "p") 17 ∷ word closes (codes ")") 18
    ∷ word opens (codes "(") 19 ∷ word keyword (codes ":metric") 20 ∷ word name (codes "minimize") 28 ∷ word opens (codes "(") 36 ∷ word name (codes "total-cost") 37 ∷ word closes (codes ")") 47
    ∷ word closes (codes ")") 48 ∷ word opens (codes "(") 49 ∷ word keyword (codes ":metric") 50 ∷ []

-- (define (problem p)(:init(=(imply
abbrev pub start_of_a_reserved_word : List Word
start_of_a_reserved_word =
    word opens (codes "(") 0 ∷ word name (codes "define") 1 ∷ word opens (codes "(") 8 ∷ word name (codes "problem") 9 ∷ word name (codes "p") 17 ∷ word closes (codes ")") 18
    ∷ word opens (codes "(") 19 ∷ word keyword (codes ":init") 20 ∷ word opens (codes "(") 25 ∷ word equals (codes "=") 26 ∷ word opens (codes "(") 27 ∷ word name (codes "imply") 28 ∷ []

-- (define (problem p)(:init(=(f a ?x
abbrev pub value_of_a_variable : List Word
value_of_a_variable =
    word opens (codes "(") 0 ∷ word name (codes "define") 1 ∷ word opens (codes "(") 8 ∷ word name (codes "problem") 9 ∷ word name (codes "p") 17 ∷ word closes (codes ")") 18
    ∷ word opens (codes "(") 19 ∷ word keyword (codes ":init") 20 ∷ word opens (codes "(") 25 ∷ word equals (codes "=") 26 ∷ word opens (codes "(") 27 ∷ word name (codes "f") 28
    ∷ word name (codes "a") 30 ∷ word variable (codes "?x") 32 ∷ []

-- (define (problem p)(:init(=(total-cost)2147483648
abbrev pub start_too_large : List Word
start_too_large =
    word opens (codes "(") 0 ∷ word name (codes "define") 1 ∷ word opens (codes "(") 8 ∷ word name (codes "problem") 9 ∷ word name (codes "p") 17 ∷ word closes (codes ")") 18
    ∷ word opens (codes "(") 19 ∷ word keyword (codes ":init") 20 ∷ word opens (codes "(") 25 ∷ word equals (codes "=") 26 ∷ word opens (codes "(") 27 ∷ word name (codes "total-cost") 28
    ∷ word closes (codes ")") 38 ∷ word number (codes "2147483648") 39 ∷ []

-- (define (problem p)(:init(=(f a b)2147483648
abbrev pub value_too_large : List Word
value_too_large =
    word opens (codes "(") 0 ∷ word name (codes "define") 1 ∷ word opens (codes "(") 8 ∷ word name (codes "problem") 9 ∷ word name (codes "p") 17 ∷ word closes (codes ")") 18
    ∷ word opens (codes "(") 19 ∷ word keyword (codes ":init") 20 ∷ word opens (codes "(") 25 ∷ word equals (codes "=") 26 ∷ word opens (codes "(") 27 ∷ word name (codes "f") 28
    ∷ word name (codes "a") 30 ∷ word name (codes "b") 32 ∷ word closes (codes ")") 33 ∷ word number (codes "2147483648") 34 ∷ []

-- (define (problem p)(:domain d)(:init(=(total-cost)0))(:goal(and))(:metric minimize(total-cost)))
abbrev pub costs_in_a_problem : List Word
costs_in_a_problem =
    word opens (codes "(") 0 ∷ word name (codes "define") 1 ∷ word opens (codes "(") 8 ∷ word name (codes "problem") 9 ∷ word name (codes "p") 17 ∷ word closes (codes ")") 18
    ∷ word opens (codes "(") 19 ∷ word keyword (codes ":domain") 20 ∷ word name (codes "d") 28 ∷ word closes (codes ")") 29 ∷ word opens (codes "(") 30 ∷ word keyword (codes ":init") 31
    ∷ word opens (codes "(") 36 ∷ word equals (codes "=") 37 ∷ word opens (codes "(") 38 ∷ word name (codes "total-cost") 39 ∷ word closes (codes ")") 49 ∷ word number (codes "0") 50
    ∷ word closes (codes ")") 51 ∷ word closes (codes ")") 52 ∷ word opens (codes "(") 53 ∷ word keyword (codes ":goal") 54 ∷ word opens (codes "(") 59 ∷ word name (codes "and") 60
    ∷ word closes (codes ")") 63 ∷ word closes (codes ")") 64 ∷ word opens (codes "(") 65 ∷ word keyword (codes ":metric") 66 ∷ word name (codes "minimize") 74 ∷ word opens (codes "(") 82
    ∷ word name (codes "total-cost") 83 ∷ word closes (codes ")") 93 ∷ word closes (codes ")") 94 ∷ word closes (codes ")") 95 ∷ []

abbrev pub problem_of_costs : Problem
problem_of_costs = record {
  name = named (codes "p") 17 18;
  domain = named (codes "d") 28 29;
  objects = [];
  init = tree.initial_cost (record { equals = named (codes "=") 37 38; function = named (codes "total-cost") 39 49; amount = 0; number = named (codes "0") 50 51 }) ∷ [];
  goal = tree.and (formulas []);
  metric = Some (named (codes "total-cost") 83 93);
}

-- (define (problem p)(:domain d)(:init(=(f a b)7)(=(total-cost)0)(=(g)2147483647))(:goal(and)))
abbrev pub values_in_a_problem : List Word
values_in_a_problem =
    word opens (codes "(") 0 ∷ word name (codes "define") 1 ∷ word opens (codes "(") 8 ∷ word name (codes "problem") 9 ∷ word name (codes "p") 17 ∷ word closes (codes ")") 18
    ∷ word opens (codes "(") 19 ∷ word keyword (codes ":domain") 20 ∷ word name (codes "d") 28 ∷ word closes (codes ")") 29 ∷ word opens (codes "(") 30 ∷ word keyword (codes ":init") 31
    ∷ word opens (codes "(") 36 ∷ word equals (codes "=") 37 ∷ word opens (codes "(") 38 ∷ word name (codes "f") 39 ∷ word name (codes "a") 41 ∷ word name (codes "b") 43
    ∷ word closes (codes ")") 44 ∷ word number (codes "7") 45 ∷ word closes (codes ")") 46 ∷ word opens (codes "(") 47 ∷ word equals (codes "=") 48 ∷ word opens (codes "(") 49
    ∷ word name (codes "total-cost") 50 ∷ word closes (codes ")") 60 ∷ word number (codes "0") 61 ∷ word closes (codes ")") 62 ∷ word opens (codes "(") 63 ∷ word equals (codes "=") 64
    ∷ word opens (codes "(") 65 ∷ word name (codes "g") 66 ∷ word closes (codes ")") 67 ∷ word number (codes "2147483647") 68 ∷ word closes (codes ")") 78 ∷ word closes (codes ")") 79
    ∷ word opens (codes "(") 80 ∷ word keyword (codes ":goal") 81 ∷ word opens (codes "(") 86 ∷ word name (codes "and") 87 ∷ word closes (codes ")") 90 ∷ word closes (codes ")") 91
    ∷ word closes (codes ")") 92 ∷ []

abbrev pub problem_of_values : Problem
problem_of_values = record {
  name = named (codes "p") 17 18;
  domain = named (codes "d") 28 29;
  objects = [];
  init =
      tree.initial_value (record { function = record { predicate = named (codes "f") 39 40; objects = named (codes "a") 41 42 ∷ named (codes "b") 43 44 ∷ [] }; value = 7 })
      ∷ tree.initial_cost (record { equals = named (codes "=") 48 49; function = named (codes "total-cost") 50 60; amount = 0; number = named (codes "0") 61 62 })
      ∷ tree.initial_value (record { function = record { predicate = named (codes "g") 66 67; objects = [] }; value = 2147483647 }) ∷ [];
  goal = tree.and (formulas []);
  metric = None;
}

-- the examples are as reported
pub record AreAsReported : Type 0 where
  pub no_word : IsRefused domain_file [] (fault 7 0 0)
  pub empty : IsRefused domain_file empty_list (fault 10 1 2)
  pub unkind : IsRefused domain_file no_kind (fault 10 7 8)
  pub unpredicated : IsRefused domain_file no_predicates (fault 10 18 19)
  pub shortest : IsDomain (tokens_of shortest_domain) (record { name = record { text = codes "d"; span = record { start = 16; end = 17 } }; types = []; constants = []; predicates = []; functions = []; actions = [] })
  pub no_problem : IsRefused problem_file shortest_domain (fault 7 9 15)
  pub too_many : IsRefused domain_file word_too_many (fault 7 32 33)
  pub repeated : IsRefused domain_file repeated_section (fault 9 32 43)
  pub of_the_other_file : IsRefused domain_file section_of_the_other_file (fault 8 19 27)
  pub left_out : IsRefused domain_file section_left_out (fault 12 19 27)
  pub unparametrized : IsRefused domain_file no_parameters (fault 10 36 37)
  pub full : IsRefused problem_file full_problem (fault 7 102 103)
  pub typed : IsDomain (tokens_of typed_list) (record { name = named (codes "d") 16 17; types = typed_groups; constants = []; predicates = []; functions = []; actions = [] })
  pub untyped : IsRefused domain_file type_of_nothing (fault 7 26 27)
  pub one_type : IsRefused domain_file either_of_a_constant (fault 12 34 35)
  pub negated_two : IsRefused problem_file not_of_two (fault 7 33 34)
  pub implied_one : IsRefused problem_file imply_of_one (fault 7 35 36)
  pub unparenthesized : IsRefused problem_file bare_variable (fault 7 34 36)
  pub equal_three : IsRefused problem_file three_terms (fault 7 33 34)
  pub when_in_a_goal : IsRefused problem_file form_of_an_effect (fault 7 27 31)
  pub goal_of_nothing : IsRefused problem_file empty_goal (fault 7 27 28)
  pub precondition_of_nothing : IsDomain (tokens_of empty_precondition) (domain_with (tree.and (formulas [])))
  pub formula_of_all : IsDomain (tokens_of quantified) (domain_with quantified_formula)
  pub when_in_when : IsRefused domain_file when_under_when (fault 12 104 108)
  pub forall_in_when : IsRefused domain_file forall_under_when (fault 12 111 117)
  pub when_in_not : IsRefused domain_file when_under_not (fault 12 108 112)
  pub when_in_a_condition : IsRefused domain_file when_as_condition (fault 7 101 105)
  pub and_in_and : IsRefused domain_file and_under_and (fault 7 108 111)
  pub left_out_in_when : IsRefused domain_file left_out_under_when (fault 12 104 110)
  pub two_under_when : IsRefused domain_file when_of_two (fault 7 106 107)
  pub not_of_no_atom : IsRefused domain_file not_of_a_not (fault 7 100 103)
  pub increase_in_an_and : IsRefused domain_file increase_in_and (fault 7 127 135)
  pub increase_in_when : IsRefused domain_file increase_under_when (fault 7 104 112)
  pub increase_of_each : IsRefused domain_file increase_in_forall (fault 7 105 113)
  pub increase_of_another : IsRefused domain_file other_function (fault 12 105 109)
  pub increase_unparenthesized : IsRefused domain_file bare_function (fault 7 105 109)
  pub increase_too_large : IsRefused domain_file large_increase (fault 13 116 126)
  pub increase_by_total_cost : IsRefused domain_file increase_by_the_total_cost (fault 7 117 127)
  pub increase_by_a_name : IsRefused domain_file increase_by_a_bare_name (fault 7 116 117)
  pub number_as_a_term : IsRefused domain_file large_term (fault 7 98 108)
  pub decrease_left_out : IsRefused domain_file decreased (fault 12 96 104)
  pub no_predicate : IsRefused domain_file total_cost_as_predicate (fault 7 96 106)
  pub effect_of_nothing : IsDomain (tokens_of empty_effect) (domain_of_effect (tree.both (effects [])) ([]))
  pub increase_alone : IsDomain (tokens_of only_increase) (domain_of_effect (tree.both (effects [])) (record { word = named (codes "increase") 96 104; amount = tree.by_number 2147483647 } ∷ []))
  pub increases_among_effects : IsDomain (tokens_of two_increases) (domain_of_effect effects_among_increases both_increases)
  pub when_of_each : IsDomain (tokens_of each_when) (domain_of_effect (each_when_effect) ([]))
  pub reserved_function : IsRefused domain_file functions_of_a_reserved_word (fault 7 30 33)
  pub total_cost_of_objects : IsRefused domain_file total_cost_of_a_variable (fault 7 41 43)
  pub another_number_type : IsRefused domain_file functions_of_a_type (fault 7 43 47)
  pub maximize_left_out : IsRefused problem_file maximized (fault 12 28 36)
  pub minimize_another : IsRefused problem_file minimized_another (fault 12 37 41)
  pub minimize_no_function : IsRefused problem_file minimized_bare (fault 7 37 47)
  pub repeated_metric : IsRefused problem_file metric_again (fault 9 50 57)
  pub reserved_start : IsRefused problem_file start_of_a_reserved_word (fault 7 28 33)
  pub value_of_no_object : IsRefused problem_file value_of_a_variable (fault 7 32 34)
  pub start_over_the_greatest : IsRefused problem_file start_too_large (fault 13 39 49)
  pub value_over_the_greatest : IsRefused problem_file value_too_large (fault 13 34 44)
  pub functions_declared : IsDomain (tokens_of two_functions) (record { name = named (codes "d") 16 17; types = []; constants = []; predicates = []; functions = record { name = named (codes "total-cost") 30 40; parameters = [] } ∷ record { name = named (codes "total-cost") 42 52; parameters = [] } ∷ []; actions = [] })
  pub functions_with_variables : IsDomain (tokens_of functions_and_an_increase) domain_of_functions
  pub problem_with_costs : IsProblem (tokens_of costs_in_a_problem) problem_of_costs
  pub problem_with_values : IsProblem (tokens_of values_in_a_problem) problem_of_values
