-- The grammar of domain and problem files (PDDL 1.2 manual, "Domains", "Actions", "Goal descriptions", "Effects", "Problems":
-- their BNF; action costs, 2008; the language profile "ADL with action costs"). It is a simple grammar in the sense of Korenjak
-- and Hopcroft (1966): each production begins with a word, and no two productions of a nonterminal begin with the same one. So it
-- is given as a function, `after`: from a nonterminal and the next word to what must follow, with its tree.
use Rattle.std.specs.Prelude.{◌≡◌, ℕ, Bool, true, false, List, [], ◌∷◌, ◌++◌, fold, Option, None, Some, cond, ⊤}
use Rattle.std.specs.List.{list_all, list_any}
use Rattle.std.specs.Option.{option_map}
use Rattle.model.specs.Trees.{TaskFile, domain_file, problem_file, Name, Term, Atom, Formula, EffectLiteral, Effect, Group, Predicate, Amount, Increase, Action, Domain, GroundAtom, Fact, Problem, formulas, effects, no_name}
use Rattle.model.specs.Trees as tree
use Rattle.model.specs.GrammarWords.{Token, opens, closes, free, reserved, variable, keyword, dash, equals, number, number_word, SectionKeyword, of_section, PartKeyword, of_part, requirement_key}
use Rattle.model.specs.GrammarWords as words

infixr 20 ◌>>=◌
infixr 20 ◌>>◌
-- ---- what is in a file and in an action

pub data Section : Type 0 where
  requirements : Section
  types : List Group → Section
  constants : List Group → Section
  predicates : List Predicate → Section
  functions : List Predicate → Section
  action : Action → Section
  domain : Name → Section
  objects : List Group → Section
  init : List Fact → Section
  goal : Formula → Section
  metric : Name → Section

-- an element of the value of an `:effect`: an effect, or an increase of the total cost
pub data Item : Type 0 where
  change : Effect → Item
  increase : Increase → Item

-- the value of an `:effect`: its effect, and its increases
pub record EffectValue : Type 0 where
  pub effect : Effect
  pub increases : List Increase

pub data Part : Type 0 where
  parameters : List Group → Part
  precondition : Formula → Part
  effect : EffectValue → Part

pub data Tree : Type 0 where
  domain_tree : Domain → Tree
  problem_tree : Problem → Tree

-- an action with one more part; a missing optional part is empty, `(and)` for a formula or an effect
abbrev pub bare_action : Name → Action
bare_action n = record { name = n; parameters = []; precondition = tree.and (formulas []); effect = tree.both (effects []); increases = [] }

abbrev pub with_part : Action → Part → Action
with_part a (parameters gs) = record a { parameters = gs }
with_part a (precondition f) = record a { precondition = f }
with_part a (effect v) = record a { effect = v.effect; increases = v.increases }

abbrev pub action_from : Name → List Part → Action
action_from n parts = fold with_part (bare_action n) parts

-- the effects and the increases among some items
abbrev pub changes_in : List Item → List Effect
changes_in [] = []
changes_in (change e ∷ items) = e ∷ changes_in items
changes_in (increase i ∷ items) = changes_in items

abbrev pub increases_in : List Item → List Increase
increases_in [] = []
increases_in (change e ∷ items) = increases_in items
increases_in (increase i ∷ items) = i ∷ increases_in items

-- the value of one item, and of `(and item*)`
abbrev pub value_of : Item → EffectValue
value_of (change e) = record { effect = e; increases = [] }
value_of (increase i) = record { effect = tree.both (effects []); increases = i ∷ [] }

abbrev pub value_of_all : List Item → EffectValue
value_of_all items = record { effect = tree.both (effects (changes_in items)); increases = increases_in items }

-- the contents of a file's sections, and the contents with one more section
pub record Contents : Type 0 where
  pub types : List Group
  pub constants : List Group
  pub predicates : List Predicate
  pub functions : List Predicate
  pub actions : List Action
  pub domain : Name
  pub objects : List Group
  pub init : List Fact
  pub goal : Formula
  pub metric : Option Name

abbrev pub no_contents : Contents
no_contents = record { types = []; constants = []; predicates = []; functions = []; actions = []; domain = no_name; objects = []; init = []; goal = tree.and (formulas []); metric = None }

abbrev pub with_section : Contents → Section → Contents
with_section c requirements = c
with_section c (types gs) = record c { types = gs }
with_section c (constants gs) = record c { constants = gs }
with_section c (predicates ps) = record c { predicates = ps }
with_section c (functions fs) = record c { functions = fs }
with_section c (action a) = record c { actions = c.actions ++ a ∷ [] }
with_section c (domain n) = record c { domain = n }
with_section c (objects gs) = record c { objects = gs }
with_section c (init fs) = record c { init = fs }
with_section c (goal f) = record c { goal = f }
with_section c (metric n) = record c { metric = Some n }

abbrev pub domain_from : Name → Contents → Domain
domain_from n c = record { name = n; types = c.types; constants = c.constants; predicates = c.predicates; functions = c.functions; actions = c.actions }

abbrev pub problem_from : Name → Contents → Problem
problem_from n c = record { name = n; domain = c.domain; objects = c.objects; init = c.init; goal = c.goal; metric = c.metric }

abbrev pub tree_from : TaskFile → Name → Contents → Tree
tree_from domain_file n c = domain_tree (domain_from n c)
tree_from problem_file n c = problem_tree (problem_from n c)

-- the keyword of a section
abbrev pub keyword_in : Section → SectionKeyword
keyword_in requirements = words.requirements
keyword_in (types gs) = words.types
keyword_in (constants gs) = words.constants
keyword_in (predicates ps) = words.predicates
keyword_in (functions fs) = words.functions
keyword_in (action a) = words.action
keyword_in (domain n) = words.domain_keyword
keyword_in (objects gs) = words.objects
keyword_in (init fs) = words.init
keyword_in (goal f) = words.goal
keyword_in (metric n) = words.metric

-- ---- which sections and parts may occur, and which have to

abbrev pub is_section : SectionKeyword → SectionKeyword → Bool
is_section words.requirements words.requirements = true
is_section words.types words.types = true
is_section words.constants words.constants = true
is_section words.predicates words.predicates = true
is_section words.functions words.functions = true
is_section words.action words.action = true
is_section words.domain_keyword words.domain_keyword = true
is_section words.objects words.objects = true
is_section words.init words.init = true
is_section words.goal words.goal = true
is_section words.metric words.metric = true
is_section _ _ = false

abbrev pub is_part : PartKeyword → PartKeyword → Bool
is_part words.parameters words.parameters = true
is_part words.precondition words.precondition = true
is_part words.effect words.effect = true
is_part _ _ = false

abbrev pub has_section : List SectionKeyword → SectionKeyword → Bool
has_section seen k = list_any (is_section k) seen

abbrev pub has_part : List PartKeyword → PartKeyword → Bool
has_part seen k = list_any (is_part k) seen

-- the sections of a file
abbrev pub sections_of : TaskFile → List SectionKeyword
sections_of domain_file = words.requirements ∷ words.types ∷ words.constants ∷ words.predicates ∷ words.functions ∷ words.action ∷ []
sections_of problem_file = words.domain_keyword ∷ words.requirements ∷ words.objects ∷ words.init ∷ words.goal ∷ words.metric ∷ []

abbrev pub required_of : TaskFile → List SectionKeyword
required_of domain_file = words.predicates ∷ []
required_of problem_file = words.domain_keyword ∷ words.init ∷ words.goal ∷ []

-- the sections that may not occur again: each section but an action, once it has occurred
abbrev pub seen_with : List SectionKeyword → SectionKeyword → List SectionKeyword
seen_with seen words.action = seen
seen_with seen k = seen ++ k ∷ []

-- the sections, of these, that have not occurred
abbrev pub left_of : List SectionKeyword → List SectionKeyword → List SectionKeyword
left_of [] seen = []
left_of (k ∷ all) seen = cond (has_section seen k) (left_of all seen) (k ∷ left_of all seen)

abbrev pub has_all : List SectionKeyword → List SectionKeyword → Bool
has_all needed seen = list_all (has_section seen) needed

-- ---- typed lists

-- the elements of a typed list: names, each group of one type, or variables, which may be of several types
pub data ListElement : Type 0 where
  names : ListElement
  variables : ListElement

-- a typed list with one more name at the head of its first group
abbrev pub with_name : Name → List Group → List Group
with_name n [] = record { names = n ∷ []; types = [] } ∷ []
with_name n (g ∷ gs) = record g { names = n ∷ g.names } ∷ gs

-- a group without names, with its types
abbrev pub ends_group : List Name → Group
ends_group ts = record { names = []; types = ts }

-- ---- what may be required at a place: the nonterminals

pub data Sort : Type 0 where
  -- words
  close : Sort
  a_name : Sort
  term : Sort
  key : Sort
  -- `( s`, and `s* )`
  listed : Sort → Sort
  many : Sort → Sort
  -- what follows the `(` of a list, up to its `)`
  formula : Sort
  precondition_list : Sort
  effect_list : Sort
  -- the value of an `:effect`, and what may occur in its `and`
  effect_value : Sort
  item : Sort
  -- what is under a `when`, one literal of it, and the atom of a `not` there
  conditional : Sort
  conditional_literal : Sort
  conditional_atom : Sort
  atom : Sort
  declaration : Sort
  fact : Sort
  ground_atom : Sort
  -- a typed list and its `)`; the rest of it within a group; the type after a `-`
  typed : ListElement → Sort
  group : ListElement → Sort
  type : ListElement → Sort
  either_word : Sort
  -- `total-cost` and its `)`; a NUMBER; the amount of an increase; what `:init` gives a value to, and its `)`
  total_cost : Sort
  amount : Sort
  increase_amount : Sort
  valued : Sort
  -- a function's declaration and its `)`; the list of `:functions` after one element, and the type after its `-`
  function_declaration : Sort
  function_list : Sort
  function_type : Sort
  number_type : Sort
  minimize_word : Sort
  -- what follows `:action`: a name; the parts, given those that have occurred, and `)`; and the `(` of a part's value
  action_name : Sort
  parts : List PartKeyword → Sort
  value : List PartKeyword → Sort
  -- the sections of a file, given those that have occurred, and `)`; and what follows the `(` of a section, given those allowed
  sections : TaskFile → List SectionKeyword → Sort
  section : TaskFile → SectionKeyword → List SectionKeyword → Sort
  -- a file, and the first words of its list
  file : TaskFile → Sort
  define_word : Sort
  kind_list : Sort
  kind_word : TaskFile → Sort

-- what `:init` gives a value to: the total cost, or a function of objects
pub data Valued : Type 0 where
  the_total_cost : Name → Valued
  a_function : GroundAtom → Valued

-- such a value after this `=`, with its number and the number's word
abbrev pub initial_fact : Name → Valued → ℕ × Name → Fact
initial_fact n (the_total_cost f) v = tree.initial_cost (record { equals = n; function = f; amount = v.0; number = v.1 })
initial_fact n (a_function f) v = tree.initial_value (record { function = f; value = v.0 })

-- the type of tree for each nonterminal
abbrev pub Value : Sort → Type 0
Value close = ⊤
Value a_name = Name
Value term = Term
Value key = ⊤
Value (listed s) = Value s
Value (many s) = List (Value s)
Value formula = Formula
Value precondition_list = Formula
Value effect_list = Effect
Value effect_value = EffectValue
Value item = Item
Value conditional = List EffectLiteral
Value conditional_literal = EffectLiteral
Value conditional_atom = Atom
Value atom = Atom
Value declaration = Predicate
Value fact = Fact
Value ground_atom = GroundAtom
Value (typed l) = List Group
Value (group l) = List Group
Value (type l) = List Name
Value either_word = ⊤
Value total_cost = Name
Value amount = ℕ × Name
Value increase_amount = Amount
Value valued = Valued
Value function_declaration = Predicate
Value function_list = List Predicate
Value function_type = List Predicate
Value number_type = ⊤
Value minimize_word = ⊤
Value action_name = Name
Value (parts seen) = List Part
Value (value seen) = ⊤
Value (sections f seen) = List Section
Value (section f k others) = Section
Value (file f) = Tree
Value define_word = ⊤
Value kind_list = ⊤
Value (kind_word f) = ⊤

-- What must follow: nothing more, and the tree is this one; or a nonterminal, and then a phrase that depends on its tree. In a
-- `do`, `x ← s` stands for an s whose tree is x, and s alone for an s whose tree is not kept.
pub data Phrase (T : Type 0) : Type 0 where
  gives : T → Phrase T
  ◌>>=◌ : (s : Sort) → (Value s → Phrase T) → Phrase T

abbrev pub ◌>>◌ : {T : Type 0} → Sort → Phrase T → Phrase T
s >> p = s >>= λ _. p

-- one phrase, and then a phrase that depends on its tree
abbrev pub and_then : {A B : Type 0} → Phrase A → (A → Phrase B) → Phrase B
and_then (gives a) k = k a
and_then (s >>= h) k = s >>= λ x. and_then (h x) k

-- ---- the productions

-- after `:parameters`, `:precondition` or `:effect`, given these parts including it
abbrev pub part_after : List PartKeyword → PartKeyword → Phrase Part
part_after seen words.parameters = do value seen; gs ← typed variables; gives (parameters gs)
part_after seen words.precondition = do value seen; f ← precondition_list; gives (precondition f)
part_after seen words.effect = do value seen; v ← effect_value; gives (effect v)

-- after the keyword of a section
abbrev pub section_after : SectionKeyword → Phrase Section
section_after words.requirements = do _ ← many key; gives requirements
section_after words.types = do gs ← typed names; gives (types gs)
section_after words.constants = do gs ← typed names; gives (constants gs)
section_after words.predicates = do ps ← many (listed declaration); gives (predicates ps)
section_after words.functions = do fs ← function_list; gives (functions fs)
section_after words.action = do n ← action_name; ps ← parts []; gives (action (action_from n ps))
section_after words.domain_keyword = do n ← a_name; close; gives (domain n)
section_after words.objects = do gs ← typed names; gives (objects gs)
section_after words.init = do fs ← many (listed fact); gives (init fs)
section_after words.goal = do f ← listed formula; close; gives (goal f)
section_after words.metric = do minimize_word; n ← listed total_cost; close; gives (metric n)

-- after the `(` of a file's section, if these sections may occur: one of them
abbrev pub section_of : TaskFile → List SectionKeyword → List SectionKeyword → Option (Phrase (List Section))
section_of f seen [] = None
section_of f seen (k ∷ others) = Some do x ← section f k others; xs ← sections f (seen_with seen (keyword_in x)); gives (x ∷ xs)

-- the part with this keyword, and those after it
abbrev pub parts_after : List PartKeyword → PartKeyword → Phrase (List Part)
parts_after seen k = and_then (part_after (seen ++ k ∷ []) k) (λ x. do xs ← parts (seen ++ k ∷ []); gives (x ∷ xs))

-- one element of a list, and those after it
abbrev pub more : (s : Sort) → Phrase (Value s) → Phrase (List (Value s))
more s first = and_then first (λ x. do xs ← many s; gives (x ∷ xs))

-- any name
abbrev pub name_in : Token → Option Name
name_in (free f n) = Some n
name_in (reserved r n) = Some n
name_in _ = None

abbrev pub variable_in : Token → Option Name
variable_in (variable n) = Some n
variable_in _ = None

-- a name, or a variable, of a typed list
abbrev pub listed_in : ListElement → Token → Option Name
listed_in names t = name_in t
listed_in variables t = variable_in t

-- a name at the head of a group
abbrev pub group_after : ListElement → Name → Phrase (List Group)
group_after l n = do gs ← group l; gives (with_name n gs)

-- formula  ::= ( PREDICATE-NAME term* ) | ( = term term ) | ( and formula* ) | ( or formula* ) | ( not formula )
--    | ( imply formula formula ) | ( exists ( variables ) formula ) | ( forall ( variables ) formula )
abbrev pub formula_after : Token → Option (Phrase Formula)
formula_after (free f n) = Some do ts ← many term; gives (tree.atom (record { predicate = n; terms = ts }))
formula_after (equals n) = Some do t ← term; u ← term; close; gives (tree.equal t u)
formula_after (reserved words.and n) = Some do fs ← many (listed formula); gives (tree.and (formulas fs))
formula_after (reserved words.or n) = Some do fs ← many (listed formula); gives (tree.or (formulas fs))
formula_after (reserved words.not n) = Some do f ← listed formula; close; gives (tree.not f)
formula_after (reserved words.imply n) = Some do f ← listed formula; g ← listed formula; close; gives (tree.imply f g)
formula_after (reserved words.exists n) = Some do gs ← listed (typed variables); f ← listed formula; close; gives (tree.exists gs f)
formula_after (reserved words.forall n) = Some do gs ← listed (typed variables); f ← listed formula; close; gives (tree.forall gs f)
formula_after _ = None

-- effect  ::= atom | ( not atom ) | ( and effect* ) | ( forall ( variables ) effect ) | ( when formula conditional )
abbrev pub effect_after : Token → Option (Phrase Effect)
effect_after (free f n) = Some do ts ← many term; gives (tree.literal (tree.add (record { predicate = n; terms = ts })))
effect_after (reserved words.not n) = Some do a ← listed atom; close; gives (tree.literal (tree.delete a))
effect_after (reserved words.and n) = Some do es ← many (listed effect_list); gives (tree.both (effects es))
effect_after (reserved words.forall n) = Some do gs ← listed (typed variables); e ← listed effect_list; close; gives (tree.each gs e)
effect_after (reserved words.when n) = Some do f ← listed formula; ls ← listed conditional; close; gives (tree.when f ls)
effect_after _ = None

-- item  ::= ( increase ( total-cost ) amount ) | effect
abbrev pub item_after : Token → Option (Phrase Item)
item_after (reserved words.increase n) = Some do listed total_cost; v ← increase_amount; close; gives (increase (record { word = n; amount = v }))
item_after t = option_map (λ p. and_then p (λ e. gives (change e))) (effect_after t)

-- literal  ::= atom | ( not atom ), under a `when`
abbrev pub literal_after : Token → Option (Phrase EffectLiteral)
literal_after (free f n) = Some do ts ← many term; gives (tree.add (record { predicate = n; terms = ts }))
literal_after (reserved words.not n) = Some do a ← listed conditional_atom; close; gives (tree.delete a)
literal_after _ = None

-- the functions  ::= ( ( function ) [ - number ] )*, and the `)` after them
abbrev pub functions_after : Token → Option (Phrase (List Predicate))
functions_after closes = Some (gives [])
functions_after opens = Some do f ← function_declaration; fs ← function_type; gives (f ∷ fs)
functions_after _ = None

-- where this nonterminal is required and this word comes: what must follow the word, or none if the word may not occur there
abbrev pub after : (s : Sort) → Token → Option (Phrase (Value s))
after close closes = Some (gives tt)
-- NAME, any name; NAME | VARIABLE; KEY
after a_name t = option_map gives (name_in t)
after term (free f n) = Some (gives (tree.object n))
after term (reserved r n) = Some (gives (tree.object n))
after term (variable n) = Some (gives (tree.variable n))
after key (keyword requirement_key) = Some (gives tt)
after (listed s) opens = Some do x ← s; gives x
after (many s) closes = Some (gives [])
after (many s) t = option_map (more s) (after s t)
-- a formula, and precondition  ::= ( ) | formula
after formula t = formula_after t
after precondition_list closes = Some (gives (tree.and (formulas [])))
after precondition_list t = formula_after t
-- an effect, and the value of an `:effect`  ::= ( ) | ( and item* ) | item
after effect_list t = effect_after t
after effect_value closes = Some (gives (value_of_all []))
after effect_value (reserved words.and n) = Some do xs ← many (listed item); gives (value_of_all xs)
after effect_value t = option_map (λ p. and_then p (λ x. gives (value_of x))) (item_after t)
after item t = item_after t
-- conditional  ::= literal | ( and literal* )
after conditional (reserved words.and n) = Some do ls ← many (listed conditional_literal); gives ls
after conditional t = option_map (λ p. and_then p (λ l. gives (l ∷ []))) (literal_after t)
after conditional_literal t = literal_after t
after conditional_atom (free f n) = Some do ts ← many term; gives (record { predicate = n; terms = ts })
-- the words of action costs
after total_cost (reserved words.total_cost n) = Some do close; gives n
after amount (number v n) = Some (gives (v, n))
-- amount  ::= NUMBER | ( FUNCTION-NAME term* )
after increase_amount (number v n) = Some (gives (tree.by_number v))
after increase_amount opens = Some do a ← atom; gives (tree.by_function a)
-- function  ::= total-cost | FUNCTION-NAME variables
after function_declaration (reserved words.total_cost n) = Some do close; gives (record { name = n; parameters = [] })
after function_declaration (free f n) = Some do gs ← typed variables; gives (record { name = n; parameters = gs })
after function_list t = functions_after t
after function_type dash = Some do number_type; fs ← function_list; gives fs
after function_type t = functions_after t
after number_type (free number_word n) = Some (gives tt)
after minimize_word (free words.minimize n) = Some (gives tt)
-- atom  ::= ( PREDICATE-NAME term* )
after atom (free f n) = Some do ts ← many term; gives (record { predicate = n; terms = ts })
-- declaration  ::= ( PREDICATE-NAME variables )
after declaration (free f n) = Some do gs ← typed variables; gives (record { name = n; parameters = gs })
-- fact  ::= ground-atom | ( not ground-atom ) | ( = ( valued ) NUMBER ), ground-atom  ::= ( PREDICATE-NAME NAME* ),
-- valued  ::= total-cost | FUNCTION-NAME NAME*
after fact (free f n) = Some do ns ← many a_name; gives (tree.fact (record { predicate = n; objects = ns }))
after fact (reserved words.not n) = Some do a ← listed ground_atom; close; gives (tree.negated n a)
after fact (equals n) = Some do f ← listed valued; v ← amount; close; gives (initial_fact n f v)
after valued (reserved words.total_cost n) = Some do close; gives (the_total_cost n)
after valued (free f n) = Some do ns ← many a_name; gives (a_function (record { predicate = n; objects = ns }))
after ground_atom (free f n) = Some do ns ← many a_name; gives (record { predicate = n; objects = ns })
-- names  ::= ( NAME+ - type )* NAME*, and variables  ::= ( VARIABLE+ - type )* VARIABLE*, each with its `)`
after (typed l) closes = Some (gives [])
after (typed l) t = option_map (group_after l) (listed_in l t)
after (group l) closes = Some (gives (ends_group [] ∷ []))
after (group l) dash = Some do ts ← type l; gs ← typed l; gives (ends_group ts ∷ gs)
after (group l) t = option_map (group_after l) (listed_in l t)
-- type  ::= NAME, and of variables also ( either NAME+ )
after (type variables) opens = Some do either_word; n ← a_name; ns ← many a_name; gives (n ∷ ns)
after (type l) t = option_map (λ n. gives (n ∷ [])) (name_in t)
after either_word (reserved words.either n) = Some (gives tt)
-- action  ::= ( :action NAME part* ), each part at most once, `:parameters` among them
after action_name t = option_map gives (name_in t)
after (parts seen) closes = cond (has_part seen words.parameters) (Some (gives [])) None
after (parts seen) (keyword (of_part k)) = cond (has_part seen k) None (Some (parts_after seen k))
after (value seen) opens = Some (gives tt)
-- section*, each at most once except `:action`, the required ones included, and the `)` of the file
after (sections f seen) closes = cond (has_all (required_of f) seen) (Some (gives [])) None
after (sections f seen) opens = section_of f seen (left_of (sections_of f) seen)
after (section f k others) (keyword (of_section j)) = cond (has_section (k ∷ others) j) (Some (section_after j)) None
-- file  ::= ( define ( domain NAME ) section* ), or `problem` in place of `domain`
after (file f) opens = Some do define_word; kind_list; kind_word f; n ← a_name; close; ss ← sections f []; gives (tree_from f n (fold with_section no_contents ss))
after define_word (free words.define n) = Some (gives tt)
after kind_list opens = Some (gives tt)
after (kind_word domain_file) (free words.domain n) = Some (gives tt)
after (kind_word problem_file) (free words.problem n) = Some (gives tt)
after _ _ = None

-- ---- the meaning of the grammar for words

-- What the grammar requires derives the words up to the remaining ones, with this tree: the first word has a production, and what
-- must follow it derives the others, in sequence.
mutual
  pub data Derives : (s : Sort) → List Token → Value s → List Token → Type 0 where
    by : {s : Sort} {t : Token} {w r : List Token} {p : Phrase (Value s)} {x : Value s} → after s t ≡ Some p → Follows s p w x r → Derives s (t ∷ w) x r

  pub data Follows : (s : Sort) → Phrase (Value s) → List Token → Value s → List Token → Type 0 where
    nothing : {s : Sort} {w : List Token} {x : Value s} → Follows s (gives x) w x w
    next : {s u : Sort} {w v r : List Token} {k : Value u → Phrase (Value s)} {y : Value u} {x : Value s} → Derives u w y v → Follows s (k y) v x r → Follows s (u >>= k) w x r

-- the words are a file of this kind with this tree
abbrev pub IsFile : TaskFile → List Token → Tree → Type 0
IsFile f w t = Derives (file f) w t []

-- the words are this domain
abbrev pub IsDomain : List Token → Domain → Type 0
IsDomain w d = IsFile domain_file w (domain_tree d)

-- the words are this problem
abbrev pub IsProblem : List Token → Problem → Type 0
IsProblem w p = IsFile problem_file w (problem_tree p)

-- a list of words is a domain, or a problem, in at most one way
abbrev pub EachIsOneDomain : Type 0
EachIsOneDomain = (w : List Token) (d e : Domain) → IsDomain w d → IsDomain w e → d ≡ e

abbrev pub EachIsOneProblem : Type 0
EachIsOneProblem = (w : List Token) (p q : Problem) → IsProblem w p → IsProblem w q → p ≡ q
