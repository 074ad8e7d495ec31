-- The names in a file's tree are names among its words: if each name among the words passes a test, so do those of the tree's
-- predicates, actions, constants and objects.
use Rattle.std.proofs.Common.{◌≡◌, Bool, true, false, ◌&&◌, cond, List, [], ◌∷◌, fold, Option, None, Some, refl, ◌∙◌, ap, subst}
use Rattle.std.specs.Prelude.{⊤}
use Rattle.std.specs.List.{list_all}
use Rattle.std.specs.Option.{option_map, option_map_or}
use Rattle.std.proofs.lemmas.Bool.{and_parts}
use Rattle.std.proofs.lemmas.List.Folds.{list_all-append}
use Rattle.model.specs.Trees.{TaskFile, domain_file, problem_file, Name, Group, Predicate, Action, Domain, Problem, names_of}
use Rattle.model.specs.GrammarWords.{Token, opens, closes, free, keyword, dash, SectionKeyword, of_section}
use Rattle.model.specs.GrammarWords as words
use Rattle.model.specs.Grammar.{Sort, Value, Phrase, gives, ◌>>=◌, Section, requirements, types, constants, predicates, functions, action, domain, objects, init, goal, metric, Part, parameters, precondition, effect, with_part, bare_action, Contents, no_contents, with_section, Tree, domain_tree, problem_tree, tree_from, listed, many, declaration, names, with_name, action_name, typed, group, section, sections, file, group_after, section_after, section_of, name_in, has_section, has_all, required_of, left_of, sections_of, after, Derives, by, Follows, nothing, next, IsDomain, IsProblem}

module _ (passes : Name → Bool) where
  -- the word is not a name, or it is a name that passes
  abbrev pub word_passes : Token → Bool
  word_passes t = option_map_or passes (name_in t) true

  -- each name of these groups passes
  abbrev pub GroupsPass : List Group → Type 0
  GroupsPass groups = list_all passes (names_of groups) ≡ true

  -- each name of these actions
  abbrev pub ActionsPass : List Action → Type 0
  ActionsPass actions = list_all (λ (a : Action). passes a.name) actions ≡ true

  -- each name of these predicates
  abbrev pub PredicatesPass : List Predicate → Type 0
  PredicatesPass qs = list_all (λ (q : Predicate). passes q.name) qs ≡ true

  -- each name of a section's constants, objects or predicates, and that of its action
  abbrev SectionPasses : Section → Type 0
  SectionPasses (constants gs) = GroupsPass gs
  SectionPasses (objects gs) = GroupsPass gs
  SectionPasses (predicates qs) = PredicatesPass qs
  SectionPasses (action a) = passes a.name ≡ true
  SectionPasses _ = ⊤

  abbrev SectionsPass : List Section → Type 0
  SectionsPass [] = ⊤
  SectionsPass (x ∷ xs) = SectionPasses x × SectionsPass xs

  abbrev ContentsPass : Contents → Type 0
  ContentsPass c = GroupsPass c.constants × ActionsPass c.actions × GroupsPass c.objects × PredicatesPass c.predicates

  abbrev pub DomainPasses : Domain → Type 0
  DomainPasses d = GroupsPass d.constants × ActionsPass d.actions × PredicatesPass d.predicates

  abbrev pub ProblemPasses : Problem → Type 0
  ProblemPasses p = GroupsPass p.objects

  abbrev TreePasses : Tree → Type 0
  TreePasses (domain_tree d) = DomainPasses d
  TreePasses (problem_tree p) = ProblemPasses p

  -- the same for what is read from each nonterminal
  abbrev AllPass : (s : Sort) → Value s → Type 0
  AllPass action_name n = passes n ≡ true
  AllPass declaration q = passes q.name ≡ true
  AllPass (listed declaration) q = passes q.name ≡ true
  AllPass (many (listed declaration)) qs = PredicatesPass qs
  AllPass (typed names) gs = GroupsPass gs
  AllPass (group names) gs = GroupsPass gs
  AllPass (section f k others) x = SectionPasses x
  AllPass (sections f seen) xs = SectionsPass xs
  AllPass (file f) t = TreePasses t
  AllPass _ _ = ⊤

  -- if the names in everything that must follow pass, then those in the tree do
  abbrev Keeps : (s : Sort) → Phrase (Value s) → Type 0
  Keeps s (gives x) = AllPass s x
  Keeps s (u >>= k) = (y : Value u) → AllPass u y → Keeps s (k y)

  abbrev KeepsAfter : (s : Sort) → Option (Phrase (Value s)) → Type 0
  KeepsAfter s None = ⊤
  KeepsAfter s (Some p) = Keeps s p

  -- ---- the productions

  -- if no name is involved
  any_keeps : (s : Sort) → ((x : Value s) → AllPass s x) → (p : Phrase (Value s)) → Keeps s p
  any_keeps s each (gives x) = each x
  any_keeps s each (u >>= k) = λ y _. any_keeps s each (k y)

  any_keeps_after : (s : Sort) → ((x : Value s) → AllPass s x) → (o : Option (Phrase (Value s))) → KeepsAfter s o
  any_keeps_after s each None = tt
  any_keeps_after s each (Some p) = any_keeps s each p

  -- one more name in a group
  with_name_passes : (n : Name) (groups : List Group) → passes n ≡ true → GroupsPass groups → GroupsPass (with_name n groups)
  with_name_passes n [] here later = λ i. here i && true
  with_name_passes n (g ∷ groups) here later = λ i. here i && later i

  -- what follows a name in a typed list, one within a group, and an action's name
  typed_keeps : (o : Option Name) → option_map_or passes o true ≡ true → KeepsAfter (typed names) (option_map (group_after names) o)
  typed_keeps None h = tt
  typed_keeps (Some n) h = λ gs later. with_name_passes n gs h later

  group_keeps : (o : Option Name) → option_map_or passes o true ≡ true → KeepsAfter (group names) (option_map (group_after names) o)
  group_keeps None h = tt
  group_keeps (Some n) h = λ gs later. with_name_passes n gs h later

  action_name_keeps : (o : Option Name) → option_map_or passes o true ≡ true → KeepsAfter action_name (option_map gives o)
  action_name_keeps None h = tt
  action_name_keeps (Some n) h = h

  -- the parts of an action do not change its name
  name_with : (a : Action) (p : Part) → (with_part a p).name ≡ a.name
  name_with a (parameters gs) = refl
  name_with a (precondition f) = refl
  name_with a (effect v) = refl

  name_from : (a : Action) (ps : List Part) → (fold with_part a ps).name ≡ a.name
  name_from a [] = refl
  name_from a (p ∷ ps) = name_from (with_part a p) ps ∙ name_with a p

  -- the productions of sections, of one and of a file's
  section_keeps : (f : TaskFile) (k : SectionKeyword) (others : List SectionKeyword) (j : SectionKeyword) → Keeps (section f k others) (section_after j)
  section_keeps f k others words.requirements = λ _ _. tt
  section_keeps f k others words.types = λ gs _. tt
  section_keeps f k others words.constants = λ gs pass. pass
  section_keeps f k others words.predicates = λ qs pass. pass
  section_keeps f k others words.functions = λ ns _. tt
  section_keeps f k others words.action = λ n pass ps _. ap passes (name_from (bare_action n) ps) ∙ pass
  section_keeps f k others words.domain_keyword = λ n _ _ _. tt
  section_keeps f k others words.objects = λ gs pass. pass
  section_keeps f k others words.init = λ fs _. tt
  section_keeps f k others words.goal = λ g _ _ _. tt
  section_keeps f k others words.metric = λ _ _ n _ _ _. tt

  section_keeps_if : (f : TaskFile) (k : SectionKeyword) (others : List SectionKeyword) (j : SectionKeyword) (b : Bool) → KeepsAfter (section f k others) (cond b (Some (section_after j)) None)
  section_keeps_if f k others j true = section_keeps f k others j
  section_keeps_if f k others j false = tt

  sections_end : (f : TaskFile) (seen : List SectionKeyword) (b : Bool) → KeepsAfter (sections f seen) (cond b (Some (gives [])) None)
  sections_end f seen true = tt
  sections_end f seen false = tt

  sections_keep : (f : TaskFile) (seen left : List SectionKeyword) → KeepsAfter (sections f seen) (section_of f seen left)
  sections_keep f seen [] = tt
  sections_keep f seen (k ∷ others) = λ x here xs later. (here, later)

  -- the contents of a file with one more section, and with all
  with_section_passes : (c : Contents) (x : Section) → ContentsPass c → SectionPasses x → ContentsPass (with_section c x)
  with_section_passes c requirements pass here = pass
  with_section_passes c (types gs) pass here = pass
  with_section_passes c (constants gs) pass here = (here, pass.1, pass.2, pass.3)
  with_section_passes c (predicates qs) pass here = (pass.0, pass.1, pass.2, here)
  with_section_passes c (functions ns) pass here = pass
  with_section_passes c (action a) pass here = (
    pass.0,
    list_all-append (λ (b : Action). passes b.name) c.actions (a ∷ []) ∙ (λ i. pass.1 i && (here i && true)),
    pass.2,
    pass.3,
  )
  with_section_passes c (domain n) pass here = pass
  with_section_passes c (objects gs) pass here = (pass.0, pass.1, here, pass.3)
  with_section_passes c (init fs) pass here = pass
  with_section_passes c (goal f) pass here = pass
  with_section_passes c (metric n) pass here = pass

  contents_pass : (c : Contents) (xs : List Section) → ContentsPass c → SectionsPass xs → ContentsPass (fold with_section c xs)
  contents_pass c [] pass each = pass
  contents_pass c (x ∷ xs) pass each = contents_pass (with_section c x) xs (with_section_passes c x pass each.0) each.1

  tree_passes : (f : TaskFile) (n : Name) (c : Contents) → ContentsPass c → TreePasses (tree_from f n c)
  tree_passes domain_file n c pass = (pass.0, pass.1, pass.3)
  tree_passes problem_file n c pass = pass.2

  -- what must follow a word that passes
  after_keeps : (s : Sort) (t : Token) → word_passes t ≡ true → KeepsAfter s (after s t)
  after_keeps action_name t h = action_name_keeps (name_in t) h
  after_keeps declaration (free f n) h = λ gs _. h
  after_keeps declaration t h = tt
  after_keeps (listed declaration) opens h = λ q pass. pass
  after_keeps (listed declaration) t h = tt
  after_keeps (many (listed declaration)) closes h = refl
  after_keeps (many (listed declaration)) opens h = λ q here qs later. λ i. here i && later i
  after_keeps (many (listed declaration)) t h = tt
  after_keeps (typed names) closes h = refl
  after_keeps (typed names) t h = typed_keeps (name_in t) h
  after_keeps (group names) closes h = refl
  after_keeps (group names) dash h = λ ts _ gs later. later
  after_keeps (group names) t h = group_keeps (name_in t) h
  after_keeps (section f k others) (keyword (of_section j)) h = section_keeps_if f k others j (has_section (k ∷ others) j)
  after_keeps (section f k others) t h = tt
  after_keeps (sections f seen) closes h = sections_end f seen (has_all (required_of f) seen)
  after_keeps (sections f seen) opens h = sections_keep f seen (left_of (sections_of f) seen)
  after_keeps (sections f seen) t h = tt
  after_keeps (file f) opens h = λ _ _ _ _ _ _ n _ _ _ xs each. tree_passes f n (fold with_section no_contents xs) (contents_pass no_contents xs (refl, refl, refl, refl) each)
  after_keeps (file f) t h = tt
  after_keeps s t h = any_keeps_after s (λ x. tt) (after s t)

  -- ---- derived words

  mutual
    derived_passes : {s : Sort} {w r : List Token} {x : Value s} → Derives s w x r → list_all word_passes w ≡ true → AllPass s x × (list_all word_passes r ≡ true)
    derived_passes {s} (by {t = t} {w = w} e f) all =
        let both = and_parts (word_passes t) (list_all word_passes w) all in
        followed_passes f (subst (KeepsAfter s) e (after_keeps s t both.0)) both.1

    followed_passes : {s : Sort} {p : Phrase (Value s)} {w r : List Token} {x : Value s} → Follows s p w x r → Keeps s p → list_all word_passes w ≡ true → AllPass s x × (list_all word_passes r ≡ true)
    followed_passes nothing keeps all = (keeps, all)
    followed_passes (next {y = y} d f) keeps all = let here = derived_passes d all in followed_passes f (keeps y here.0) here.1

  -- the names of a domain, and of a problem
  pub domain_passes : (w : List Token) (d : Domain) → IsDomain w d → list_all word_passes w ≡ true → DomainPasses d
  domain_passes w d is all = (derived_passes is all).0

  pub problem_passes : (w : List Token) (p : Problem) → IsProblem w p → list_all word_passes w ≡ true → ProblemPasses p
  problem_passes w p is all = (derived_passes is all).0
