-- Words as the grammar of domain and problem files sees them: after folding to lower case, a name is one that the grammar knows
-- or any other, and so is a keyword.
use Rattle.std.specs.Prelude.{ℕ, ◌+◌, ◌-◌, ◌*◌, Bool, nat_le, List, [], ◌∷◌, map, fold, codes, if◌then◌else◌}
use Rattle.std.specs.List.{list_any}
use Rattle.std.specs.Str.{bytes_eq, str_to_ascii_lowercase}
use Rattle.model.specs.Words.{Word, Kind, end_of}
use Rattle.model.specs.Words as words
use Rattle.model.specs.Trees.{Name}
use Rattle.model.specs.Limits.{max_number}

-- a name that may name a predicate: one that the grammar uses somewhere, `maximize`, which has a refusal of its own in `:metric`,
-- or any other
pub data FreeName : Type 0 where
  define : FreeName
  domain : FreeName
  problem : FreeName
  number_word : FreeName
  minimize : FreeName
  maximize : FreeName
  ordinary : FreeName

-- a name that heads a formula, an effect or a type in PDDL, and so cannot name a predicate
pub data ReservedName : Type 0 where
  and : ReservedName
  or : ReservedName
  not : ReservedName
  imply : ReservedName
  exists : ReservedName
  forall : ReservedName
  either : ReservedName
  when : ReservedName
  increase : ReservedName
  total_cost : ReservedName
  -- the name of an unsupported construct of PDDL
  left_out_name : ReservedName

-- the keywords of a file's sections
pub data SectionKeyword : Type 0 where
  requirements : SectionKeyword
  types : SectionKeyword
  constants : SectionKeyword
  predicates : SectionKeyword
  functions : SectionKeyword
  action : SectionKeyword
  domain_keyword : SectionKeyword
  objects : SectionKeyword
  init : SectionKeyword
  goal : SectionKeyword
  metric : SectionKeyword

-- the keywords of an action's parts
pub data PartKeyword : Type 0 where
  parameters : PartKeyword
  precondition : PartKeyword
  effect : PartKeyword

-- a keyword: of a section, of a part, or of neither
pub data Keyword : Type 0 where
  of_section : SectionKeyword → Keyword
  of_part : PartKeyword → Keyword
  -- a key of `:requirements`
  requirement_key : Keyword
  -- the keyword of an unsupported section or part of PDDL
  left_out_keyword : Keyword
  unknown_keyword : Keyword

-- A word. Any name may name an object or an action, so each has its bytes and its place.
pub data Token : Type 0 where
  opens : Token
  closes : Token
  free : FreeName → Name → Token
  reserved : ReservedName → Name → Token
  variable : Name → Token
  keyword : Keyword → Token
  dash : Token
  equals : Name → Token
  -- a number, and one that is over 2,147,483,647
  number : ℕ → Name → Token
  large_number : Token

-- the word as a name in trees
abbrev pub name_from : Word → Name
name_from w = record { text = w.text; span = record { start = w.start; end = end_of w } }

-- the text is one of these
abbrev pub is_among : List ℕ → List (List ℕ) → Bool
is_among text list = list_any (bytes_eq text) list

-- the names of unsupported constructs
abbrev pub left_out_names : List (List ℕ)
left_out_names = codes "preference" ∷ codes "assign" ∷ codes "decrease" ∷ codes "scale-up" ∷ codes "scale-down" ∷ []

-- the keys that `:requirements` may have
abbrev pub requirement_keys : List (List ℕ)
requirement_keys = codes ":strips" ∷ codes ":typing" ∷ codes ":equality" ∷ codes ":negative-preconditions" ∷ codes ":disjunctive-preconditions" ∷ codes ":existential-preconditions" ∷ codes ":universal-preconditions" ∷ codes ":quantified-preconditions" ∷ codes ":conditional-effects" ∷ codes ":adl" ∷ codes ":action-costs" ∷ codes ":fluents" ∷ codes ":numeric-fluents" ∷ []

-- the keywords of unsupported sections and parts
abbrev pub left_out_keywords : List (List ℕ)
left_out_keywords = codes ":durative-action" ∷ codes ":derived" ∷ codes ":constraints" ∷ codes ":axiom" ∷ codes ":safety" ∷ codes ":timeless" ∷ codes ":extends" ∷ codes ":situation" ∷ codes ":length" ∷ codes ":vars" ∷ codes ":duration" ∷ codes ":condition" ∷ codes ":expansion" ∷ codes ":method" ∷ []

-- the class of a name, by its folded text
abbrev pub named : List ℕ → Name → Token
named text =
    if bytes_eq text (codes "and") then reserved and
    else (if bytes_eq text (codes "or") then reserved or
    else (if bytes_eq text (codes "not") then reserved not
    else (if bytes_eq text (codes "imply") then reserved imply
    else (if bytes_eq text (codes "exists") then reserved exists
    else (if bytes_eq text (codes "forall") then reserved forall
    else (if bytes_eq text (codes "either") then reserved either
    else (if bytes_eq text (codes "when") then reserved when
    else (if bytes_eq text (codes "increase") then reserved increase
    else (if bytes_eq text (codes "total-cost") then reserved total_cost
    else (if bytes_eq text (codes "define") then free define
    else (if bytes_eq text (codes "domain") then free domain
    else (if bytes_eq text (codes "problem") then free problem
    else (if bytes_eq text (codes "number") then free number_word
    else (if bytes_eq text (codes "minimize") then free minimize
    else (if bytes_eq text (codes "maximize") then free maximize
    else (if is_among text left_out_names then reserved left_out_name
    else free ordinary))))))))))))))))

-- the class of a folded keyword that begins no section and no part
abbrev pub other_keyword_of : List ℕ → Keyword
other_keyword_of text =
    if is_among text requirement_keys then requirement_key
    else (if is_among text left_out_keywords then left_out_keyword else unknown_keyword)

-- the class of a folded keyword
abbrev pub keyword_of : List ℕ → Keyword
keyword_of text =
    if bytes_eq text (codes ":action") then of_section action
    else (if bytes_eq text (codes ":parameters") then of_part parameters
    else (if bytes_eq text (codes ":precondition") then of_part precondition
    else (if bytes_eq text (codes ":effect") then of_part effect
    else (if bytes_eq text (codes ":requirements") then of_section requirements
    else (if bytes_eq text (codes ":types") then of_section types
    else (if bytes_eq text (codes ":constants") then of_section constants
    else (if bytes_eq text (codes ":predicates") then of_section predicates
    else (if bytes_eq text (codes ":functions") then of_section functions
    else (if bytes_eq text (codes ":domain") then of_section domain_keyword
    else (if bytes_eq text (codes ":objects") then of_section objects
    else (if bytes_eq text (codes ":init") then of_section init
    else (if bytes_eq text (codes ":goal") then of_section goal
    else (if bytes_eq text (codes ":metric") then of_section metric
    else other_keyword_of text)))))))))))))

-- the number that these digits denote
abbrev pub number_of_digits : List ℕ → ℕ
number_of_digits digits = fold (λ n digit. n * 10 + (digit - 48)) 0 digits

-- a number, unless it is too large
abbrev pub number_from : ℕ → Name → Token
number_from n word = if nat_le n max_number then number n word else large_number

-- a word of this kind, with its folded text, and as a name
abbrev pub token_from : Kind → List ℕ → Name → Token
token_from words.name text n = named text n
token_from words.variable text n = variable n
token_from words.keyword text n = keyword (keyword_of text)
token_from words.number text n = number_from (number_of_digits text) n
token_from words.dash text n = dash
token_from words.equals text n = equals n
token_from words.opens text n = opens
token_from words.closes text n = closes

-- the class of a word for the grammar
abbrev pub token_of : Word → Token
token_of w = token_from w.kind (str_to_ascii_lowercase w.text) (name_from w)

abbrev pub tokens_of : List Word → List Token
tokens_of words = map token_of words
