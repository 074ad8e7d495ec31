-- Classes of the code's words in the model's terms, and the words from an index on.
use Rattle.std.specs.Prelude.{ℕ, nat_le, if◌then◌else◌, List, [], ◌∷◌, map, drop, Option, None, Some, ⊤}
use Rattle.tokens.specs.declared.word.Word.{Word}
use Rattle.tokens.specs.Word.{word_of}
use Rattle.pddl_tree.specs.declared.token.FreeName.{FreeName}
use Rattle.pddl_tree.specs.declared.token.FreeName.TheVariants as free
use Rattle.pddl_tree.specs.declared.token.ReservedName.{ReservedName}
use Rattle.pddl_tree.specs.declared.token.ReservedName.TheVariants as reserved
use Rattle.pddl_tree.specs.declared.token.SectionKeyword.{SectionKeyword}
use Rattle.pddl_tree.specs.declared.token.SectionKeyword.TheVariants as section
use Rattle.pddl_tree.specs.declared.token.PartKeyword.{PartKeyword}
use Rattle.pddl_tree.specs.declared.token.PartKeyword.TheVariants as part
use Rattle.pddl_tree.specs.declared.token.Keyword.{Keyword}
use Rattle.pddl_tree.specs.declared.token.Keyword.TheVariants as keyword
use Rattle.pddl_tree.specs.declared.token.Token.{Token}
use Rattle.pddl_tree.specs.declared.token.Token.TheVariants as token
use Rattle.pddl_tree.specs.Terms.{name_of}
use Rattle.model.specs.Limits.{max_number}
use Rattle.model.specs.GrammarWords as words
use Rattle.model.specs.GrammarWords.{token_of}

abbrev pub free_view : FreeName → words.FreeName
free_view free.Define = words.define
free_view free.Domain = words.domain
free_view free.Problem = words.problem
free_view free.NumberWord = words.number_word
free_view free.Minimize = words.minimize
free_view free.Maximize = words.maximize
free_view free.Ordinary = words.ordinary

abbrev pub reserved_view : ReservedName → words.ReservedName
reserved_view reserved.And = words.and
reserved_view reserved.Or = words.or
reserved_view reserved.Not = words.not
reserved_view reserved.Imply = words.imply
reserved_view reserved.Exists = words.exists
reserved_view reserved.Forall = words.forall
reserved_view reserved.Either = words.either
reserved_view reserved.When = words.when
reserved_view reserved.Increase = words.increase
reserved_view reserved.TotalCost = words.total_cost
reserved_view reserved.LeftOut = words.left_out_name

abbrev pub section_view : SectionKeyword → words.SectionKeyword
section_view section.Requirements = words.requirements
section_view section.Types = words.types
section_view section.Constants = words.constants
section_view section.Predicates = words.predicates
section_view section.Functions = words.functions
section_view section.Action = words.action
section_view section.Domain = words.domain_keyword
section_view section.Objects = words.objects
section_view section.Init = words.init
section_view section.Goal = words.goal
section_view section.Metric = words.metric

abbrev pub part_view : PartKeyword → words.PartKeyword
part_view part.Parameters = words.parameters
part_view part.Precondition = words.precondition
part_view part.Effect = words.effect

abbrev pub keyword_view : Keyword → words.Keyword
keyword_view (keyword.Section k) = words.of_section (section_view k)
keyword_view (keyword.Part k) = words.of_part (part_view k)
keyword_view keyword.Requirement = words.requirement_key
keyword_view keyword.LeftOut = words.left_out_keyword
keyword_view keyword.Unknown = words.unknown_keyword

-- the word, if there is one
abbrev pub seen : Token → Option words.Token
seen token.Open = Some words.opens
seen token.Close = Some words.closes
seen (token.Free f n) = Some (words.free (free_view f) (name_of n))
seen (token.Reserved r n) = Some (words.reserved (reserved_view r) (name_of n))
seen (token.Variable n) = Some (words.variable (name_of n))
seen (token.Keyword k) = Some (words.keyword (keyword_view k))
seen token.Dash = Some words.dash
seen (token.Equals n) = Some (words.equals (name_of n))
seen (token.Number v n) = Some (words.number v (name_of n))
seen token.LargeNumber = Some words.large_number
seen token.End = None

-- a number within the limit
abbrev pub small : ℕ → Option ℕ
small n = if nat_le n max_number then Some n else None

-- the words from an index on
abbrev pub from : List Word → ℕ → List words.Token
from list at = drop at (map (λ w. token_of (word_of w)) list)

abbrev pub first : List words.Token → Option words.Token
first [] = None
first (t ∷ w) = Some t

-- there is a word
abbrev pub IsToken : Option words.Token → Type 0
IsToken (Some t) = ⊤
IsToken None = ⊥
