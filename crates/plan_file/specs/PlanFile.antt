-- The words and steps of a plan text in the code, in the model's terms.
use Rattle.std.specs.Prelude.{◌≡◌, List, ◌∷◌, ◌++◌, map, Option, None, Some, IfSome}
use Rattle.plan_file.specs.declared.word.Sort.{Sort}
use Rattle.plan_file.specs.declared.word.Sort.TheVariants.{Open, Close, Name, Stamp, Other}
use Rattle.tokens.specs.declared.lexeme.Lexeme.{Lexeme}
use Rattle.tokens.specs.Lexeme.{placed_of}
use Rattle.plan_file.specs.declared.text.PlanPlace.{PlanPlace}
use Rattle.plan_file.specs.declared.text.PlanPlace.TheVariants.{Outside, Opened, Inside}
use Rattle.plan_file.specs.declared.text.Advance.{Advance}
use Rattle.plan_file.specs.declared.text.Advance.TheVariants.{Goes, Ends}
use Rattle.plan_file.specs.declared.steps.Meaning.{Meaning}
use Rattle.tokens.specs.Reported.{reported_by}
use Rattle.faults.specs.declared.refused.TextRefusal.{TextRefusal}
use Rattle.faults.specs.declared.refused.Refused.TheVariants.{At}
use Rattle.formulas.specs.State.{instance_of}
use Rattle.model.specs.Fault.{Span, Fault}
use Rattle.model.specs.Trees as tree
use Rattle.model.specs.PlanText as text
use Rattle.model.specs.Task.{Union, Task, Instance}
use Rattle.model.specs.PlanText.{NamesObject, NameObjects, AllMean, IsStepFault}
use Rattle.model.specs.PlanMachine as machine

abbrev pub sort_of : Sort → machine.Sort
sort_of Open = machine.an_opening
sort_of Close = machine.a_closing
sort_of Name = machine.a_name
sort_of Stamp = machine.a_stamp
sort_of Other = machine.strange

abbrev pub span_of : Lexeme → Span
span_of word = machine.span_at (placed_of word)

abbrev pub name_of : Lexeme → tree.Name
name_of word = machine.name_at (placed_of word)

-- the step with this action and these objects
abbrev pub step_of : Lexeme → List Lexeme → text.Step
step_of action objects = record { action = name_of action; objects = map name_of objects }

-- the parser's state, with these names of the open step's objects
abbrev pub place_of : PlanPlace → List Lexeme → machine.PlanPlace
place_of Outside objects = machine.outside
place_of Opened objects = machine.opened
place_of (Inside action) objects = machine.inside (name_of action) (map name_of objects)

abbrev pub turn_of : Advance → List Lexeme → machine.Advance
turn_of (Goes place) objects = machine.goes (place_of place objects)
turn_of (Ends action) objects = machine.ends (step_of action objects)

-- reading stops at the word, with this number, and its span is reported
abbrev pub ReportsStop : machine.Advance → Span → Fault → Type 0
ReportsStop t span fault = (t ≡ machine.stops fault.code) × (fault.span ≡ span)

-- the name is not that of an object of one of these types, and this fault is reported for it
pub record IsNoObject (task : Task) (types : Union) (name : tree.Name) (fault : Fault) : Type 0 where
  pub is_none : NamesObject task types name → ⊥
  pub code : fault.code ≡ 34
  pub span : fault.span ≡ name.span

-- the first of these names that is not that of an object of the types at its index, and the fault reported for it
pub record IsWrongObject (task : Task) (unions : List Union) (names : List tree.Name) (fault : Fault) : Type 0 where
  pub before : List tree.Name
  pub after : List tree.Name
  pub name : tree.Name
  pub theirs : List Union
  pub others : List Union
  pub types : Union
  pub names_in_order : names ≡ before ++ name ∷ after
  pub types_in_order : unions ≡ theirs ++ types ∷ others
  pub objects_before : NameObjects task theirs before
  pub wrong : IsNoObject task types name fault

-- the first faulty step of these, and its fault
pub record IsFirstFault (task : Task) (steps : List text.Step) (fault : Fault) : Type 0 where
  pub before : List text.Step
  pub after : List text.Step
  pub step : text.Step
  pub plan : List Instance
  pub in_order : steps ≡ before ++ step ∷ after
  pub mean : AllMean task before plan
  pub wrong : IsStepFault task step fault

-- the steps name these instances, or the first faulty one is refused like this
abbrev pub MeanOrRefused : Task → List text.Step → Option TextRefusal → List Instance → Type 0
MeanOrRefused task steps None plan = AllMean task steps plan
MeanOrRefused task steps (Some refusal) plan = IfSome (reported_by (At refusal)) (IsFirstFault task steps)

-- the meaning of these steps
abbrev pub IsMeaning : Task → List text.Step → Meaning → Type 0
IsMeaning task steps meaning = MeanOrRefused task steps meaning.refusal (map instance_of meaning.instances.items)
