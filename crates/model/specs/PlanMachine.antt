-- The syntax of a plan text as a machine that takes its words one by one, to which the plan reader is compared. It stops at the
-- first unexpected word.
use Rattle.std.specs.Prelude.{ℕ, ◌+◌, Bool, cond, List, [], ◌∷◌, ◌++◌}
use Rattle.model.specs.Fault.{Span, Fault}
use Rattle.model.specs.Words.{Form, blank, comment, opening, closing, run, stray, Part, form, bytes, size, is_name}
use Rattle.model.specs.Trees.{Name}
use Rattle.model.specs.PlanText.{Placed, Step, is_stamp}

-- the role that a word may have in a step
pub data Sort : Type 0 where
  an_opening : Sort
  a_closing : Sort
  a_name : Sort
  a_stamp : Sort
  strange : Sort

abbrev pub sort_by : Form → Bool → Bool → Sort
sort_by opening named stamp = an_opening
sort_by closing named stamp = a_closing
sort_by run named stamp = cond named a_name (cond stamp a_stamp strange)
sort_by blank named stamp = strange
sort_by comment named stamp = strange
sort_by stray named stamp = strange

abbrev pub sort_of : Part → Sort
sort_of part = sort_by (form part) (is_name (bytes part)) (is_stamp (bytes part))

-- outside of steps, after the `(` of a step, or after the names of its action and of these objects
pub data PlanPlace : Type 0 where
  outside : PlanPlace
  opened : PlanPlace
  inside : Name → List Name → PlanPlace

-- the effect of a word: it is refused with this number, or the step continues, or it ends
pub data Advance : Type 0 where
  stops : ℕ → Advance
  goes : PlanPlace → Advance
  ends : Step → Advance

abbrev pub turn : PlanPlace → Sort → Name → Advance
turn outside an_opening name = goes opened
turn outside a_closing name = stops 30
turn outside a_name name = stops 30
turn outside a_stamp name = stops 31
turn outside strange name = stops 30
turn opened an_opening name = stops 30
turn opened a_closing name = stops 30
turn opened a_name name = goes (inside name [])
turn opened a_stamp name = stops 30
turn opened strange name = stops 30
turn (inside action objects) an_opening name = stops 30
turn (inside action objects) a_closing name = ends (record { action = action; objects = objects })
turn (inside action objects) a_name name = goes (inside action (objects ++ name ∷ []))
turn (inside action objects) a_stamp name = stops 30
turn (inside action objects) strange name = stops 30

abbrev pub span_at : Placed → Span
span_at word = record { start = word.start; end = word.start + size word.part }

-- the word as a name
abbrev pub name_at : Placed → Name
name_at word = record { text = bytes word.part; span = span_at word }

-- the steps, or the refusal
pub data Outcome : Type 0 where
  reads : List Step → Outcome
  refuses : Fault → Outcome

abbrev pub with_step : Step → Outcome → Outcome
with_step step (reads steps) = reads (step ∷ steps)
with_step step (refuses fault) = refuses fault

abbrev pub with_steps : List Step → Outcome → Outcome
with_steps done (reads steps) = reads (done ++ steps)
with_steps done (refuses fault) = refuses fault

-- a step is open at the end
abbrev pub open_at : ℕ → Fault
open_at end = record { code = 30; span = record { start = end; end = end } }

abbrev pub at_end : ℕ → PlanPlace → Outcome
at_end end outside = reads []
at_end end opened = refuses (open_at end)
at_end end (inside action objects) = refuses (open_at end)

abbrev pub after_turn : Span → Advance → (PlanPlace → Outcome) → Outcome
after_turn span (stops code) rest = refuses (record { code = code; span = span })
after_turn span (goes place) rest = rest place
after_turn span (ends step) rest = with_step step (rest outside)

-- the outcome for these words, from this state, if the text ends at `end`
abbrev pub outcome : ℕ → List Placed → PlanPlace → Outcome
outcome end [] place = at_end end place
outcome end (word ∷ words) place =
    after_turn (span_at word) (turn place (sort_of word.part) (name_at word)) (outcome end words)
