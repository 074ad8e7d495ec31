-- Limits: of the language profile on domains and problems, of grounding on numbered atoms, and on plans and searches. Each is the
-- greatest allowed number.
use Rattle.std.specs.Prelude.{ℕ}

-- types declared by a domain, not counting `object`
abbrev pub max_types : ℕ
max_types = 4095

-- constants and objects together
abbrev pub max_objects : ℕ
max_objects = 65535

-- arguments of a predicate
abbrev pub max_arguments : ℕ
max_arguments = 8

-- variables in scope at once, including the parameters of an action
abbrev pub max_variables : ℕ
max_variables = 16

-- the greatest number in a file
abbrev pub max_number : ℕ
max_number = 2147483647

-- numbered atoms of a ground task
abbrev pub max_numbered_atoms : ℕ
max_numbered_atoms = 1048576

-- instances in a plan
abbrev pub max_steps : ℕ
max_steps = 16777216

-- states listed by a search
abbrev pub max_states_listed : ℕ
max_states_listed = 16777216
