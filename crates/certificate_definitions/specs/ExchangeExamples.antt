-- Worked examples of certificates with exchanges: which are closed for two interchangeable lamps, and the faults of others.
use Rattle.std.specs.Prelude.{ℕ, false, List, [], ◌∷◌, codes, None}
use Rattle.model.specs.Task.{Atom, variable, atom, and, forall, literal, add, by_number, Schema, Task}
use Rattle.model.specs.Examples.{formulas, lifted, ground, root, untyped, any}
use Rattle.model.specs.Claims.{Claim, bound}
use Rattle.symmetries_definitions.specs.Exchanges.{Exchange}
use Rattle.symmetries_definitions.specs.SymmetryExamples.{swapping}
use Rattle.certificate_definitions.specs.Certificates.{three, StateLine, Certificate, IsClosedFor, no_landmarks}
use Rattle.certificate_definitions.specs.CertificateRefusals.{IsWrongAt, IsWrong, no_initial, successor_missing, successor_dearer}
use Rattle.certificate_definitions.specs.CertificateExamples.{expanded_at, cut_at, zeros}

-- (define (domain lamps) (:predicates (lit ?l)) (:action light :parameters (?l) :effect (lit ?l)))
-- (define (problem two) (:domain lamps) (:objects l m) (:init) (:goal (forall (?l) (lit ?l))))
abbrev pub lit : ℕ → Atom
lit lamp = ground 0 (lamp ∷ [])

abbrev pub light : Schema
light = record {
  name = codes "light";
  parameters = any 1;
  precondition = and (formulas []);
  effect = literal (add (lifted 0 (variable 0 ∷ [])));
  increase = by_number 0;
}

abbrev pub lamps : List Atom → Task
lamps init = record {
  types = root ∷ [];
  objects = untyped (codes "l") ∷ untyped (codes "m") ∷ [];
  predicates = record { name = codes "lit"; arguments = any 1 } ∷ [];
  functions = [];
  schemas = light ∷ [];
  init = init;
  values = [];
  goal = forall (0 ∷ []) (atom (lifted 0 (variable 0 ∷ [])));
  has_metric = false;
}

-- both are initially dark; the second is initially lit
abbrev pub dark : Task
dark = lamps []

abbrev pub second_lit : Task
second_lit = lamps (lit 1 ∷ [])

abbrev pub lamp_atoms : List Atom
lamp_atoms = lit 0 ∷ lit 1 ∷ []

abbrev pub lamps_by : List Exchange → Claim → List StateLine → Certificate
lamps_by exchanges claim lines = record {
  version = three;
  claim = claim;
  exchanges = exchanges;
  atoms = lamp_atoms;
  values = zeros lamp_atoms ∷ [];
  dead_ends = zeros lamp_atoms;
  tables = [];
  landmarks = no_landmarks;
  lines = lines;
}

-- with the exchange of the two lamps, and with none
abbrev pub by_exchange : Claim → List StateLine → Certificate
by_exchange = lamps_by (swapping 0 1 ∷ [])

abbrev pub by_none : Claim → List StateLine → Certificate
by_none = lamps_by []

-- the state in which both are dark is open, and the state in which only the second lamp is lit is a cut
abbrev pub one_of_two : List StateLine
one_of_two = expanded_at 0 [] ∷ cut_at 1 0 (1 ∷ []) ∷ []

-- first the state with only the first lamp lit, at cost 2
abbrev pub dearer_first : List StateLine
dearer_first = expanded_at 0 [] ∷ cut_at 2 0 (0 ∷ []) ∷ cut_at 1 0 (1 ∷ []) ∷ []

pub record AreExchangesJudged : Type 0 where
  -- Of the two states in which one lamp is lit, either may be listed for both.
  pub one_listed : IsClosedFor dark (by_exchange (bound 1) one_of_two)
  pub one_missing : IsWrongAt dark (by_none (bound 1) one_of_two) successor_missing 6
  -- Both may be listed; then the cheaper one counts, wherever it is.
  pub cheaper_counts : IsClosedFor dark (by_exchange (bound 1) dearer_first)
  pub dearer_alone : IsWrongAt dark (by_none (bound 1) dearer_first) successor_dearer 6
  pub both_dearer : IsWrongAt dark (by_exchange (bound 1) (expanded_at 0 [] ∷ cut_at 2 0 (0 ∷ []) ∷ cut_at 2 0 (1 ∷ []) ∷ [])) successor_dearer 7
  -- The initial state need not be its own representative, nor need it be listed itself.
  pub start_listed : IsClosedFor second_lit (by_exchange (bound 0) (cut_at 0 0 (1 ∷ []) ∷ []))
  pub alike_the_start : IsClosedFor second_lit (by_exchange (bound 0) (cut_at 0 0 (0 ∷ []) ∷ []))
  pub start_missing : IsWrong second_lit (by_none (bound 0) (cut_at 0 0 (0 ∷ []) ∷ [])) None 1 no_initial
