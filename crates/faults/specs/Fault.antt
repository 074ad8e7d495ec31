-- The codes' numbers and names.
use Rattle.std.specs.Prelude.{ℕ, ◌==◌, if◌then◌else◌, List, [], ◌∷◌, codes}
use Rattle.faults.specs.declared.code.Code.{Code}
use Rattle.faults.specs.declared.code.Code.TheVariants.{BadByte, BadWord, Unbalanced, TooDeep, TooLong, Trailing, BadForm, UnknownSection, RepeatedSection, MissingSection, UnknownRequirement, LeftOut, NumberTooLarge, UnknownType, TypeCycle, Duplicate, UnknownName, WrongArity, WrongType, Shadowed, DomainMismatch, BadMetric, BadCost, NegativeInit, TooMany, PlanForm, TimedStep, UnknownAction, StepArity, StepType}

abbrev pub number_of : Code → ℕ
number_of BadByte = 1
number_of BadWord = 2
number_of Unbalanced = 3
number_of TooDeep = 4
number_of TooLong = 5
number_of Trailing = 6
number_of BadForm = 7
number_of UnknownSection = 8
number_of RepeatedSection = 9
number_of MissingSection = 10
number_of UnknownRequirement = 11
number_of LeftOut = 12
number_of NumberTooLarge = 13
number_of UnknownType = 14
number_of TypeCycle = 15
number_of Duplicate = 16
number_of UnknownName = 17
number_of WrongArity = 18
number_of WrongType = 19
number_of Shadowed = 20
number_of DomainMismatch = 21
number_of BadMetric = 22
number_of BadCost = 23
number_of NegativeInit = 24
number_of TooMany = 25
number_of PlanForm = 30
number_of TimedStep = 31
number_of UnknownAction = 32
number_of StepArity = 33
number_of StepType = 34

-- the names of the codes, by their numbers
abbrev pub names : List (ℕ × List ℕ)
names =
    (1, codes "BadByte") ∷
    (2, codes "BadWord") ∷
    (3, codes "Unbalanced") ∷
    (4, codes "TooDeep") ∷
    (5, codes "TooLong") ∷
    (6, codes "Trailing") ∷
    (7, codes "BadForm") ∷
    (8, codes "UnknownSection") ∷
    (9, codes "RepeatedSection") ∷
    (10, codes "MissingSection") ∷
    (11, codes "UnknownRequirement") ∷
    (12, codes "LeftOut") ∷
    (13, codes "NumberTooLarge") ∷
    (14, codes "UnknownType") ∷
    (15, codes "TypeCycle") ∷
    (16, codes "Duplicate") ∷
    (17, codes "UnknownName") ∷
    (18, codes "WrongArity") ∷
    (19, codes "WrongType") ∷
    (20, codes "Shadowed") ∷
    (21, codes "DomainMismatch") ∷
    (22, codes "BadMetric") ∷
    (23, codes "BadCost") ∷
    (24, codes "NegativeInit") ∷
    (25, codes "TooMany") ∷
    (30, codes "PlanForm") ∷
    (31, codes "TimedStep") ∷
    (32, codes "UnknownAction") ∷
    (33, codes "StepArity") ∷
    (34, codes "StepType") ∷
    []

-- the name that a list of names has for this number
abbrev pub name_in : List (ℕ × List ℕ) → ℕ → List ℕ
name_in [] number = codes ""
name_in ((n, name) ∷ rest) number = if n == number then name else name_in rest number
