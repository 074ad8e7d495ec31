-- Rows of packed states: they agree with literals that hold, and their successors are among the possible ones.
use Rattle.std.proofs.Common.{◌≡◌, ◌∙◌, ℕ, Bool, true, false, not, ◌||◌, List, [], ◌∷◌, ◌++◌, map, Some, refl, sym, ap, subst}
use Rattle.std.specs.Prelude.{Contains, ◌==◌, if◌then◌else◌, cond, filter, is_some}
use Rattle.std.specs.Bool.{beq}
use Rattle.std.specs.List.{list_any, find}
use Rattle.std.specs.Cmp.Lexicographic.{pointwise}
use Rattle.std.proofs.lemmas.List.Elements.{Contains-append_left, Contains-append_right}
use Rattle.model.specs.NumberedLiterals.{NumberedLiteral, NumberedChange}
use Rattle.model.proofs.ListLemmas.{Contains-here, Contains-there, Contains-map, Contains-filter}
use Rattle.lower_bounds.specs.FairPotentials.{may_become}
use Rattle.lower_bounds.proofs.PotentialFalls.{bit}
use Rattle.lower_bounds.specs.TableFunctions.{Row, Table, is_among, projection, row_in, has_rows}
use Rattle.lower_bounds.specs.FairTables.{agrees, agreeing, is_shut_out, afters}
use Rattle.lower_bounds.proofs.TableLists.{all-from, all-at, any-at, none-passes, is_some-is, among-here, among-there, filter-alike, passes-among, same-numbers}

-- ---- the row of a packed state

-- a row that is found belongs to the table and has these atoms
pub row-is : (rows : List Row) (atoms : List ℕ) (row : Row) → find (λ (r : Row). pointwise (λ k number. k == number) r.atoms atoms) rows ≡ Some row → Contains rows row × (row.atoms ≡ atoms)
row-is [] atoms row none = absurd (cc)
row-is (first ∷ rows) atoms row some =
    let same = λ (r : Row). pointwise (λ k number. k == number) r.atoms atoms in
    elim (same first) as (λ b. same first ≡ b → cond b (Some first) (find same rows) ≡ Some row → Contains (first ∷ rows) row × (row.atoms ≡ atoms)) [
      | true ↦ λ alike is.
          let it : first ≡ row = cc in
          (subst (λ r. Contains (first ∷ rows) r) it (Contains-here first rows), subst (λ (r : Row). r.atoms ≡ atoms) it (same-numbers first.atoms atoms alike))
      | false ↦ λ _ later. let rest = row-is rows atoms row later in (Contains-there first rows row rest.0, rest.1)
    ] refl some

-- the projection is right about each atom of the scope
pub projection-bit : (bits : List Bool) (scope : List ℕ) (n : ℕ) → is_among scope n ≡ true → is_among (projection bits scope) n ≡ bit bits n
projection-bit bits scope n there = passes-among (bit bits) scope n there

pub projection-alike : (bits other : List Bool) (scope : List ℕ) → ((n : ℕ) → is_among scope n ≡ true → bit bits n ≡ bit other n) → projection bits scope ≡ projection other scope
projection-alike bits other scope same = filter-alike (bit bits) (bit other) scope same

-- ---- literals that hold

-- each literal of an atom of the scope holds in the packed state
abbrev pub HoldWithin : List NumberedLiteral → List Bool → List ℕ → Type 0
HoldWithin literals bits scope = (l : NumberedLiteral) → Contains literals l → is_among scope l.atom ≡ true → bit bits l.atom ≡ l.value

pub same-itself : (b : Bool) → beq b b ≡ true
same-itself true = refl
same-itself false = refl

pub projection-agrees : (bits : List Bool) (scope : List ℕ) (literals : List NumberedLiteral) → HoldWithin literals bits scope → agrees literals scope (projection bits scope) ≡ true
projection-agrees bits scope literals holding =
    all-from (λ (l : NumberedLiteral). not (is_among scope l.atom) || beq (is_among (projection bits scope) l.atom) l.value) literals (λ l at.
    elim (is_among scope l.atom) as (λ b. is_among scope l.atom ≡ b → (not b || beq (is_among (projection bits scope) l.atom) l.value) ≡ true) [
      | true ↦ λ there. subst (λ b. beq b l.value ≡ true) (sym (projection-bit bits scope l.atom there ∙ holding l at there)) (same-itself l.value)
      | false ↦ λ _. refl
    ] refl)

-- so a packed state's row agrees with literals that hold
pub row-agrees : (bits : List Bool) (literals : List NumberedLiteral) (t : Table) (row : Row) → row_in bits t ≡ Some row → HoldWithin literals bits t.scope
    → Contains (agreeing literals t) row × (agrees literals t.scope row.atoms ≡ true)
row-agrees bits literals t row at holding =
    let found = row-is t.rows (projection bits t.scope) row at in
    let alike : agrees literals t.scope row.atoms ≡ true = ap (agrees literals t.scope) found.1 ∙ projection-agrees bits t.scope literals holding in
    (Contains-filter (λ (r : Row). agrees literals t.scope r.atoms) t.rows row found.0 alike, alike)

-- and if each table has a row, literals that hold are not shut out
pub not-shut_out : (bits : List Bool) (literals : List NumberedLiteral) (tables : List Table) → has_rows tables bits ≡ true
    → ((t : Table) → Contains tables t → HoldWithin literals bits t.scope) → is_shut_out literals tables ≡ false
not-shut_out bits literals tables has holding =
    none-passes (λ (t : Table). not (list_any (λ (r : Row). agrees literals t.scope r.atoms) t.rows)) tables (λ t at.
    let row = is_some-is (row_in bits t) (all-at (λ (u : Table). is_some (row_in bits u)) tables t has at) in
    let found = row-is t.rows (projection bits t.scope) row.0 row.1 in
    ap not (any-at (λ (r : Row). agrees literals t.scope r.atoms) t.rows row.0 found.0 (row-agrees bits literals t row.0 row.1 (holding t at)).1))

-- ---- possible successors

pub contains-after : (changes : List NumberedChange) (before : List ℕ) (after : ℕ → Bool) (scope : List ℕ)
    → ((n : ℕ) → is_among scope n ≡ true → may_become changes n (is_among before n) (after n) ≡ true) → Contains (afters changes scope before) (filter after scope)
contains-after changes before after [] may = Contains-here [] []
contains-after changes before after (x ∷ scope) may =
    let rest = contains-after changes before after scope (λ n there. may n (among-there x scope n there)) in
    let others = afters changes scope before in
    let rises = λ (b : Bool). if b then map (λ r. x ∷ r) others else [] in
    let falls = λ (b : Bool). if b then others else [] in
    let up = may_become changes x (is_among before x) true in
    let down = may_become changes x (is_among before x) false in
    elim (after x) as (λ b. may_become changes x (is_among before x) b ≡ true → Contains (rises up ++ falls down) (cond b (x ∷ filter after scope) (filter after scope))) [
      | true ↦ λ is. Contains-append_left (rises up) (falls down) (x ∷ filter after scope)
          (subst (λ b. Contains (rises b) (x ∷ filter after scope)) (sym is) (Contains-map (λ r. x ∷ r) others (filter after scope) rest))
      | false ↦ λ is. Contains-append_right (rises up) (falls down) (filter after scope)
          (subst (λ b. Contains (falls b) (filter after scope)) (sym is) rest)
    ] (may x (among-here x scope))
