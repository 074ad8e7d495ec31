-- Without exchanges only equal states are in the same class.
use Rattle.std.proofs.Common.{◌≡◌, ℕ, ◌+◌, List, [], ap, subst}
use Rattle.model.specs.Task.{Task}
use Rattle.model.specs.Runs.{System}
use Rattle.model.specs.Claims.{Claim, Line, IsListedWithin, IsClosed}
use Rattle.model.specs.Meaning.{State}
use Rattle.model.specs.NumberedAtoms.{numbered_atoms}
use Rattle.symmetries_definitions.specs.Orbits.{representative, AreAlike}
use Rattle.certificate_definitions.specs.Certificates.{Certificate, AreAlikeFor}

-- a state is in its own class
pub alike_itself : (task : Task) (c : Certificate) (s r : State) → s ≡ r → AreAlikeFor task c s r
alike_itself task c s r is = ap (representative (numbered_atoms task c.atoms) c.exchanges) is

pub alike_alone : (task : Task) (c : Certificate) → c.exchanges ≡ [] → (s r : State) → AreAlikeFor task c s r → s ≡ r
alike_alone task c none s r is = subst (λ exchanges. AreAlike (numbered_atoms task c.atoms) exchanges s r) none is

-- a listing closed up to one relation is closed up to a wider one
pub closed_wider : {S A : Type 0} (t : System S A) (alike wider : S → S → Type 0) → ((s r : S) → alike s r → wider s r)
    → (claim : Claim) (lines : List (Line S)) → IsClosed t alike claim lines → IsClosed t wider claim lines
closed_wider {S} t alike wider widens claim lines closed = record {
  initial_listed = listed t.initial 0 closed.initial_listed;
  successors_listed = λ line a next among is_open leads. listed next (line.cost + t.cost a) (closed.successors_listed line a next among is_open leads);
  expanded_goals_allowed = closed.expanded_goals_allowed;
  cuts_allowed = closed.cuts_allowed;
}
  where
    listed : (s : S) (cost : ℕ) → IsListedWithin alike lines s cost → IsListedWithin wider lines s cost
    listed s cost (line, among, is, within) = (line, among, widens line.state s is, within)
