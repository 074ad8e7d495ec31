-- Which lists are open after a part without a fault.
use Rattle.std.proofs.Common.{◌≡◌, ℕ, ◌<◌, ◌≤◌, Bool, List, None, subst, ⊎_elim, arith}
use Rattle.std.proofs.lemmas.Bool.{cases_eq, eq-eqb}
use Rattle.tokens.specs.Scanner.{fault_by}
use Rattle.model.specs.Words.{Form, blank, comment, opening, closing, run, stray, open_with}

opens_below : (n : ℕ) (c : Bool) (text : List ℕ) → fault_by n c opening text ≡ None → n ≤ 64 → n < 64
opens_below n c text sound shallow =
    ⊎_elim (λ (e : n ≡ 64). absurd (let t = eq-eqb n 64 e in let u = rw t at sound in cc)) (λ ne. omega arith) (cases_eq n 64)

closes_above : (n : ℕ) (c : Bool) (text : List ℕ) → fault_by n c closing text ≡ None → 0 < n
closes_above n c text sound =
    ⊎_elim (λ (e : n ≡ 0). absurd (let t = eq-eqb n 0 e in let u = rw t at sound in cc)) (λ ne. omega arith) (cases_eq n 0)

pub may_open : (n : ℕ) (c : Bool) (f : Form) (text : List ℕ) → fault_by n c f text ≡ None → n ≤ 64 → f ≡ opening → n < 64
may_open n c f text sound shallow e = opens_below n c text (subst (λ g. fault_by n c g text ≡ None) e sound) shallow

pub may_close : (n : ℕ) (c : Bool) (f : Form) (text : List ℕ) → fault_by n c f text ≡ None → f ≡ closing → 0 < n
may_close n c f text sound e = closes_above n c text (subst (λ g. fault_by n c g text ≡ None) e sound)

pub stays_shallow : (n : ℕ) (c : Bool) (f : Form) (text : List ℕ) → fault_by n c f text ≡ None → n ≤ 64 → open_with n f ≤ 64
stays_shallow n c blank text sound shallow = shallow
stays_shallow n c comment text sound shallow = shallow
stays_shallow n c opening text sound shallow = opens_below n c text sound shallow
stays_shallow n c closing text sound shallow = omega arith
stays_shallow n c run text sound shallow = shallow
stays_shallow n c stray text sound shallow = shallow
