-- What a call returns when it passes on the error of another call.
use Rattle.std.specs.Prelude.{◌≡◌, IfOk, IfErr, Result, Ok, Err}
use Rattle.std.specs.Result.{IsErrAnd}
use Rattle.std.proofs.lemmas.Result.{err_from_is_err_and}

-- what holds of an error also holds of the error that `?` passes on
pub passed_on : {T E : Type 0} (P : E → Type 0) (r : Result T E) (x : E) → IsErrAnd r (λ y. y ≡ x) → P x → IfErr r P
passed_on P r x h p =
    let is = err_from_is_err_and r h in
    rw (is.1, is.2) p

-- what follows from an `Ok`, and what from an `Err`
pub if_ok : {T E : Type 0} {P Q : T → Type 0} (r : Result T E) → ((x : T) → P x → Q x) → IfOk r P → IfOk r Q
if_ok (Ok x) f h = f x h
if_ok (Err e) f h = tt

pub if_err : {T E : Type 0} {P Q : E → Type 0} (r : Result T E) → ((e : E) → P e → Q e) → IfErr r P → IfErr r Q
if_err (Ok x) f h = tt
if_err (Err e) f h = f e h
