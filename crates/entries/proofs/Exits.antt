-- What the exit of a `?` hands on.
use Rattle.std.proofs.Common.{◌≡◌, Err, Result, ap, ◌∙◌}
use Rattle.std.specs.Result.{IsErrAnd}
use Rattle.std.proofs.lemmas.Result.{err_from_is_err_and}

-- the error of the call is the error returned
pub same_error : {T E : Type 0} (r : Result T E) (e : E) → IsErrAnd r (λ y. y ≡ e) → r ≡ Err e
same_error r e is =
    let p = err_from_is_err_and r is in
    p.1 ∙ ap Err p.2
