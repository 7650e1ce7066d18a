-- The two commas and the three numbers.
use Rattle.std.proofs.Common.{rules, ◌≡◌, Err, Result, ap, ◌∙◌}
use Rattle.std.specs.Result.{IsErrAnd}
use Rattle.std.proofs.lemmas.Result.{err_from_is_err_and}
use Rattle.records.proofs.Cut.{cut, read_whole, both_commas, second_missing}
use Rattle.records.proofs.text.TrailRecordFromStr.from_str.Goals as goal

-- the error of the call is the error returned
same_error : {T E : Type 0} (r : Result T E) (e : E) → IsErrAnd r (λ y. y ≡ e) → r ≡ Err e
same_error r e is =
    let p = err_from_is_err_and r is in
    p.1 ∙ ap Err p.2

pub returns : goal.returns
returns c =
    let first = cut c.args.text.now _ c.split_once.ensures.cases _ c.in_ok-form.ensures.ok_part in
    let second = cut c.in_ok-form.rest.now _ c.split_once-2.ensures.cases _ c.in_ok-visits.ensures.ok_part in
    (read_whole _ _ _ _ _ first second _ _ _ c.in_ok-parse.ensures.value.0 c.in_ok-parse-2.ensures.value.0 c.in_ok-parse-3.ensures.value.0, tt)

pub returns-in_err-visits : goal.returns-in_err-visits
returns-in_err-visits c =
    let first = cut c.args.text.now _ c.split_once.ensures.cases _ c.in_ok-form.ensures.ok_part in
    rw (same_error _ _ c.from_residual-in_err-visits.ensures.1) (second_missing _ _ _ first _ c.split_once-2.ensures.cases _ c.in_err-visits.ensures.value)

pub returns-in_err-parse-2 : goal.returns-in_err-parse-2
returns-in_err-parse-2 c =
    let first = cut c.args.text.now _ c.split_once.ensures.cases _ c.in_ok-form.ensures.ok_part in
    let second = cut c.in_ok-form.rest.now _ c.split_once-2.ensures.cases _ c.in_ok-visits.ensures.ok_part in
    (search rules, rw (same_error _ _ c.from_residual-in_err-parse-2.ensures.1) (both_commas _ _ _ _ _ first second))

pub returns-in_err-parse-3 : goal.returns-in_err-parse-3
returns-in_err-parse-3 c =
    let first = cut c.args.text.now _ c.split_once.ensures.cases _ c.in_ok-form.ensures.ok_part in
    let second = cut c.in_ok-form.rest.now _ c.split_once-2.ensures.cases _ c.in_ok-visits.ensures.ok_part in
    (search rules, rw (same_error _ _ c.from_residual-in_err-parse-3.ensures.1) (both_commas _ _ _ _ _ first second))
