-- The step is the one to the next choice.
use Rattle.std.proofs.Common.{◌≡◌, ℕ, true, List, length, sym, refl, subst, arith}
use Rattle.theory.specs.Visits.{choices}
use Rattle.choices.specs.Places.{Steps, listed}
use Rattle.choices.specs.Moves.{Steps as ChoiceSteps}
use Rattle.choices.specs.Choosing.{OneExchanged}
use Rattle.choices.proofs.Places.{stepped_test}
use Rattle.choices.proofs.RowPlaces.{from_choice, to_choice_steps}
use Rattle.choices.proofs.NextChoices.{row_below, steps_exchange, steps_up, steps_down, steps_none}
use Rattle.choices.proofs.steps.step_rows.Goals as goal

-- What is told of a step from some rows to the next.
module _ (k : ℕ) (rows next written : List ℕ) (h : listed (choices k (length rows)) rows ≡ true) (f : Steps (choices k (length rows)) true rows next) (e : written ≡ next) where
  steps : Steps (choices k (length rows)) true rows written
  steps = subst (Steps (choices k (length rows)) true rows) (sym e) f

  told : ChoiceSteps k (length rows) true rows written × OneExchanged rows written × (listed (choices k (length rows)) written ≡ true)
  told = (to_choice_steps k (length rows) true rows written steps, steps_exchange k (length rows) rows written h steps, stepped_test (choices k (length rows)) rows written h steps)

pub returns-in_default-clause-value : goal.returns-in_default-clause-value
returns-in_default-clause-value c = (refl, λ i s. steps_none c.args.k c.args.rows.now c.in_default.ensures.value i (from_choice c.args.k (length c.args.rows.now) i c.args.rows.now s))

pub raise_row-requires : goal.raise_row-requires
raise_row-requires c =
    let inside = c.in-Some.ensures.value.0 in
    (inside, omega (arith, row_below c.args.k c.args.rows.now c.requires.1 c.in-Some.place inside, c.requires.0))

pub returns-then-row_goes_up : goal.returns-then-row_goes_up
returns-then-row_goes_up c =
    let step = told c.args.k _ _ _ c.requires.1 (steps_up c.args.k c.args.rows.now c.in-Some.place c.in-Some.ensures.value (sym c.if-row_goes_up.ensures.value)) c.raise_row.ensures.after in
    record { value = step.0; exchange = λ _. step.1; stands = step.2 }

pub returns-else-row_goes_up : goal.returns-else-row_goes_up
returns-else-row_goes_up c =
    let step = told c.args.k _ _ _ c.requires.1 (steps_down c.args.k c.args.rows.now c.in-Some.place c.in-Some.ensures.value (sym c.if-row_goes_up.ensures.value)) c.lower_row.ensures.after in
    record { value = step.0; exchange = λ _. step.1; stands = step.2 }
