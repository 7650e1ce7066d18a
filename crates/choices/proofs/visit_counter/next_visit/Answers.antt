-- The step of the coefficients, or of the choice with the first coefficients, is the step of the visits.
use Rattle.std.proofs.Common.{◌≡◌, ℕ, ◌+◌, true, List, length, sym, ◌∙◌, subst, ap₂}
use Rattle.theory.specs.Visits.{coefficients}
use Rattle.choices.specs.Places.{StandsAt, Steps}
use Rattle.choices.specs.Choosing.{chosen}
use Rattle.choices.specs.Coefficients.{codes_of}
use Rattle.choices.proofs.RowPlaces.{to_choice, from_choice_steps}
use Rattle.choices.proofs.LevelSteps.{next_coefficients, next_choice, last_visit}
use Rattle.choices.proofs.visit_counter.next_visit.Goals as goal

-- The coefficients stand in the lists for as many rows as the choice has.
over_here : (t s q : ℕ) → t ≡ s → (cs : List ℕ) → ((i : ℕ) → StandsAt (coefficients q s) i cs → i + 1 ≡ length (coefficients q s)) → (i : ℕ) → StandsAt (coefficients q t) i cs → i + 1 ≡ length (coefficients q t)
over_here t s q e cs h = subst (λ r. (i : ℕ) → StandsAt (coefficients q r) i cs → i + 1 ≡ length (coefficients q r)) (sym e) h

pub returns-then-step-clause-value : goal.returns-then-step-clause-value
returns-then-step-clause-value c =
    let choice = c.args.choice.now in
    let list = c.args.coefficients.now in
    let next = codes_of c.step.new.self in
    next_coefficients choice.k choice.t list.q (chosen choice) (codes_of list) next (subst (λ r. Steps (coefficients list.q r) true (codes_of list) next) (sym c.requires) c.if-step.ensures.value)

pub returns-then-not-step-clause-value : goal.returns-then-not-step-clause-value
returns-then-not-step-clause-value c =
    let choice = c.args.choice.now in
    let list = c.args.coefficients.now in
    let over = c.if-step.ensures.value in
    let last = c.if-not-step.ensures.value in (
      ap₂ (λ (x y : List ℕ). (x, y)) last.0 over.0,
      last_visit choice.k choice.t list.q (chosen choice) (codes_of list) (over_here choice.t list.t list.q c.requires (codes_of list) over.1) (λ i s. last.1 i (to_choice choice.k choice.t i (chosen choice) s)),
    )

pub returns-clause-value : goal.returns-clause-value
returns-clause-value c =
    let choice = c.args.choice.now in
    let list = c.args.coefficients.now in
    let kept = c.step.new.self in
    let ones = codes_of c.restart.new.self in
    let over = c.if-step.ensures in
    let first : StandsAt (coefficients list.q choice.t) 0 ones =
    subst (λ r. StandsAt (coefficients list.q r) 0 ones) (over.same.1 ∙ sym c.requires) (subst (λ r. StandsAt (coefficients r kept.t) 0 ones) over.same.0 c.restart.ensures.after) in
    next_choice choice.k choice.t list.q (chosen choice) (codes_of list) (over_here choice.t list.t list.q c.requires (codes_of list) over.value.1) (chosen c.step-2.new.self) ones (from_choice_steps choice.k choice.t true (chosen choice) (chosen c.step-2.new.self) c.if-not-step.ensures.value) first
