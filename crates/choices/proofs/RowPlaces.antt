-- The places of choices of t rows out of k are the places of the list of them.
use Rattle.std.proofs.Common.{ℕ, ◌+◌, Bool, true, false, List, []}
use Rattle.theory.specs.Visits.{choices}
use Rattle.choices.specs.Places.{StandsAt, Steps}
use Rattle.choices.specs.Moves.{StandsAt as ChoiceStandsAt, Steps as ChoiceSteps}
use Rattle.choices.proofs.Places.{stands_by}

module _ (k t : ℕ) where
  pub to_choice : (i : ℕ) (c : List ℕ) → StandsAt (choices k t) i c → ChoiceStandsAt k t i c
  to_choice i c s = (s.0, s.1 [])

  pub from_choice : (i : ℕ) (c : List ℕ) → ChoiceStandsAt k t i c → StandsAt (choices k t) i c
  from_choice i c s = stands_by (choices k t) i c [] s.0 s.1

  pub to_choice_steps : (r : Bool) (c d : List ℕ) → Steps (choices k t) r c d → ChoiceSteps k t r c d
  to_choice_steps true c d f = λ i s. to_choice (i + 1) d (f i (from_choice i c s))
  to_choice_steps false c d f = (f.0, λ i s. f.1 i (from_choice i c s))

  pub from_choice_steps : (r : Bool) (c d : List ℕ) → ChoiceSteps k t r c d → Steps (choices k t) r c d
  from_choice_steps true c d f = λ i s. from_choice (i + 1) d (f i (to_choice i c s))
  from_choice_steps false c d f = (f.0, λ i s. f.1 i (to_choice i c s))
