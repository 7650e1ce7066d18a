-- The first choice with the first coefficients is the first visit.
use Rattle.std.proofs.Common.{◌≡◌, ℕ, ◌-◌, ◌^◌, ◌≤◌, Some, true, ltb, ◌&&◌, sym, refl, ◌∙◌, arith}
use Rattle.std.proofs.lemmas.Bool.{and_from, lt-ltb}
use Rattle.theory.specs.Visits.{coefficients}
use Rattle.choices.specs.Places.{StandsAt}
use Rattle.choices.specs.Moves.{StandsAt as ChoiceStandsAt}
use Rattle.choices.specs.Sizes.{level_size, size_told}
use Rattle.choices.specs.Choosing.{chosen, choosable}
use Rattle.choices.specs.Coefficients.{codes_of, has_lists}
use Rattle.choices.specs.LevelVisits.{level_visits}
use Rattle.choices.specs.Levels.{has_level, CounterAt}
use Rattle.choices.specs.declared.choice.Choice.{Choice}
use Rattle.choices.specs.declared.coefficients.Coefficients.{Coefficients}
use Rattle.choices.proofs.RowPlaces.{from_choice}
use Rattle.choices.proofs.Levels.{size_told_for}
use Rattle.choices.proofs.LevelSteps.{first_visit, length_level}
use Rattle.choices.specs.Kept.{KeptChoice, KeptCoefficients, KeptVisit}
use Rattle.choices.proofs.Counters.{level_tells, test_moved, size_moved, counted_level}
use Rattle.choices.proofs.visit_counter.VisitCounter.first.Goals as goal

-- The first choice, the first coefficients and a size that is told and not the largest make the counter at the first visit.
module _ (k t q size : ℕ) (choice : Choice) (list : Coefficients) (c : (choosable k t ≡ true) × (choice.k ≡ k) × (choice.t ≡ t) × ChoiceStandsAt k t 0 (chosen choice)) (l : (has_lists q t ≡ true) × (list.q ≡ q) × (list.t ≡ t) × StandsAt (coefficients q t) 0 (codes_of list)) (told : Some size ≡ size_told k t q) (few : size ≡ 2 ^ 64 - 1 → ⊥) where
  counted : has_level k t q ≡ true
  counted = counted_level k t q c.0 l.0 (omega (arith, (size_told_for k t q size told).1, few))

  limits : (k ≤ 32) × (1 ≤ t) × (t ≤ k) × (2 ≤ q)
  limits = level_tells k t q counted

  stands : StandsAt (level_visits k t q) 0 (chosen choice, codes_of list)
  stands = first_visit k t q (chosen choice) (codes_of list) (from_choice k t 0 (chosen choice) c.3) l.3

  kept : KeptChoice choice → KeptCoefficients list → KeptVisit record { choice = choice; coefficients = list; place = 0; size = size }
  kept rows codes = (rows, codes, c.2 ∙ sym l.2, size_moved c.1 c.2 l.1 size (omega (arith, (size_told_for k t q size told).1, few)), test_moved c.1 c.2 l.1 0 (chosen choice) (codes_of list) stands)

  at : ((has_level k t q && ltb 0 (level_size k t q)) ≡ true) × CounterAt k t q 0 record { choice = choice; coefficients = list; place = 0; size = size }
  at = (and_from (has_level k t q) _ counted (lt-ltb 0 (level_size k t q) (omega (arith, stands.0, length_level k t q limits.1))), (c.1, c.2, l.1, refl, stands))

pub invariant_of-result : goal.invariant_of-result
invariant_of-result c =
    let choice = c.in_ok-choice.ensures in
    let list = c.in_ok-coefficients.ensures in
    kept c.args.level.k c.args.level.t c.args.level.q _ _ _ choice.value list.value c.in_ok-size.ensures.value c.if-size.false choice.kept list.kept

pub returns : goal.returns
returns c =
    let choice = c.in_ok-choice.ensures in
    let list = c.in_ok-coefficients.ensures in
    record { value = at c.args.level.k c.args.level.t c.args.level.q _ _ _ choice.value list.value c.in_ok-size.ensures.value c.if-size.false; kept = kept c.args.level.k c.args.level.t c.args.level.q _ _ _ choice.value list.value c.in_ok-size.ensures.value c.if-size.false choice.kept list.kept }
