-- The step is the one to the next coefficients.
use Rattle.std.proofs.Common.{◌+◌, true, length, sym, refl, subst, arith}
use Rattle.theory.specs.Visits.{coefficients}
use Rattle.choices.specs.Places.{StandsAt, Steps}
use Rattle.choices.proofs.Places.{listed_in, stepped_test}
use Rattle.choices.proofs.NextLists.{free_code, steps_turn, steps_over}
use Rattle.choices.proofs.turns.step_codes.Goals as goal

pub returns-in_default-clause-value : goal.returns-in_default-clause-value
returns-in_default-clause-value c = (refl, steps_over c.args.q c.requires.0 c.args.codes.now c.in_default.ensures.value)

pub turn_at-requires : goal.turn_at-requires
turn_at-requires c =
    let codes = c.args.codes.now in
    let turns = c.in-Some.ensures.value in
    (turns.1, omega (arith, free_code c.args.q c.requires.0 codes (listed_in (coefficients c.args.q (length codes)) codes c.requires.1) c.in-Some.place turns, c.ranges.q))

pub returns : goal.returns
returns c =
    let q = c.args.q in
    let codes = c.args.codes.now in
    let next : Steps (coefficients q (length codes)) true codes c.turn_at.new.codes = λ i s. subst (StandsAt (coefficients q (length codes)) (i + 1)) (sym c.turn_at.ensures.after) (steps_turn q c.requires.0 codes c.in-Some.place c.in-Some.ensures.value i s) in
    record { value = next; stands = stepped_test (coefficients q (length codes)) codes c.turn_at.new.codes c.requires.1 next }
