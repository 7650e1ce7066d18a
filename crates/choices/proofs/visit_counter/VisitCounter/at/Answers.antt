-- After as many steps as asked for, the counter stands at that visit.
use Rattle.std.proofs.Common.{◌≡◌, subst, arith}
use Rattle.std.proofs.lemmas.Bool.{and_from, lt-ltb}
use Rattle.choices.specs.Sizes.{level_size}
use Rattle.choices.specs.Levels.{has_level, CounterAt}
use Rattle.choices.proofs.LevelSteps.{length_level}
use Rattle.choices.proofs.Counters.{level_tells}
use Rattle.choices.proofs.visit_counter.VisitCounter.at.Goals as goal

pub returns : goal.returns
returns c =
    let k = c.args.level.k in
    let t = c.args.level.t in
    let q = c.args.level.q in
    let has = c.loop.invariant.0 in
    let here : c.loop.counter ≡ c.args.place = omega (arith, c.loop-test.false, c.loop.auto.counter-end) in
    let at : CounterAt k t q c.args.place c.loop.visit = subst (λ i. CounterAt k t q i c.loop.visit) here c.loop.invariant.1 in
    record { value = (and_from (has_level k t q) _ has (lt-ltb c.args.place (level_size k t q) (omega (arith, at.4.0, length_level k t q (level_tells k t q has).1))), at); kept = c.loop.invariant.2 }
