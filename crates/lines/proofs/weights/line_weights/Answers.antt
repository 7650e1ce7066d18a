-- One multiple more, and all multiples.
use Rattle.std.proofs.Common.{◌≡◌, ◌+◌, ◌-◌, arith}
use Rattle.lines.proofs.Multiples.{weighed-more, exact_line}
use Rattle.lines.proofs.weights.line_weights.Goals as goal

pub loop-factor-preserved : goal.loop-factor-preserved
loop-factor-preserved g c =
    let h = c.loop-factor.invariant in
    let high = (g.met.F.Field.lawful c.args.field.now).high in
    (h.0 + 1, omega (arith, h.1), weighed-more _ _ _ h.0 _ c.from.result _ _ _ _ h.2 h.1 (omega (arith, h.1, c.from.ensures)) (omega (arith, h.1, high, c.loop-factor-test.true, c.order-factor-end.ensures.value)) c.multiple_weight-next.ensures.value c.min-least.ensures)

pub returns-clause-exact : goal.returns-clause-exact
returns-clause-exact g c =
    let h = c.loop-factor.invariant in
    let low = (g.met.F.Field.lawful c.args.field.now).low in
    let last : h.0 ≡ (g.F.Field.meaning c.args.field.now).order - 1 = omega (arith, h.1, low, c.loop-factor-test.false, c.loop-factor.auto.factor-end, c.order-factor-end.ensures.value) in
    λ few. exact_line _ _ _ (g.met.W.SymbolWeight.lawful c.args.weight.now) few h.0 c.from-2.result _ _ last (omega (arith, last, c.from-2.ensures, c.order.ensures.value)) h.2
