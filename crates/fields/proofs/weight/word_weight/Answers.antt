-- One symbol more, and the whole word.
use Rattle.std.proofs.Common.{◌≡◌, ◌-◌, ◌^◌, min, ap, ◌∙◌, arith}
use Rattle.std.proofs.lemmas.List.{take_all}
use Rattle.theory.specs.Codes.{weigh}
use Rattle.fields.proofs.WeightLists.{word_most}
use Rattle.fields.proofs.weight.word_weight.Goals as goal

pub returns-clause-exact : goal.returns-clause-exact
returns-clause-exact g c = λ few.
    let m = g.W.SymbolWeight.meaning c.args.weight.now in
    let whole : c.loop-a.total ≡ min (weigh m c.args.word.now) (2 ^ 32 - 1) = c.loop-a.invariant ∙ ap (λ u. min (weigh m u) (2 ^ 32 - 1)) (take_all _ _ c.loop-a-test.false) in
    omega (arith, whole, word_most m (g.met.W.SymbolWeight.lawful c.args.weight.now) c.args.word.now)
