-- The weights of the symbols, added one by one.
use Rattle.std.proofs.Common.{rules}
use Rattle.lines.proofs.Multiples.{added_weights}
use Rattle.lines.proofs.weights.multiple_weight.Goals as goal

pub returns : goal.returns
returns g c = record { value = added_weights (g.F.Field.meaning c.args.field.now) (g.W.SymbolWeight.meaning c.args.weight.now) c.args.word.now c.args.factor c.fold.result (search rules) }
