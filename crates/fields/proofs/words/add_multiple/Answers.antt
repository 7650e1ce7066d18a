-- One symbol more, and the whole word.
use Rattle.std.proofs.Common.{arith}
use Rattle.fields.proofs.Symbols.{plus_all}
use Rattle.fields.proofs.words.add_multiple.Goals as goal

pub returns : goal.returns
returns g c =
    let same = c.if-source-target.false in
    record { after = (same, plus_all (g.F.Field.meaning c.args.field.now) c.args.factor c.args.target.now c.args.source.now c.loop-i.i c.loop-i.target same (omega arith) c.loop-i.invariant) }
