-- One column more, and the whole rows.
use Rattle.forms.proofs.Flat.{has_row}
use Rattle.forms.proofs.Exchanges.{exchanged_more, exchanged_all}
use Rattle.forms.proofs.matrix.MatrixMut.exchange_rows.Goals as goal

pub loop-c-preserved : goal.loop-c-preserved
loop-c-preserved c =
    let m = c.args.self.now in
    let there = has_row m.n m.k m.codes.now in
    (exchanged_more m.n m.codes.now c.args.i c.args.j (there c.args.i m.whole c.requires.0) (there c.args.j m.whole c.requires.1) c.loop-c.c c.loop-c-test.true c.loop-c.self.codes.now c.swap.new.self c.loop-c.invariant.0 c.swap.ensures.after, c.loop-c.invariant.1)

pub returns-clause-after : goal.returns-clause-after
returns-clause-after c =
    let m = c.args.self.now in
    let there = has_row m.n m.k m.codes.now in
    exchanged_all m.n m.codes.now c.args.i c.args.j (there c.args.i m.whole c.requires.0) (there c.args.j m.whole c.requires.1) c.loop-c.c c.loop-c.self.codes.now c.loop-c-test.false c.loop-c.invariant.0
