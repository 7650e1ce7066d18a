-- One position more is marked, and then all are.
use Rattle.std.proofs.Common.{◌<◌, true, ◌∙◌, length-set}
use Rattle.std.proofs.ByRecursion.{All-get_or}
use Rattle.forms.proofs.Marks.{marked_more}
use Rattle.forms.proofs.columns.mark.Goals as goal

pub loop-p-preserved : goal.loop-p-preserved
loop-p-preserved c =
    let below = All-get_or (λ p. p < 64) c.args.positions.now c.loop-p.p-index 0 c.loop-p-test.true c.requires in
    (marked_more c.args.marks.now c.args.positions.now c.loop-p.p-index c.from.result c.loop-p.marks c.loop-p-test.true c.loop-p.invariant.1 c.from.ensures below c.loop-p.invariant.0, length-set c.loop-p.marks c.from.result true ∙ c.loop-p.invariant.1)
