-- The positions passed are marked, the other marks are as they were, and there are as many marks.
use Rattle.std.proofs.Common.{◌≡◌, length, take}
use Rattle.forms.proofs.Marks.{MarkedToo}
use Rattle.forms.proofs.columns.mark.Given as goal

abbrev pub invariant-loop-p : goal.invariant-loop-p
invariant-loop-p l = MarkedToo l.initial.marks (take l.p-index l.positions) l.marks × (length l.marks ≡ 64)
