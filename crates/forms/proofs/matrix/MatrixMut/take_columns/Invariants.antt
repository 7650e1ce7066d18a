-- The columns taken so far, the places of positions not yet written, and what is left of the order.
use Rattle.std.proofs.Common.{◌≡◌, ◌≤◌, length, take, drop}
use Rattle.forms.specs.Matrices.{rows_of}
use Rattle.forms.specs.Shapes.{SameShape}
use Rattle.forms.proofs.Picking.{Picking}
use Rattle.forms.proofs.matrix.MatrixMut.take_columns.Given as goal

abbrev pub invariant-loop-c : goal.invariant-loop-c
invariant-loop-c g l =
    (l.done ≤ l.initial.self.k)
    × (length l.positions ≡ 32)
    × (drop l.done l.positions ≡ drop l.done l.initial.positions)
    × Picking (g.F.Field.meaning l.field) l.initial.self.n (rows_of l.initial.self.k l.initial.self.n l.initial.self.codes.now) l.order (rows_of l.initial.self.k l.initial.self.n l.self.codes.now) (take l.done l.positions) (drop l.c-index l.order)
    × SameShape l.initial.self l.self
