-- The rows passed are not dependent, and the elimination has come as far.
use Rattle.std.proofs.Common.{ℕ, List}
use Rattle.forms.specs.Matrices.{rows_of}
use Rattle.forms.specs.Elimination.{NoneDependent}
use Rattle.forms.specs.Shapes.{SameShape}
use Rattle.forms.proofs.RowTest.{Tested}
use Rattle.forms.proofs.matrix.MatrixMut.first_dependent.Given as goal

abbrev pub invariant-loop-i : goal.invariant-loop-i
invariant-loop-i g l =
    (ps : List ℕ)
    × Tested (g.F.Field.meaning l.field) l.initial.self.n (rows_of l.initial.self.k l.initial.self.n l.initial.self.codes.now) (rows_of l.initial.self.k l.initial.self.n l.self.codes.now) l.i ps
    × NoneDependent (g.F.Field.meaning l.field) l.initial.self.n (rows_of l.initial.self.k l.initial.self.n l.initial.self.codes.now) l.i
    × SameShape l.initial.self l.self
