-- The forms made so far.
use Rattle.forms.specs.Matrices.{rows_of}
use Rattle.forms.proofs.FormsSoFar.{SoFar}
use Rattle.forms.proofs.generator.GeneratorMatrix.forms.Given as goal

abbrev pub invariant-loop-j : goal.invariant-loop-j
invariant-loop-j g l = SoFar (g.F.Field.meaning l.self.rows.field.now) l.self.rows.matrix.n (rows_of l.self.rows.matrix.k l.self.rows.matrix.n l.self.rows.matrix.codes.now) l.initial.forms l.j l.marks l.forms
