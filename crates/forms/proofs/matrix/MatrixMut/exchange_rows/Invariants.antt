-- The columns so far have changed places.
use Rattle.forms.specs.Shapes.{SameShape}
use Rattle.forms.proofs.Exchanges.{PartlyExchanged}
use Rattle.forms.proofs.matrix.MatrixMut.exchange_rows.Given as goal

abbrev pub invariant-loop-c : goal.invariant-loop-c
invariant-loop-c l = PartlyExchanged l.initial.self.n l.initial.self.codes.now l.i l.j l.c l.self.codes.now × SameShape l.initial.self l.self
