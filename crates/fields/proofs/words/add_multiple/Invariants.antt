-- The symbols so far are those of the sum.
use Rattle.fields.proofs.Symbols.{Written, gained}
use Rattle.fields.proofs.words.add_multiple.Given as goal

abbrev pub invariant-loop-i : goal.invariant-loop-i
invariant-loop-i g l = Written (gained (g.F.Field.meaning l.field) l.factor l.initial.target l.source) l.initial.target l.i l.target
