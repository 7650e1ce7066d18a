-- The columns that passed so far stand from the first place on.
use Rattle.forms.proofs.Marks.{Put, wants}
use Rattle.forms.proofs.columns.put_columns.Given as goal

abbrev pub invariant-loop-c : goal.invariant-loop-c
invariant-loop-c l = Put (wants l.marks l.wanted) l.from l.initial.order l.c l.end l.order
