-- The symbols so far are those of the multiple.
use Rattle.fields.proofs.Symbols.{Written, multiplied}
use Rattle.fields.proofs.words.multiply.Given as goal

abbrev pub invariant-loop-a : goal.invariant-loop-a
invariant-loop-a g l = Written (multiplied (g.F.Field.meaning l.field) l.factor l.initial.word) l.initial.word l.a-index l.word
