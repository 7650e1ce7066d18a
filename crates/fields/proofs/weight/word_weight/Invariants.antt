-- The weight of the symbols so far, up to the largest number of 32 bits.
use Rattle.std.proofs.Common.{◌≡◌, ◌-◌, ◌^◌, min, take}
use Rattle.theory.specs.Codes.{weigh}
use Rattle.fields.proofs.weight.word_weight.Given as goal

abbrev pub invariant-loop-a : goal.invariant-loop-a
invariant-loop-a g l = l.total ≡ min (weigh (g.W.SymbolWeight.meaning l.weight) (take l.a-index l.word)) (2 ^ 32 - 1)
