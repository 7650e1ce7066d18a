-- The weights of the multiples so far, and the least of them.
use Rattle.std.proofs.Common.{◌≡◌, ℕ, ◌+◌}
use Rattle.lines.proofs.Multiples.{WeighedTo}
use Rattle.lines.proofs.weights.line_weights.Given as goal

abbrev pub invariant-loop-factor : goal.invariant-loop-factor
invariant-loop-factor g l = (i : ℕ) × (l.factor ≡ i + 1) × WeighedTo (g.F.Field.meaning l.field) (g.W.SymbolWeight.meaning l.weight) l.word i l.weights l.least
