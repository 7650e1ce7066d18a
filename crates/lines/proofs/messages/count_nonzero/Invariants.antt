-- The positions so far at which the word is not 0.
use Rattle.std.proofs.Common.{◌≡◌, ◌≤◌, not, eqb, get_or, take, count_by}
use Rattle.lines.proofs.messages.count_nonzero.Given as goal

abbrev pub invariant-loop-p : goal.invariant-loop-p
invariant-loop-p l = (l.count ≡ count_by (λ p. not (eqb (get_or l.word p 0) 0)) (take l.p-index l.positions)) × (l.count ≤ l.p-index)
