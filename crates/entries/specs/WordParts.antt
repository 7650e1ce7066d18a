-- The words of a line from a place on.
use Rattle.std.specs.Prelude.{ℕ, cond, List, [], length, drop, nat_le}
use Rattle.entries.specs.Lines.{words}

-- The words of a line from the index a on: none past its end.
abbrev pub words_from : List ℕ → ℕ → List (List ℕ)
words_from line a = cond (nat_le a (length line)) (words (drop a line)) []
