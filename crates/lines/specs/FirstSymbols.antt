-- The first nonzero symbol of a word.
use Rattle.std.specs.Prelude.{ℕ, cond, List, [], ◌∷◌, ◌==◌}

-- The first symbol that is not 0, or 0 where there is none.
abbrev pub first_nonzero : List ℕ → ℕ
first_nonzero [] = 0
first_nonzero (a ∷ u) = cond (a == 0) (first_nonzero u) a
