-- Pascal's triangle as a table.
use Rattle.std.specs.Prelude.{ℕ, zero, suc, ◌+◌, List, [], ◌∷◌, replicate}

-- The row below a row, where `left` stands before its first number: each number is added to the one before it.
abbrev below_row : ℕ → List ℕ → List ℕ
below_row left [] = []
below_row left (x ∷ row) = (x + left) ∷ below_row x row

-- n rows, the given one first.
abbrev rows_from : List ℕ → ℕ → List (List ℕ)
rows_from row zero = []
rows_from row (suc n) = row ∷ rows_from (below_row 0 row) n

-- Rows 0 to 32, each with 33 numbers.
abbrev pub triangle : List (List ℕ)
triangle = rows_from (1 ∷ replicate 32 0) 33
