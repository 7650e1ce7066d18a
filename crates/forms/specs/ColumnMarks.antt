-- Columns that are marked as used, and the order in which a form goes through the columns.
use Rattle.std.specs.Prelude.{◌≡◌, ℕ, ◌<◌, Bool, false, not, ◌&&◌, List, ◌++◌, filter, slice_index_or}
use Rattle.std.specs.List.{range_with_len}
use Rattle.theory.specs.Codes.{any, is_zero}
use Rattle.theory.specs.Forms.{among, column}

-- Column c is marked.
abbrev pub marked : List Bool → ℕ → Bool
marked marks c = slice_index_or marks c false

-- First the columns that are not marked, then the marked ones.
abbrev pub column_order : ℕ → List Bool → List ℕ
column_order n marks = filter (λ c. not (marked marks c)) (range_with_len 0 n) ++ filter (marked marks) (range_with_len 0 n)

-- Some column that is not marked is not zero.
abbrev pub has_open : ℕ → List (List ℕ) → List Bool → Bool
has_open n rows marks = any (λ c. not (marked marks c) && not (is_zero (column rows c))) (range_with_len 0 n)

-- Of the columns below n those used are marked, and no others.
abbrev pub MarksUsed : ℕ → List Bool → List ℕ → Type 0
MarksUsed n marks used = (c : ℕ) → c < n → marked marks c ≡ among c used

-- The columns below n that are marked.
abbrev pub marked_columns : ℕ → List Bool → List ℕ
marked_columns n marks = filter (marked marks) (range_with_len 0 n)
