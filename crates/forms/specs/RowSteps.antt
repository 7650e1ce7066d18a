-- What the steps of an elimination do to the rows of a matrix.
use Rattle.std.specs.Prelude.{◌≡◌, ℕ, ◌<◌, Bool, true, false, cond, List, length, ◌==◌, slice_index}
use Rattle.theory.specs.Meanings.{FieldMeaning}
use Rattle.theory.specs.Codes.{plus, times}
use Rattle.forms.specs.Matrices.{row_at, HasRow, ZeroIn, FirstPivot}

-- Rows i and j have changed places, and the others are as they were.
abbrev pub Exchanged : ℕ → List ℕ → ℕ → ℕ → List ℕ → Type 0
Exchanged n before i j after = (length after ≡ length before) × ((m : ℕ) → HasRow n before m → row_at n after m ≡ cond (m == i) (row_at n before j) (cond (m == j) (row_at n before i) (row_at n before m)))

-- Row i is its multiple by a code, and the others are as they were.
abbrev pub Scaled : FieldMeaning → ℕ → List ℕ → ℕ → ℕ → List ℕ → Type 0
Scaled f n before i factor after = (length after ≡ length before) × ((m : ℕ) → HasRow n before m → row_at n after m ≡ cond (m == i) (times f factor (row_at n before i)) (row_at n before m))

module _ (f : FieldMeaning) (negative inverse : ℕ → ℕ) where
  -- The multiple of the pivot row that a row has to gain to be 0 in column c: minus its own symbol there divided by that of the pivot row.
  abbrev pub clearing_factor : List ℕ → ℕ → List ℕ → ℕ
  clearing_factor pivot c u = negative (f.product (slice_index u c) (inverse (slice_index pivot c)))

  -- A row after it has gained that multiple.
  abbrev pub cleared_row : List ℕ → ℕ → List ℕ → List ℕ
  cleared_row pivot c u = plus f u (times f (clearing_factor pivot c u) pivot)

  -- Every row but p has gained the multiple of row p that clears column c, and row p is as it was.
  abbrev pub Cleared : ℕ → ℕ → List ℕ → ℕ → ℕ → List ℕ → Type 0
  Cleared k n before p c after = (length after ≡ length before) × ((i : ℕ) → i < k → row_at n after i ≡ cond (i == p) (row_at n before p) (cleared_row (row_at n before p) c (row_at n before i)))

  -- A row by the inverse of its symbol in column c.
  abbrev pub unit_scaled : ℕ → List ℕ → List ℕ
  unit_scaled c u = times f (inverse (slice_index u c)) u

  -- Row p is scaled to 1 in column c, and every other row has gained the multiple of it that clears the column.
  abbrev pub Pivoted : ℕ → ℕ → List ℕ → ℕ → ℕ → List ℕ → Type 0
  Pivoted k n before p c after = (length after ≡ length before) × ((i : ℕ) → i < k → row_at n after i ≡ cond (i == p) (unit_scaled c (row_at n before p)) (cleared_row (unit_scaled c (row_at n before p)) c (row_at n before i)))

  -- Column c is taken with `done` columns taken before: the first row from `done` on that is not 0 there comes to place `done` and becomes the pivot row; or, where there is none, nothing changes.
  abbrev pub Takes : ℕ → ℕ → ℕ → ℕ → Bool → List ℕ → List ℕ → Type 0
  Takes k n done c true before after = (p : ℕ) × (middle : List ℕ) × FirstPivot n before c done k p × Exchanged n before done p middle × Pivoted k n middle done c after
  Takes k n done c false before after = (after ≡ before) × ZeroIn n before c done k
