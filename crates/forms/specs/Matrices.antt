-- A matrix of n columns as the list of its codes, one row after the other.
use Rattle.std.specs.Prelude.{◌≡◌, ℕ, ◌+◌, ◌*◌, ◌<◌, ◌≤◌, List, map, length, take, drop, slice_index}
use Rattle.std.specs.List.{range_with_len}

-- Row i.
abbrev pub row_at : ℕ → List ℕ → ℕ → List ℕ
row_at n codes i = take n (drop (i * n) codes)

-- The first k rows.
abbrev pub rows_of : ℕ → ℕ → List ℕ → List (List ℕ)
rows_of k n codes = map (row_at n codes) (range_with_len 0 k)

-- The symbol of row i in column c.
abbrev pub symbol_at : ℕ → List ℕ → ℕ → ℕ → ℕ
symbol_at n codes i c = slice_index (row_at n codes i) c

-- There is a row i.
abbrev pub HasRow : ℕ → List ℕ → ℕ → Type 0
HasRow n codes i = i * n + n ≤ length codes

-- The rows from `from` up to `to` are 0 in column c.
abbrev pub ZeroIn : ℕ → List ℕ → ℕ → ℕ → ℕ → Type 0
ZeroIn n codes c from to = (i : ℕ) → from ≤ i → i < to → symbol_at n codes i c ≡ 0

-- Row p is the first from `from` on, and below k, that is not 0 in column c.
abbrev pub FirstPivot : ℕ → List ℕ → ℕ → ℕ → ℕ → ℕ → Type 0
FirstPivot n codes c from k p = (from ≤ p) × (p < k) × (0 < symbol_at n codes p c) × ZeroIn n codes c from p
