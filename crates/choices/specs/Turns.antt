-- The step from the coefficients of some rows to the next.
use Rattle.std.specs.Prelude.{◌≡◌, ℕ, ◌+◌, ◌-◌, ◌<◌, ◌≤◌, List, ◌∷◌, ◌++◌, length, take, replicate, ◌≢◌, slice_index}

-- The codes behind place p are all q - 1.
abbrev pub FullBehind : ℕ → List ℕ → ℕ → Type 0
FullBehind q cs p = (j : ℕ) → p < j → j < length cs → slice_index cs j ≡ q - 1

-- Place p, behind the first, is the last whose code is not q - 1.
abbrev pub LastToTurn : ℕ → List ℕ → ℕ → Type 0
LastToTurn q cs p = (1 ≤ p) × (p < length cs) × (slice_index cs p ≢ q - 1) × FullBehind q cs p

-- The code at place p goes up by one, and those behind it start over at 1.
abbrev pub turned : List ℕ → ℕ → List ℕ
turned cs p = take p cs ++ ((slice_index cs p + 1) ∷ replicate (length cs - (p + 1)) 1)
