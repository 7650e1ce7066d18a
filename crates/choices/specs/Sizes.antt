-- The number of visits of a level, and what is told of it.
use Rattle.std.specs.Prelude.{◌≡◌, ℕ, zero, suc, ◌-◌, ◌*◌, ◌^◌, ◌≤◌, min, cond, List, length, Some, None, Option, nat_lt}
use Rattle.theory.specs.Meanings.{FieldMeaning}
use Rattle.theory.specs.Visits.{binomial, visits}

-- The number of choices of t rows out of k, told for k up to 32.
abbrev pub binomial_told : ℕ → ℕ → Option ℕ
binomial_told k t = cond (nat_lt 32 k) None (Some (binomial k t))

-- The number of visits of level t over q elements: C(k, t) · (q - 1)^(t - 1); level 0 has none.
abbrev pub level_size : ℕ → ℕ → ℕ → ℕ
level_size k zero q = 0
level_size k (suc t) q = binomial k (suc t) * (q - 1) ^ t

-- The size that is told: none beyond 32 rows, and no more than the largest number of 64 bits.
abbrev pub size_told : ℕ → ℕ → ℕ → Option ℕ
size_told k t q = cond (nat_lt 32 k) None (Some (min (level_size k t q) (2 ^ 64 - 1)))

-- Within the limits of a code, what is told is the number of visits of the level, whatever the field and the rows.
abbrev pub TellsVisits : ℕ → ℕ → ℕ → Option ℕ → Type 0
TellsVisits k t q told = (f : FieldMeaning) (n : ℕ) (rows : List (List ℕ)) → f.order ≡ q → length rows ≡ k → 2 ≤ q → k ≤ 32 → q ^ k ≤ 2 ^ 48 → told ≡ Some (length (visits f n rows t))

-- The level has as many visits, whatever the field of order q and the k rows.
abbrev pub CountsVisits : ℕ → ℕ → ℕ → Type 0
CountsVisits k t q = (f : FieldMeaning) (n : ℕ) (rows : List (List ℕ)) → f.order ≡ q → length rows ≡ k → length (visits f n rows t) ≡ level_size k t q

-- Within the limits of a code the size is told as it is, and no level has more visits than the code has words.
abbrev pub TellsExactly : ℕ → ℕ → ℕ → Option ℕ → Type 0
TellsExactly k t q told = 2 ≤ q → k ≤ 32 → q ^ k ≤ 2 ^ 48 → (told ≡ Some (level_size k t q)) × (level_size k t q ≤ q ^ k)
