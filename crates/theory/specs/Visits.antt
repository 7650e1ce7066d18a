-- The order in which a level goes through the choices of rows and the coefficients.
use Rattle.std.specs.Prelude.{◌≡◌, ℕ, zero, suc, ◌+◌, ◌-◌, ◌≤◌, List, [], ◌∷◌, ◌++◌, map, reverse, length, slice_index_or}
use Rattle.std.specs.List.{range_with_len, flat_map}
use Rattle.theory.specs.Meanings.{FieldMeaning}
use Rattle.theory.specs.Codes.{combination}

-- The choices of t rows out of k in revolving-door order, each in rising order.
abbrev pub choices : ℕ → ℕ → List (List ℕ)
choices k zero = [] ∷ []
choices zero (suc t) = []
choices (suc k) (suc t) = choices k (suc t) ++ map (λ c. c ++ (k ∷ [])) (reverse (choices k t))

-- The number of choices of t rows out of k, by Pascal's rule.
abbrev pub binomial : ℕ → ℕ → ℕ
binomial k zero = 1
binomial zero (suc t) = 0
binomial (suc k) (suc t) = binomial k (suc t) + binomial k t

-- The list rises strictly, begins at a or above and stays below k: a ≤ c₀ < c₁ < .. < k.
abbrev pub Rising : ℕ → ℕ → List ℕ → Type 0
Rising a k [] = a ≤ k
Rising a k (x ∷ c) = (a ≤ x) × Rising (suc x) k c

-- A choice of t rows out of k: a strictly rising list of t row numbers below k.
abbrev pub Choice : ℕ → ℕ → List ℕ → Type 0
Choice k t c = (length c ≡ t) × Rising 0 k c

-- All lists of t codes from 1 to q - 1, the last code changing fastest.
abbrev pub nonzeros : ℕ → ℕ → List (List ℕ)
nonzeros q zero = [] ∷ []
nonzeros q (suc t) = flat_map (λ c. map (λ cs. c ∷ cs) (nonzeros q t)) (range_with_len 1 (q - 1))

-- The coefficients of t rows: the first is 1, the others run through 1 to q - 1, the last changing fastest.
abbrev pub coefficients : ℕ → ℕ → List (List ℕ)
coefficients q zero = []
coefficients q (suc t) = map (λ cs. 1 ∷ cs) (nonzeros q t)

-- The rows that a choice names.
abbrev pub picked : List (List ℕ) → List ℕ → List (List ℕ)
picked rows choice = map (λ i. slice_index_or rows i []) choice

-- The words that a level visits, in order.
unfoldable pub visits : FieldMeaning → ℕ → List (List ℕ) → ℕ → List (List ℕ)
visits f n rows t = flat_map (λ choice. map (λ cs. combination f n cs (picked rows choice)) (coefficients f.order t)) (choices (length rows) t)
