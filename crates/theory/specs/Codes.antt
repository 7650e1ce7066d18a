-- Words, codewords, lines and weights of a linear code.
use Rattle.std.specs.Prelude.{◌≡◌, ℕ, zero, suc, ◌-◌, min, Bool, true, false, cond, ◌&&◌, List, [], ◌∷◌, map, length, replicate, sum_by, count_by, ◌==◌}
use Rattle.std.specs.List.{range_with_len, flat_map, AllByRecursion}
use Rattle.theory.specs.Meanings.{FieldMeaning, WeightMeaning}

-- All lists of k codes below q, the last code changing fastest.
abbrev pub tuples : ℕ → ℕ → List (List ℕ)
tuples q zero = [] ∷ []
tuples q (suc k) = flat_map (λ c. map (λ t. c ∷ t) (tuples q k)) (range_with_len 0 q)

-- Two words are the same: as long, and equal symbol by symbol.
abbrev pub same : List ℕ → List ℕ → Bool
same [] [] = true
same [] (b ∷ v) = false
same (a ∷ u) [] = false
same (a ∷ u) (b ∷ v) = a == b && same u v

-- The list holds the words with P and no others, each exactly once.
pub record Exactly (P : List ℕ → Type 0) (us : List (List ℕ)) : Type 0 where
  pub only : AllByRecursion P us
  pub once : (u : List ℕ) → P u → count_by (same u) us ≡ 1

-- Some element of a list passes a test.
abbrev pub any : {A : Type 0} → (A → Bool) → List A → Bool
any p [] = false
any p (x ∷ xs) = cond (p x) true (any p xs)

module _ (f : FieldMeaning) where
  -- The sum of two words, symbol by symbol; of unequal lengths, cut at the shorter.
  abbrev pub plus : List ℕ → List ℕ → List ℕ
  plus [] v = []
  plus (a ∷ u) [] = []
  plus (a ∷ u) (b ∷ v) = f.sum a b ∷ plus u v

  -- The multiple of a word by a code.
  abbrev pub times : ℕ → List ℕ → List ℕ
  times c u = map (λ a. f.product c a) u

  -- The sum of the rows with these coefficients, as a word of n symbols; a coefficient with no row, and a row with no coefficient, adds nothing.
  abbrev pub combination : ℕ → List ℕ → List (List ℕ) → List ℕ
  combination n [] rows = replicate n 0
  combination n (c ∷ cs) [] = replicate n 0
  combination n (c ∷ cs) (r ∷ rows) = plus (times c r) (combination n cs rows)

  -- The codewords, one for each choice of coefficients.
  unfoldable pub codewords : ℕ → List (List ℕ) → List (List ℕ)
  codewords n rows = map (λ cs. combination n cs rows) (tuples f.order (length rows))

  -- The nonzero multiples of a word: its line, where the word is not 0.
  abbrev pub multiples : List ℕ → List (List ℕ)
  multiples u = map (λ c. times c u) (range_with_len 1 (f.order - 1))

  -- The word u stands on the line of v: it is a nonzero multiple of v.
  abbrev pub on_line : List ℕ → List ℕ → Bool
  on_line u v = any (same u) (multiples v)

-- The word has no symbol but 0.
abbrev pub is_zero : List ℕ → Bool
is_zero [] = true
is_zero (a ∷ u) = a == 0 && is_zero u

-- A leader: the first nonzero symbol is 1.
abbrev pub leads : List ℕ → Bool
leads [] = false
leads (a ∷ u) = cond (a == 0) (leads u) (a == 1)

-- The weight of a word: the sum of the weights of its symbols.
abbrev pub weigh : WeightMeaning → List ℕ → ℕ
weigh w u = sum_by w.of u

-- The least of a number m and those of a list.
abbrev pub least : List ℕ → ℕ → ℕ
least [] m = m
least (x ∷ xs) m = min x (least xs m)

-- The weight of a word's line: the least weight among its nonzero multiples.
abbrev pub line_weight : FieldMeaning → WeightMeaning → List ℕ → ℕ
line_weight f w u = least (map (weigh w) (multiples f u)) (weigh w u)
