-- GF(5) with the codes 2 and 3 exchanged.
use Rattle.std.specs.Prelude.{ℕ, ◌+◌, ◌-◌, ◌*◌, ◌%◌, [], ◌∷◌, slice_index}
use Rattle.theory.specs.Meanings.{FieldMeaning}

-- The number that a code stands for, 0 for a code of 5 or more.
abbrev pub rename : ℕ → ℕ
rename a = slice_index (0 ∷ 1 ∷ 3 ∷ 2 ∷ 4 ∷ []) a

-- The field: sums and products of the numbers that the codes stand for.
abbrev pub renamed_five : FieldMeaning
renamed_five = record { order = 5; sum = λ a b. rename ((rename a + rename b) % 5); product = λ a b. rename ((rename a * rename b) % 5) }

-- The negative of a code.
abbrev pub renamed_negation : ℕ → ℕ
renamed_negation a = rename ((5 - rename a) % 5)

-- The inverse of a code: 2 and 3 are each other's, as the numbers 3 and 2 are.
abbrev pub renamed_inversion : ℕ → ℕ
renamed_inversion a = rename a
