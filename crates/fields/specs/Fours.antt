-- The field of four elements.
use Rattle.std.specs.Prelude.{ℕ, ◌+◌, ◌*◌, List, [], ◌∷◌, bit_xor, slice_index}
use Rattle.theory.specs.Meanings.{FieldMeaning, read_below}

-- The products of two codes, by rows: 2 * 2 = 3, 2 * 3 = 1, 3 * 3 = 2.
abbrev pub products : List ℕ
products = 0 ∷ 0 ∷ 0 ∷ 0 ∷ 0 ∷ 1 ∷ 2 ∷ 3 ∷ 0 ∷ 2 ∷ 3 ∷ 1 ∷ 0 ∷ 3 ∷ 1 ∷ 2 ∷ []

-- The field of four elements: the sum is the exclusive or.
abbrev pub four : FieldMeaning
four = record { order = 4; sum = λ a b. bit_xor (read_below 4 a) (read_below 4 b); product = λ a b. slice_index products (4 * read_below 4 a + read_below 4 b) }

-- The inverses: 2 and 3 are each other's.
abbrev pub four_inverse : ℕ → ℕ
four_inverse a = slice_index (0 ∷ 1 ∷ 3 ∷ 2 ∷ []) (read_below 4 a)
