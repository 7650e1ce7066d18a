-- What an elimination leaves of a matrix, and which row it finds dependent.
use Rattle.std.specs.Prelude.{◌≡◌, ℕ, ◌<◌, true, false, cond, List, [], length, Option, MatchOption, ◌==◌, slice_index, slice_index_or}
use Rattle.theory.specs.Meanings.{FieldMeaning}
use Rattle.theory.specs.Codes.{same, any, codewords}
use Rattle.theory.specs.Facts.{Matrix}
use Rattle.theory.specs.Theorems.{dependent}

-- Two matrices generate the same codewords.
abbrev pub SameCodewords : FieldMeaning → ℕ → List (List ℕ) → List (List ℕ) → Type 0
SameCodewords f n rows gens = (u : List ℕ) → any (same u) (codewords f n gens) ≡ any (same u) (codewords f n rows)

-- The rows gens generate the code of rows, and are unit columns at the positions ps: row i has 1 at position i and 0 at the others.
pub record Eliminated (f : FieldMeaning) (n : ℕ) (rows : List (List ℕ)) (ps : List ℕ) (gens : List (List ℕ)) : Type 0 where
  pub as_many : length gens ≡ length rows
  pub matrix : Matrix f n gens
  pub same_code : SameCodewords f n rows gens
  pub unit : (i a : ℕ) → i < length gens → a < length ps → slice_index (slice_index_or gens i []) (slice_index ps a) ≡ cond (a == i) 1 0

-- No row below m is a sum of multiples of the rows before it.
abbrev pub NoneDependent : FieldMeaning → ℕ → List (List ℕ) → ℕ → Type 0
NoneDependent f n rows m = (i : ℕ) → i < m → dependent f n rows i ≡ false

-- The first row that is a sum of multiples of the rows before it, or that there is none.
abbrev pub FirstDependentOr : FieldMeaning → ℕ → List (List ℕ) → Option ℕ → Type 0
FirstDependentOr f n rows r = MatchOption r (NoneDependent f n rows (length rows)) (λ i. (i < length rows) × (dependent f n rows i ≡ true) × NoneDependent f n rows i)
