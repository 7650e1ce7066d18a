-- What the forms of a code with independent rows are known by.
use Rattle.std.specs.Prelude.{◌≡◌, ℕ, ◌^◌, ◌<◌, ◌≤◌, false, cond, not, T, List, [], ◌∷◌, ◌++◌, map, length, get_or, take, replicate, filter, ◌==◌, slice_index, slice_index_or}
use Rattle.std.specs.List.{flat_map}
use Rattle.theory.specs.Meanings.{FieldMeaning, FieldLaws, WeightLaws}
use Rattle.theory.specs.Codes.{combination}
use Rattle.theory.specs.Forms.{GeneratorForm, among}
use Rattle.theory.specs.Standings.{LinearCode, no_form}
use Rattle.theory.specs.Promises.{Below, Codeword}

-- The rows are words of n codes.
pub record Matrix (f : FieldMeaning) (n : ℕ) (rows : List (List ℕ)) : Type 0 where
  pub lengths : (i : ℕ) → i < length rows → length (slice_index_or rows i []) ≡ n
  pub codes : (i : ℕ) → i < length rows → Below f.order (slice_index_or rows i [])

-- No sum of multiples of the rows is zero, unless all coefficients are.
abbrev pub Independent : FieldMeaning → ℕ → List (List ℕ) → Type 0
Independent f n rows = (cs : List ℕ) → length cs ≡ length rows → Below f.order cs → combination f n cs rows ≡ replicate n 0 → cs ≡ replicate (length rows) 0

-- A form is a generator of the code with a 1 at its own position and 0 at the others in each row.
pub record Systematic (c : LinearCode) (j : GeneratorForm) : Type 0 where
  pub size : length j.positions ≡ length c.rows
  pub within : (a : ℕ) → a < length c.rows → slice_index j.positions a < c.n
  pub distinct : (a b : ℕ) → a < length c.rows → b < length c.rows → slice_index j.positions a ≡ slice_index j.positions b → a ≡ b
  pub row_count : length j.rows ≡ length c.rows
  pub row_matrix : Matrix c.field c.n j.rows
  pub row_codeword : (i : ℕ) → i < length c.rows → Codeword c (slice_index_or j.rows i [])
  pub unit : (i a : ℕ) → i < length c.rows → a < length c.rows → slice_index (slice_index_or j.rows i []) (slice_index j.positions a) ≡ cond (a == i) 1 0
  -- a codeword is the sum of the form's rows with its own symbols at the positions as coefficients
  pub generates : (u : List ℕ) → Codeword c u → u ≡ combination c.field c.n (map (λ p. slice_index u p) j.positions) j.rows

-- In a list of forms the rank of each is the number of its positions that no form before it has.
abbrev pub Ranked : List ℕ → List GeneratorForm → Type 0
Ranked used [] = Unit {0}
Ranked used (j ∷ js) = (j.rank ≡ length (filter (λ p. not (among p used)) j.positions)) × Ranked (used ++ j.positions) js

-- The positions of the forms before form i.
abbrev pub earlier_positions : List GeneratorForm → ℕ → List ℕ
earlier_positions js i = flat_map (λ j. j.positions) (take i js)

-- The new positions of form i: those that no earlier form has.
abbrev pub new_positions : List GeneratorForm → ℕ → List ℕ
new_positions js i = filter (λ p. not (among p (earlier_positions js i))) (get_or js i no_form).positions

-- The rank of a form is the number of its new positions, a new position of a form stands in no form before it, and no position is new in two forms.
pub record NewPositions (js : List GeneratorForm) : Type 0 where
  pub rank : (i : ℕ) → i < length js → (get_or js i no_form).rank ≡ length (new_positions js i)
  pub fresh : (i h p : ℕ) → h < i → i < length js → T (among p (new_positions js i)) → among p (get_or js h no_form).positions ≡ false
  pub disjoint : (i j p : ℕ) → i < length js → j < length js → T (among p (new_positions js i)) → T (among p (new_positions js j)) → i ≡ j

-- A code that a making accepts.
pub record Accepted (c : LinearCode) (negative inverse : ℕ → ℕ) : Type 0 where
  pub field_laws : FieldLaws c.field negative inverse
  pub weight_laws : WeightLaws c.weight
  pub orders : c.weight.order ≡ c.field.order
  pub some_rows : 1 ≤ length c.rows
  pub few_rows : length c.rows ≤ 32
  pub long : length c.rows ≤ c.n
  pub short : c.n ≤ 64
  pub small : c.field.order ^ length c.rows ≤ 2 ^ 48
  pub matrix : Matrix c.field c.n c.rows
  pub independent : Independent c.field c.n c.rows
