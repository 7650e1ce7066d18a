-- The number and the place of each refusal of a matrix, and which comes first.
use Rattle.std.specs.Prelude.{◌≡◌, ℕ, zero, suc, ◌*◌, Bool, true, cond, not, ◌&&◌, leb, List, length, drop, is_some, Some, None, Ok, Err, Option, Result, ◌==◌, nat_le, nat_lt, slice_index, ◌++◌, codes}
use Rattle.std.specs.Fmt.{decimal}
use Rattle.theory.specs.Meanings.{FieldMeaning}
use Rattle.theory.specs.Theorems.{dependent}
use Rattle.forms.specs.Matrices.{rows_of}
use Rattle.forms.specs.declared.refusal.FormsRefusal.{FormsRefusal}
use Rattle.forms.specs.declared.refusal.FormsRefusal.TheVariants.{Shape, Length, NoCode, Scratch, DependentRow}

-- The number by which a refusal is known.
abbrev pub number : FormsRefusal → ℕ
number Shape = 11
number Length = 14
number (NoCode i) = 15
number Scratch = 16
number (DependentRow i) = 17

-- Its place: the index of what is no code, the dependent row, else 0.
abbrev pub place : FormsRefusal → ℕ
place Shape = 0
place Length = 0
place (NoCode i) = i
place Scratch = 0
place (DependentRow i) = i

-- What is printed of a refusal: its number and its place.
abbrev pub text : FormsRefusal → List ℕ
text r = codes "refused " ++ (decimal (number r) ++ (codes " at " ++ decimal (place r)))

-- The least number below m that passes a test.
abbrev pub first_below : (ℕ → Bool) → ℕ → Option ℕ
first_below p zero = None
first_below p (suc m) = elim (first_below p m) [ Some i ↦ Some i | None ↦ cond (p m) (Some m) None ]

-- The first fault, or the second where there is no first.
abbrev pub or_else : Option FormsRefusal → Option FormsRefusal → Option FormsRefusal
or_else (Some e) d = Some e
or_else None d = d

-- A fault that has a number as its place, if there is such a number.
abbrev pub placed : (ℕ → FormsRefusal) → Option ℕ → Option FormsRefusal
placed c (Some i) = Some (c i)
placed c None = None

-- k is from 1 to 32, and n from k to 64.
abbrev pub shape_fits : ℕ → ℕ → Bool
shape_fits k n = nat_le 1 k && nat_le k 32 && nat_le k n && nat_le n 64

-- The index of the first number that is no code of a field of order q.
abbrev pub first_no_code : ℕ → List ℕ → Option ℕ
first_no_code q codes = first_below (λ i. leb q (slice_index codes i)) (length codes)

-- The first row that is a sum of multiples of the rows before it.
abbrev pub first_dependent_row : FieldMeaning → ℕ → ℕ → List ℕ → Option ℕ
first_dependent_row f k n codes = first_below (dependent f n (rows_of k n codes)) k

-- What is wrong with a matrix of k rows of n codes, or with the length of the scratch, but for dependent rows; the first that fits.
abbrev pub matrix_fault : FieldMeaning → ℕ → ℕ → List ℕ → ℕ → Option FormsRefusal
matrix_fault f k n codes scratch =
    cond (not (shape_fits k n)) (Some Shape)
    (cond (not (length codes == k * n)) (Some Length)
    (or_else (placed NoCode (first_no_code f.order codes)) (cond (nat_lt scratch (2 * (k * n))) (Some Scratch) None)))

-- What is wrong, dependent rows included.
abbrev pub forms_fault : FieldMeaning → ℕ → ℕ → List ℕ → ℕ → Option FormsRefusal
forms_fault f k n codes scratch = or_else (matrix_fault f k n codes scratch) (placed DependentRow (first_dependent_row f k n codes))

-- A value, unless there is a fault.
abbrev pub told : {X : Type 0} → Option FormsRefusal → X → Result X FormsRefusal
told None x = Ok x
told (Some e) x = Err e

-- Scratch keeps its length and what lies beyond 2 · k · n, and with a fault before the row test it is as it was.
abbrev pub ScratchAfter : ℕ → ℕ → Option FormsRefusal → List ℕ → List ℕ → Type 0
ScratchAfter k n fault before after = (length after ≡ length before) × (drop (2 * (k * n)) after ≡ drop (2 * (k * n)) before) × (is_some fault ≡ true → after ≡ before)
