-- When a step of an elimination fits its matrix, and what it keeps.
use Rattle.std.specs.Prelude.{ℕ, ◌*◌, Bool, cond, ◌&&◌, List, length, Some, None, Option, ◌==◌, nat_le, nat_lt, codes}
use Rattle.theory.specs.Meanings.{FieldMeaning}
use Rattle.theory.specs.Facts.{Matrix, Independent}
use Rattle.forms.specs.Matrices.{symbol_at}
use Rattle.forms.specs.Elimination.{SameCodewords}
use Rattle.forms.specs.declared.step_refusal.StepRefusal.{StepRefusal}
use Rattle.forms.specs.declared.step_refusal.StepRefusal.TheVariants.{NoRow, NoPivot, TooWide}

-- What is printed of a refusal.
abbrev pub step_text : StepRefusal → List ℕ
step_text NoRow = codes "no such row"
step_text NoPivot = codes "no pivot in the column"
step_text TooWide = codes "rows of more than 64 codes"

-- The codes are k rows of n codes, of which i is one.
abbrev pub has_row : ℕ → ℕ → List ℕ → ℕ → Bool
has_row k n codes i = k * n == length codes && nat_lt i k

-- Both i and j are rows.
abbrev pub both_rows : ℕ → ℕ → List ℕ → ℕ → ℕ → Bool
both_rows k n codes i j = has_row k n codes i && has_row k n codes j

-- Row i has a nonzero symbol in column c.
abbrev pub has_pivot : ℕ → ℕ → List ℕ → ℕ → ℕ → Bool
has_pivot k n codes i c = has_row k n codes i && nat_lt c n && nat_lt 0 (symbol_at n codes i c)

-- Why a row that is asked for is refused: the codes are no such matrix, or have no such row.
abbrev pub row_fault : ℕ → ℕ → List ℕ → ℕ → Option StepRefusal
row_fault k n codes i = cond (has_row k n codes i) None (Some NoRow)

-- Why an exchange is refused.
abbrev pub swap_fault : ℕ → ℕ → List ℕ → ℕ → ℕ → Option StepRefusal
swap_fault k n codes i j = cond (both_rows k n codes i j) None (Some NoRow)

-- Why a pivot is refused: there is no such row, then the row has no nonzero symbol in the column.
abbrev pub pivot_fault : ℕ → ℕ → List ℕ → ℕ → ℕ → Option StepRefusal
pivot_fault k n codes i c = cond (has_row k n codes i) (cond (has_pivot k n codes i c) None (Some NoPivot)) (Some NoRow)

-- Why a column is not cleared: more than 64 columns, then as for a pivot.
abbrev pub clear_fault : ℕ → ℕ → List ℕ → ℕ → ℕ → Option StepRefusal
clear_fault k n codes p c = cond (nat_le n 64) (pivot_fault k n codes p c) (Some TooWide)

-- A step that does not leave the code: of codes of the field it leaves codes, the codewords stay the same, and independent rows stay independent.
abbrev pub KeepsCode : FieldMeaning → ℕ → List (List ℕ) → List (List ℕ) → Type 0
KeepsCode f n rows gens = Matrix f n rows → Matrix f n gens × SameCodewords f n rows gens × (Independent f n rows → Independent f n gens)
