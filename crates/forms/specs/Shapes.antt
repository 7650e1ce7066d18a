-- What a matrix is by its rows, and what stays of one that is changed in place.
use Rattle.std.specs.Prelude.{◌≡◌, ℕ, List}
use Rattle.forms.specs.Matrices.{rows_of}
use Rattle.forms.specs.declared.matrix.MatrixMut.{MatrixMut}
use Rattle.forms.specs.declared.matrix.MatrixView.{MatrixView}

-- The rows of a matrix that is read.
abbrev pub rows_in : MatrixView → List (List ℕ)
rows_in m = rows_of m.k m.n m.codes.now

-- The rows of a matrix that is changed in place.
abbrev pub held_rows : MatrixMut → List (List ℕ)
held_rows m = rows_of m.k m.n m.codes.now

-- The numbers of rows and columns, and which codes of the caller it lies over.
abbrev pub SameShape : MatrixMut → MatrixMut → Type 0
SameShape before after = (after.k ≡ before.k) × (after.n ≡ before.n) × (after.codes.ghost_name ≡ before.codes.ghost_name)
