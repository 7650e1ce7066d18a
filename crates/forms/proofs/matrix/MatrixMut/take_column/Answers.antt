-- The row found comes to its place and becomes the pivot row.
use Rattle.std.proofs.Common.{◌≡◌, ℕ, List, subst}
use Rattle.forms.specs.Matrices.{FirstPivot}
use Rattle.forms.specs.RowSteps.{Pivoted}
use Rattle.forms.proofs.SameShapes.{with_shape}
use Rattle.forms.proofs.matrix.MatrixMut.take_column.Goals as goal

-- A pivot of what is read is one of the matrix.
read_pivot : (n k : ℕ) (codes : List ℕ) (c from p m j : ℕ) (l : List ℕ) → l ≡ codes → j ≡ k → m ≡ n → FirstPivot m l c from j p → FirstPivot n codes c from k p
read_pivot n k codes c from p m j l a b d t = subst (λ x. FirstPivot x codes c from k p) d (subst (λ x. FirstPivot m x c from k p) a (subst (λ x. FirstPivot m l c from x p) b t))

pub returns-clause-value : goal.returns-clause-value
returns-clause-value g c =
    let field = c.args.field.now in
    let m = c.args.self.now in
    let column = c.args.column in
    let done = c.args.done in
    let v = c.view.ensures.value in
    let middle = c.exchange_rows.new.self in
    let pivoted : ℕ → ℕ → Type 0 = λ k n. Pivoted (g.F.Field.meaning field) (g.F.Field.negation field) (g.F.Field.inversion field) k n middle.codes.now done column c.pivot_at.new.self.codes.now in (
      c.in-Some.row,
      middle.codes.now,
      read_pivot m.n m.k m.codes.now column done c.in-Some.row c.view.result.n c.view.result.k c.view.result.codes.now v.0 v.1 v.2 c.in-Some.ensures.value,
      c.exchange_rows.ensures.after,
      with_shape m middle pivoted c.exchange_rows.ensures.same c.pivot_at.ensures.after,
    )
