-- What a matrix of the same shape hands on.
use Rattle.std.proofs.Common.{ℕ, ◌∙◌, subst}
use Rattle.forms.specs.declared.matrix.MatrixMut.{MatrixMut}
use Rattle.forms.specs.Shapes.{SameShape}

-- What is said with the numbers of rows and columns of the one holds with those of the other.
pub with_shape : (before after : MatrixMut) (P : ℕ → ℕ → Type 0) → SameShape before after → P after.k after.n → P before.k before.n
with_shape before after P s p = subst (λ n. P before.k n) s.1 (subst (λ k. P k after.n) s.0 p)

pub same_shape-then : (a b c : MatrixMut) → SameShape a b → SameShape b c → SameShape a c
same_shape-then a b c s p = (p.0 ∙ s.0, p.1 ∙ s.1, p.2 ∙ s.2)
