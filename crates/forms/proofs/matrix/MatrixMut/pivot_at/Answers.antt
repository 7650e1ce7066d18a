-- The pivot row is there, and the two steps together.
use Rattle.std.proofs.Common.{◌≡◌, ℕ, ◌*◌, ◌<◌, List, length, sym, refl, ◌∙◌, ap₂, ⊎_elim}
use Rattle.std.proofs.lemmas.Bool.{cases_eq, eq-eqb, ne_eqb, cond-true, cond-false}
use Rattle.theory.specs.Meanings.{FieldMeaning}
use Rattle.forms.specs.Matrices.{row_at, symbol_at}
use Rattle.forms.specs.RowSteps.{Scaled, Cleared, Pivoted, unit_scaled, cleared_row}
use Rattle.forms.proofs.Flat.{has_row}
use Rattle.forms.proofs.SameShapes.{with_shape}
use Rattle.forms.proofs.matrix.MatrixMut.pivot_at.Goals as goal

-- A row by the inverse of its symbol in a column, and then the column cleared.
module _ (f : FieldMeaning) (negative inverse : ℕ → ℕ) (k n : ℕ) (before : List ℕ) (p c : ℕ) (middle after : List ℕ) where
  pivoted : length before ≡ k * n → p < k → Scaled f n before p (inverse (symbol_at n before p c)) middle → Cleared f negative inverse k n middle p c after → Pivoted f negative inverse k n before p c after
  pivoted e hp S C =
      let row : List ℕ = row_at n before p in
      let first : row_at n middle p ≡ unit_scaled f negative inverse c row =
      S.1 p (has_row n k before p e hp) ∙ cond-true _ _ _ (eq-eqb p p refl) in (
        C.0 ∙ S.0,
        λ i h.
            C.1 i h ∙ ⊎_elim
            (λ s. let t = eq-eqb i p s in cond-true _ _ _ t ∙ first ∙ sym (cond-true _ _ _ t))
            (λ ne. let t = ne_eqb i p ne in
            cond-false _ _ _ t ∙ ap₂ (λ v u. cleared_row f negative inverse v c u) first (S.1 i (has_row n k before i e h) ∙ cond-false _ _ _ t) ∙ sym (cond-false _ _ _ t))
            (cases_eq i p),
      )

pub returns-clause-after : goal.returns-clause-after
returns-clause-after g c =
    let field = c.args.field.now in
    let m = c.args.self.now in
    let middle = c.scale_to_one.new.self in
    let after = c.clear_rows.new.self.codes.now in
    let cleared : ℕ → ℕ → Type 0 = λ k n. Cleared (g.F.Field.meaning field) (g.F.Field.negation field) (g.F.Field.inversion field) k n middle.codes.now c.args.pivot c.args.column after in
    pivoted (g.F.Field.meaning field) (g.F.Field.negation field) (g.F.Field.inversion field) m.k m.n m.codes.now c.args.pivot c.args.column middle.codes.now after m.whole c.requires.2 c.scale_to_one.ensures.after
    (with_shape m middle cleared c.scale_to_one.ensures.same c.clear_rows.ensures.after)
