-- One row more, and what the elimination tells of it.
use Rattle.std.proofs.Common.{◌≡◌, ℕ, ◌+◌, ◌<◌, false, List, [], ◌∷◌, ◌++◌, length, sym, refl, ap, ap₂, subst, ◌∙◌, inl, inr, add-one, arith, below_none, below_more}
use Rattle.std.proofs.lemmas.Bool.{cases_Bool}
use Rattle.theory.specs.Meanings.{FieldMeaning, FieldLaws}
use Rattle.theory.specs.Codes.{is_zero}
use Rattle.theory.specs.Theorems.{dependent}
use Rattle.theory.proofs.Lists.Zeros.{zero_symbol}
use Rattle.theory.proofs.Algebra.Combinations.{Rows, rows_from}
use Rattle.forms.specs.Matrices.{row_at, rows_of, symbol_at}
use Rattle.forms.specs.RowSteps.{Pivoted}
use Rattle.forms.proofs.SameShapes.{with_shape, same_shape-then}
use Rattle.forms.proofs.RowTest.{Tested, tested_start, tested_tells, tested_step}
use Rattle.forms.proofs.RowLists.{length-rows, get_or-rows, symbol_rows, pivoted_gained, pivoted_clear}
use Rattle.forms.proofs.matrix.MatrixMut.first_dependent.Goals as goal

-- The rows as given, and row i as it is now.
module _ {f : FieldMeaning} {negative inverse : ℕ → ℕ} (laws : FieldLaws f negative inverse) (k n : ℕ) (codes : List ℕ) (R : Rows f.order n (length (rows_of k n codes)) (rows_of k n codes))
    (now : List ℕ) (i : ℕ) (h : i < k) (ps : List ℕ) (t : Tested f n (rows_of k n codes) (rows_of k n now) i ps) where
  inside : i < length (rows_of k n codes)
  inside = omega (arith, length-rows k n codes)

  -- It is 0 exactly if it depends on the rows before it.
  tells : is_zero (row_at n now i) ≡ dependent f n (rows_of k n codes) i
  tells = ap is_zero (sym (get_or-rows k n now i h)) ∙ tested_tells laws R t inside

  not-dependent : (c : ℕ) → 0 < symbol_at n now i c → dependent f n (rows_of k n codes) i ≡ false
  not-dependent c some = elim (cases_Bool (dependent f n (rows_of k n codes) i)) [ inl e ↦ absurd (omega (arith, zero_symbol (row_at n now i) c (tells ∙ e))) | inr e ↦ e ]

  tested_more : (c : ℕ) → 0 < symbol_at n now i c → (after : List ℕ) → Pivoted f negative inverse k n now i c after → Tested f n (rows_of k n codes) (rows_of k n after) (i + 1) (ps ++ c ∷ [])
  tested_more c some after P =
      rw add-one (tested_step laws R t c (omega (arith, symbol_rows k n now i c h)) refl (pivoted_gained laws k n now i c after h P)
      (λ m l ne. pivoted_clear laws k n now i c after h P t.words some m (omega (arith, length-rows k n codes)) ne))

pub loop-i-init : goal.loop-i-init
loop-i-init g c =
    let field = c.args.field.now in
    let m = c.args.self.now in
    let rows : List (List ℕ) = rows_of m.k m.n m.codes.now in
    ([], tested_start (g.met.F.Field.lawful field) (rows_from (g.F.Field.meaning field) m.n rows c.requires.matrix), below_none _, (refl, refl, refl))

pub loop-i-preserved : goal.loop-i-preserved
loop-i-preserved g c =
    let field = c.args.field.now in
    let f = g.F.Field.meaning field in
    let laws = g.met.F.Field.lawful field in
    let m = c.args.self.now in
    let codes = m.codes.now in
    let R = rows_from f m.n (rows_of m.k m.n codes) c.requires.matrix in
    let now = c.loop-i.self.codes.now in
    let i = c.loop-i.i in
    let column = c.in-Some.column in
    let v = c.view.ensures.value in
    let s = c.loop-i.invariant.3 in
    let some : 0 < symbol_at m.n now i column = subst (λ x. 0 < x) (ap₂ (λ n l. symbol_at n l i column) (v.2 ∙ s.1) v.0) c.in-Some.ensures.value.1 in
    let pivoted : ℕ → ℕ → Type 0 = λ k n. Pivoted f (g.F.Field.negation field) (g.F.Field.inversion field) k n now i column c.pivot_at.new.self.codes.now in
    let after : pivoted m.k m.n = with_shape m c.loop-i.self pivoted s c.pivot_at.ensures.after in
    let ps = c.loop-i.invariant.0 in
    let t = c.loop-i.invariant.1 in (
      ps ++ column ∷ [],
      tested_more laws m.k m.n codes R now i c.loop-i-test.true ps t column some c.pivot_at.new.self.codes.now after,
      below_more _ _ c.loop-i.invariant.2 (not-dependent laws m.k m.n codes R now i c.loop-i-test.true ps t column some),
      same_shape-then m c.loop-i.self c.pivot_at.new.self s c.pivot_at.ensures.same,
    )

pub returns-in_default : goal.returns-in_default
returns-in_default g c =
    let field = c.args.field.now in
    let laws = g.met.F.Field.lawful field in
    let m = c.args.self.now in
    let codes = m.codes.now in
    let i = c.loop-i.i in
    let R = rows_from (g.F.Field.meaning field) m.n (rows_of m.k m.n codes) c.requires.matrix in
    let v = c.view.ensures.value in
    let s = c.loop-i.invariant.3 in
    record {
      value = (
        omega (arith, length-rows m.k m.n codes),
        sym (tells laws m.k m.n codes R c.loop-i.self.codes.now i c.loop-i-test.true c.loop-i.invariant.0 c.loop-i.invariant.1) ∙ ap₂ (λ n l. is_zero (row_at n l i)) (sym (v.2 ∙ s.1)) (sym v.0) ∙ c.in_default.ensures.value,
        c.loop-i.invariant.2,
      );
      same = s;
    }

pub returns-clause-value : goal.returns-clause-value
returns-clause-value g c = λ i l. c.loop-i.invariant.2 i (omega (arith, length-rows c.args.self.now.k c.args.self.now.n c.args.self.now.codes.now))
