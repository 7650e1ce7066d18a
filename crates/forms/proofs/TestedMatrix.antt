-- What the tests of a matrix tell: codes below the order make a matrix, and rows of which none depends on those before it are independent.
use Rattle.std.proofs.Common.{◌≡◌, ℕ, ◌+◌, ◌*◌, ◌<◌, leb, List, length, get_or, Some, None, Option, sym, ap, ◌∙◌, arith}
use Rattle.std.proofs.lemmas.Bool.{leb-false}
use Rattle.theory.specs.Meanings.{FieldMeaning, FieldLaws}
use Rattle.theory.specs.Facts.{Matrix, Independent}
use Rattle.theory.specs.Theorems.{dependent}
use Rattle.theory.proofs.Algebra.Earlier.{independent-rows}
use Rattle.forms.specs.Matrices.{rows_of}
use Rattle.forms.specs.Elimination.{FirstDependentOr}
use Rattle.forms.specs.Refusals.{first_no_code, first_dependent_row}
use Rattle.forms.proofs.Flat.{has_row, length-row, symbol_is}
use Rattle.forms.proofs.RowLists.{length-rows, get_or-rows}
use Rattle.forms.proofs.FirstBelow.{first-none, first_found, none_below}

module _ (f : FieldMeaning) (k n : ℕ) (codes : List ℕ) where
  -- All codes are below the order.
  pub matrix-from-codes : length codes ≡ k * n → first_no_code f.order codes ≡ None → Matrix f n (rows_of k n codes)
  matrix-from-codes e none =
      let low : (j : ℕ) → j < length codes → get_or codes j 0 < f.order = λ j l. leb-false f.order (get_or codes j 0) (none_below (λ i. leb f.order (get_or codes i 0)) (length codes) none j l) in
      record {
        lengths = λ i l.
            let h : i < k = omega (arith, length-rows k n codes) in
            ap length (get_or-rows k n codes i h) ∙ length-row n codes i (has_row n k codes i e h);
        codes = λ i l c m.
            let h : i < k = omega (arith, length-rows k n codes) in
            let there = has_row n k codes i e h in
            let inside : c < n = omega (arith, ap length (get_or-rows k n codes i h), length-row n codes i there) in
            omega (arith, ap (λ u. get_or u c 0) (get_or-rows k n codes i h), symbol_is n codes i c inside, low (i * n + c) (omega arith));
      }

  -- The first dependent row found is the least.
  pub first-dependent-is : (r : Option ℕ) → FirstDependentOr f n (rows_of k n codes) r → r ≡ first_dependent_row f k n codes
  first-dependent-is (Some i) h = sym (first_found (dependent f n (rows_of k n codes)) k i (omega (arith, h.0, length-rows k n codes)) h.1 h.2)
  first-dependent-is None h = sym (first-none (dependent f n (rows_of k n codes)) k (λ j l. h j (omega (arith, length-rows k n codes))))

  -- With no dependent row the rows are independent.
  pub independent-from-none : (negative inverse : ℕ → ℕ) → FieldLaws f negative inverse → Matrix f n (rows_of k n codes) → first_dependent_row f k n codes ≡ None → Independent f n (rows_of k n codes)
  independent-from-none negative inverse laws m none =
      let rows = rows_of k n codes in
      (independent-rows f negative inverse laws n rows m).1 (λ i l. none_below (dependent f n rows) k none i (omega (arith, length-rows k n codes)))
