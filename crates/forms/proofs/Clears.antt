-- The rows of a matrix lose their symbols in a column one after the other.
use Rattle.std.proofs.Common.{◌≡◌, ℕ, ◌+◌, ◌-◌, ◌*◌, ◌<◌, ◌≤◌, cond, eqb, List, length, get_or, take, drop, sym, ap, ◌∙◌, ap₂, ⊎_elim, arith}
use Rattle.std.proofs.lemmas.Bool.{cases_eq, eq-eqb, ne_eqb, cond-true, cond-false}
use Rattle.theory.specs.Meanings.{FieldMeaning}
use Rattle.theory.specs.Codes.{plus, times}
use Rattle.forms.specs.Matrices.{row_at, HasRow}
use Rattle.forms.specs.RowSteps.{clearing_factor, cleared_row}
use Rattle.fields.proofs.Symbols.{length-times, length-plus}
use Rattle.forms.proofs.Flat.{length-row, symbol_is, part_is-row, put_row, length_put_row, row_put_same, row_put_other}

module _ (f : FieldMeaning) (negative inverse : ℕ → ℕ) (n : ℕ) (before : List ℕ) (p c : ℕ) where
  -- What a row m other than the pivot is to become.
  abbrev becomes : ℕ → List ℕ
  becomes m = cleared_row f negative inverse (row_at n before p) c (row_at n before m)

  -- What row m is to become.
  abbrev cleared : ℕ → List ℕ
  cleared m = cond (eqb m p) (row_at n before p) (becomes m)

  -- The rows below i are what they are to become, and the others are as they were.
  pub record PartlyCleared (i : ℕ) (after : List ℕ) : Type 0 where
    pub same : length after ≡ length before
    pub done : (m : ℕ) → m < i → row_at n after m ≡ cleared m
    pub rest : (m : ℕ) → i ≤ m → row_at n after m ≡ row_at n before m

  -- One row more, where it is the pivot.
  pub cleared_pivot : (i : ℕ) (old : List ℕ) → PartlyCleared i old → i ≡ p → PartlyCleared (i + 1) old
  cleared_pivot i old was e = record {
    same = was.same;
    done = λ m l. ⊎_elim (λ here. ap (row_at n old) (here ∙ e) ∙ was.rest p (omega arith) ∙ sym (cond-true _ _ _ (eq-eqb m p (here ∙ e)))) (λ ne. was.done m (omega arith)) (cases_eq m i);
    rest = λ m l. was.rest m (omega arith);
  }

  -- One row more, where it is not the pivot, by what the steps of the turn tell.
  module _ (i : ℕ) (old source word : List ℕ) (inverted quotient factor : ℕ) (was : PartlyCleared i old) (inside : c < n) (pivot-there : HasRow n before p) (row-there : HasRow n before i) (copied : source ≡ row_at n before p) (inverts : inverted ≡ inverse (get_or source c 0)) (divides : quotient ≡ f.product (get_or old (i * n + c) 0) inverted) (negates : factor ≡ negative quotient) (adds : word ≡ plus f (take (i * n + n - i * n) (drop (i * n) old)) (times f factor source)) where
    row_is : row_at n old i ≡ row_at n before i
    row_is = was.rest i (omega arith)

    factor_is : factor ≡ clearing_factor f negative inverse (row_at n before p) c (row_at n before i)
    factor_is =
        let symbol : get_or old (i * n + c) 0 ≡ get_or (row_at n before i) c 0 = sym (symbol_is n old i c inside) ∙ ap (λ u. get_or u c 0) row_is in
        negates ∙ ap negative (divides ∙ ap₂ f.product symbol (inverts ∙ ap (λ u. inverse (get_or u c 0)) copied))

    word-is : word ≡ becomes i
    word-is = adds ∙ ap₂ (plus f) (part_is-row n old i ∙ row_is) (ap₂ (times f) factor_is copied)

    length-word : length word ≡ n
    length-word =
        let row = row_at n before i in
        let multiple = times f (clearing_factor f negative inverse (row_at n before p) c row) (row_at n before p) in
        let long : length row ≡ length multiple = length-row n before i row-there ∙ sym (length-times f _ (row_at n before p) ∙ length-row n before p pivot-there) in
        ap length word-is ∙ length-plus f row multiple long ∙ length-row n before i row-there

    there : HasRow n old i
    there = omega (arith, was.same)

    row_put_here : (i ≡ p → ⊥) → (m : ℕ) → m ≡ i → row_at n (put_row n old i word) m ≡ cleared m
    row_put_here ne m e = ap (row_at n (put_row n old i word)) e ∙ row_put_same n old i word there length-word ∙ word-is ∙ ap becomes (sym e) ∙ sym (cond-false _ _ _ (ne_eqb m p (λ h. ne (sym e ∙ h))))

    pub cleared_more : (i ≡ p → ⊥) → PartlyCleared (i + 1) (put_row n old i word)
    cleared_more ne =
        let other = row_put_other n old i word there length-word in
        record {
          same = length_put_row n old i word there length-word ∙ was.same;
          done = λ m l. ⊎_elim (row_put_here ne m) (λ no. other m no ∙ was.done m (omega arith)) (cases_eq m i);
          rest = λ m l. other m (λ e. omega arith) ∙ was.rest m (omega arith);
        }
