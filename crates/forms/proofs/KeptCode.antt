-- Each step of an elimination on the codes of a matrix keeps its code.
use Rattle.std.proofs.Common.{◌≡◌, ℕ, ◌*◌, ◌<◌, true, ◌&&◌, eqb, ltb, List, [], length, get_or, set, sym, refl, ap, ◌∙◌, subst, ap₂, inl, inr, arith, length-set}
use Rattle.std.proofs.lemmas.List.{ext_get_or, get_or-set_same, get_or-set_other}
use Rattle.std.proofs.lemmas.Bool.{and_parts, eqb-true, ltb-true, cases_eq, eq-eqb, ne_eqb, cond-true, cond-false}
use Rattle.theory.specs.Meanings.{FieldMeaning, FieldLaws}
use Rattle.theory.specs.Codes.{plus, times}
use Rattle.theory.specs.Facts.{Matrix}
use Rattle.theory.proofs.Lists.Listed.{listed-get_or}
use Rattle.theory.proofs.Algebra.Scalars.{inverse_nonzero}
use Rattle.theory.proofs.Algebra.Words.{Word, times-word}
use Rattle.theory.proofs.Algebra.Combinations.{Rows, rows_from, matrix-from}
use Rattle.theory.proofs.Algebra.Columns.{symbol_below}
use Rattle.theory.proofs.Algebra.SameCode.{SameCode}
use Rattle.theory.proofs.Algebra.RowSteps.{rows-set, rows_exchanged, same_code_exchange, same_code_scale}
use Rattle.theory.proofs.Algebra.ReducedSteps.{scaled_one}
use Rattle.theory.proofs.Algebra.Independence.{independent_kept}
use Rattle.forms.specs.Matrices.{row_at, rows_of, symbol_at}
use Rattle.forms.specs.RowSteps.{Exchanged, Scaled, Cleared, clearing_factor}
use Rattle.forms.specs.MatrixSteps.{KeepsCode}
use Rattle.forms.specs.MatrixSteps as tests
use Rattle.forms.proofs.Flat.{has_row}
use Rattle.forms.proofs.Clearing.{Gained, clearing_low, cleared_symbol, gained_rows, gained_same_code}
use Rattle.forms.proofs.RowLists.{length-rows, get_or-rows, exchanged_rows, same-codewords}

-- What the tests tell.
pub row_told : (k n : ℕ) (codes : List ℕ) (i : ℕ) → tests.has_row k n codes i ≡ true → (length codes ≡ k * n) × (i < k)
row_told k n codes i h =
    let p = and_parts (eqb (k * n) (length codes)) (ltb i k) h in
    (sym (eqb-true (k * n) (length codes) p.0), ltb-true i k p.1)

pub both_told : (k n : ℕ) (codes : List ℕ) (i j : ℕ) → tests.both_rows k n codes i j ≡ true → (length codes ≡ k * n) × (i < k) × (j < k)
both_told k n codes i j h =
    let p = and_parts (tests.has_row k n codes i) (tests.has_row k n codes j) h in
    let r = row_told k n codes i p.0 in
    (r.0, r.1, (row_told k n codes j p.1).1)

pub pivot-told : (k n : ℕ) (codes : List ℕ) (i c : ℕ) → tests.has_pivot k n codes i c ≡ true → (length codes ≡ k * n) × (i < k) × (c < n) × (0 < symbol_at n codes i c)
pivot-told k n codes i c h =
    let p = and_parts (tests.has_row k n codes i && ltb c n) (ltb 0 (symbol_at n codes i c)) h in
    let q = and_parts (tests.has_row k n codes i) (ltb c n) p.0 in
    let r = row_told k n codes i q.0 in
    (r.0, r.1, ltb-true c n q.1, ltb-true 0 (symbol_at n codes i c) p.1)

module _ {f : FieldMeaning} {negative inverse : ℕ → ℕ} (laws : FieldLaws f negative inverse) where
  -- A step from words to words that generate the same code keeps the code.
  keeps_code : {n : ℕ} {rows gens : List (List ℕ)} → (Rows f.order n (length rows) rows → Rows f.order n (length gens) gens × SameCode f n rows gens) → KeepsCode f n rows gens
  keeps_code {n} {rows} step m =
      let R = rows_from f n rows m in
      let s = step R in
      (matrix-from f s.0, same-codewords s.1, independent_kept laws s.0 R (record { as_many = sym s.1.as_many; there = s.1.back; back = s.1.there }))

  module _ (k n : ℕ) (before : List ℕ) where
    abbrev rows : List (List ℕ)
    rows = rows_of k n before

    pub exchange_keeps : (i j : ℕ) → tests.both_rows k n before i j ≡ true → (after : List ℕ) → Exchanged n before i j after → KeepsCode f n rows (rows_of k n after)
    exchange_keeps i j there after X =
        let told = both_told k n before i j there in
        let e = told.0 in
        let hi = told.1 in
        let hj = told.2 in
        let a : i < length rows = omega (arith, length-rows k n before) in
        let b : j < length rows = omega (arith, length-rows k n before) in
        keeps_code (λ R. subst (λ gens. Rows f.order n (length gens) gens × SameCode f n rows gens) (sym (exchanged_rows k n before i j after e hi hj X)) (rows_exchanged laws R i j a b, same_code_exchange laws R i j a b))

    -- A row of the matrix is a word.
    row_word : Rows f.order n (length rows) rows → (i : ℕ) → i < k → Word f.order n (row_at n before i)
    row_word R i h = subst (Word f.order n) (get_or-rows k n before i h) (listed-get_or [] R i (omega (arith, length-rows k n before)))

    module _ (p c : ℕ) (pivot : tests.has_pivot k n before p c ≡ true) where
      e : length before ≡ k * n
      e = (pivot-told k n before p c pivot).0

      inside : p < k
      inside = (pivot-told k n before p c pivot).1

      some : 0 < symbol_at n before p c
      some = (pivot-told k n before p c pivot).3

      -- A row that is scaled among the codes is scaled in the list.
      scaled_rows : (factor : ℕ) (after : List ℕ) → Scaled f n before p factor after → rows_of k n after ≡ set rows p (times f factor (get_or rows p []))
      scaled_rows factor after S =
          let r : List ℕ = times f factor (get_or rows p []) in
          let long : length rows ≡ k = length-rows k n before in
          ext_get_or [] (rows_of k n after) (set rows p r) (length-rows k n after ∙ sym (length-set rows p r ∙ long)) (λ m l.
          let h : m < k = omega (arith, length-rows k n after) in
          get_or-rows k n after m h
          ∙ S.1 m (has_row n k before m e h)
          ∙ elim (cases_eq m p) [
            | inl s ↦ cond-true _ _ _ (eq-eqb m p s) ∙ ap (times f factor) (sym (get_or-rows k n before p inside)) ∙ sym (ap (λ x. get_or (set rows p r) x []) s ∙ get_or-set_same rows p r [] (omega (arith, long, inside)))
            | inr ne ↦ cond-false _ _ _ (ne_eqb m p ne) ∙ sym (get_or-set_other rows p m r [] ne ∙ get_or-rows k n before m h)
          ])

      pub scale_keeps : (after : List ℕ) → Scaled f n before p (inverse (symbol_at n before p c)) after → KeepsCode f n rows (rows_of k n after)
      scale_keeps after S =
          let x : ℕ = symbol_at n before p c in
          let there : p < length rows = omega (arith, length-rows k n before, inside) in
          keeps_code (λ R.
          let low : x < f.order = symbol_below laws (row_word R p inside) c in
          let factor_low : inverse x < f.order = laws.inverse_below x low in
          subst (λ gens. Rows f.order n (length gens) gens × SameCode f n rows gens) (sym (scaled_rows (inverse x) after S))
          (rows-set laws R p (times-word laws (inverse x) factor_low (listed-get_or [] R p there)), same_code_scale laws R p (inverse x) there factor_low (inverse_nonzero laws x some low)))

      pub scale_one : (after : List ℕ) → Scaled f n before p (inverse (symbol_at n before p c)) after → Matrix f n rows → symbol_at n after p c ≡ 1
      scale_one after S m =
          ap (λ u. get_or u c 0) (S.1 p (has_row n k before p e inside) ∙ cond-true _ _ _ (eq-eqb p p refl))
          ∙ scaled_one laws (row_word (rows_from f n rows m) p inside) c some

      module _ (after : List ℕ) (C : Cleared f negative inverse k n before p c after) where
        -- The list of rows takes the same step.
        cleared_gained : Gained f rows (rows_of k n after) p (λ i. clearing_factor f negative inverse (row_at n before p) c (row_at n before i))
        cleared_gained =
            let long : length rows ≡ k = length-rows k n before in
            record {
              as_many = length-rows k n after ∙ sym long;
              inside = omega (arith, long, inside);
              low = λ i l. clearing_low laws (row_at n before p) c (row_at n before i);
              pivot = get_or-rows k n after p inside ∙ C.1 p inside ∙ cond-true _ _ _ (eq-eqb p p refl) ∙ sym (get_or-rows k n before p inside);
              others = λ i l ne.
                  let h : i < k = omega (arith, long) in
                  get_or-rows k n after i h ∙ C.1 i h ∙ cond-false _ _ _ (ne_eqb i p ne)
                  ∙ ap₂ (λ u v. plus f u (times f (clearing_factor f negative inverse (row_at n before p) c (row_at n before i)) v)) (sym (get_or-rows k n before i h)) (sym (get_or-rows k n before p inside));
            }

        pub clear_keeps : KeepsCode f n rows (rows_of k n after)
        clear_keeps = keeps_code (λ R. (gained_rows laws R cleared_gained, gained_same_code laws R cleared_gained))

        pub clear_zeros : Matrix f n rows → (i : ℕ) → i < k → (i ≡ p → ⊥) → symbol_at n after i c ≡ 0
        clear_zeros m i h ne =
            let R = rows_from f n rows m in
            ap (λ u. get_or u c 0) (C.1 i h ∙ cond-false _ _ _ (ne_eqb i p ne)) ∙ cleared_symbol laws (row_word R i h) (row_word R p inside) c some
