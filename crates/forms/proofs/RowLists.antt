-- A matrix that is given as one list of codes, as the list of its rows: the same steps, and the same codewords.
use Rattle.std.proofs.Common.{◌≡◌, ℕ, ◌*◌, ◌<◌, List, [], length, get_or, set, sym, refl, ap, ◌∙◌, subst, ap₂, inl, inr, arith, length-set}
use Rattle.std.proofs.lemmas.List.{ext_get_or, get_or-set_same, get_or-set_other}
use Rattle.std.proofs.lemmas.List.FromFn.{length-map-range_with_len, get_or-map-range_with_len}
use Rattle.std.proofs.lemmas.Bool.{cases_eq, eq-eqb, ne_eqb, cond-true, cond-false}
use Rattle.theory.specs.Meanings.{FieldMeaning, FieldLaws}
use Rattle.theory.specs.Codes.{plus, times, codewords}
use Rattle.theory.proofs.Lists.Truths.{same_truth}
use Rattle.theory.proofs.Lists.Tests.{decides_in}
use Rattle.theory.proofs.Lists.Listed.{listed-get_or}
use Rattle.theory.proofs.Algebra.Words.{Word, times-word}
use Rattle.theory.proofs.Algebra.Combinations.{Rows, matrix-from}
use Rattle.theory.proofs.Algebra.Columns.{symbol_below}
use Rattle.theory.proofs.Algebra.Codewords.{made_in, made-from-in}
use Rattle.theory.proofs.Algebra.SameCode.{SameCode}
use Rattle.theory.proofs.Algebra.RowSteps.{exchanged}
use Rattle.theory.proofs.Algebra.ReducedSteps.{scaled_one}
use Rattle.forms.specs.Matrices.{row_at, rows_of, symbol_at}
use Rattle.forms.specs.RowSteps.{Exchanged, Pivoted, clearing_factor, cleared_row, unit_scaled}
use Rattle.forms.specs.Elimination.{SameCodewords, Eliminated}
use Rattle.forms.proofs.Flat.{has_row}
use Rattle.forms.proofs.Clearing.{Gained, clearing_low, cleared_symbol}
use Rattle.forms.proofs.Pivoting.{scaled}
use Rattle.forms.proofs.Picking.{Picking, length_exchanged, exchanged_first}

module _ (k n : ℕ) (codes : List ℕ) where
  pub length-rows : length (rows_of k n codes) ≡ k
  length-rows = length-map-range_with_len (row_at n codes) 0 k

  pub get_or-rows : (i : ℕ) → i < k → get_or (rows_of k n codes) i [] ≡ row_at n codes i
  get_or-rows i h = get_or-map-range_with_len (row_at n codes) 0 k i i [] h (omega arith)

  pub symbol_rows : (i c : ℕ) → i < k → get_or (get_or (rows_of k n codes) i []) c 0 ≡ symbol_at n codes i c
  symbol_rows i c h = ap (λ u. get_or u c 0) (get_or-rows i h)

-- Two rows that change places among the codes change places in the list.
pub exchanged_rows : (k n : ℕ) (before : List ℕ) (i j : ℕ) (after : List ℕ) → length before ≡ k * n → i < k → j < k → Exchanged n before i j after → rows_of k n after ≡ exchanged (rows_of k n before) i j
exchanged_rows k n before i j after e hi hj X =
    let rows : List (List ℕ) = rows_of k n before in
    let half : List (List ℕ) = set rows i (get_or rows j []) in
    let long : length rows ≡ k = length-rows k n before in
    ext_get_or [] (rows_of k n after) (exchanged rows i j) (length-rows k n after ∙ sym (length_exchanged rows i j ∙ long)) (λ m l.
    let h : m < k = omega (arith, length-rows k n after) in
    get_or-rows k n after m h
    ∙ X.1 m (has_row n k before m e h)
    ∙ elim (cases_eq m i) [
      | inl s ↦ cond-true _ _ _ (eq-eqb m i s) ∙ sym (ap (λ x. get_or (exchanged rows i j) x []) s ∙ exchanged_first rows i j (omega (arith, long)) (omega (arith, long)) ∙ get_or-rows k n before j hj)
      | inr ni ↦ cond-false _ _ _ (ne_eqb m i ni) ∙ elim (cases_eq m j) [
        | inl s ↦ cond-true _ _ _ (eq-eqb m j s) ∙ sym (ap (λ x. get_or (exchanged rows i j) x []) s ∙ get_or-set_same half j (get_or rows i []) [] (omega (arith, long, length-set rows i (get_or rows j []))) ∙ get_or-rows k n before i hi)
        | inr nj ↦ cond-false _ _ _ (ne_eqb m j nj) ∙ sym (get_or-set_other half j m (get_or rows i []) [] nj ∙ get_or-set_other rows i m (get_or rows j []) [] ni ∙ get_or-rows k n before m h)
      ]
    ])

module _ (f : FieldMeaning) (negative inverse : ℕ → ℕ) (n : ℕ) (before : List ℕ) (p c : ℕ) where
  -- Row p scaled to 1 in column c.
  abbrev pub pivoted_row : List ℕ
  pivoted_row = unit_scaled f negative inverse c (row_at n before p)

  -- How much of it row i has to gain.
  abbrev pub pivoted_factor : ℕ → ℕ
  pivoted_factor i = clearing_factor f negative inverse pivoted_row c (row_at n before i)

module _ {f : FieldMeaning} {negative inverse : ℕ → ℕ} (laws : FieldLaws f negative inverse) (k n : ℕ) (before : List ℕ) (p c : ℕ) (after : List ℕ) (inside : p < k) (P : Pivoted f negative inverse k n before p c after) where
  other_row : (i : ℕ) → i < k → (i ≡ p → ⊥) → get_or (rows_of k n after) i [] ≡ cleared_row f negative inverse (pivoted_row f negative inverse n before p c) c (row_at n before i)
  other_row i h ne = get_or-rows k n after i h ∙ P.1 i h ∙ cond-false _ _ _ (ne_eqb i p ne)

  -- The list of rows takes the same step.
  pub pivoted_gained : Gained f (scaled f inverse (rows_of k n before) p c) (rows_of k n after) p (pivoted_factor f negative inverse n before p c)
  pivoted_gained =
      let pivot : List ℕ = pivoted_row f negative inverse n before p c in
      let factor : ℕ → ℕ = pivoted_factor f negative inverse n before p c in
      let rows : List (List ℕ) = rows_of k n before in
      let r : List ℕ = times f (inverse (get_or (get_or rows p []) c 0)) (get_or rows p []) in
      let long : length (scaled f inverse rows p c) ≡ k = length-set rows p r ∙ length-rows k n before in
      let first : get_or (scaled f inverse rows p c) p [] ≡ pivot = get_or-set_same rows p r [] (omega (arith, length-rows k n before)) ∙ ap (unit_scaled f negative inverse c) (get_or-rows k n before p inside) in
      record {
        as_many = length-rows k n after ∙ sym long;
        inside = omega (arith, long);
        low = λ i l. clearing_low laws pivot c (row_at n before i);
        pivot = get_or-rows k n after p inside ∙ P.1 p inside ∙ cond-true _ _ _ (eq-eqb p p refl) ∙ sym first;
        others = λ i l ne.
            let h : i < k = omega (arith, long) in
            other_row i h ne ∙ ap₂ (λ u v. plus f u (times f (factor i) v)) (sym (get_or-set_other rows p i r [] ne ∙ get_or-rows k n before i h)) (sym first);
      }

  -- In words, where the pivot row is not 0 in the column, the others are 0 there afterwards.
  pub pivoted_clear : Rows f.order n (length (rows_of k n before)) (rows_of k n before) → 0 < symbol_at n before p c → (i : ℕ) → i < k → (i ≡ p → ⊥) → get_or (get_or (rows_of k n after) i []) c 0 ≡ 0
  pivoted_clear R some i h ne =
      let word : (m : ℕ) → m < k → Word f.order n (row_at n before m) = λ m l. subst (Word f.order n) (get_or-rows k n before m l) (listed-get_or [] R m (omega (arith, length-rows k n before))) in
      let x : ℕ = symbol_at n before p c in
      let V : Word f.order n (pivoted_row f negative inverse n before p c) = times-word laws (inverse x) (laws.inverse_below x (symbol_below laws (word p inside) c)) (word p inside) in
      ap (λ u. get_or u c 0) (other_row i h ne) ∙ cleared_symbol laws (word i h) V c (omega (arith, scaled_one laws (word p inside) c some))

-- Two generators with as many rows make the same words exactly if the test finds the same words among their codewords.
module _ {f : FieldMeaning} {n : ℕ} {rows gens : List (List ℕ)} where
  pub same-codewords : SameCode f n rows gens → SameCodewords f n rows gens
  same-codewords S u =
      let in_rows = decides_in u (codewords f n rows) in
      let in-gens = decides_in u (codewords f n gens) in
      same_truth _ _ (λ t. in_rows.1 (made_in (S.back u (made-from-in (in-gens.0 t))))) (λ t. in-gens.1 (made_in (S.there u (made-from-in (in_rows.0 t)))))

  pub same_code-from-codewords : length gens ≡ length rows → SameCodewords f n rows gens → SameCode f n rows gens
  same_code-from-codewords e S = record {
    as_many = e;
    there = λ u m. made-from-in ((decides_in u (codewords f n gens)).0 (S u ∙ (decides_in u (codewords f n rows)).1 (made_in m)));
    back = λ u m. made-from-in ((decides_in u (codewords f n rows)).0 (sym (S u) ∙ (decides_in u (codewords f n gens)).1 (made_in m)));
  }

-- What the elimination leaves.
pub eliminated : {f : FieldMeaning} {n : ℕ} {rows : List (List ℕ)} {all : List ℕ} {gens : List (List ℕ)} {ps rest : List ℕ} → Picking f n rows all gens ps rest → Eliminated f n rows ps gens
eliminated {f} t = record { as_many = t.same_code.as_many; matrix = matrix-from f t.words; same_code = same-codewords t.same_code; unit = t.reduced }
