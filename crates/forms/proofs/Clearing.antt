-- What clearing a column keeps and gives.
use Rattle.std.proofs.Common.{◌≡◌, ℕ, ◌<◌, ◌≤◌, min, List, [], length, get_or, take, sym, refl, ap, ◌∙◌, subst, ap₂, inl, inr, arith, length-take}
use Rattle.std.proofs.lemmas.List.{get_or-take}
use Rattle.std.proofs.lemmas.Bool.{cases_eq}
use Rattle.theory.specs.Meanings.{FieldMeaning, FieldLaws}
use Rattle.theory.specs.Codes.{plus, times}
use Rattle.theory.proofs.Lists.Listed.{listed-from, listed-get_or}
use Rattle.theory.proofs.Algebra.Scalars.{one_below, product-low, product_assoc_all, product_comm_all, distributes_right, zero-product, product-zero, sum_zero_right, inverse_left}
use Rattle.theory.proofs.Algebra.Multiples.{get_or-times}
use Rattle.theory.proofs.Algebra.Words.{Word, times-word, plus_assoc, plus-zero, plus_negative, get_or-plus}
use Rattle.theory.proofs.Algebra.Combinations.{Rows}
use Rattle.theory.proofs.Algebra.Columns.{symbol_below}
use Rattle.theory.proofs.Algebra.Codewords.{Made, made_word, made_row, made-plus, made-times}
use Rattle.theory.proofs.Algebra.SameCode.{SameCode}
use Rattle.theory.proofs.Algebra.RowSteps.{same_code-from}
use Rattle.theory.proofs.Algebra.Reduced.{Reduced}
use Rattle.theory.proofs.Algebra.ReducedSteps.{reduced-zero}
use Rattle.forms.specs.RowSteps.{clearing_factor, cleared_row}

-- Every row but p has gained a multiple of row p, and row p is as it was.
pub record Gained (f : FieldMeaning) (rows gens : List (List ℕ)) (p : ℕ) (factor : ℕ → ℕ) : Type 0 where
  pub as_many : length gens ≡ length rows
  pub inside : p < length rows
  pub low : (i : ℕ) → i < length rows → factor i < f.order
  pub pivot : get_or gens p [] ≡ get_or rows p []
  pub others : (i : ℕ) → i < length rows → (i ≡ p → ⊥) → get_or gens i [] ≡ plus f (get_or rows i []) (times f (factor i) (get_or rows p []))

-- The first m rows gain the same, if row p is among them.
pub gained_take : {f : FieldMeaning} {rows gens : List (List ℕ)} {p : ℕ} {factor : ℕ → ℕ} → Gained f rows gens p factor → (m : ℕ) → p < m → Gained f (take m rows) (take m gens) p factor
gained_take {f} {rows} {gens} {p} {factor} g m h =
    let front : (i : ℕ) (xs : List (List ℕ)) → i < m → get_or (take m xs) i [] ≡ get_or xs i [] = λ i xs l. get_or-take m xs i [] l in
    record {
      as_many = length-take m gens ∙ ap (min m) g.as_many ∙ sym (length-take m rows);
      inside = omega (arith, length-take m rows, g.inside);
      low = λ i l. g.low i (omega (arith, length-take m rows));
      pivot = front p gens h ∙ g.pivot ∙ sym (front p rows h);
      others = λ i l ne.
          let k : i < m = omega (arith, length-take m rows) in
          front i gens k ∙ g.others i (omega (arith, length-take m rows)) ne ∙ ap₂ (λ u v. plus f u (times f (factor i) v)) (sym (front i rows k)) (sym (front p rows h));
    }

module _ {f : FieldMeaning} {negative inverse : ℕ → ℕ} (laws : FieldLaws f negative inverse) where
  pub clearing_low : (pivot : List ℕ) (c : ℕ) (u : List ℕ) → clearing_factor f negative inverse pivot c u < f.order
  clearing_low pivot c u = let x : ℕ = f.product (get_or u c 0) (inverse (get_or pivot c 0)) in laws.negative_below x (product-low laws (get_or u c 0) (inverse (get_or pivot c 0)))

  -- A row that has gained the clearing multiple of a row that is not 0 in column c is 0 there.
  pub cleared_symbol : {n : ℕ} {u v : List ℕ} → Word f.order n u → Word f.order n v → (c : ℕ) → 0 < get_or v c 0 → get_or (cleared_row f negative inverse v c u) c 0 ≡ 0
  cleared_symbol {n} {u} {v} U V c h =
      let x : ℕ = get_or u c 0 in
      let y : ℕ = get_or v c 0 in
      let a : x < f.order = symbol_below laws U c in
      let b : y < f.order = symbol_below laws V c in
      let z : ℕ = f.product x (inverse y) in
      let back : f.product z y ≡ x = product_assoc_all laws x (inverse y) y ∙ ap (f.product x) (inverse_left laws y h b) ∙ product_comm_all laws x 1 ∙ laws.product_one x a in
      get_or-plus laws U (times-word laws (negative z) (clearing_low v c u) V) c
      ∙ ap (f.sum x) (get_or-times laws (negative z) v c)
      ∙ ap (λ t. f.sum t (f.product (negative z) y)) (sym back)
      ∙ sym (distributes_right laws z (negative z) y)
      ∙ ap (λ t. f.product t y) (laws.cancels z (product-low laws x (inverse y)))
      ∙ zero-product laws y

  -- A word that was added goes away by adding its negative.
  pub plus-back : {n : ℕ} {u v w : List ℕ} → Word f.order n u → Word f.order n v → w ≡ plus f u v → plus f w (times f (negative 1) v) ≡ u
  plus-back {u = u} {v} U V e =
      ap (λ x. plus f x (times f (negative 1) v)) e
      ∙ plus_assoc laws U V (times-word laws (negative 1) (laws.negative_below 1 (one_below laws)) V)
      ∙ ap (plus f u) (plus_negative laws V)
      ∙ plus-zero laws U

module _ {f : FieldMeaning} {negative inverse : ℕ → ℕ} (laws : FieldLaws f negative inverse) {n : ℕ} {rows gens : List (List ℕ)} {p : ℕ} {factor : ℕ → ℕ}
    (R : Rows f.order n (length rows) rows) (g : Gained f rows gens p factor) where
  -- Each row is made from those before the step.
  gained_made : (i : ℕ) → i < length rows → Made f n rows (get_or gens i [])
  gained_made i h = elim (cases_eq i p) [
    | inl e ↦ subst (Made f n rows) (sym (ap (λ x. get_or gens x []) e ∙ g.pivot)) (made_row laws R p g.inside)
    | inr ne ↦ subst (Made f n rows) (sym (g.others i h ne)) (made-plus laws R (made_row laws R i h) (made-times laws R (factor i) (g.low i h) (made_row laws R p g.inside)))
  ]

  pub gained_rows : Rows f.order n (length gens) gens
  gained_rows = listed-from [] (length gens) gens refl (λ i l. made_word laws R (gained_made i (omega (arith, g.as_many))))

  -- Each row is made again: row p is there, and another is what it became less what it gained.
  gained_back : (i : ℕ) → i < length rows → Made f n gens (get_or rows i [])
  gained_back i h =
      let kept : Made f n gens (get_or rows p []) = subst (Made f n gens) g.pivot (made_row laws gained_rows p (omega (arith, g.as_many, g.inside))) in
      elim (cases_eq i p) [
        | inl e ↦ subst (Made f n gens) (sym (ap (λ x. get_or rows x []) e)) kept
        | inr ne ↦
            let u : List ℕ = get_or rows i [] in
            let x : List ℕ = times f (factor i) (get_or rows p []) in
            let U : Word f.order n u = listed-get_or [] R i h in
            let X : Word f.order n x = times-word laws (factor i) (g.low i h) (listed-get_or [] R p g.inside) in
            subst (Made f n gens) (plus-back laws U X (g.others i h ne)) (made-plus laws gained_rows (made_row laws gained_rows i (omega (arith, g.as_many))) (made-times laws gained_rows (negative 1) (laws.negative_below 1 (one_below laws)) (made-times laws gained_rows (factor i) (g.low i h) kept)))
      ]

  pub gained_same_code : SameCode f n rows gens
  gained_same_code = same_code-from laws R gens gained_rows g.as_many (λ i l. gained_made i (omega (arith, g.as_many))) gained_back

  -- The places where the rows are reduced, before row p, stay so.
  pub gained_reduced : (ps : List ℕ) → Reduced rows ps → length ps ≤ p → Reduced gens ps
  gained_reduced ps D few i a k l =
      let h : i < length rows = omega (arith, g.as_many) in
      let y : ℕ = get_or ps a 0 in
      elim (cases_eq i p) [
        | inl e ↦ ap (λ r. get_or r y 0) (ap (λ x. get_or gens x []) e ∙ g.pivot ∙ ap (λ x. get_or rows x []) (sym e)) ∙ D i a h l
        | inr ne ↦
            let U : Word f.order n (get_or rows i []) = listed-get_or [] R i h in
            let X = times-word laws (factor i) (g.low i h) (listed-get_or [] R p g.inside) in
            ap (λ r. get_or r y 0) (g.others i h ne)
            ∙ get_or-plus laws U X y
            ∙ ap (f.sum (get_or (get_or rows i []) y 0)) (get_or-times laws (factor i) (get_or rows p []) y ∙ ap (f.product (factor i)) (reduced-zero rows ps D p a few g.inside l) ∙ product-zero laws (factor i))
            ∙ sum_zero_right laws (get_or (get_or rows i []) y 0) (symbol_below laws U y)
            ∙ D i a h l
      ]
