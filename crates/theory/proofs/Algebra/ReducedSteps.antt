-- The steps of an elimination keep the rows reduced at the places done, where the row that they use comes after those.
use Rattle.std.proofs.Common.{◌≡◌, ℕ, ◌<◌, ◌≤◌, cond, List, [], length, get_or, set, sym, ap, ◌∙◌, inl, inr, arith, length-set}
use Rattle.std.proofs.lemmas.List.{get_or-set_same, get_or-set_other}
use Rattle.std.proofs.lemmas.Bool.{cases_eq, ne_eqb}
use Rattle.theory.specs.Meanings.{FieldMeaning, FieldLaws}
use Rattle.theory.specs.Codes.{plus, times}
use Rattle.theory.proofs.Lists.Listed.{listed-get_or}
use Rattle.theory.proofs.Algebra.Scalars.{one_below, product-zero, sum_zero_right}
use Rattle.theory.proofs.Algebra.Multiples.{get_or-times}
use Rattle.theory.proofs.Algebra.Words.{Word, times-word, get_or-plus}
use Rattle.theory.proofs.Algebra.Combinations.{Rows}
use Rattle.theory.proofs.Algebra.Columns.{symbol_below}
use Rattle.theory.proofs.Algebra.Reduced.{Reduced}
use Rattle.theory.proofs.Algebra.RowSteps.{exchanged}

-- A row after those of the places is zero there.
pub reduced-zero : (gens : List (List ℕ)) (ps : List ℕ) → Reduced gens ps → (i a : ℕ) → length ps ≤ i → i < length gens → a < length ps → get_or (get_or gens i []) (get_or ps a 0) 0 ≡ 0
reduced-zero gens ps D i a h k l = D i a k l ∙ ap (λ b. cond b 1 0) (ne_eqb a i (λ e. omega (arith, e)))

-- A row may be set to one that has the same symbols at the places.
pub reduced-set : (gens : List (List ℕ)) (ps : List ℕ) → Reduced gens ps → (i : ℕ) (r : List ℕ) → i < length gens → ((a : ℕ) → a < length ps → get_or r (get_or ps a 0) 0 ≡ get_or (get_or gens i []) (get_or ps a 0) 0) → Reduced (set gens i r) ps
reduced-set gens ps D i r h same j a k l =
    let m : j < length gens = omega (arith, length-set gens i r) in
    elim (cases_eq j i) [
      | inl e ↦ ap (λ u. get_or u (get_or ps a 0) 0) (ap (λ x. get_or (set gens i r) x []) e ∙ get_or-set_same gens i r [] h) ∙ same a l ∙ ap (λ x. get_or (get_or gens x []) (get_or ps a 0) 0) (sym e) ∙ D j a m l
      | inr ne ↦ ap (λ u. get_or u (get_or ps a 0) 0) (get_or-set_other gens i j r [] ne) ∙ D j a m l
    ]

pub reduced_exchange : (gens : List (List ℕ)) (ps : List ℕ) → Reduced gens ps → (i j : ℕ) → length ps ≤ i → length ps ≤ j → i < length gens → j < length gens → Reduced (exchanged gens i j) ps
reduced_exchange gens ps D i j p q h k =
    let half : List (List ℕ) = set gens i (get_or gens j []) in
    let H : Reduced half ps = reduced-set gens ps D i (get_or gens j []) h (λ a l. reduced-zero gens ps D j a q k l ∙ sym (reduced-zero gens ps D i a p h l)) in
    let m : j < length half = omega (arith, length-set gens i (get_or gens j [])) in
    reduced-set half ps H j (get_or gens i []) m (λ a l. reduced-zero gens ps D i a p h l ∙ sym (reduced-zero half ps H j a q m l))

module _ {f : FieldMeaning} {negative inverse : ℕ → ℕ} (laws : FieldLaws f negative inverse) {n : ℕ} {gens : List (List ℕ)} (G : Rows f.order n (length gens) gens) (ps : List ℕ) (D : Reduced gens ps) where
  pub reduced_scale : (i x : ℕ) → length ps ≤ i → i < length gens → x < f.order → Reduced (set gens i (times f x (get_or gens i []))) ps
  reduced_scale i x p h b =
      reduced-set gens ps D i (times f x (get_or gens i [])) h (λ a l.
      let z = reduced-zero gens ps D i a p h l in
      get_or-times laws x (get_or gens i []) (get_or ps a 0) ∙ ap (f.product x) z ∙ product-zero laws x ∙ sym z)

  -- Row i plus a multiple of row j.
  pub reduced_add : (i j x : ℕ) → length ps ≤ j → i < length gens → j < length gens → x < f.order → Reduced (set gens i (plus f (get_or gens i []) (times f x (get_or gens j [])))) ps
  reduced_add i j x p h k b =
      let u : List ℕ = get_or gens i [] in
      let v : List ℕ = get_or gens j [] in
      let U : Word f.order n u = listed-get_or [] G i h in
      let V : Word f.order n v = listed-get_or [] G j k in
      reduced-set gens ps D i (plus f u (times f x v)) h (λ a l.
      let y : ℕ = get_or ps a 0 in
      get_or-plus laws U (times-word laws x b V) y
      ∙ ap (f.sum (get_or u y 0)) (get_or-times laws x v y ∙ ap (f.product x) (reduced-zero gens ps D j a p k l) ∙ product-zero laws x)
      ∙ sum_zero_right laws (get_or u y 0) (symbol_below laws U y))

module _ {f : FieldMeaning} {negative inverse : ℕ → ℕ} (laws : FieldLaws f negative inverse) {n : ℕ} where
  -- A row by the inverse of its symbol at a place is 1 there,
  pub scaled_one : {u : List ℕ} → Word f.order n u → (p : ℕ) → 0 < get_or u p 0 → get_or (times f (inverse (get_or u p 0)) u) p 0 ≡ 1
  scaled_one {u} U p h =
      let x : ℕ = get_or u p 0 in
      let b : x < f.order = symbol_below laws U p in
      get_or-times laws (inverse x) u p ∙ laws.product_comm (inverse x) x (laws.inverse_below x b) b ∙ laws.inverts x b h

  -- and a row less that multiple of a row that is 1 there is 0.
  pub cleared_zero : {u v : List ℕ} → Word f.order n u → Word f.order n v → (p : ℕ) → get_or v p 0 ≡ 1 → get_or (plus f u (times f (negative (get_or u p 0)) v)) p 0 ≡ 0
  cleared_zero {u} {v} U V p e =
      let x : ℕ = get_or u p 0 in
      let b : x < f.order = symbol_below laws U p in
      let m : negative x < f.order = laws.negative_below x b in
      get_or-plus laws U (times-word laws (negative x) m V) p
      ∙ ap (f.sum x) (get_or-times laws (negative x) v p ∙ ap (f.product (negative x)) e ∙ laws.product_comm (negative x) 1 m (one_below laws) ∙ laws.product_one (negative x) m)
      ∙ laws.cancels x b
