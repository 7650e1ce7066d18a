-- Rows are independent exactly if none is a sum of multiples of the rows before it.
use Rattle.std.proofs.Common.{◌≡◌, ℕ, zero, suc, ◌+◌, ◌-◌, ◌<◌, ◌≤◌, Bool, true, false, cond, List, [], ◌++◌, length, get_or, take, drop, replicate, sym, refl, ap, ◌∙◌, subst, arith, length-append}
use Rattle.std.proofs.lemmas.List.{take_all, take_more, take-append-drop, length-replicate, get_or-append_right}
use Rattle.std.proofs.lemmas.Bool.{both_ways, eq-eqb}
use Rattle.theory.specs.Meanings.{FieldMeaning, FieldLaws}
use Rattle.theory.specs.Codes.{plus, times, combination, codewords}
use Rattle.theory.specs.Facts.{Independent}
use Rattle.theory.specs.Theorems.{dependent, IndependentRows}
use Rattle.theory.proofs.Lists.Zeros.{get_or_zeros}
use Rattle.theory.proofs.Lists.Listed.{Listed, listed-get_or, listed-length, listed-none, more, none}
use Rattle.theory.proofs.Lists.Tests.{decides_in}
use Rattle.theory.proofs.Algebra.Words.{Word, word-from, word-zero}
use Rattle.theory.proofs.Algebra.Combinations.{Rows, rows_from, unit, unit-word, combination-zero, combination-unit}
use Rattle.theory.proofs.Algebra.Reduced.{get_or-unit}
use Rattle.theory.proofs.Algebra.Free.{Free, Spanned, free-from-independent, free_push, combination_injective}
use Rattle.theory.proofs.Algebra.Codewords.{Made, made_in, made-from-in}

module _ {X : Type 0} {P : X → Type 0} where
  listed-take : (i : ℕ) {k : ℕ} {xs : List X} → Listed P k xs → i ≤ k → Listed P i (take i xs)
  listed-take zero w h = none
  listed-take (suc i) none h = absurd (omega arith)
  listed-take (suc i) (more p w) h = more p (listed-take i w (omega arith))

  listed-drop : (i : ℕ) {k : ℕ} {xs : List X} → Listed P k xs → (d : ℕ) × Listed P d (drop i xs)
  listed-drop zero {k} w = (k, w)
  listed-drop (suc i) none = (0, none)
  listed-drop (suc i) (more p w) = listed-drop i w

  listed-append : {j k : ℕ} {xs ys : List X} → Listed P j xs → Listed P k ys → Listed P (length (xs ++ ys)) (xs ++ ys)
  listed-append {ys = ys} none w = subst (λ n. Listed P n ys) (sym (listed-length w)) w
  listed-append (more p v) w = more p (listed-append v w)

module _ {f : FieldMeaning} {negative inverse : ℕ → ℕ} (laws : FieldLaws f negative inverse) where
  -- Rows with the coefficient 0 may be left out at the end.
  combination_zeros : {n j k : ℕ} {cs : List ℕ} {xs ys : List (List ℕ)} → Word f.order j cs → Rows f.order n j xs → Rows f.order n k ys → combination f n (cs ++ replicate k 0) (xs ++ ys) ≡ combination f n cs xs
  combination_zeros none none R = combination-zero laws R
  combination_zeros (more {x = c} h w) (more {x = r} p x) R = ap (plus f (times f c r)) (combination_zeros w x R)

  module _ (n : ℕ) (rows : List (List ℕ)) (R : Rows f.order n (length rows) rows) where
    spanned_dependent : (i : ℕ) → i < length rows → Spanned f n i (take i rows) (get_or rows i []) → dependent f n rows i ≡ true
    spanned_dependent i h s = (decides_in (get_or rows i []) (codewords f n (take i rows))).1 (made_in (record { coefficients = s.coefficients; codes = subst (λ k. Word f.order k s.coefficients) (sym (listed-length (listed-take i R (omega arith)))) s.codes; is = s.is }))

    dependent_spanned : (i : ℕ) → i < length rows → dependent f n rows i ≡ true → Spanned f n i (take i rows) (get_or rows i [])
    dependent_spanned i h e =
        let m : Made f n (take i rows) (get_or rows i []) = made-from-in ((decides_in (get_or rows i []) (codewords f n (take i rows))).0 e) in
        record { coefficients = m.coefficients; codes = subst (λ k. Word f.order k m.coefficients) (listed-length (listed-take i R (omega arith))) m.codes; is = m.is }

    free_next : (m : ℕ) → m < length rows → dependent f n rows m ≡ false → Free f n m (take m rows) → Free f n (suc m) (take (suc m) rows)
    free_next m h apart F = subst (Free f n (suc m)) (sym (take_more rows m [] h) ∙ ap (λ k. take k rows) (let z : m + 1 ≡ suc m = omega arith in z))
        (free_push laws (listed-get_or [] R m h) (listed-take m R (omega arith)) F (λ s. both_ways (dependent f n rows m) apart (spanned_dependent m h s)))

    free-front : ((i : ℕ) → i < length rows → dependent f n rows i ≡ false) → (m : ℕ) → m ≤ length rows → Free f n m (take m rows)
    free-front apart zero h = λ cs w e. listed-none w
    free-front apart (suc m) h = free_next m (omega arith) (apart m (omega arith)) (free-front apart m (omega arith))

    independent-from_apart : ((i : ℕ) → i < length rows → dependent f n rows i ≡ false) → Independent f n rows
    independent-from_apart apart cs l b e = free-front apart (length rows) (omega arith) cs (word-from f.order (length rows) cs l b) (ap (combination f n cs) (take_all (length rows) rows (omega arith)) ∙ e)

    -- The coefficients of a dependent row, and 0 for the rows from it on, give the row, as its own 1 does.
    dependent-not : Independent f n rows → (i : ℕ) → i < length rows → Spanned f n i (take i rows) (get_or rows i []) → ⊥
    dependent-not I i h s =
        let d = listed-drop i R in
        let cs : List ℕ = s.coefficients ++ replicate d.0 0 in
        let whole : take i rows ++ drop i rows ≡ rows = take-append-drop i rows in
        let long : length cs ≡ length rows = omega (arith, length-append s.coefficients (replicate d.0 0), length-replicate {A = ℕ} d.0 0, listed-length s.codes, ap length whole, length-append (take i rows) (drop i rows), listed-length (listed-take i R (omega arith)), listed-length d.1) in
        let same : cs ≡ unit (length rows) i = combination_injective laws R (free-from-independent f n rows I) (subst (λ k. Word f.order k cs) long (listed-append s.codes (word-zero laws d.0))) (unit-word laws (length rows) i)
        (ap (combination f n cs) (sym whole) ∙ combination_zeros s.codes (listed-take i R (omega arith)) d.1 ∙ sym s.is ∙ sym (combination-unit laws R i h)) in
        let zero-at : get_or cs i 0 ≡ 0 = get_or-append_right s.coefficients (replicate d.0 0) i i 0 (listed-length s.codes) (omega arith) ∙ get_or_zeros d.0 (i - i) in
        omega (arith, zero-at, ap (λ (u : List ℕ). get_or u i 0) same, get_or-unit (length rows) i i h, ap {B = ℕ} (λ (b : Bool). cond b 1 0) (eq-eqb i i refl))

    apart_from-independent : Independent f n rows → (i : ℕ) → i < length rows → dependent f n rows i ≡ false
    apart_from-independent I i h = go (dependent f n rows i) refl
      where
        go : (b : Bool) → dependent f n rows i ≡ b → dependent f n rows i ≡ false
        go true e = absurd (dependent-not I i h (dependent_spanned i h e))
        go false e = e

pub independent-rows : (f : FieldMeaning) (negative inverse : ℕ → ℕ) → FieldLaws f negative inverse → IndependentRows f
independent-rows f negative inverse laws n rows m = (apart_from-independent laws n rows (rows_from f n rows m), independent-from_apart laws n rows (rows_from f n rows m))
