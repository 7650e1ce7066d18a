-- Which row is the first that depends on the rows before it, told by an elimination without exchanges.
use Rattle.std.proofs.Common.{◌≡◌, ℕ, zero, suc, ◌<◌, ◌≤◌, min, List, [], ◌∷◌, ◌++◌, length, get_or, take, set, replicate, sym, refl, ap, ◌∙◌, subst, inl, inr, arith, length-set, length-take}
use Rattle.std.proofs.lemmas.List.{ext_get_or, get_or-take, get_or-set_other, length_push, length-replicate}
use Rattle.std.proofs.lemmas.Bool.{cases_lt}
use Rattle.theory.specs.Meanings.{FieldMeaning, FieldLaws}
use Rattle.theory.specs.Codes.{plus, times, combination, codewords, is_zero}
use Rattle.theory.specs.Theorems.{dependent}
use Rattle.theory.proofs.Lists.Truths.{same_truth}
use Rattle.theory.proofs.Lists.Zeros.{get_or_zeros, is_zero_decides, is_zero-replicate}
use Rattle.theory.proofs.Lists.Listed.{listed-from, listed-get_or, listed-length}
use Rattle.theory.proofs.Lists.Tests.{decides_in}
use Rattle.theory.proofs.Algebra.Scalars.{one_below}
use Rattle.theory.proofs.Algebra.Words.{Word, plus_comm, plus_assoc, plus-zero, opposite}
use Rattle.theory.proofs.Algebra.Combinations.{Rows, combination-zero}
use Rattle.theory.proofs.Algebra.Codewords.{Made, made_in, made-from-in, made_word, made_row, made-zero, made-plus, made-times}
use Rattle.theory.proofs.Algebra.SameCode.{SameCode, made_through}
use Rattle.theory.proofs.Algebra.RowSteps.{same_code-from, same_code-refl, same_code_then}
use Rattle.theory.proofs.Algebra.Reduced.{Reduced, reduced_symbol}
use Rattle.theory.proofs.Algebra.ReducedSteps.{reduced-zero}
use Rattle.forms.proofs.Clearing.{Gained, gained_take, plus-back}
use Rattle.forms.proofs.Pivoting.{scaled, pivoted_length, pivoted_rows, pivoted_same_code, pivoted_reduced}

-- After i rows, with the columns picked for them: the rows as they are now are reduced there, the first i generate what those generated before, and each later one has gained a word made from the first i.
pub record Tested (f : FieldMeaning) (n : ℕ) (rows gens : List (List ℕ)) (i : ℕ) (ps : List ℕ) : Type 0 where
  pub as_many : length gens ≡ length rows
  pub words : Rows f.order n (length gens) gens
  pub count : length ps ≡ i
  pub reduced : Reduced gens ps
  pub front : SameCode f n (take i rows) (take i gens)
  pub rest : (m : ℕ) → i ≤ m → m < length rows → (w : List ℕ) × Made f n (take i rows) w × (get_or gens m [] ≡ plus f (get_or rows m []) w)

-- The first rows.
rows_take : {q n : ℕ} {rows : List (List ℕ)} → Rows q n (length rows) rows → (i : ℕ) → Rows q n (length (take i rows)) (take i rows)
rows_take {q} {n} {rows} R i = listed-from [] (length (take i rows)) (take i rows) refl
    (λ j l. subst (Word q n) (sym (get_or-take i rows j [] (omega (arith, length-take i rows)))) (listed-get_or [] R j (omega (arith, length-take i rows))))

reduced-take : (gens : List (List ℕ)) (ps : List ℕ) → Reduced gens ps → (i : ℕ) → Reduced (take i gens) ps
reduced-take gens ps D i j a h l = ap (λ r. get_or r (get_or ps a 0) 0) (get_or-take i gens j [] (omega (arith, length-take i gens))) ∙ D j a (omega (arith, length-take i gens)) l

take-set-last : {X : Type 0} (xs : List X) (i : ℕ) (x : X) → take (suc i) (set xs i x) ≡ set (take (suc i) xs) i x
take-set-last [] zero x = refl
take-set-last [] (suc i) x = refl
take-set-last (y ∷ xs) zero x = refl
take-set-last (y ∷ xs) (suc i) x = ap (λ l. y ∷ l) (take-set-last xs i x)

module _ {f : FieldMeaning} {negative inverse : ℕ → ℕ} (laws : FieldLaws f negative inverse) {n : ℕ} where
  made-front : {rows : List (List ℕ)} → Rows f.order n (length rows) rows → (i j : ℕ) → j < i → j < length rows → Made f n (take i rows) (get_or rows j [])
  made-front {rows} R i j h l = subst (Made f n (take i rows)) (get_or-take i rows j [] h) (made_row laws (rows_take R i) j (omega (arith, length-take i rows)))

  made_more : {rows : List (List ℕ)} → Rows f.order n (length rows) rows → (i : ℕ) {u : List ℕ} → Made f n (take i rows) u → Made f n (take (suc i) rows) u
  made_more {rows} R i {u} = made_through laws (rows_take R (suc i)) (rows_take R i)
      (listed-from [] (length (take i rows)) (take i rows) refl (λ j l. subst (Made f n (take (suc i) rows)) (sym (get_or-take i rows j [] (omega (arith, length-take i rows)))) (made-front R (suc i) j (omega (arith, length-take i rows)) (omega (arith, length-take i rows))))) u

  -- The front with one row more.
  front-more : {rows gens : List (List ℕ)} {i : ℕ} {ps : List ℕ} → Rows f.order n (length rows) rows → Tested f n rows gens i ps → i < length rows → SameCode f n (take (suc i) rows) (take (suc i) gens)
  front-more {rows} {gens} {i} R t h =
      let X = rows_take R (suc i) in
      let G = rows_take t.words (suc i) in
      let x = t.rest i (omega arith) h in
      let w : List ℕ = x.0 in
      let W : Word f.order n w = made_word laws (rows_take R i) x.1 in
      let low : negative 1 < f.order = laws.negative_below 1 (one_below laws) in
      same_code-from laws X (take (suc i) gens) G (length-take (suc i) gens ∙ ap (min (suc i)) t.as_many ∙ sym (length-take (suc i) rows))
      (λ j l.
      let k : j < length rows = omega (arith, length-take (suc i) gens, t.as_many) in
      let m : j < suc i = omega (arith, length-take (suc i) gens) in
      subst (Made f n (take (suc i) rows)) (sym (get_or-take (suc i) gens j [] m)) (elim (cases_lt j i) [
        | inl b ↦ made_more R i (t.front.back (get_or gens j []) (made-front t.words i j b (omega (arith, t.as_many))))
        | inr b ↦ subst (λ j. Made f n (take (suc i) rows) (get_or gens j [])) (let e : i ≡ j = omega arith in e) (subst (Made f n (take (suc i) rows)) (sym x.2) (made-plus laws X (made-front R (suc i) i (omega arith) h) (made_more R i x.1)))
      ]))
      (λ j l.
      let k : j < length rows = omega (arith, length-take (suc i) rows) in
      let m : j < suc i = omega (arith, length-take (suc i) rows) in
      subst (Made f n (take (suc i) gens)) (sym (get_or-take (suc i) rows j [] m)) (elim (cases_lt j i) [
        | inl b ↦ made_more t.words i (t.front.there (get_or rows j []) (made-front R i j b k))
        | inr b ↦ subst (λ j. Made f n (take (suc i) gens) (get_or rows j [])) (let e : i ≡ j = omega arith in e)
            (subst (Made f n (take (suc i) gens)) (plus-back laws (listed-get_or [] R i h) W x.2) (made-plus laws G (made-front t.words (suc i) i (omega arith) (omega (arith, t.as_many))) (made-times laws G (negative 1) low (made_more t.words i (t.front.there w x.1)))))
      ]))

module _ {f : FieldMeaning} {negative inverse : ℕ → ℕ} (laws : FieldLaws f negative inverse) {n : ℕ} {rows : List (List ℕ)} (R : Rows f.order n (length rows) rows) where
  pub tested_start : Tested f n rows rows 0 []
  tested_start = record {
    as_many = refl;
    words = R;
    count = refl;
    reduced = λ j a h l. absurd (omega arith);
    front = same_code-refl f n (take 0 rows);
    rest = λ m h l. (replicate n 0, made-zero laws (rows_take R 0), sym (plus-zero laws (listed-get_or [] R m l)));
  }

  -- Row i of the rows now is 0 exactly if row i depends on those before it: made from rows reduced at the columns picked, it has its coefficients there, and they are 0.
  pub tested_tells : {gens : List (List ℕ)} {i : ℕ} {ps : List ℕ} → Tested f n rows gens i ps → i < length rows → is_zero (get_or gens i []) ≡ dependent f n rows i
  tested_tells {gens} {i} {ps} t h =
      let r : List ℕ = get_or rows i [] in
      let u : List ℕ = get_or gens i [] in
      let in-gens : i < length gens = omega (arith, t.as_many) in
      let X = rows_take R i in
      let G = rows_take t.words i in
      let U : Word f.order n u = listed-get_or [] t.words i in-gens in
      let x = t.rest i (omega arith) h in
      let w : List ℕ = x.0 in
      let W : Word f.order n w = made_word laws X x.1 in
      let V : Word f.order n r = listed-get_or [] R i h in
      let long : length (take i gens) ≡ i = omega (arith, length-take i gens) in
      same_truth (is_zero u) (dependent f n rows i)
      (λ z.
      let sum_zero : plus f w r ≡ replicate n 0 = plus_comm laws W V ∙ sym x.2 ∙ (is_zero_decides u).0 z ∙ ap (λ k. replicate k 0) (listed-length U) in
      (decides_in r (codewords f n (take i rows))).1 (made_in (subst (Made f n (take i rows)) (sym (opposite laws W V sum_zero)) (made-times laws X (negative 1) (laws.negative_below 1 (one_below laws)) x.1))))
      (λ d.
      let m : Made f n (take i gens) u = t.front.there u (subst (Made f n (take i rows)) (sym x.2) (made-plus laws X (made-from-in ((decides_in r (codewords f n (take i rows))).0 d)) x.1)) in
      let cs : List ℕ = m.coefficients in
      let none_left : cs ≡ replicate (length (take i gens)) 0 = ext_get_or 0 cs (replicate (length (take i gens)) 0) (listed-length m.codes ∙ sym (length-replicate {A = ℕ} (length (take i gens)) 0))
      (λ a l. let k : a < length ps = omega (arith, t.count, listed-length m.codes) in
      sym (reduced_symbol laws G ps (reduced-take gens ps t.reduced i) m.codes a k)
      ∙ ap (λ v. get_or v (get_or ps a 0) 0) (sym m.is)
      ∙ reduced-zero gens ps t.reduced i a (omega (arith, t.count)) in-gens k
      ∙ sym (get_or_zeros (length (take i gens)) a)) in
      ap is_zero (m.is ∙ ap (λ ds. combination f n ds (take i gens)) none_left ∙ combination-zero laws G) ∙ is_zero-replicate n)

  -- The columns picked and one more, after row i is made 1 there and the others 0.
  module _ {gens next : List (List ℕ)} {i : ℕ} {ps : List ℕ} {factor : ℕ → ℕ} (t : Tested f n rows gens i ps) (c : ℕ) (some : 0 < get_or (get_or gens i []) c 0) (g : Gained f (scaled f inverse gens i c) next i factor) where
    here : i < length rows
    here = omega (arith, g.inside, g.as_many, t.as_many, pivoted_length laws t.words i c some g)

    -- The front with row i, before the step,
    front-before : SameCode f n (take (suc i) rows) (take (suc i) gens)
    front-before = front-more laws R t here

    front_scaled : Gained f (scaled f inverse (take (suc i) gens) i c) (take (suc i) next) i factor
    front_scaled = subst (λ s. Gained f s (take (suc i) next) i factor)
        (take-set-last gens i (times f (inverse (get_or (get_or gens i []) c 0)) (get_or gens i [])) ∙ ap (λ u. set (take (suc i) gens) i (times f (inverse (get_or u c 0)) u)) (sym (get_or-take (suc i) gens i [] (omega arith))))
        (gained_take g (suc i) (omega arith))

    -- and after it.
    front-after : SameCode f n (take (suc i) rows) (take (suc i) next)
    front-after = same_code_then front-before (pivoted_same_code laws (rows_take t.words (suc i)) i c (subst (λ u. 0 < get_or u c 0) (sym (get_or-take (suc i) gens i [] (omega arith))) some) front_scaled)

    -- A later row has gained a multiple of row i besides.
    rest-after : (m : ℕ) → suc i ≤ m → m < length rows → (w : List ℕ) × Made f n (take (suc i) rows) w × (get_or next m [] ≡ plus f (get_or rows m []) w)
    rest-after m h l =
        let X = rows_take R (suc i) in
        let s : List (List ℕ) = scaled f inverse gens i c in
        let r : List ℕ = times f (inverse (get_or (get_or gens i []) c 0)) (get_or gens i []) in
        let x = t.rest m (omega arith) l in
        let G = pivoted_rows laws t.words i c some g in
        let pivot : Made f n (take (suc i) rows) (get_or s i []) = subst (Made f n (take (suc i) rows)) g.pivot (front-after.back (get_or next i []) (made-front laws G (suc i) i (omega arith) (omega (arith, g.inside, g.as_many)))) in
        let inside : m < length s = omega (arith, length-set gens i r, t.as_many) in
        let y : List ℕ = times f (factor m) (get_or s i []) in
        let Y : Made f n (take (suc i) rows) y = made-times laws X (factor m) (g.low m inside) pivot in
        let W : Made f n (take (suc i) rows) x.0 = made_more laws R i x.1 in
        let other : m ≡ i → ⊥ = λ e. omega (arith, e) in (
          plus f x.0 y,
          made-plus laws X W Y,
          g.others m inside other
              ∙ ap (λ u. plus f u y) (get_or-set_other gens i m r [] other ∙ x.2)
              ∙ plus_assoc laws (listed-get_or [] R m l) (made_word laws X W) (made_word laws X Y),
        )

    step_after : ((m : ℕ) → m < length rows → (m ≡ i → ⊥) → get_or (get_or next m []) c 0 ≡ 0) → Tested f n rows next (suc i) (ps ++ c ∷ [])
    step_after clear =
        let as_many : length next ≡ length rows = pivoted_length laws t.words i c some g ∙ t.as_many in
        record {
          as_many = as_many;
          words = pivoted_rows laws t.words i c some g;
          count = omega (arith, length_push ps c, t.count);
          reduced = pivoted_reduced laws t.words i c some g ps t.count t.reduced (λ m l ne. clear m (omega arith) ne);
          front = front-after;
          rest = rest-after;
        }

  -- One row more: it is not 0 in column c, and is made 1 there, and then the column is cleared in all others.
  pub tested_step : {gens scaled-gens next : List (List ℕ)} {i : ℕ} {ps : List ℕ} {factor : ℕ → ℕ} → Tested f n rows gens i ps → (c : ℕ) → 0 < get_or (get_or gens i []) c 0
      → scaled-gens ≡ scaled f inverse gens i c → Gained f scaled-gens next i factor → ((m : ℕ) → m < length rows → (m ≡ i → ⊥) → get_or (get_or next m []) c 0 ≡ 0) → Tested f n rows next (suc i) (ps ++ c ∷ [])
  tested_step {next = next} {i} {factor = factor} t c some e g = step_after t c some (subst (λ s. Gained f s next i factor) e g)
