-- Rows of which no sum of multiples is zero unless all coefficients are: adding one, and how much they span.
use Rattle.std.proofs.Common.{◌≡◌, ℕ, suc, ◌<◌, List, [], ◌∷◌, ◌++◌, map, length, replicate, sym, ap, ◌∙◌, subst, ap₂, inl, inr, eq-zero-or-pos, arith}
use lib.ListN.{length-map}
use Rattle.theory.specs.Meanings.{FieldMeaning, FieldLaws}
use Rattle.theory.specs.Codes.{plus, times, combination, tuples}
use Rattle.theory.specs.Facts.{Independent}
use Rattle.theory.proofs.Lists.Zeros.{zeros_push}
use Rattle.theory.proofs.Lists.Listed.{last_apart, listed-length, more, none}
use Rattle.theory.proofs.Lists.Members.{Within, of_map}
use Rattle.theory.proofs.Lists.Distinct.{Distinct, distinct-map, pigeonhole_all}
use Rattle.theory.proofs.Algebra.Scalars.{one_below}
use Rattle.theory.proofs.Algebra.Multiples.{times-combination, times-back}
use Rattle.theory.proofs.Algebra.Words.{word-codes, Word, word_below, word-zero, plus-word, times-word, plus_comm, plus_assoc, plus-zero, plus_negative, minus_zero, zero-times, opposite}
use Rattle.theory.proofs.Algebra.Combinations.{Rows, combination-word, combination-plus}
use Rattle.theory.proofs.Algebra.Tuples.{in-tuples, of-tuples, distinct-tuples}

-- `Independent` of m rows, by words.
abbrev pub Free : FieldMeaning → ℕ → ℕ → List (List ℕ) → Type 0
Free f n m rows = (cs : List ℕ) → Word f.order m cs → combination f n cs rows ≡ replicate n 0 → cs ≡ replicate m 0

-- The word is a sum of multiples of the m rows.
pub record Spanned (f : FieldMeaning) (n m : ℕ) (rows : List (List ℕ)) (u : List ℕ) : Type 0 where
  pub coefficients : List ℕ
  pub codes : Word f.order m coefficients
  pub is : u ≡ combination f n coefficients rows

pub free-from-independent : (f : FieldMeaning) (n : ℕ) (rows : List (List ℕ)) → Independent f n rows → Free f n (length rows) rows
free-from-independent f n rows I cs w e = I cs (listed-length w) (word_below w) e

module _ {f : FieldMeaning} {negative inverse : ℕ → ℕ} (laws : FieldLaws f negative inverse) where
  -- Free rows tell the coefficients apart.
  pub combination_injective : {n m : ℕ} {rows : List (List ℕ)} → Rows f.order n m rows → Free f n m rows → {cs ds : List ℕ} → Word f.order m cs → Word f.order m ds → combination f n cs rows ≡ combination f n ds rows → cs ≡ ds
  combination_injective {n} {m} {rows} R F {cs} {ds} w x e =
      let low : negative 1 < f.order = laws.negative_below 1 (one_below laws) in
      let y = times-word laws (negative 1) low x in
      minus_zero laws w x (F (plus f cs (times f (negative 1) ds)) (plus-word laws w y)
      (combination-plus laws w y R ∙ ap₂ (plus f) e (sym (times-combination laws (negative 1) n ds rows)) ∙ plus_negative laws (combination-word laws x R)))

  pub combination_push : {n m : ℕ} {cs r : List ℕ} {rows : List (List ℕ)} (c : ℕ) → c < f.order → Word f.order m cs → Word f.order n r → Rows f.order n m rows → combination f n (cs ++ c ∷ []) (rows ++ r ∷ []) ≡ plus f (combination f n cs rows) (times f c r)
  combination_push {n} c l none y none = plus_comm laws (times-word laws c l y) (word-zero laws n)
  combination_push c l (more {x = d} h w) y (more {x = t} p x) =
      ap (plus f (times f d t)) (combination_push c l w y x)
      ∙ sym (plus_assoc laws (times-word laws d h p) (combination-word laws w x) (times-word laws c l y))

  -- A row of which a nonzero multiple makes a sum of multiples zero is itself such a sum.
  spanned_from-zero : {n m : ℕ} {cs r : List ℕ} {rows : List (List ℕ)} (c : ℕ) → c < f.order → 0 < c → Word f.order m cs → Word f.order n r → Rows f.order n m rows → plus f (combination f n cs rows) (times f c r) ≡ replicate n 0 → Spanned f n m rows r
  spanned_from-zero {n} {m} {cs} {r} {rows} c l p w y R e =
      let low : negative 1 < f.order = laws.negative_below 1 (one_below laws) in
      let high : inverse c < f.order = laws.inverse_below c l in
      let x = times-word laws (negative 1) low w in
      record {
        coefficients = times f (inverse c) (times f (negative 1) cs);
        codes = times-word laws (inverse c) high x;
        is = sym (times-back laws c r p l (word-codes y))
            ∙ ap (times f (inverse c)) (opposite laws (combination-word laws w R) (times-word laws c l y) e ∙ times-combination laws (negative 1) n cs rows)
            ∙ times-combination laws (inverse c) n (times f (negative 1) cs) rows;
      }

  -- A row that is no sum of multiples of the rows before keeps them free.
  pub free_push : {n m : ℕ} {r : List ℕ} {rows : List (List ℕ)} → Word f.order n r → Rows f.order n m rows → Free f n m rows → (Spanned f n m rows r → ⊥) → Free f n (suc m) (rows ++ r ∷ [])
  free_push {n} {m} {r} {rows} y R F apart cs w e =
      let s = last_apart w in
      let ds : List ℕ = s.0 in
      let c : ℕ = s.1 in
      let split : plus f (combination f n ds rows) (times f c r) ≡ replicate n 0 = sym (combination_push c s.3 s.2 y R) ∙ ap (λ l. combination f n l (rows ++ r ∷ [])) (sym s.4) ∙ e in
      elim (eq-zero-or-pos c) [
        | inl z ↦
            let x = combination-word laws s.2 R in
            let zeros : ds ≡ replicate m 0 = F ds s.2 (sym (plus-zero laws x) ∙ ap (plus f (combination f n ds rows)) (sym (zero-times laws y) ∙ ap (λ a. times f a r) (sym z)) ∙ split) in
            s.4 ∙ ap₂ (λ (l : List ℕ) (a : ℕ). l ++ a ∷ []) zeros z ∙ zeros_push m
        | inr p ↦ absurd (apart (spanned_from-zero c s.3 p s.2 y R split))
      ]

  -- As many free rows as the words are long span all words.
  pub free_spans : {k : ℕ} {rows : List (List ℕ)} → Rows f.order k k rows → Free f k k rows → {u : List ℕ} → Word f.order k u → Spanned f k k rows u
  free_spans {k} {rows} R F {u} w =
      let ts = tuples f.order k in
      let sums = map (λ cs. combination f k cs rows) ts in
      let inside : Within sums ts = λ v m. let r = of_map (λ cs. combination f k cs rows) v ts m in in-tuples (subst (Word f.order k) r.2 (combination-word laws (of-tuples f.order k r.1) R)) in
      let once : Distinct sums = distinct-map (λ cs. combination f k cs rows) ts (distinct-tuples f.order k) (λ a b m n. combination_injective R F (of-tuples f.order k m) (of-tuples f.order k n)) in
      let r = of_map (λ cs. combination f k cs rows) u ts (pigeonhole_all sums ts once inside (omega (arith, length-map ts (λ cs. combination f k cs rows))) u (in-tuples w)) in
      record { coefficients = r.0; codes = of-tuples f.order k r.1; is = sym r.2 }
