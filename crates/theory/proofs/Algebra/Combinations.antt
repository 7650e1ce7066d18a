-- Sums of multiples of rows: linear in the coefficients, and read at a place by the inner product with the column there.
use Rattle.std.proofs.Common.{◌≡◌, ℕ, zero, suc, ◌<◌, List, [], ◌∷◌, length, get_or, replicate, sym, refl, ◌∙◌, ap₂, arith}
use Rattle.theory.specs.Meanings.{FieldMeaning, FieldLaws}
use Rattle.theory.specs.Codes.{plus, combination}
use Rattle.theory.specs.Forms.{column}
use Rattle.theory.specs.Facts.{Matrix}
use Rattle.theory.proofs.Lists.Zeros.{get_or_zeros}
use Rattle.theory.proofs.Lists.Listed.{Listed, listed-from, listed-get_or, listed-length, more, none}
use Rattle.theory.proofs.Algebra.Scalars.{zero-below, one_below}
use Rattle.theory.proofs.Algebra.Multiples.{sum-times, times_one, get_or-times}
use Rattle.theory.proofs.Algebra.Words.{word-codes, Word, word-from, word_below, word-zero, plus-word, times-word, zero-plus, plus-zero, plus-swap, zero-times, get_or-plus}

-- A list of k words of n codes below q.
abbrev pub Rows : ℕ → ℕ → ℕ → List (List ℕ) → Type 0
Rows q n k rows = Listed (Word q n) k rows

pub rows_from : (f : FieldMeaning) (n : ℕ) (rows : List (List ℕ)) → Matrix f n rows → Rows f.order n (length rows) rows
rows_from f n rows m = listed-from [] (length rows) rows refl (λ i h. word-from f.order n (get_or rows i []) (m.lengths i h) (m.codes i h))

pub matrix-from : (f : FieldMeaning) {n k : ℕ} {rows : List (List ℕ)} → Rows f.order n k rows → Matrix f n rows
matrix-from f w = record {
  lengths = λ i h. listed-length (listed-get_or [] w i (omega (arith, listed-length w)));
  codes = λ i h. word_below (listed-get_or [] w i (omega (arith, listed-length w)));
}

-- The coefficients that are 1 at the place i and 0 elsewhere.
abbrev pub unit : ℕ → ℕ → List ℕ
unit zero i = []
unit (suc k) zero = 1 ∷ replicate k 0
unit (suc k) (suc i) = 0 ∷ unit k i

-- The inner product.
abbrev pub dot : FieldMeaning → List ℕ → List ℕ → ℕ
dot f [] v = 0
dot f (a ∷ u) [] = 0
dot f (a ∷ u) (b ∷ v) = f.sum (f.product a b) (dot f u v)

module _ {f : FieldMeaning} {negative inverse : ℕ → ℕ} (laws : FieldLaws f negative inverse) where
  pub combination-word : {n k : ℕ} {cs : List ℕ} {rows : List (List ℕ)} → Word f.order k cs → Rows f.order n k rows → Word f.order n (combination f n cs rows)
  combination-word {n} none none = word-zero laws n
  combination-word (more {x = c} h w) (more r x) = plus-word laws (times-word laws c h r) (combination-word w x)

  pub combination-plus : {n k : ℕ} {cs ds : List ℕ} {rows : List (List ℕ)} → Word f.order k cs → Word f.order k ds → Rows f.order n k rows → combination f n (plus f cs ds) rows ≡ plus f (combination f n cs rows) (combination f n ds rows)
  combination-plus {n} none none none = sym (zero-plus laws (word-zero laws n))
  combination-plus {n} (more {x = c} h w) (more {x = d} l y) (more {x = r} {xs = rows} p x) =
      ap₂ (plus f) (sum-times laws c d r) (combination-plus w y x)
      ∙ plus-swap laws (times-word laws c h p) (times-word laws d l p) (combination-word w x) (combination-word y x)

  pub combination-zero : {n k : ℕ} {rows : List (List ℕ)} → Rows f.order n k rows → combination f n (replicate k 0) rows ≡ replicate n 0
  combination-zero none = refl
  combination-zero {n} (more p x) = ap₂ (plus f) (zero-times laws p) (combination-zero x) ∙ zero-plus laws (word-zero laws n)

  pub unit-word : (k i : ℕ) → Word f.order k (unit k i)
  unit-word zero i = none
  unit-word (suc k) zero = more (one_below laws) (word-zero laws k)
  unit-word (suc k) (suc i) = more (zero-below laws) (unit-word k i)

  pub combination-unit : {n k : ℕ} {rows : List (List ℕ)} → Rows f.order n k rows → (i : ℕ) → i < k → combination f n (unit k i) rows ≡ get_or rows i []
  combination-unit none i h = absurd (omega arith)
  combination-unit (more {x = r} p x) zero h = ap₂ (plus f) (times_one laws r (word-codes p)) (combination-zero x) ∙ plus-zero laws p
  combination-unit (more p x) (suc i) h = ap₂ (plus f) (zero-times laws p) (combination-unit x i (omega arith)) ∙ zero-plus laws (listed-get_or [] x i (omega arith))

  pub dot_below : {k : ℕ} {u v : List ℕ} → Word f.order k u → Word f.order k v → dot f u v < f.order
  dot_below none none = zero-below laws
  dot_below (more {x = a} {xs = u} h w) (more {x = b} {xs = v} l x) = laws.sum_below (f.product a b) (dot f u v) (laws.product_below a b h l) (dot_below w x)

  -- The symbol of a sum of rows at a place is the inner product of the coefficients with the column there.
  pub get_or-combination : {n k : ℕ} {cs : List ℕ} {rows : List (List ℕ)} → Word f.order k cs → Rows f.order n k rows → (p : ℕ) → get_or (combination f n cs rows) p 0 ≡ dot f cs (column rows p)
  get_or-combination {n} none none p = get_or_zeros n p
  get_or-combination (more {x = c} h w) (more {x = r} y x) p =
      get_or-plus laws (times-word laws c h y) (combination-word w x) p
      ∙ ap₂ f.sum (get_or-times laws c r p) (get_or-combination w x p)
