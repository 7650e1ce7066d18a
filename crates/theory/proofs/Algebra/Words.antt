-- Words of n codes below the order are a vector space over the field.
use Rattle.std.proofs.Common.{◌≡◌, ℕ, zero, suc, ◌<◌, List, ◌∷◌, length, get_or, replicate, sym, refl, ap, ◌∙◌, ap₂, arith}
use Rattle.std.specs.List.{AllByRecursion}
use Rattle.std.proofs.ByRecursion.{All-get_or}
use Rattle.theory.specs.Meanings.{FieldMeaning, FieldLaws}
use Rattle.theory.specs.Codes.{plus, times}
use Rattle.theory.specs.Promises.{Below}
use Rattle.theory.proofs.Lists.Listed.{Listed, listed-from, listed-get_or, listed-length, more, none}
use Rattle.theory.proofs.Algebra.Scalars.{zero-below, one_below, zero-product, distributes_right, sum-swap}

-- A word of n codes below q.
abbrev pub Word : ℕ → ℕ → List ℕ → Type 0
Word q n u = Listed (λ a. a < q) n u

pub word-from : (q n : ℕ) (u : List ℕ) → length u ≡ n → Below q u → Word q n u
word-from q n u e h = listed-from 0 n u e h

pub word_below : {q n : ℕ} {u : List ℕ} → Word q n u → Below q u
word_below w i h = listed-get_or 0 w i (omega (arith, listed-length w))

-- The same by `All`.
pub word_all : (q n : ℕ) (u : List ℕ) → length u ≡ n → AllByRecursion (λ a. a < q) u → Word q n u
word_all q n u e h = word-from q n u e (λ i l. All-get_or (λ a. a < q) u i 0 l h)

pub word-codes : {q n : ℕ} {u : List ℕ} → Word q n u → AllByRecursion (λ a. a < q) u
word-codes none = tt
word-codes (more h w) = (h, word-codes w)

pub word-replicate : {q : ℕ} (n a : ℕ) → a < q → Word q n (replicate n a)
word-replicate zero a h = none
word-replicate (suc n) a h = more h (word-replicate n a h)

module _ {f : FieldMeaning} {negative inverse : ℕ → ℕ} (laws : FieldLaws f negative inverse) where
  pub word-zero : (n : ℕ) → Word f.order n (replicate n 0)
  word-zero n = word-replicate n 0 (zero-below laws)

  pub plus-word : {n : ℕ} {u v : List ℕ} → Word f.order n u → Word f.order n v → Word f.order n (plus f u v)
  plus-word none none = none
  plus-word (more {x = a} h w) (more {x = b} k x) = more (laws.sum_below a b h k) (plus-word w x)

  pub times-word : (c : ℕ) → c < f.order → {n : ℕ} {u : List ℕ} → Word f.order n u → Word f.order n (times f c u)
  times-word c l none = none
  times-word c l (more {x = a} h w) = more (laws.product_below c a l h) (times-word c l w)

  pub plus_comm : {n : ℕ} {u v : List ℕ} → Word f.order n u → Word f.order n v → plus f u v ≡ plus f v u
  plus_comm none none = refl
  plus_comm (more {x = a} h w) (more {x = b} k x) = ap₂ ◌∷◌ (laws.sum_comm a b h k) (plus_comm w x)

  pub plus_assoc : {n : ℕ} {u v t : List ℕ} → Word f.order n u → Word f.order n v → Word f.order n t → plus f (plus f u v) t ≡ plus f u (plus f v t)
  plus_assoc none none none = refl
  plus_assoc (more {x = a} h w) (more {x = b} k x) (more {x = c} l y) = ap₂ ◌∷◌ (laws.sum_assoc a b c h k l) (plus_assoc w x y)

  pub zero-plus : {n : ℕ} {u : List ℕ} → Word f.order n u → plus f (replicate n 0) u ≡ u
  zero-plus none = refl
  zero-plus (more {x = a} h w) = ap₂ ◌∷◌ (laws.sum_zero a h) (zero-plus w)

  pub plus-zero : {n : ℕ} {u : List ℕ} → Word f.order n u → plus f u (replicate n 0) ≡ u
  plus-zero {n} w = plus_comm w (word-zero n) ∙ zero-plus w

  -- The negative of a word is its multiple by the negative of 1.
  pub plus_negative : {n : ℕ} {u : List ℕ} → Word f.order n u → plus f u (times f (negative 1) u) ≡ replicate n 0
  plus_negative none = refl
  plus_negative (more {x = a} h w) = ap₂ ◌∷◌ (negated a h) (plus_negative w)
    where
      negated : (a : ℕ) → a < f.order → f.sum a (f.product (negative 1) a) ≡ 0
      negated a h =
          ap (λ x. f.sum x (f.product (negative 1) a)) (sym (laws.product_one a h))
          ∙ sym (distributes_right laws 1 (negative 1) a)
          ∙ ap (λ x. f.product x a) (laws.cancels 1 (one_below laws))
          ∙ zero-product laws a

  pub zero-times : {n : ℕ} {u : List ℕ} → Word f.order n u → times f 0 u ≡ replicate n 0
  zero-times none = refl
  zero-times (more {x = a} h w) = ap₂ ◌∷◌ (zero-product laws a) (zero-times w)

  pub get_or-plus : {n : ℕ} {u v : List ℕ} → Word f.order n u → Word f.order n v → (i : ℕ) → get_or (plus f u v) i 0 ≡ f.sum (get_or u i 0) (get_or v i 0)
  get_or-plus none none i = sym (laws.sum_zero 0 (zero-below laws))
  get_or-plus (more h w) (more k x) zero = refl
  get_or-plus (more h w) (more k x) (suc i) = get_or-plus w x i

  pub plus-swap : {n : ℕ} {u v s t : List ℕ} → Word f.order n u → Word f.order n v → Word f.order n s → Word f.order n t → plus f (plus f u v) (plus f s t) ≡ plus f (plus f u s) (plus f v t)
  plus-swap none none none none = refl
  plus-swap (more {x = a} h w) (more {x = b} k x) (more {x = c} l y) (more {x = d} m z) = ap₂ ◌∷◌ (sum-swap laws a b c d) (plus-swap w x y z)

  -- Two words whose difference is zero are equal.
  pub minus_zero : {n : ℕ} {u v : List ℕ} → Word f.order n u → Word f.order n v → plus f u (times f (negative 1) v) ≡ replicate n 0 → u ≡ v
  minus_zero {n} {u} {v} w x e =
      let m = times-word (negative 1) (laws.negative_below 1 (one_below laws)) x in
      sym (plus-zero w)
      ∙ ap (plus f u) (sym (plus_negative x) ∙ plus_comm x m)
      ∙ sym (plus_assoc w m x)
      ∙ ap (λ r. plus f r v) e
      ∙ zero-plus x

  -- A word that adds to zero is the negative.
  pub opposite : {n : ℕ} {u v : List ℕ} → Word f.order n u → Word f.order n v → plus f u v ≡ replicate n 0 → v ≡ times f (negative 1) u
  opposite {n} {u} {v} w x e =
      let m = times-word (negative 1) (laws.negative_below 1 (one_below laws)) w in
      sym (zero-plus x)
      ∙ ap (λ r. plus f r v) (sym (plus_negative w) ∙ plus_comm w m)
      ∙ plus_assoc m w x
      ∙ ap (plus f (times f (negative 1) u)) e
      ∙ plus-zero m
