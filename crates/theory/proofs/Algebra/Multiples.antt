-- Words of codes, whatever the coefficients: what sums and multiples hold are codes, and multiples keep their laws.
use Rattle.std.proofs.Common.{◌≡◌, ℕ, zero, suc, ◌<◌, List, [], ◌∷◌, get_or, replicate, sym, refl, ap, ◌∙◌, ap₂}
use Rattle.std.specs.List.{AllByRecursion}
use Rattle.theory.specs.Meanings.{FieldMeaning, FieldLaws}
use Rattle.theory.specs.Codes.{plus, times, combination}
use Rattle.theory.proofs.Algebra.Scalars.{sum_low, product-low, product_assoc_all, distributes_all, distributes_right, zero-below, product-zero, inverse_left}

-- The symbols of the word are codes.
abbrev pub CodesOf : FieldMeaning → List ℕ → Type 0
CodesOf f u = AllByRecursion (λ x. x < f.order) u

module _ {f : FieldMeaning} {negative inverse : ℕ → ℕ} (laws : FieldLaws f negative inverse) where
  pub times-times : (a b : ℕ) (u : List ℕ) → times f a (times f b u) ≡ times f (f.product a b) u
  times-times a b [] = refl
  times-times a b (x ∷ u) = ap₂ ◌∷◌ (sym (product_assoc_all laws a b x)) (times-times a b u)

  pub times_one : (u : List ℕ) → CodesOf f u → times f 1 u ≡ u
  times_one [] h = refl
  times_one (x ∷ u) h = ap₂ ◌∷◌ (laws.product_one x h.0) (times_one u h.1)

  pub times-plus : (a : ℕ) (u v : List ℕ) → times f a (plus f u v) ≡ plus f (times f a u) (times f a v)
  times-plus a [] v = refl
  times-plus a (x ∷ u) [] = refl
  times-plus a (x ∷ u) (y ∷ v) = ap₂ ◌∷◌ (distributes_all laws a x y) (times-plus a u v)

  pub times_zeros : (a n : ℕ) → times f a (replicate n 0) ≡ replicate n 0
  times_zeros a zero = refl
  times_zeros a (suc n) = ap₂ ◌∷◌ (product-zero laws a) (times_zeros a n)

  pub sum-times : (a b : ℕ) (u : List ℕ) → times f (f.sum a b) u ≡ plus f (times f a u) (times f b u)
  sum-times a b [] = refl
  sum-times a b (x ∷ u) = ap₂ ◌∷◌ (distributes_right laws a b x) (sum-times a b u)

  pub times-combination : (a n : ℕ) (cs : List ℕ) (rows : List (List ℕ)) → times f a (combination f n cs rows) ≡ combination f n (times f a cs) rows
  times-combination a n [] rows = times_zeros a n
  times-combination a n (c ∷ cs) [] = times_zeros a n
  times-combination a n (c ∷ cs) (r ∷ rows) = times-plus a (times f c r) (combination f n cs rows) ∙ ap₂ (plus f) (times-times a c r) (times-combination a n cs rows)

  pub times-codes : (a : ℕ) (u : List ℕ) → CodesOf f (times f a u)
  times-codes a [] = tt
  times-codes a (x ∷ u) = (product-low laws a x, times-codes a u)

  plus-codes : (u v : List ℕ) → CodesOf f (plus f u v)
  plus-codes [] v = tt
  plus-codes (x ∷ u) [] = tt
  plus-codes (x ∷ u) (y ∷ v) = (sum_low laws x y, plus-codes u v)

  pub zeros_codes : (n : ℕ) → CodesOf f (replicate n 0)
  zeros_codes zero = tt
  zeros_codes (suc n) = (zero-below laws, zeros_codes n)

  pub combination-codes : (n : ℕ) (cs : List ℕ) (rows : List (List ℕ)) → CodesOf f (combination f n cs rows)
  combination-codes n [] rows = zeros_codes n
  combination-codes n (c ∷ cs) [] = zeros_codes n
  combination-codes n (c ∷ cs) (r ∷ rows) = plus-codes (times f c r) (combination f n cs rows)

  -- A nonzero multiple is undone by the inverse, and the other way round.
  pub times-back : (a : ℕ) (u : List ℕ) → 0 < a → a < f.order → CodesOf f u → times f (inverse a) (times f a u) ≡ u
  times-back a u p h w = times-times (inverse a) a u ∙ ap (λ x. times f x u) (inverse_left laws a p h) ∙ times_one u w

  pub times_forth : (a : ℕ) (u : List ℕ) → 0 < a → a < f.order → CodesOf f u → times f a (times f (inverse a) u) ≡ u
  times_forth a u p h w = times-times a (inverse a) u ∙ ap (λ x. times f x u) (laws.inverts a h p) ∙ times_one u w

  pub codes-get_or : (u : List ℕ) (p : ℕ) → CodesOf f u → get_or u p 0 < f.order
  codes-get_or [] p h = zero-below laws
  codes-get_or (x ∷ u) zero h = h.0
  codes-get_or (x ∷ u) (suc p) h = codes-get_or u p h.1

  pub get_or-times : (a : ℕ) (u : List ℕ) (p : ℕ) → get_or (times f a u) p 0 ≡ f.product a (get_or u p 0)
  get_or-times a [] p = sym (product-zero laws a)
  get_or-times a (x ∷ u) zero = refl
  get_or-times a (x ∷ u) (suc p) = get_or-times a u p
