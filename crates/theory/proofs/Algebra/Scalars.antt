-- The laws of a field at all numbers, since a code past the order is read as 0.
use Rattle.std.proofs.Common.{◌≡◌, ℕ, zero, suc, ◌<◌, eqb, ltb, sym, refl, ap, ◌∙◌, subst, ap₂, arith}
use Rattle.std.proofs.lemmas.Bool.{ltb-true, lt-ltb, ne_eqb, cond-true, cond_both}
use Rattle.theory.specs.Meanings.{FieldMeaning, FieldLaws, read}

module _ {f : FieldMeaning} {negative inverse : ℕ → ℕ} (laws : FieldLaws f negative inverse) where
  pub zero-below : 0 < f.order
  zero-below = omega (arith, laws.low)

  pub one_below : 1 < f.order
  one_below = laws.low

  pub read_low : (a : ℕ) → read f a < f.order
  read_low a = cond_both (ltb a f.order) a 0 (λ x. x < f.order) (λ e. ltb-true a f.order e) (λ e. omega (arith, laws.low))

  pub read_same : (a : ℕ) → a < f.order → read f a ≡ a
  read_same a h = cond-true (ltb a f.order) a 0 (lt-ltb a f.order h)

  pub sum_low : (a b : ℕ) → f.sum a b < f.order
  sum_low a b = subst (λ x. x < f.order) (sym (laws.sum_reads a b)) (laws.sum_below (read f a) (read f b) (read_low a) (read_low b))

  pub product-low : (a b : ℕ) → f.product a b < f.order
  product-low a b = subst (λ x. x < f.order) (sym (laws.product_reads a b)) (laws.product_below (read f a) (read f b) (read_low a) (read_low b))

  read-sum : (a b : ℕ) → read f (f.sum a b) ≡ f.sum (read f a) (read f b)
  read-sum a b = read_same (f.sum a b) (sum_low a b) ∙ laws.sum_reads a b

  read-product : (a b : ℕ) → read f (f.product a b) ≡ f.product (read f a) (read f b)
  read-product a b = read_same (f.product a b) (product-low a b) ∙ laws.product_reads a b

  pub sum_comm_all : (a b : ℕ) → f.sum a b ≡ f.sum b a
  sum_comm_all a b = laws.sum_reads a b ∙ laws.sum_comm (read f a) (read f b) (read_low a) (read_low b) ∙ sym (laws.sum_reads b a)

  pub sum_assoc_all : (a b c : ℕ) → f.sum (f.sum a b) c ≡ f.sum a (f.sum b c)
  sum_assoc_all a b c =
      laws.sum_reads (f.sum a b) c ∙ ap (λ x. f.sum x (read f c)) (read-sum a b)
      ∙ laws.sum_assoc (read f a) (read f b) (read f c) (read_low a) (read_low b) (read_low c)
      ∙ sym (laws.sum_reads a (f.sum b c) ∙ ap (f.sum (read f a)) (read-sum b c))

  pub sum_zero_right : (a : ℕ) → a < f.order → f.sum a 0 ≡ a
  sum_zero_right a h = sum_comm_all a 0 ∙ laws.sum_zero a h

  -- Four codes, the inner two exchanged.
  pub sum-swap : (a b c d : ℕ) → f.sum (f.sum a b) (f.sum c d) ≡ f.sum (f.sum a c) (f.sum b d)
  sum-swap a b c d = sum_assoc_all a b (f.sum c d) ∙ ap (f.sum a) (sym (sum_assoc_all b c d) ∙ ap (λ x. f.sum x d) (sum_comm_all b c) ∙ sum_assoc_all c b d) ∙ sym (sum_assoc_all a c (f.sum b d))

  pub product_comm_all : (a b : ℕ) → f.product a b ≡ f.product b a
  product_comm_all a b = laws.product_reads a b ∙ laws.product_comm (read f a) (read f b) (read_low a) (read_low b) ∙ sym (laws.product_reads b a)

  pub product_assoc_all : (a b c : ℕ) → f.product (f.product a b) c ≡ f.product a (f.product b c)
  product_assoc_all a b c =
      laws.product_reads (f.product a b) c ∙ ap (λ x. f.product x (read f c)) (read-product a b)
      ∙ laws.product_assoc (read f a) (read f b) (read f c) (read_low a) (read_low b) (read_low c)
      ∙ sym (laws.product_reads a (f.product b c) ∙ ap (f.product (read f a)) (read-product b c))

  pub distributes_all : (a b c : ℕ) → f.product a (f.sum b c) ≡ f.sum (f.product a b) (f.product a c)
  distributes_all a b c =
      laws.product_reads a (f.sum b c) ∙ ap (f.product (read f a)) (read-sum b c)
      ∙ laws.distributes (read f a) (read f b) (read f c) (read_low a) (read_low b) (read_low c)
      ∙ ap₂ f.sum (sym (laws.product_reads a b)) (sym (laws.product_reads a c))

  pub distributes_right : (a b c : ℕ) → f.product (f.sum a b) c ≡ f.sum (f.product a c) (f.product b c)
  distributes_right a b c = product_comm_all (f.sum a b) c ∙ distributes_all c a b ∙ ap₂ f.sum (product_comm_all c a) (product_comm_all c b)

  pub product-swap : (a b c : ℕ) → f.product a (f.product b c) ≡ f.product b (f.product a c)
  product-swap a b c = sym (product_assoc_all a b c) ∙ ap (λ x. f.product x c) (product_comm_all a b) ∙ product_assoc_all b a c

  -- What added to itself gives itself is 0.
  double_zero : (a : ℕ) → a < f.order → f.sum a a ≡ a → a ≡ 0
  double_zero a h e =
      sym (laws.sum_zero a h) ∙ ap (λ z. f.sum z a) (sym (laws.cancels a h)) ∙ laws.sum_comm (f.sum a (negative a)) a (sum_low a (negative a)) h
      ∙ sym (laws.sum_assoc a a (negative a) h h n) ∙ ap (λ z. f.sum z (negative a)) e ∙ laws.cancels a h
    where
      n : negative a < f.order
      n = laws.negative_below a h

  pub product-zero : (a : ℕ) → f.product a 0 ≡ 0
  product-zero a = double_zero (f.product a 0) (product-low a 0) (sym (distributes_all a 0 0) ∙ ap (f.product a) (laws.sum_zero 0 zero-below))

  pub zero-product : (a : ℕ) → f.product 0 a ≡ 0
  zero-product a = product_comm_all 0 a ∙ product-zero a

  pub inverse_left : (a : ℕ) → 0 < a → a < f.order → f.product (inverse a) a ≡ 1
  inverse_left a p h = product_comm_all (inverse a) a ∙ laws.inverts a h p

  pub inverse_nonzero : (a : ℕ) → 0 < a → a < f.order → 0 < inverse a
  inverse_nonzero a p h = go (inverse a) refl
    where
      go : (x : ℕ) → inverse a ≡ x → 0 < x
      go zero e = absurd (omega (arith, laws.inverts a h p, ap (f.product a) e, product-zero a))
      go (suc x) e = omega arith

  -- A nonzero multiple is undone by the inverse.
  pub product-back : (a b : ℕ) → 0 < a → a < f.order → b < f.order → f.product (inverse a) (f.product a b) ≡ b
  product-back a b p h k = sym (product_assoc_all (inverse a) a b) ∙ ap (λ x. f.product x b) (inverse_left a p h) ∙ laws.product_one b k

  pub product_nonzero : (a b : ℕ) → 0 < a → a < f.order → 0 < b → b < f.order → 0 < f.product a b
  product_nonzero a b p h q k = go (f.product a b) refl
    where
      go : (x : ℕ) → f.product a b ≡ x → 0 < x
      go zero e = absurd (omega (arith, product-back a b p h k, ap (f.product (inverse a)) e, product-zero (inverse a)))
      go (suc x) e = omega arith

  -- A nonzero multiple is 0 where the symbol is.
  pub product-zero_test : (a b : ℕ) → 0 < a → a < f.order → b < f.order → eqb (f.product a b) 0 ≡ eqb b 0
  product-zero_test a zero p h k = ap (λ x. eqb x 0) (product-zero a)
  product-zero_test a (suc b) p h k = ne_eqb (f.product a (suc b)) 0 (λ e. omega (arith, e, product_nonzero a (suc b) p h (omega arith) k)) ∙ sym (ne_eqb (suc b) 0 (λ e. omega (arith, e)))
