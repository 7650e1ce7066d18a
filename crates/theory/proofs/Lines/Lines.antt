-- The line of a word: its nonzero multiples and their leader; and the least of a list of numbers.
use Rattle.std.proofs.Common.{◌≡◌, ℕ, zero, suc, ◌-◌, ◌<◌, ◌≤◌, Bool, true, false, cond, ◌&&◌, eqb, ◌⊎◌, List, [], ◌∷◌, get_or, sym, refl, ap, ◌∙◌, subst, ap₂, inl, inr, ⊎_elim, arith}
use Rattle.std.specs.List.{range_with_len}
use Rattle.std.proofs.lemmas.Bool.{cases_lt, both_ways, eqb-true, eqb-false, eq-eqb}
use Rattle.theory.specs.Meanings.{FieldMeaning, FieldLaws}
use Rattle.theory.specs.Codes.{times, multiples, is_zero, leads, least}
use Rattle.theory.proofs.Lists.Members.{In, in_map, of_map, in_counting, of_counting}
use Rattle.theory.proofs.Algebra.Scalars.{product_nonzero, product-low, product-zero_test, inverse_nonzero, inverse_left, product_comm_all}
use Rattle.theory.proofs.Algebra.Multiples.{CodesOf, times-times, times_one, times-codes, times-back}

-- v is a nonzero multiple of u.
abbrev pub Line : FieldMeaning → List ℕ → List ℕ → Type 0
Line f u v = (a : ℕ) × (0 < a) × (a < f.order) × (v ≡ times f a u)

pub least-le : (xs : List ℕ) (m x : ℕ) → In x xs → least xs m ≤ x
least-le [] m x i = absurd i
least-le (y ∷ xs) m x (inl e) = omega arith
least-le (y ∷ xs) m x (inr i) = omega (arith, least-le xs m x i)

pub least-le-last : (xs : List ℕ) (m : ℕ) → least xs m ≤ m
least-le-last [] m = omega arith
least-le-last (y ∷ xs) m = omega (arith, least-le-last xs m)

pub least-in : (xs : List ℕ) (m : ℕ) → In (least xs m) xs ⊎ (least xs m ≡ m)
least-in [] m = inr refl
least-in (y ∷ xs) m = ⊎_elim (λ l. inl (inl (omega arith))) (λ l. ⊎_elim (λ i. inl (inr (subst (λ x. In x xs) (omega arith) i))) (λ e. inr (omega arith)) (least-in xs m)) (cases_lt y (least xs m))

pub leads_nonzero : (u : List ℕ) → leads u ≡ true → is_zero u ≡ false
leads_nonzero [] e = sym e
leads_nonzero (a ∷ u) e = go (leads_nonzero u) (eqb a 0) e
  where
    go : (leads u ≡ true → is_zero u ≡ false) → (b : Bool) → cond b (leads u) (eqb a 1) ≡ true → (b && is_zero u) ≡ false
    go rec true e = rec e
    go rec false e = refl

module _ {f : FieldMeaning} {negative inverse : ℕ → ℕ} (laws : FieldLaws f negative inverse) where
  pub line-refl : (u : List ℕ) → CodesOf f u → Line f u u
  line-refl u h = (1, omega arith, omega (arith, laws.low), sym (times_one laws u h))

  pub line-sym : (u v : List ℕ) → CodesOf f u → Line f u v → Line f v u
  line-sym u v h l =
      let p = l.1 in
      let k = l.2 in
      (inverse l.0, inverse_nonzero laws l.0 p k, laws.inverse_below l.0 k, sym (ap (times f (inverse l.0)) l.3 ∙ times-back laws l.0 u p k h))

  pub line_trans : (u v w : List ℕ) → Line f u v → Line f v w → Line f u w
  line_trans u v w l m = (f.product m.0 l.0, product_nonzero laws m.0 l.0 m.1 m.2 l.1 l.2, product-low laws m.0 l.0, m.3 ∙ ap (times f m.0) l.3 ∙ times-times laws m.0 l.0 u)

  pub line-codes : (u v : List ℕ) → Line f u v → CodesOf f v
  line-codes u v l = subst (CodesOf f) (sym l.3) (times-codes laws l.0 u)

  pub in-multiples : (u v : List ℕ) → Line f u v → In v (multiples f u)
  in-multiples u v l = subst (λ w. In w (multiples f u)) (sym l.3) (in_map (λ c. times f c u) l.0 (range_with_len 1 (f.order - 1)) (in_counting l.0 1 (f.order - 1) l.1 (omega (arith, l.2))))

  pub multiples-in : (u v : List ℕ) → In v (multiples f u) → Line f u v
  multiples-in u v i =
      let r = of_map (λ c. times f c u) v (range_with_len 1 (f.order - 1)) i in
      let k = of_counting r.0 1 (f.order - 1) r.1 in
      (r.0, k.0, omega (arith, k.1, laws.low), sym r.2)

  times-is_zero : (a : ℕ) (u : List ℕ) → 0 < a → a < f.order → CodesOf f u → is_zero (times f a u) ≡ is_zero u
  times-is_zero a [] p k h = refl
  times-is_zero a (x ∷ u) p k h = ap₂ ◌&&◌ (product-zero_test laws a x p k h.0) (times-is_zero a u p k h.1)

  pub line-is_zero : (u v : List ℕ) → CodesOf f u → Line f u v → is_zero v ≡ is_zero u
  line-is_zero u v h l = ap is_zero l.3 ∙ times-is_zero l.0 u l.1 l.2 h

  times_symbol : (a : ℕ) (u : List ℕ) (p : ℕ) → 0 < a → a < f.order → CodesOf f u → eqb (get_or (times f a u) p 0) 0 ≡ eqb (get_or u p 0) 0
  times_symbol a [] p pos k h = refl
  times_symbol a (x ∷ u) zero pos k h = product-zero_test laws a x pos k h.0
  times_symbol a (x ∷ u) (suc p) pos k h = times_symbol a u p pos k h.1

  -- Two words of a line are 0 at the same positions.
  pub line_symbol : (u v : List ℕ) (p : ℕ) → CodesOf f u → Line f u v → eqb (get_or v p 0) 0 ≡ eqb (get_or u p 0) 0
  line_symbol u v p h l = ap (λ w. eqb (get_or w p 0) 0) l.3 ∙ times_symbol l.0 u p l.1 l.2 h

  times-leads : (a : ℕ) (u : List ℕ) → 0 < a → a < f.order → CodesOf f u → leads u ≡ true → leads (times f a u) ≡ true → a ≡ 1
  times-leads a [] p k h e g = absurd (both_ways false refl e)
  times-leads a (x ∷ u) p k h e g = go (times-leads a u p k h.1) (eqb x 0) e (eqb (f.product a x) 0) (product-zero_test laws a x p k h.0) g
    where
      go : (leads u ≡ true → leads (times f a u) ≡ true → a ≡ 1) → (b : Bool) → cond b (leads u) (eqb x 1) ≡ true → (d : Bool) → d ≡ b → cond d (leads (times f a u)) (eqb (f.product a x) 1) ≡ true → a ≡ 1
      go rec true e true q g = rec e g
      go rec true e false q g = absurd (both_ways true (sym q) refl)
      go rec false e true q g = absurd (both_ways false refl (sym q))
      go rec false e false q g = sym (laws.product_one a k) ∙ product_comm_all laws 1 a ∙ ap (f.product a) (sym (eqb-true x 1 e)) ∙ eqb-true (f.product a x) 1 g

  -- A line has one leader.
  pub one_leader : (u v : List ℕ) → CodesOf f u → Line f u v → leads u ≡ true → leads v ≡ true → u ≡ v
  one_leader u v h l e g = sym (times_one laws u h) ∙ ap (λ a. times f a u) (sym (times-leads l.0 u l.1 l.2 h e (subst (λ w. leads w ≡ true) l.3 g))) ∙ sym l.3

  some-leader : (u : List ℕ) → CodesOf f u → is_zero u ≡ false → (a : ℕ) × (0 < a) × (a < f.order) × (leads (times f a u) ≡ true)
  some-leader [] h z = absurd (both_ways true z refl)
  some-leader (x ∷ u) h z = go (some-leader u h.1) (eqb x 0) refl z
    where
      go : (is_zero u ≡ false → (a : ℕ) × (0 < a) × (a < f.order) × (leads (times f a u) ≡ true)) → (b : Bool) → eqb x 0 ≡ b → (b && is_zero u) ≡ false → (a : ℕ) × (0 < a) × (a < f.order) × (leads (times f a (x ∷ u)) ≡ true)
      go rec true q z = let r = rec z in (r.0, r.1, r.2, ap (λ b. cond b (leads (times f r.0 u)) (eqb (f.product r.0 x) 1)) (product-zero_test laws r.0 x r.1 r.2 h.0 ∙ q) ∙ r.3)
      go rec false q z =
          let p : 0 < x = omega (arith, eqb-false x 0 q) in
          let i : 0 < inverse x = inverse_nonzero laws x p h.0 in
          let k : inverse x < f.order = laws.inverse_below x h.0 in
          (inverse x, i, k, ap (λ b. cond b (leads (times f (inverse x) u)) (eqb (f.product (inverse x) x) 1)) (product-zero_test laws (inverse x) x i k h.0 ∙ q) ∙ eq-eqb _ 1 (inverse_left laws x p h.0))

  pub leader-line : (u : List ℕ) → CodesOf f u → is_zero u ≡ false → (v : List ℕ) × Line f u v × (leads v ≡ true)
  leader-line u h z = let r = some-leader u h z in (times f r.0 u, (r.0, r.1, r.2, refl), r.3)
