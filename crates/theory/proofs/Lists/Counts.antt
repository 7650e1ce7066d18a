-- How many elements of a list pass a test.
use Rattle.std.proofs.Common.{◌≡◌, ℕ, ◌+◌, ◌<◌, ◌≤◌, Bool, true, false, cond, not, ◌&&◌, ◌||◌, eqb, List, [], ◌∷◌, map, length, count_by, filter, sym, refl, ap, ◌∙◌, subst, inl, inr, ⊎_elim, add-zero, arith}
use Rattle.std.specs.List.{AllByRecursion}
use Rattle.std.proofs.ByRecursion.{All-weaker}
use Rattle.std.proofs.lemmas.Bool.{both_ways, and_parts, eqb-true, eq-eqb, cases_eq, cases_Bool}
use Rattle.std.proofs.lemmas.List.Sums.{sum_by-cons}
use Rattle.theory.specs.Codes.{any, same}
use Rattle.theory.proofs.Lists.Members.{In, all_in}
use Rattle.theory.proofs.Lists.Distinct.{Distinct}
use Rattle.theory.proofs.Lists.Tests.{any-in, of-any, decides_same, same_refl}
use Rattle.theory.proofs.Lists.Sums.{sum_by-same, sum_by_ext, sum_by-plus, sum_by_kept}

abbrev pub bit : Bool → ℕ
bit b = cond b 1 0

pub and_le : (a b : Bool) → bit (a && b) ≤ bit a
and_le true true = omega arith
and_le true false = omega arith
and_le false b = omega arith

module _ {X : Type 0} where
  pub count_by_cons : (p : X → Bool) (x : X) (xs : List X) → count_by p (x ∷ xs) ≡ cond (p x) 1 0 + count_by p xs
  count_by_cons p x xs = sum_by-cons (λ y. cond (p y) 1 0) x xs

  pub count_by_weaker : (p q : X → Bool) (xs : List X) → ((x : X) → In x xs → p x ≡ true → q x ≡ true) → count_by p xs ≤ count_by q xs
  count_by_weaker p q [] h = omega arith
  count_by_weaker p q (x ∷ xs) h = omega (arith, count_by_cons p x xs, count_by_cons q x xs, go (p x) (q x) (h x (inl refl)), count_by_weaker p q xs (λ y i. h y (inr i)))
    where
      go : (a b : Bool) → (a ≡ true → b ≡ true) → ◌≤◌ (cond a 1 0) (cond b 1 0)
      go true true k = omega arith
      go true false k = absurd (both_ways false refl (k refl))
      go false true k = omega arith
      go false false k = omega arith

  pub count_by-same : (p q : X → Bool) (xs : List X) → ((x : X) → In x xs → p x ≡ q x) → count_by p xs ≡ count_by q xs
  count_by-same p q xs h = omega (arith, count_by_weaker p q xs (λ x i e. sym (h x i) ∙ e), count_by_weaker q p xs (λ x i e. h x i ∙ e))

  -- The same, with the tests compared by `All`.
  pub count_by_all : (p q : X → Bool) (xs : List X) → AllByRecursion (λ x. p x ≡ q x) xs → count_by p xs ≡ count_by q xs
  count_by_all p q xs h = count_by-same p q xs (all_in (λ x. p x ≡ q x) xs h)

  pub count_by_kept : (p q : X → Bool) (xs : List X) → count_by q (filter p xs) ≡ count_by (λ x. p x && q x) xs
  count_by_kept p q xs = sum_by_kept p (λ x. cond (q x) 1 0) xs ∙ sum_by_ext _ (λ x. cond (p x && q x) 1 0) (λ x. at (p x) (q x)) xs
    where
      at : (a b : Bool) → ◌≡◌ {A = ℕ} (cond a (cond b 1 0) 0) (cond (a && b) 1 0)
      at true b = refl
      at false b = refl

  -- What passes two tests, from below.
  pub count_by_both : (p q : X → Bool) (xs : List X) → count_by p xs + count_by q xs ≤ count_by (λ x. p x && q x) xs + length xs
  count_by_both p q [] = omega arith
  count_by_both p q (x ∷ xs) = omega (arith, count_by_cons p x xs, count_by_cons q x xs, count_by_cons (λ y. p y && q y) x xs, count_by_both p q xs, go (p x) (q x))
    where
      go : (a b : Bool) → cond a 1 0 + cond b 1 0 ≤ cond (a && b) 1 0 + 1
      go true true = omega arith
      go true false = omega arith
      go false true = omega arith
      go false false = omega arith

  pub count_by-every : (p : X → Bool) (xs : List X) → ((x : X) → In x xs → p x ≡ true) → count_by p xs ≡ length xs
  count_by-every p [] h = refl
  count_by-every p (x ∷ xs) h = omega (arith, count_by_cons p x xs, ap bit (h x (inl refl)), count_by-every p xs (λ y i. h y (inr i)))

  pub count_by-none : (p : X → Bool) (xs : List X) → ((x : X) → p x ≡ false) → count_by p xs ≡ 0
  count_by-none p [] h = refl
  count_by-none p (x ∷ xs) h = count_by_cons p x xs ∙ ap (λ b. bit b + count_by p xs) (h x) ∙ omega (arith, count_by-none p xs h)

-- A test of equality.
pub record Compares {X : Type 0} (eq : X → X → Bool) : Type 0 where
  pub same : (x : X) → eq x x ≡ true
  pub equal : (x y : X) → eq x y ≡ true → x ≡ y

pub same_compares : Compares same
same_compares = record { same = same_refl; equal = λ u v t. (decides_same u v).0 t }

pub eqb_compares : Compares eqb
eqb_compares = record { same = λ x. eq-eqb x x refl; equal = eqb-true }

module _ {X : Type 0} (eq : X → X → Bool) (compares : Compares eq) where
  -- One element of xs that passes a test, left out.
  pub count_by_without : (q : X → Bool) (x : X) (xs : List X) → In x xs → count_by (λ y. q y && not (eq x y)) xs + bit (q x) ≤ count_by q xs
  count_by_without q x [] i = absurd i
  count_by_without q x (y ∷ xs) (inl e) = omega (arith, count_by_cons q y xs, count_by_cons (λ y. q y && not (eq x y)) y xs, go (q y) (eq x y) (ap (eq x) e ∙ compares.same x), ap (λ z. bit (q z)) e, count_by_weaker (λ y. q y && not (eq x y)) q xs (λ z i t. (and_parts (q z) (not (eq x z)) t).0))
    where
      go : (b c : Bool) → c ≡ true → bit (b && not c) ≡ 0
      go true true t = refl
      go true false t = absurd (both_ways false refl t)
      go false c t = refl
  count_by_without q x (y ∷ xs) (inr i) = omega (arith, count_by_cons q y xs, count_by_cons (λ y. q y && not (eq x y)) y xs, count_by_without q x xs i, and_le (q y) (not (eq x y)))

  -- Different elements of xs, and those of xs that are none of them.
  pub count_by_apart : (ps : List X) (q : X → Bool) (xs : List X) → Distinct ps → ((x : X) → In x ps → In x xs) → count_by q ps + count_by (λ y. q y && not (any (λ p. eq p y) ps)) xs ≤ count_by q xs
  count_by_apart [] q xs d h = omega (arith, count_by_weaker (λ y. q y && not false) q xs (λ x i t. (and_parts (q x) true t).0))
  count_by_apart (p ∷ ps) q xs d h = omega (arith, count_by_cons q p ps, others, same_rest, count_by_apart ps (λ y. q y && not (eq p y)) xs d.1 (λ x i. h x (inr i)), count_by_without q p xs (h p (inl refl)))
    where
      step : (a b c : Bool) → (a && not (cond b true c)) ≡ ((a && not b) && not c)
      step true true c = refl
      step true false c = refl
      step false b c = refl

      others : count_by (λ y. q y && not (any (λ r. eq r y) (p ∷ ps))) xs ≡ count_by (λ y. (q y && not (eq p y)) && not (any (λ r. eq r y) ps)) xs
      others = count_by-same _ _ xs (λ y i. step (q y) (eq p y) (any (λ r. eq r y) ps))

      differs : (y : X) → In y ps → (b : Bool) → eq p y ≡ b → (a : Bool) → a ≡ (a && not b)
      differs y i true e a = absurd (d.0 (subst (λ z. In z ps) (sym (compares.equal p y e)) i))
      differs y i false e true = refl
      differs y i false e false = refl

      same_rest : count_by q ps ≡ count_by (λ y. q y && not (eq p y)) ps
      same_rest = count_by-same q (λ y. q y && not (eq p y)) ps (λ y i. differs y i (eq p y) refl (q y))

  -- Different elements that stand in xs and pass are no more than those of xs that pass.
  pub length-le-count_by : (ps : List X) (q : X → Bool) (xs : List X) → Distinct ps → ((x : X) → In x ps → In x xs × (q x ≡ true)) → length ps ≤ count_by q xs
  length-le-count_by ps q xs d h = omega (arith, count_by-every q ps (λ x i. (h x i).1), count_by_apart ps q xs d (λ x i. (h x i).0))

module _ {X : Type 0} (p : X → Bool) where
  -- Where at most one passes, the test whether any does is the count.
  pub any-count : (xs : List X) → count_by p xs ≤ 1 → cond (any p xs) 1 0 ≡ count_by p xs
  any-count [] h = refl
  any-count (x ∷ xs) h = go (p x) (any-count xs) (count_by_cons p x xs)
    where
      go : (b : Bool) → (count_by p xs ≤ 1 → cond (any p xs) 1 0 ≡ count_by p xs) → count_by p (x ∷ xs) ≡ cond b 1 0 + count_by p xs → cond (cond b true (any p xs)) 1 0 ≡ count_by p (x ∷ xs)
      go true i e = omega arith
      go false i e = i (omega arith) ∙ sym (e ∙ (omega arith))

  pub none_any : (xs : List X) → count_by p xs ≡ 0 → any p xs ≡ false
  none_any xs e = go (any p xs) (any-count xs (omega arith))
    where
      go : (b : Bool) → cond b 1 0 ≡ count_by p xs → b ≡ false
      go true h = let z : ◌≡◌ {A = ℕ} 0 1 = omega arith in absurd (omega arith)
      go false h = refl

  pub any_none : (xs : List X) → any p xs ≡ false → count_by p xs ≡ 0
  any_none [] h = refl
  any_none (x ∷ xs) h = go (p x) h (any_none xs) (count_by_cons p x xs)
    where
      go : (b : Bool) → cond b true (any p xs) ≡ false → (any p xs ≡ false → count_by p xs ≡ 0) → count_by p (x ∷ xs) ≡ cond b 1 0 + count_by p xs → count_by p (x ∷ xs) ≡ 0
      go true h i e = absurd (both_ways true h refl)
      go false h i e = let k = i h in omega arith

  -- Something passes exactly if the count is not 0.
  pub count_by-some : (x : X) (xs : List X) → In x xs → p x ≡ true → 0 < count_by p xs
  count_by-some x xs i t = ⊎_elim (λ z. absurd (both_ways (any p xs) (none_any xs z) (any-in p x xs i t))) (λ n. omega arith) (cases_eq (count_by p xs) 0)

  pub some-count_by : (xs : List X) → 0 < count_by p xs → (x : X) × In x xs × (p x ≡ true)
  some-count_by xs h = ⊎_elim (λ t. of-any p xs t) (λ f. absurd (omega (arith, any_none xs f))) (cases_Bool (any p xs))

module _ {X : Type 0} where
  -- Where d joins b, and each of d was in b or none was, the count grows by nothing or by those of d.
  pub count_by_joining : (a b d w : X → Bool) (e : Bool) (xs : List X) → AllByRecursion (λ x. (a x ≡ (b x || d x)) × (d x ≡ true → b x ≡ e)) xs
      → count_by (λ x. a x && w x) xs ≡ count_by (λ x. b x && w x) xs + cond e 0 (count_by (λ x. w x && d x) xs)
  count_by_joining a b d w true xs h = count_by_all _ _ xs (All-weaker _ _ (λ x k. ap (λ (t : Bool). t && w x) (at (a x) (b x) (d x) k.0 k.1)) xs h) ∙ sym (add-zero (count_by (λ x. b x && w x) xs))
    where
      at : (a b d : Bool) → a ≡ (b || d) → (d ≡ true → b ≡ true) → a ≡ b
      at a true d e k = e
      at a false true e k = absurd (both_ways false refl (k refl))
      at a false false e k = e
  count_by_joining a b d w false xs h = sum_by-same _ (λ x. cond (b x && w x) 1 0 + cond (w x && d x) 1 0) xs (All-weaker _ _ (λ x k. ap (λ (t : Bool). cond (t && w x) 1 0) k.0 ∙ at (b x) (d x) (w x) k.1) xs h) ∙ sum_by-plus (λ x. cond (b x && w x) 1 0) (λ x. cond (w x && d x) 1 0) xs
    where
      at : (b d w : Bool) → (d ≡ true → b ≡ false) → ◌≡◌ {A = ℕ} (cond ((b || d) && w) 1 0) (cond (b && w) 1 0 + cond (w && d) 1 0)
      at true true w k = absurd (both_ways true (k refl) refl)
      at true false true k = refl
      at true false false k = refl
      at false true true k = refl
      at false true false k = refl
      at false false true k = refl
      at false false false k = refl

-- A filter loses none that pass p where p implies the filter's test.
pub count_by_kept_all : {X : Type 0} (p q : X → Bool) (xs : List X) → ((x : X) → In x xs → p x ≡ true → q x ≡ true) → count_by p (filter q xs) ≡ count_by p xs
count_by_kept_all p q xs h = count_by_kept q p xs ∙ count_by-same (λ x. q x && p x) p xs (λ x i. go (q x) (p x) (h x i))
  where
    go : (a b : Bool) → (b ≡ true → a ≡ true) → (a && b) ≡ b
    go true b k = refl
    go false true k = k refl
    go false false k = refl

-- No element passes where none is counted.
pub count_by-zero : {X Y : Type 0} (p : X → Bool) (g : X → Y) (y : Y) (xs : List X) → ((x : X) → p x ≡ false → g x ≡ y) → count_by p xs ≤ 0 → AllByRecursion (λ z. z ≡ y) (map g xs)
count_by-zero p g y [] h e = tt
count_by-zero p g y (x ∷ xs) h e = (go (p x) refl, count_by-zero p g y xs h (omega (arith, count_by_cons p x xs)))
  where
    go : (b : Bool) → p x ≡ b → g x ≡ y
    go true q = absurd (omega (arith, count_by_cons p x xs, ap bit q))
    go false q = h x q
