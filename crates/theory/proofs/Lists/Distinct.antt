-- Lists in which nothing stands twice, and the pigeonhole.
use Rattle.std.proofs.Common.{◌≡◌, ℕ, zero, suc, ◌+◌, ◌<◌, ◌≤◌, Bool, true, false, cond, List, [], ◌∷◌, ◌++◌, map, reverse, length, get_or, filter, sym, refl, ap, subst, inl, inr, ⊎_elim, arith, length-append}
use mathlib.Core.List.{reverse-cons}
use Rattle.std.specs.List.{range_with_len, flat_map}
use Rattle.theory.proofs.Lists.Members.{In, Within, in_cast, in-get_or, place_of, in_split, of-append, in_append_right, of-among, of_reverse, of_kept, in_map, of_map, of-joined, of_counting}

abbrev pub Distinct : {X : Type 0} → List X → Type 0
Distinct [] = Unit {0}
Distinct (x ∷ xs) = (In x xs → ⊥) × Distinct xs

module _ {X : Type 0} where
  -- Two places that hold the same are one.
  pub distinct_places : (xs : List X) → Distinct xs → (i j : ℕ) (d : X) → i < length xs → j < length xs → get_or xs i d ≡ get_or xs j d → i ≡ j
  distinct_places [] a i j d h k e = absurd (omega arith)
  distinct_places (x ∷ xs) a zero zero d h k e = refl
  distinct_places (x ∷ xs) a zero (suc j) d h k e = absurd (a.0 (in_cast xs e (in-get_or xs j d (omega arith))))
  distinct_places (x ∷ xs) a (suc i) zero d h k e = absurd (a.0 (in_cast xs (sym e) (in-get_or xs i d (omega arith))))
  distinct_places (x ∷ xs) a (suc i) (suc j) d h k e = ap suc (distinct_places xs a.1 i j d (omega arith) (omega arith) e)

  pub distinct-from_places : (xs : List X) (d : X) → ((i j : ℕ) → i < length xs → j < length xs → get_or xs i d ≡ get_or xs j d → i ≡ j) → Distinct xs
  distinct-from_places [] d h = tt
  distinct-from_places (x ∷ xs) d h = (fresh, distinct-from_places xs d (λ i j p q e. omega (arith, h (suc i) (suc j) (omega arith) (omega arith) e)))
    where
      fresh : In x xs → ⊥
      fresh m = let r = place_of x xs d m in omega (arith, r.1, h (suc r.0) 0 (omega (arith, r.1)) (omega arith) r.2)

  pub distinct_append : (xs ys : List X) → Distinct xs → Distinct ys → ((x : X) → In x xs → In x ys → ⊥) → Distinct (xs ++ ys)
  distinct_append [] ys a b h = b
  distinct_append (x ∷ xs) ys a b h = (λ m. ⊎_elim a.0 (h x (inl refl)) (of-append x xs ys m), distinct_append xs ys a.1 b (λ z m. h z (inr m)))

  pub distinct_push : (xs : List X) (y : X) → Distinct xs → (In y xs → ⊥) → Distinct (xs ++ y ∷ [])
  distinct_push xs y d h = distinct_append xs (y ∷ []) d (λ m. m, tt) (λ z m k. h (in_cast xs (⊎_elim (λ e. e) (λ n. absurd n) k) m))

  -- A member stands nowhere else, and the others without it are distinct.
  pub distinct-among : (xs ys : List X) (x : X) → Distinct (xs ++ (x ∷ ys)) → In x (xs ++ ys) → ⊥
  distinct-among [] ys x a m = a.0 m
  distinct-among (y ∷ xs) ys x a (inl e) = a.0 (in_cast (xs ++ (x ∷ ys)) e (in_append_right x xs (x ∷ ys) (inl refl)))
  distinct-among (y ∷ xs) ys x a (inr m) = distinct-among xs ys x a.1 m

  pub distinct_with : (xs ys : List X) (x : X) → Distinct (xs ++ ys) → (In x (xs ++ ys) → ⊥) → Distinct (xs ++ (x ∷ ys))
  distinct_with [] ys x a h = (h, a)
  distinct_with (y ∷ xs) ys x a h = (λ m. ⊎_elim (λ e. h (inl (sym e))) a.0 (of-among y xs ys x m), distinct_with xs ys x a.1 (λ m. h (inr m)))

  pub distinct-reverse : (xs : List X) → Distinct xs → Distinct (reverse xs)
  distinct-reverse [] a = a
  distinct-reverse (x ∷ xs) a = rw reverse-cons (distinct_push (reverse xs) x (distinct-reverse xs a.1) (λ m. a.0 (of_reverse x xs m)))

  pub distinct_kept : (p : X → Bool) (xs : List X) → Distinct xs → Distinct (filter p xs)
  distinct_kept p [] a = a
  distinct_kept p (x ∷ xs) a = let r = distinct_kept p xs a.1 in elim (p x) as (λ b. Distinct (cond b (x ∷ filter p xs) (filter p xs))) [ true ↦ (λ m. a.0 (of_kept p x xs m).0, r) | false ↦ r ]

  -- The others of ys, where x stands first in a list without duplicates whose members stand in ys.
  others : (x : X) (xs ys : List X) → Distinct (x ∷ xs) → Within (x ∷ xs) ys → (l : List X) × (r : List X) × (ys ≡ l ++ (x ∷ r)) × Within xs (l ++ r)
  others x xs ys a h =
      let s = in_split x ys (h x (inl refl)) in
      (s.0, s.1, s.2, λ z m. ⊎_elim (λ e. absurd (a.0 (in_cast xs e m))) (λ n. n) (of-among z s.0 s.1 x (subst (In z) s.2 (h z (inr m)))))

  length-others : (x : X) (l r : List X) → length (l ++ (x ∷ r)) ≡ suc (length (l ++ r))
  length-others x l r = omega (arith, length-append l (x ∷ r), length-append l r)

  -- A list without duplicates whose members all stand in ys is no longer than ys.
  pub pigeonhole : (xs ys : List X) → Distinct xs → Within xs ys → length xs ≤ length ys
  pigeonhole [] ys a h = omega arith
  pigeonhole (x ∷ xs) ys a h = let s = others x xs ys a h in omega (arith, pigeonhole xs (s.0 ++ s.1) a.1 s.3, ap length s.2, length-others x s.0 s.1)

  -- If ys is no longer, each of its members stands in the list,
  pub pigeonhole_all : (xs ys : List X) → Distinct xs → Within xs ys → length ys ≤ length xs → Within ys xs
  pigeonhole_all [] [] a h l z m = m
  pigeonhole_all [] (y ∷ ys) a h l z m = absurd (omega arith)
  pigeonhole_all (x ∷ xs) ys a h l z m =
      let s = others x xs ys a h in
      ⊎_elim (λ e. inl e) (λ n. inr (pigeonhole_all xs (s.0 ++ s.1) a.1 s.3 (omega (arith, ap length s.2, length-others x s.0 s.1)) z n)) (of-among z s.0 s.1 x (subst (In z) s.2 m))

  -- and ys has no duplicates either.
  pub pigeonhole_distinct : (xs ys : List X) → Distinct xs → Within xs ys → length ys ≤ length xs → Distinct ys
  pigeonhole_distinct [] [] a h l = tt
  pigeonhole_distinct [] (y ∷ ys) a h l = absurd (omega arith)
  pigeonhole_distinct (x ∷ xs) ys a h l =
      let s = others x xs ys a h in
      let rest : length (s.0 ++ s.1) ≤ length xs = omega (arith, ap length s.2, length-others x s.0 s.1) in
      subst Distinct (sym s.2) (distinct_with s.0 s.1 x (pigeonhole_distinct xs (s.0 ++ s.1) a.1 s.3 rest) (λ m. a.0 (pigeonhole_all xs (s.0 ++ s.1) a.1 s.3 rest x m)))

module _ {X Y : Type 0} where
  -- A function that tells the members apart keeps a list without duplicates, and the other way round.
  pub distinct-map : (f : X → Y) (xs : List X) → Distinct xs → ((x y : X) → In x xs → In y xs → f x ≡ f y → x ≡ y) → Distinct (map f xs)
  distinct-map f [] a h = a
  distinct-map f (x ∷ xs) a h = (fresh, distinct-map f xs a.1 (λ y z m n. h y z (inr m) (inr n)))
    where
      fresh : In (f x) (map f xs) → ⊥
      fresh m = let r = of_map f (f x) xs m in a.0 (in_cast xs (sym (h r.0 x (inr r.1) (inl refl) r.2)) r.1)

  pub distinct-map_injective : (f : X → Y) (xs : List X) → Distinct (map f xs) → (a b : X) → In a xs → In b xs → f a ≡ f b → a ≡ b
  distinct-map_injective f [] d a b m n e = absurd m
  distinct-map_injective f (x ∷ xs) d a b (inl i) (inl j) e = cc
  distinct-map_injective f (x ∷ xs) d a b (inl i) (inr r) e = absurd (d.0 (in_cast (map f xs) (ap f i) (in_cast (map f xs) e (in_map f b xs r))))
  distinct-map_injective f (x ∷ xs) d a b (inr l) (inl j) e = absurd (d.0 (in_cast (map f xs) (ap f j) (in_cast (map f xs) (sym e) (in_map f a xs l))))
  distinct-map_injective f (x ∷ xs) d a b (inr l) (inr r) e = distinct-map_injective f xs d.1 a b l r e

  -- Blocks that share nothing.
  pub distinct-joined : (f : X → List Y) (xs : List X) → Distinct xs → ((x : X) → In x xs → Distinct (f x)) → ((x z : X) (y : Y) → In x xs → In z xs → In y (f x) → In y (f z) → x ≡ z) → Distinct (flat_map f xs)
  distinct-joined f [] a each share = a
  distinct-joined f (x ∷ xs) a each share = distinct_append (f x) (flat_map f xs) (each x (inl refl)) (distinct-joined f xs a.1 (λ z m. each z (inr m)) (λ w z y m n. share w z y (inr m) (inr n))) fresh
    where
      fresh : (y : Y) → In y (f x) → In y (flat_map f xs) → ⊥
      fresh y m n = let r = of-joined f y xs n in a.0 (in_cast xs (share x r.0 y (inl refl) (inr r.1) m r.2) r.1)

pub distinct_counting : (a n : ℕ) → Distinct (range_with_len a n)
distinct_counting a zero = tt
distinct_counting a (suc n) = (λ m. omega (arith, of_counting a (a + 1) n m), distinct_counting (a + 1) n)
