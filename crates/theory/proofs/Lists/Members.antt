-- What stands in a list: `in-` shows that something does, and `of-` tells where it comes from.
use Rattle.std.proofs.Common.{◌≡◌, ℕ, zero, suc, ◌+◌, ◌<◌, ◌≤◌, Bool, true, false, cond, ◌⊎◌, List, [], ◌∷◌, ◌++◌, map, reverse, length, get_or, take, drop, filter, sym, refl, ap, ◌∙◌, subst, inl, inr, ⊎_elim, arith}
use mathlib.Core.List.{reverse-cons}
use Rattle.std.specs.List.{range_with_len, flat_map, AllByRecursion}
use Rattle.std.proofs.lemmas.Bool.{cases_eq, cond-true, cond_both}

abbrev pub In : {X : Type 0} → X → List X → Type 0
In x [] = ⊥
In x (y ∷ ys) = (y ≡ x) ⊎ In x ys

abbrev pub Within : {X : Type 0} → List X → List X → Type 0
Within {X} xs ys = (x : X) → In x xs → In x ys

module _ {X : Type 0} where
  pub in_cast : {x y : X} (xs : List X) → x ≡ y → In y xs → In x xs
  in_cast xs e m = subst (λ z. In z xs) (sym e) m

  pub in-get_or : (xs : List X) (i : ℕ) (d : X) → i < length xs → In (get_or xs i d) xs
  in-get_or [] i d h = absurd (omega arith)
  in-get_or (x ∷ xs) zero d h = inl refl
  in-get_or (x ∷ xs) (suc i) d h = inr (in-get_or xs i d (omega arith))

  -- The place of a member.
  pub place_of : (x : X) (xs : List X) (d : X) → In x xs → (i : ℕ) × (i < length xs) × (get_or xs i d ≡ x)
  place_of x [] d m = absurd m
  place_of x (y ∷ xs) d (inl e) = (0, omega arith, e)
  place_of x (y ∷ xs) d (inr m) = let r = place_of x xs d m in (suc r.0, omega (arith, r.1), r.2)

  -- What stands before and after a member.
  pub in_split : (x : X) (xs : List X) → In x xs → (l : List X) × (r : List X) × (xs ≡ l ++ (x ∷ r))
  in_split x [] m = absurd m
  in_split x (y ∷ xs) (inl e) = ([], xs, ap (λ z. z ∷ xs) e)
  in_split x (y ∷ xs) (inr m) = let s = in_split x xs m in (y ∷ s.0, s.1, ap (λ zs. y ∷ zs) s.2)

  pub in_append_left : (x : X) (xs ys : List X) → In x xs → In x (xs ++ ys)
  in_append_left x [] ys m = absurd m
  in_append_left x (y ∷ xs) ys (inl e) = inl e
  in_append_left x (y ∷ xs) ys (inr m) = inr (in_append_left x xs ys m)

  pub in_append_right : (x : X) (xs ys : List X) → In x ys → In x (xs ++ ys)
  in_append_right x [] ys m = m
  in_append_right x (y ∷ xs) ys m = inr (in_append_right x xs ys m)

  pub of-append : (x : X) (xs ys : List X) → In x (xs ++ ys) → In x xs ⊎ In x ys
  of-append x [] ys m = inr m
  of-append x (y ∷ xs) ys (inl e) = inl (inl e)
  of-append x (y ∷ xs) ys (inr m) = ⊎_elim (λ l. inl (inr l)) (λ r. inr r) (of-append x xs ys m)

  -- One more member y among the others.
  pub in-among : (x : X) (xs ys : List X) (y : X) → In x (xs ++ ys) → In x (xs ++ (y ∷ ys))
  in-among x xs ys y m = ⊎_elim (in_append_left x xs (y ∷ ys)) (λ r. in_append_right x xs (y ∷ ys) (inr r)) (of-append x xs ys m)

  pub of-among : (x : X) (xs ys : List X) (y : X) → In x (xs ++ (y ∷ ys)) → (y ≡ x) ⊎ In x (xs ++ ys)
  of-among x [] ys y m = m
  of-among x (z ∷ xs) ys y (inl e) = inr (inl e)
  of-among x (z ∷ xs) ys y (inr m) = ⊎_elim (λ e. inl e) (λ n. inr (inr n)) (of-among x xs ys y m)

  pub of_reverse : (x : X) (xs : List X) → In x (reverse xs) → In x xs
  of_reverse x [] m = m
  of_reverse x (y ∷ xs) m = ⊎_elim (λ l. inr (of_reverse x xs l)) (λ r. inl (⊎_elim (λ e. e) (λ n. absurd n) r)) (of-append x (reverse xs) (y ∷ []) (rw reverse-cons at m))

  pub in-reverse : (x : X) (xs : List X) → In x xs → In x (reverse xs)
  in-reverse x [] m = m
  in-reverse x (y ∷ xs) (inl e) = rw reverse-cons (in_append_right x (reverse xs) (y ∷ []) (inl e))
  in-reverse x (y ∷ xs) (inr m) = rw reverse-cons (in_append_left x (reverse xs) (y ∷ []) (in-reverse x xs m))

  pub of-take : (x : X) (n : ℕ) (xs : List X) → In x (take n xs) → In x xs
  of-take x zero xs m = absurd m
  of-take x (suc n) [] m = m
  of-take x (suc n) (y ∷ xs) (inl e) = inl e
  of-take x (suc n) (y ∷ xs) (inr m) = inr (of-take x n xs m)

  pub of-drop : (x : X) (n : ℕ) (xs : List X) → In x (drop n xs) → In x xs
  of-drop x zero xs m = m
  of-drop x (suc n) [] m = m
  of-drop x (suc n) (y ∷ xs) m = inr (of-drop x n xs m)

  pub all_in : (P : X → Type 0) (xs : List X) → AllByRecursion P xs → (x : X) → In x xs → P x
  all_in P [] a x m = absurd m
  all_in P (y ∷ xs) a x (inl e) = subst P e a.0
  all_in P (y ∷ xs) a x (inr m) = all_in P xs a.1 x m

  pub all_from-in : (P : X → Type 0) (xs : List X) → ((x : X) → In x xs → P x) → AllByRecursion P xs
  all_from-in P [] h = tt
  all_from-in P (y ∷ xs) h = (h y (inl refl), all_from-in P xs (λ x m. h x (inr m)))

  pub in_kept : (p : X → Bool) (x : X) (xs : List X) → In x xs → p x ≡ true → In x (filter p xs)
  in_kept p x [] m t = m
  in_kept p x (y ∷ xs) (inl e) t = rw (cond-true (p y) (y ∷ filter p xs) (filter p xs) (ap p e ∙ t)) (inl e)
  in_kept p x (y ∷ xs) (inr m) t = let n = in_kept p x xs m t in cond_both (p y) (y ∷ filter p xs) (filter p xs) (In x) (λ _. inr n) (λ _. n)

  pub of_kept : (p : X → Bool) (x : X) (xs : List X) → In x (filter p xs) → In x xs × (p x ≡ true)
  of_kept p x [] m = absurd m
  of_kept p x (y ∷ xs) m = go (of_kept p x xs) (p y) refl m
    where
      go : (In x (filter p xs) → In x xs × (p x ≡ true)) → (b : Bool) → p y ≡ b → In x (cond b (y ∷ filter p xs) (filter p xs)) → In x (y ∷ xs) × (p x ≡ true)
      go f true e (inl q) = (inl q, ap p (sym q) ∙ e)
      go f true e (inr n) = (inr (f n).0, (f n).1)
      go f false e n = (inr (f n).0, (f n).1)

module _ {X Y : Type 0} where
  pub in_map : (f : X → Y) (x : X) (xs : List X) → In x xs → In (f x) (map f xs)
  in_map f x [] m = m
  in_map f x (y ∷ xs) (inl e) = inl (ap f e)
  in_map f x (y ∷ xs) (inr m) = inr (in_map f x xs m)

  pub of_map : (f : X → Y) (y : Y) (xs : List X) → In y (map f xs) → (x : X) × In x xs × (f x ≡ y)
  of_map f y [] m = absurd m
  of_map f y (x ∷ xs) (inl e) = (x, inl refl, e)
  of_map f y (x ∷ xs) (inr m) = let r = of_map f y xs m in (r.0, inr r.1, r.2)

  pub in-joined : (f : X → List Y) (x : X) (y : Y) (xs : List X) → In x xs → In y (f x) → In y (flat_map f xs)
  in-joined f x y [] m n = absurd m
  in-joined f x y (z ∷ xs) (inl e) n = in_append_left y (f z) (flat_map f xs) (subst (λ w. In y (f w)) (sym e) n)
  in-joined f x y (z ∷ xs) (inr m) n = in_append_right y (f z) (flat_map f xs) (in-joined f x y xs m n)

  pub of-joined : (f : X → List Y) (y : Y) (xs : List X) → In y (flat_map f xs) → (x : X) × In x xs × In y (f x)
  of-joined f y [] m = absurd m
  of-joined f y (x ∷ xs) m = ⊎_elim (λ l. (x, inl refl, l)) (λ n. let r = of-joined f y xs n in (r.0, inr r.1, r.2)) (of-append y (f x) (flat_map f xs) m)

pub in_counting : (x a n : ℕ) → a ≤ x → x < a + n → In x (range_with_len a n)
in_counting x a zero l h = absurd (omega arith)
in_counting x a (suc n) l h = ⊎_elim (λ e. inl e) (λ ne. inr (in_counting x (a + 1) n (omega arith) (omega arith))) (cases_eq a x)

pub of_counting : (x a n : ℕ) → In x (range_with_len a n) → (a ≤ x) × (x < a + n)
of_counting x a zero m = absurd m
of_counting x a (suc n) (inl e) = omega arith
of_counting x a (suc n) (inr m) = omega (arith, of_counting x (a + 1) n m)

pub head_in : {X : Type 0} (d x : X) (xs : List X) → In x xs → In (elim xs [ [] ↦ d | v ∷ vs ↦ v ]) xs
head_in d x [] i = absurd i
head_in d x (y ∷ xs) i = inl refl

pub first_or : {X : Type 0} (d : X) (xs : List X) → (elim xs as (λ x. X) [ [] ↦ d | v ∷ vs ↦ v ] ≡ d) ⊎ In (elim xs as (λ x. X) [ [] ↦ d | v ∷ vs ↦ v ]) xs
first_or d [] = inl refl
first_or d (x ∷ xs) = inr (inl refl)
