-- The first and the last element of a list, and two that stand side by side.
use Rattle.std.proofs.Common.{◌≡◌, ℕ, zero, suc, ◌+◌, ◌<◌, ◌≤◌, List, [], ◌∷◌, ◌++◌, map, reverse, length, get_or, sym, refl, ap, ◌∙◌, subst, inl, inr, ⊎_elim, append_assoc, add-zero, add-one, arith, length-append}
use mathlib.Core.List.{reverse-cons, map-append, reverse-append}
use Rattle.std.specs.List.{range_with_len, flat_map}
use Rattle.std.proofs.lemmas.List.{get_or-append-add, get_or_at, append-nil}
use Rattle.std.proofs.lemmas.Bool.{cases_eq}
use Rattle.theory.proofs.Lists.Members.{In, in_append_right}
use Rattle.theory.proofs.Lists.Distinct.{Distinct, distinct_places}

module _ {X : Type 0} where
  abbrev pub First : List X → X → Type 0
  First xs x = (r : List X) × (xs ≡ x ∷ r)

  abbrev pub Last : List X → X → Type 0
  Last xs x = (l : List X) × (xs ≡ l ++ (x ∷ []))

  -- y stands right after x.
  abbrev pub Follows : List X → X → X → Type 0
  Follows xs x y = (l : List X) × (r : List X) × (xs ≡ l ++ (x ∷ y ∷ r))

  pub first-append : (xs ys : List X) (x : X) → First xs x → First (xs ++ ys) x
  first-append xs ys x h = (h.0 ++ ys, ap (λ zs. zs ++ ys) h.1)

  pub last-append : (xs ys : List X) (x : X) → Last ys x → Last (xs ++ ys) x
  last-append xs ys x h = (xs ++ h.0, ap (λ zs. xs ++ zs) h.1 ∙ sym (append_assoc xs h.0 (x ∷ [])))

  pub follows_append-left : (xs ys : List X) (x y : X) → Follows xs x y → Follows (xs ++ ys) x y
  follows_append-left xs ys x y h = (h.0, h.1 ++ ys, ap (λ zs. zs ++ ys) h.2 ∙ append_assoc h.0 (x ∷ y ∷ h.1) ys)

  pub follows_append_right : (xs ys : List X) (x y : X) → Follows ys x y → Follows (xs ++ ys) x y
  follows_append_right xs ys x y h = (xs ++ h.0, h.1, ap (λ zs. xs ++ zs) h.2 ∙ sym (append_assoc xs h.0 (x ∷ y ∷ h.1)))

  pub follows_between : (xs ys : List X) (x y : X) → Last xs x → First ys y → Follows (xs ++ ys) x y
  follows_between xs ys x y h k = (h.0, k.0, rw (h.1, k.1) (append_assoc h.0 (x ∷ []) (y ∷ k.0)))

  pub first-reverse : (xs : List X) (x : X) → Last xs x → First (reverse xs) x
  first-reverse xs x h = (reverse h.0, ap (λ zs. reverse zs) h.1 ∙ reverse-append h.0 (x ∷ []))

  pub last-reverse : (xs : List X) (x : X) → First xs x → Last (reverse xs) x
  last-reverse xs x h = (reverse h.0, ap (λ zs. reverse zs) h.1 ∙ reverse-cons x h.0)

  pub follows_reverse : (xs : List X) (x y : X) → Follows xs x y → Follows (reverse xs) y x
  follows_reverse xs x y h = (reverse h.1, reverse h.0, ap (λ zs. reverse zs) h.2 ∙ reverse-append h.0 (x ∷ y ∷ h.1) ∙ ap (λ zs. zs ++ reverse h.0) (reverse-append (x ∷ y ∷ []) h.1) ∙ append_assoc (reverse h.1) (y ∷ x ∷ []) (reverse h.0))

  pub first-place : (xs : List X) (x d : X) → First xs x → (0 < length xs) × (get_or xs 0 d ≡ x)
  first-place xs x d h = rw h.1 (omega arith, refl)

  pub follows_place : (xs : List X) (x y d : X) → Follows xs x y → (i : ℕ) × (suc i < length xs) × (get_or xs i d ≡ x) × (get_or xs (suc i) d ≡ y)
  follows_place xs x y d h = rw h.2 (length h.0, omega (arith, length-append h.0 (x ∷ y ∷ h.1)), get_or_at h.0 x (y ∷ h.1) d (length h.0) refl, ap (λ i. get_or (h.0 ++ (x ∷ y ∷ h.1)) i d) (sym (add-one (length h.0))) ∙ get_or-append-add h.0 (x ∷ y ∷ h.1) 1 d)

  pub follows_in : (xs : List X) (x y : X) → Follows xs x y → In x xs × In y xs
  follows_in xs x y h = rw h.2 (in_append_right x h.0 (x ∷ y ∷ h.1) (inl refl), in_append_right y h.0 (x ∷ y ∷ h.1) (inr (inl refl)))

  -- Where nothing stands twice, what follows x stands right after every place of x.
  pub follows_next : (xs : List X) (x y d : X) → Distinct xs → Follows xs x y → (i : ℕ) → i < length xs → get_or xs i d ≡ x → (suc i < length xs) × (get_or xs (suc i) d ≡ y)
  follows_next xs x y d a h i p e =
      let r = follows_place xs x y d h in
      let q : r.0 ≡ i = distinct_places xs a r.0 i d (omega (arith, r.1)) p (r.2 ∙ sym e) in
      subst (λ j. (suc j < length xs) × (get_or xs (suc j) d ≡ y)) q (r.1, r.3)

  pub last-place : (xs : List X) (x d : X) → Distinct xs → Last xs x → (i : ℕ) → i < length xs → get_or xs i d ≡ x → suc i ≡ length xs
  last-place xs x d a h i p e =
      let n : length xs ≡ length h.0 + 1 = ap length h.1 ∙ length-append h.0 (x ∷ []) in
      let q : get_or xs (length h.0) d ≡ x = ap (λ zs. get_or zs (length h.0) d) h.1 ∙ get_or_at h.0 x [] d (length h.0) refl in
      omega (arith, distinct_places xs a i (length h.0) d p (omega arith) (e ∙ sym q))

module _ {X Y : Type 0} where
  pub first-map : (f : X → Y) (xs : List X) (x : X) → First xs x → First (map f xs) (f x)
  first-map f xs x h = (map f h.0, ap (map f) h.1)

  pub last-map : (f : X → Y) (xs : List X) (x : X) → Last xs x → Last (map f xs) (f x)
  last-map f xs x h = (map f h.0, ap (map f) h.1 ∙ map-append f h.0 (x ∷ []))

  pub follows_map : (f : X → Y) (xs : List X) (x y : X) → Follows xs x y → Follows (map f xs) (f x) (f y)
  follows_map f xs x y h = (map f h.0, map f h.1, ap (map f) h.2 ∙ map-append f h.0 (x ∷ y ∷ h.1))

  joined-append : (f : X → List Y) (xs ys : List X) → flat_map f (xs ++ ys) ≡ flat_map f xs ++ flat_map f ys
  joined-append f [] ys = refl
  joined-append f (x ∷ xs) ys = ap (λ zs. f x ++ zs) (joined-append f xs ys) ∙ sym (append_assoc (f x) (flat_map f xs) (flat_map f ys))

  pub first-joined : (f : X → List Y) (xs : List X) (x : X) (y : Y) → First xs x → First (f x) y → First (flat_map f xs) y
  first-joined f xs x y h k = rw h.1 (first-append (f x) (flat_map f h.0) y k)

  pub last-joined : (f : X → List Y) (xs : List X) (x : X) (y : Y) → Last xs x → Last (f x) y → Last (flat_map f xs) y
  last-joined f xs x y h k = rw (h.1, joined-append f h.0 (x ∷ []), append-nil (f x)) (last-append (flat_map f h.0) (f x) y k)

  pub follows_joined : (f : X → List Y) (xs : List X) (x : X) (y z : Y) → In x xs → Follows (f x) y z → Follows (flat_map f xs) y z
  follows_joined f [] x y z m h = absurd m
  follows_joined f (w ∷ xs) x y z (inl e) h = follows_append-left (f w) (flat_map f xs) y z (subst (λ v. Follows (f v) y z) (sym e) h)
  follows_joined f (w ∷ xs) x y z (inr m) h = follows_append_right (f w) (flat_map f xs) y z (follows_joined f xs x y z m h)

  pub follows_joined-between : (f : X → List Y) (xs : List X) (w x : X) (y z : Y) → Follows xs w x → Last (f w) y → First (f x) z → Follows (flat_map f xs) y z
  follows_joined-between f xs w x y z h k l = rw (h.2, joined-append f h.0 (w ∷ x ∷ h.1)) (follows_append_right (flat_map f h.0) (f w ++ (f x ++ flat_map f h.1)) y z (follows_between (f w) (f x ++ flat_map f h.1) y z k (first-append (f x) (flat_map f h.1) z l)))

pub follows_counting : (a n x : ℕ) → a ≤ x → suc x < a + n → Follows (range_with_len a n) x (x + 1)
follows_counting a zero x p q = absurd (omega arith)
follows_counting a (suc zero) x p q = absurd (omega arith)
follows_counting a (suc (suc n)) x p q = ⊎_elim here (λ ne. follows_append_right (a ∷ []) (range_with_len (a + 1) (suc n)) x (x + 1) (follows_counting (a + 1) (suc n) x (omega arith) (omega arith))) (cases_eq a x)
  where
    here : a ≡ x → Follows (range_with_len a (suc (suc n))) x (x + 1)
    here e = subst (λ y. Follows (range_with_len a (suc (suc n))) y (y + 1)) e ([], range_with_len (a + 1 + 1) n, refl)

pub last_counting : (a n : ℕ) → Last (range_with_len a (suc n)) (a + n)
last_counting a zero = ([], ap (λ x. x ∷ []) (sym (add-zero a)))
last_counting a (suc n) = subst (Last (range_with_len a (suc (suc n)))) (omega arith) (last-append (a ∷ []) (range_with_len (a + 1) (suc n)) (a + 1 + n) (last_counting (a + 1) n))
