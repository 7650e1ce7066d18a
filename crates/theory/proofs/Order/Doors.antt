-- The revolving door: which choices stand side by side.
use Rattle.std.proofs.Common.{◌≡◌, ℕ, zero, suc, ◌+◌, ◌%◌, ◌<◌, ◌≤◌, Bool, true, false, not, eqb, ◌⊎◌, List, [], ◌∷◌, ◌++◌, map, reverse, length, sym, refl, ap, ◌∙◌, subst, inl, inr, ⊎_elim, append_assoc, arith, length-append}
use Rattle.std.proofs.lemmas.List.{append-nil}
use Rattle.std.proofs.lemmas.Bool.{cases_order}
use Rattle.theory.specs.Visits.{choices, Rising}
use Rattle.theory.proofs.Order.Choices.{push}
use Rattle.theory.proofs.Order.Rising.{rising_le, rising_none, rising_top}
use Rattle.theory.proofs.Lists.Neighbours.{Follows, follows_append-left, follows_append_right, follows_between, follows_map, follows_reverse, first-map, first-reverse}
use Rattle.theory.proofs.Order.Ends.{final, last-choices}

abbrev pub even : ℕ → Bool
even zero = true
even (suc n) = not (even n)

pub even_mod : (n : ℕ) → even n ≡ eqb (n % 2) 0
even_mod zero = refl
even_mod (suc zero) = refl
even_mod (suc (suc n)) = let e : n % 2 ≡ suc (suc n) % 2 = omega arith in not-not (even n) ∙ even_mod n ∙ ap (λ r. eqb r 0) e
  where
    not-not : (b : Bool) → not (not b) ≡ b
    not-not true = refl
    not-not false = refl

-- y follows x, or at false x follows y.
abbrev pub Beside : {X : Type 0} → Bool → List X → X → X → Type 0
Beside true xs x y = Follows xs x y
Beside false xs x y = Follows xs y x

module _ {X : Type 0} where
  beside_left : (b : Bool) (xs ys : List X) (x y : X) → Beside b xs x y → Beside b (xs ++ ys) x y
  beside_left true xs ys x y h = follows_append-left xs ys x y h
  beside_left false xs ys x y h = follows_append-left xs ys y x h

  beside_right : (b : Bool) (xs ys : List X) (x y : X) → Beside b ys x y → Beside b (xs ++ ys) x y
  beside_right true xs ys x y h = follows_append_right xs ys x y h
  beside_right false xs ys x y h = follows_append_right xs ys y x h

  beside_map : (b : Bool) (f : X → X) (xs : List X) (x y : X) → Beside b xs x y → Beside b (map f xs) (f x) (f y)
  beside_map true f xs x y h = follows_map f xs x y h
  beside_map false f xs x y h = follows_map f xs y x h

  beside_reverse : (b : Bool) (xs : List X) (x y : X) → Beside b xs x y → Beside (not b) (reverse xs) x y
  beside_reverse true xs x y h = follows_reverse xs x y h
  beside_reverse false xs x y h = follows_reverse xs y x h

even_push : (c : List ℕ) (k : ℕ) → even (length (c ++ (k ∷ []))) ≡ not (even (length c))
even_push [] k = refl
even_push (x ∷ c) k = ap not (even_push c k)

-- Row x comes in over s + 1 lower rows.
door_top : (x s : ℕ) → suc s ≤ x → Follows (choices (suc x) (suc s)) (final x (suc s)) (push x (final x s))
door_top x s l = follows_between (choices x (suc s)) (map (push x) (reverse (choices x s))) (final x (suc s)) (push x (final x s)) (last-choices x (suc s) l) (first-map (push x) (reverse (choices x s)) (final x s) (first-reverse (choices x s) (final x s) (last-choices x s (omega arith))))

-- The same under higher rows hi, which turn the order round once each.
abbrev pub Door : ℕ → ℕ → ℕ → ℕ → List ℕ → Type 0
Door k x s t hi = Beside (even (length hi)) (choices k t) (final x (suc s) ++ hi) (push x (final x s) ++ hi)

door_here : (x s t : ℕ) (hi : List ℕ) → suc s ≤ x → Rising (suc x) (suc x) hi → suc s + length hi ≡ t → Door (suc x) x s t hi
door_here x s t hi l h e =
    let n : hi ≡ [] = rising_none (suc x) hi h in
    let m : suc s ≡ t = omega (arith, ap length n) in
    subst (Door (suc x) x s t) (sym n) (subst (λ r. Door (suc x) x s r []) m (rw (append-nil (final x (suc s)), append-nil (push x (final x s))) (door_top x s l)))

door_below : (k x s t : ℕ) (hi : List ℕ) → Door k x s (suc t) hi → Door (suc k) x s (suc t) hi
door_below k x s t hi d = beside_left (even (length hi)) (choices k (suc t)) (map (push k) (reverse (choices k t))) (final x (suc s) ++ hi) (push x (final x s) ++ hi) d

door_pushed : (k x s t : ℕ) (b : List ℕ) → Door k x s t b → Door (suc k) x s (suc t) (b ++ (k ∷ []))
door_pushed k x s t b d = rw (even_push b k, ← append_assoc (final x (suc s)) b (k ∷ []), ← append_assoc (push x (final x s)) b (k ∷ [])) (beside_right (not (even (length b))) (choices k (suc t)) (map (push k) (reverse (choices k t))) (push k (final x (suc s) ++ b)) (push k (push x (final x s) ++ b)) (beside_map (not (even (length b))) (push k) (reverse (choices k t)) (final x (suc s) ++ b) (push x (final x s) ++ b) (beside_reverse (even (length b)) (choices k t) (final x (suc s) ++ b) (push x (final x s) ++ b) d)))

pub door : (k x s t : ℕ) (hi : List ℕ) → suc s ≤ x → Rising (suc x) k hi → suc s + length hi ≡ t → Door k x s t hi
door zero x s t hi l h e = absurd (omega (arith, rising_le (suc x) 0 hi h))
door (suc k) x s zero hi l h e = absurd (omega arith)
door (suc k) x s (suc t) hi l h e = go (door k x s (suc t) hi l) (door k x s t) (cases_order x k)
  where
    go : (Rising (suc x) k hi → suc s + length hi ≡ suc t → Door k x s (suc t) hi) → ((b : List ℕ) → suc s ≤ x → Rising (suc x) k b → suc s + length b ≡ t → Door k x s t b) → (x ≡ k) ⊎ ((x < k) ⊎ (k < x)) → Door (suc k) x s (suc t) hi
    go f g (inl p) = subst (λ j. Door (suc j) x s (suc t) hi) p (door_here x s (suc t) hi l (subst (λ j. Rising (suc x) (suc j) hi) (sym p) h) e)
    go f g (inr (inl p)) = ⊎_elim (λ r. door_below k x s t hi (f r e)) (λ r. subst (Door (suc k) x s (suc t)) (sym r.1) (door_pushed k x s t r.0 (g r.0 l r.2 (omega (arith, ap length r.1, length-append r.0 (k ∷ [])))))) (rising_top (suc x) k hi p h)
    go f g (inr (inr p)) = absurd (omega (arith, rising_le (suc x) (suc k) hi h))
