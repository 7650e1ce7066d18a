-- Fronts and filters of a list, and two places of it set.
use Rattle.std.proofs.Common.{◌≡◌, ℕ, zero, suc, Bool, true, false, cond, List, [], ◌∷◌, ◌++◌, map, length, take, set, filter, sym, refl, ap, ◌∙◌, inl, inr, append_assoc, arith, length-append}
use Rattle.std.specs.List.{AllByRecursion}
use Rattle.std.proofs.lemmas.List.{set_at}
use Rattle.theory.proofs.Lists.Members.{In, all_in}

module _ {X : Type 0} where
  pub take_again : (n : ℕ) (xs ys : List X) → take n (take n xs ++ ys) ≡ take n (xs ++ ys)
  take_again zero xs ys = refl
  take_again (suc n) [] ys = refl
  take_again (suc n) (x ∷ xs) ys = ap (λ l. x ∷ l) (take_again n xs ys)

  pub kept_by_same : (p q : X → Bool) (xs : List X) → ((x : X) → In x xs → p x ≡ q x) → filter p xs ≡ filter q xs
  kept_by_same p q [] h = refl
  kept_by_same p q (x ∷ xs) h = ap (λ l. cond (p x) (x ∷ l) l) (kept_by_same p q xs (λ y i. h y (inr i))) ∙ ap (λ b. cond b (x ∷ filter q xs) (filter q xs)) (h x (inl refl))

  pub kept_by_all : (p q : X → Bool) (xs : List X) → AllByRecursion (λ x. p x ≡ q x) xs → filter p xs ≡ filter q xs
  kept_by_all p q xs h = kept_by_same p q xs (all_in (λ x. p x ≡ q x) xs h)

  pub kept_by_none : (p : X → Bool) (xs : List X) → AllByRecursion (λ x. p x ≡ false) xs → filter p xs ≡ []
  kept_by_none p [] h = refl
  kept_by_none p (x ∷ xs) h = ap (λ b. cond b (x ∷ filter p xs) (filter p xs)) h.0 ∙ kept_by_none p xs h.1

  pub kept_by_map : {Y : Type 0} (f : X → Y) (p : Y → Bool) (xs : List X) → filter p (map f xs) ≡ map f (filter (λ x. p (f x)) xs)
  kept_by_map f p [] = refl
  kept_by_map f p (x ∷ xs) = ap (λ l. cond (p (f x)) (f x ∷ l) l) (kept_by_map f p xs) ∙ go (p (f x))
    where
      go : (b : Bool) → cond b (f x ∷ map f (filter (λ x. p (f x)) xs)) (map f (filter (λ x. p (f x)) xs)) ≡ map f (cond b (x ∷ filter (λ x. p (f x)) xs) (filter (λ x. p (f x)) xs))
      go true = refl
      go false = refl

  pub take_taken : (n : ℕ) (xs : List X) → take (length (take n xs)) xs ≡ take n xs
  take_taken zero xs = refl
  take_taken (suc n) [] = refl
  take_taken (suc n) (x ∷ xs) = ap (λ l. x ∷ l) (take_taken n xs)

pub set_two : (l r : List ℕ) (a b x y n : ℕ) → length l ≡ n → set (set (l ++ (a ∷ b ∷ r)) n x) (suc n) y ≡ l ++ (x ∷ y ∷ r)
set_two l r a b x y n e = ap (λ u. set u (suc n) y) (set_at l a (b ∷ r) x n e ∙ sym (append_assoc l (x ∷ []) (b ∷ r))) ∙ set_at (l ++ (x ∷ [])) b r y (suc n) (length-append l (x ∷ []) ∙ omega arith) ∙ append_assoc l (x ∷ []) (y ∷ r)
