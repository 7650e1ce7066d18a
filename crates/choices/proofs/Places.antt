-- Places in a list: which element follows, which is the last, and what a test tells.
use Rattle.std.proofs.Common.{◌≡◌, ℕ, suc, ◌+◌, ◌<◌, true, List, ◌∷◌, ◌++◌, length, get_or, take, drop, sym, ap, ◌∙◌, subst, add-one, arith, length-drop, drop-cons}
use lib.Seq.{split_at}
use Rattle.std.proofs.lemmas.List.{get_or_default, nil_from_length}
use Rattle.theory.proofs.Lists.Members.{In, in-get_or, place_of}
use Rattle.theory.proofs.Lists.Distinct.{Distinct}
use Rattle.theory.proofs.Lists.Tests.{decides_in}
use Rattle.theory.proofs.Lists.Neighbours.{First, Last, Follows, first-place, follows_next, last-place}
use Rattle.choices.specs.Places.{StandsAt, listed, Steps}

module _ {X : Type 0} (xs : List X) where
  pub stands_in : (i : ℕ) (x : X) → StandsAt xs i x → In x xs
  stands_in i x s = subst (λ y. In y xs) (s.1 x) (in-get_or xs i x s.0)

  pub stands_by : (i : ℕ) (x d : X) → i < length xs → get_or xs i d ≡ x → StandsAt xs i x
  stands_by i x d l e = (l, λ b. get_or_default xs i b d l ∙ e)

  pub in_stands : (x : X) → In x xs → (i : ℕ) × StandsAt xs i x
  in_stands x m = let r = place_of x xs x m in (r.0, stands_by r.0 x x r.1 r.2)

  pub first_stands : (x : X) → First xs x → StandsAt xs 0 x
  first_stands x f = let r = first-place xs x x f in stands_by 0 x x r.0 r.1

  pub next_stands : Distinct xs → (x y : X) → Follows xs x y → (i : ℕ) → StandsAt xs i x → StandsAt xs (i + 1) y
  next_stands a x y f i s =
      let r = follows_next xs x y x a f i s.0 (s.1 x) in
      subst (λ j. StandsAt xs j y) (sym (add-one i)) (stands_by (suc i) y x r.0 r.1)

  pub last_stands : Distinct xs → (x : X) → Last xs x → (i : ℕ) → StandsAt xs i x → i + 1 ≡ length xs
  last_stands a x f i s = add-one i ∙ last-place xs x x a f i s.0 (s.1 x)

  pub stands_first : (x : X) → StandsAt xs 0 x → First xs x
  stands_first x s = (drop 1 xs, split_at xs 0 x s.0 ∙ ap (λ y. y ∷ drop 1 xs) (s.1 x))

  pub stands_last : (x : X) (i : ℕ) → StandsAt xs i x → i + 1 ≡ length xs → Last xs x
  stands_last x i s e = (take i xs, split_at xs i x s.0 ∙ ap (λ y. take i xs ++ (y ∷ drop (suc i) xs)) (s.1 x) ∙ ap (λ ys. take i xs ++ (x ∷ ys)) (nil_from_length (drop (suc i) xs) (length-drop (suc i) xs ∙ omega (arith, e))))

  pub stands_follows : (x y : X) (i : ℕ) → StandsAt xs i x → StandsAt xs (i + 1) y → Follows xs x y
  stands_follows x y i s n =
      let l : suc i < length xs = omega (arith, n.0) in
      let e : get_or xs (suc i) x ≡ y = ap (λ j. get_or xs j x) (sym (add-one i)) ∙ n.1 x in
      (take i xs, drop (suc (suc i)) xs, split_at xs i x s.0 ∙ ap (λ z. take i xs ++ (z ∷ drop (suc i) xs)) (s.1 x) ∙ ap (λ ys. take i xs ++ (x ∷ ys)) (drop-cons xs (suc i) x l ∙ ap (λ z. z ∷ drop (suc (suc i)) xs) e))

module _ (xs : List (List ℕ)) where
  pub listed_in : (c : List ℕ) → listed xs c ≡ true → In c xs
  listed_in c h = (decides_in c xs).0 h

  pub in-listed : (c : List ℕ) → In c xs → listed xs c ≡ true
  in-listed c m = (decides_in c xs).1 m

  pub listed_stands : (c : List ℕ) → listed xs c ≡ true → (i : ℕ) × StandsAt xs i c
  listed_stands c h = in_stands xs c (listed_in c h)

  pub stands_listed : (i : ℕ) (c : List ℕ) → StandsAt xs i c → listed xs c ≡ true
  stands_listed i c s = in-listed c (stands_in xs i c s)

-- Where a step to y is shown, y stands in the list too.
pub stepped_test : (xs : List (List ℕ)) (x y : List ℕ) → listed xs x ≡ true → Steps xs true x y → listed xs y ≡ true
stepped_test xs x y h f = let s = listed_stands xs x h in stands_listed xs (s.0 + 1) y (f s.0 s.1)
