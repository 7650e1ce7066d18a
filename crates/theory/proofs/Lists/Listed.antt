-- Lists of a known length whose members all have a property.
use Rattle.std.proofs.Common.{◌≡◌, ℕ, zero, suc, ◌<◌, List, [], ◌∷◌, ◌++◌, map, length, get_or, set, refl, ap, arith}
use native.Mathlib.Nat.{suc_inj}

-- A list of n members, each with the property.
pub data Listed {X : Type 0} (P : X → Type 0) : ℕ → List X → Type 0 where
  none : Listed P zero []
  more : {n : ℕ} {x : X} {xs : List X} → P x → Listed P n xs → Listed P (suc n) (x ∷ xs)

module _ {X : Type 0} {P : X → Type 0} where
  pub listed-length : {n : ℕ} {xs : List X} → Listed P n xs → length xs ≡ n
  listed-length none = refl
  listed-length (more p w) = ap suc (listed-length w)

  pub listed-none : {xs : List X} → Listed P zero xs → xs ≡ []
  listed-none none = refl

  pub listed-get_or : (d : X) {n : ℕ} {xs : List X} → Listed P n xs → (i : ℕ) → i < n → P (get_or xs i d)
  listed-get_or d none i h = absurd (omega arith)
  listed-get_or d (more p w) zero h = p
  listed-get_or d (more p w) (suc i) h = listed-get_or d w i (omega arith)

  pub listed-from : (d : X) (n : ℕ) (xs : List X) → length xs ≡ n → ((i : ℕ) → i < length xs → P (get_or xs i d)) → Listed P n xs
  listed-from d zero [] e h = none
  listed-from d zero (x ∷ xs) e h = absurd (omega (arith, e))
  listed-from d (suc n) [] e h = absurd (omega (arith, e))
  listed-from d (suc n) (x ∷ xs) e h = more (h 0 (omega arith)) (listed-from d n xs (suc_inj e) (λ i l. h (suc i) (omega arith)))

pub listed-map : {X Y : Type 0} {P : X → Type 0} (Q : Y → Type 0) (g : X → Y) → ((x : X) → P x → Q (g x)) → {n : ℕ} {xs : List X} → Listed P n xs → Listed Q n (map g xs)
listed-map Q g h none = none
listed-map Q g h (more {x = x} p w) = more (h x p) (listed-map Q g h w)

-- Any list is a list of its own length.
pub listed-any : {X : Type 0} (xs : List X) → Listed (λ x. Unit {0}) (length xs) xs
listed-any [] = none
listed-any (x ∷ xs) = more tt (listed-any xs)

pub listed-set : {X : Type 0} {P : X → Type 0} {n : ℕ} {xs : List X} (i : ℕ) (x : X) → P x → Listed P n xs → Listed P n (set xs i x)
listed-set i x p none = none
listed-set zero x p (more q w) = more p w
listed-set (suc i) x p (more q w) = more q (listed-set i x p w)

-- The last member of a list apart.
pub last_apart : {X : Type 0} {P : X → Type 0} {n : ℕ} {xs : List X} → Listed P (suc n) xs → (ys : List X) × (y : X) × Listed P n ys × P y × (xs ≡ ys ++ y ∷ [])
last_apart (more {n = zero} {x = x} p none) = ([], x, none, p, refl)
last_apart (more {n = suc n} {x = x} p w) = let r = last_apart w in (x ∷ r.0, r.1, more p r.2, r.3, ap (λ l. x ∷ l) r.4)
