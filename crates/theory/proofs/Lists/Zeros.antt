-- Words of zeros.
use Rattle.std.proofs.Common.{◌≡◌, ℕ, zero, suc, true, eqb, List, [], ◌∷◌, ◌++◌, length, get_or, replicate, Decides, refl, ap, ap₂}
use Rattle.std.specs.List.{AllByRecursion}
use Rattle.std.proofs.lemmas.Bool.{and_parts, and_from, eqb-true, eq-eqb}
use Rattle.theory.specs.Codes.{is_zero}

pub get_or_zeros : (n i : ℕ) → ◌≡◌ {A = ℕ} (get_or (replicate n 0) i 0) 0
get_or_zeros zero i = refl
get_or_zeros (suc n) zero = refl
get_or_zeros (suc n) (suc i) = get_or_zeros n i

pub zeros_push : (m : ℕ) → ◌≡◌ {A = List ℕ} (replicate m 0 ++ 0 ∷ []) (replicate (suc m) 0)
zeros_push zero = refl
zeros_push (suc m) = ap (λ l. 0 ∷ l) (zeros_push m)

pub is_zero-replicate : (n : ℕ) → is_zero (replicate n 0) ≡ true
is_zero-replicate zero = refl
is_zero-replicate (suc n) = and_from (eqb 0 0) _ (eq-eqb 0 0 refl) (is_zero-replicate n)

pub zeros_from : (u : List ℕ) → AllByRecursion (λ a. a ≡ 0) u → u ≡ replicate (length u) 0
zeros_from [] h = refl
zeros_from (a ∷ u) h = ap₂ ◌∷◌ h.0 (zeros_from u h.1)

pub is_zero_decides : (u : List ℕ) → Decides (is_zero u) (u ≡ replicate (length u) 0)
is_zero_decides [] = ((λ _. refl), (λ _. refl))
is_zero_decides (a ∷ u) = (
  (λ h. let r = and_parts (eqb a 0) (is_zero u) h in ap₂ ◌∷◌ (eqb-true a 0 r.0) ((is_zero_decides u).0 r.1)),
  (λ e. let head : a ≡ 0 = cc in let tail : u ≡ replicate (length u) 0 = cc in and_from (eqb a 0) (is_zero u) (eq-eqb a 0 head) ((is_zero_decides u).1 tail)),
)

pub zero_symbol : (u : List ℕ) (p : ℕ) → is_zero u ≡ true → get_or u p 0 ≡ 0
zero_symbol [] p z = refl
zero_symbol (a ∷ u) zero z = eqb-true a 0 (and_parts (eqb a 0) (is_zero u) z).0
zero_symbol (a ∷ u) (suc p) z = zero_symbol u p (and_parts (eqb a 0) (is_zero u) z).1
