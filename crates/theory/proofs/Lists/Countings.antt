-- The numbers counted up from a: one more at the end, a sum and a test over them, and what holds of each.
use Rattle.std.proofs.Common.{◌≡◌, ℕ, zero, suc, ◌+◌, ◌<◌, ◌≤◌, Bool, cond, [], ◌∷◌, ◌++◌, map, sum_by, count_by, sym, refl, ap, ◌∙◌, add-zero, arith}
use Rattle.std.specs.List.{range_with_len, AllByRecursion}
use Rattle.theory.specs.Codes.{any}
use Rattle.theory.proofs.Lists.Tests.{any-map}
use Rattle.theory.proofs.Lists.Sums.{sum_by-map}

pub counting_push : (a n : ℕ) → range_with_len a (suc n) ≡ range_with_len a n ++ ((a + n) ∷ [])
counting_push a zero = ap (λ x. x ∷ []) (sym (add-zero a))
counting_push a (suc n) = let e : a + 1 + n ≡ a + suc n = omega arith in ap (λ c. a ∷ c) (counting_push (a + 1) n ∙ ap (λ x. range_with_len (a + 1) n ++ (x ∷ [])) e)

pub counting_next : (a n : ℕ) → range_with_len (suc a) n ≡ map suc (range_with_len a n)
counting_next a zero = refl
counting_next a (suc n) = let next : suc a + 1 ≡ suc (a + 1) = omega arith in ap (λ c. suc a ∷ c) (ap (λ b. range_with_len b n) next ∙ counting_next (a + 1) n)

pub sum_by_counting : (f : ℕ → ℕ) (a n : ℕ) → sum_by f (range_with_len (suc a) n) ≡ sum_by (λ i. f (suc i)) (range_with_len a n)
sum_by_counting f a n = ap (sum_by f) (counting_next a n) ∙ sum_by-map f suc (range_with_len a n)

pub count_by_counting : (p : ℕ → Bool) (a n : ℕ) → count_by p (range_with_len (suc a) n) ≡ count_by (λ i. p (suc i)) (range_with_len a n)
count_by_counting p a n = sum_by_counting (λ i. cond (p i) 1 0) a n

pub any_counting : (p : ℕ → Bool) (a n : ℕ) → any p (range_with_len (suc a) n) ≡ any (λ i. p (suc i)) (range_with_len a n)
any_counting p a n = ap (any p) (counting_next a n) ∙ any-map p suc (range_with_len a n)

pub all_counting : (P : ℕ → Type 0) (a n : ℕ) → ((b : ℕ) → a ≤ b → b < a + n → P b) → AllByRecursion P (range_with_len a n)
all_counting P a zero h = tt
all_counting P a (suc n) h = (h a (omega arith) (omega arith), all_counting P (a + 1) n (λ b l g. h b (omega arith) (omega arith)))
