-- The size of a level is the number of its visits, and within the limits of a code it is told exactly.
use Rattle.std.proofs.Common.{◌≡◌, ℕ, zero, suc, ◌-◌, ◌*◌, ◌^◌, ◌<◌, ◌≤◌, min, List, length, Some, None, sym, ap, ◌∙◌, zero-mul, mul_comm, arith}
use Rattle.std.proofs.lemmas.Bool.Decides.{nat_tests}
use Rattle.theory.specs.Meanings.{FieldMeaning}
use Rattle.theory.specs.Visits.{binomial, visits}
use Rattle.theory.proofs.Equations.{visits-is}
use Rattle.theory.proofs.Order.Choices.{binomial-none}
use Rattle.theory.proofs.Order.Visits.{length-visits}
use Rattle.choices.specs.Sizes.{level_size, binomial_told, size_told, TellsVisits, TellsExactly, CountsVisits}
use Rattle.choices.proofs.Growth.{level_below, stop_times}

level_length : (f : FieldMeaning) (n : ℕ) (rows : List (List ℕ)) (t : ℕ) → length (visits f n rows t) ≡ level_size (length rows) t f.order
level_length f n rows zero = ap length (visits-is f n rows zero)
level_length f n rows (suc t) =
    let e : suc t - 1 ≡ t = omega arith in
    length-visits f n rows (suc t) (omega arith) ∙ ap (λ s. binomial (length rows) (suc t) * (f.order - 1) ^ s) e

pub tells_visits : (k t q r : ℕ) → r ≡ min (level_size k t q) (2 ^ 64 - 1) → TellsVisits k t q (Some r)
tells_visits k t q r e f n rows order long low few small =
    let whole : r ≡ level_size k t q = omega (arith, e, level_below k t q low, small) in
    ap Some (whole ∙ sym (level_length f n rows t ∙ ap (λ m. level_size m t f.order) long ∙ ap (level_size k t) order))

pub counts_visits : (k t q : ℕ) → CountsVisits k t q
counts_visits k t q f n rows order long = level_length f n rows t ∙ ap (λ m. level_size m t f.order) long ∙ ap (level_size k t) order

pub tells_exactly : (k t q r : ℕ) → r ≡ min (level_size k t q) (2 ^ 64 - 1) → TellsExactly k t q (Some r)
tells_exactly k t q r e low few small = (ap Some (omega (arith, e, level_below k t q low, small)), level_below k t q low)

pub tells_none : (k t q : ℕ) → 32 < k → TellsExactly k t q None
tells_none k t q many low few small = absurd (omega (arith, many, few))

pub level_zero : (k t q : ℕ) → t ≡ 0 → level_size k t q ≡ 0
level_zero k t q e = ap (λ s. level_size k s q) e

pub level_none : (k t q : ℕ) → k < t → level_size k t q ≡ 0
level_none k zero q l = absurd (omega arith)
level_none k (suc t) q l = ap (λ m. m * (q - 1) ^ t) (binomial-none k (suc t) l) ∙ zero-mul ((q - 1) ^ t)

pub level_some : (k t q : ℕ) → 0 < t → level_size k t q ≡ binomial k t * (q - 1) ^ (t - 1)
level_some k zero q l = absurd (omega arith)
level_some k (suc t) q l =
    let e : t ≡ suc t - 1 = omega arith in
    ap (λ s. binomial k (suc t) * (q - 1) ^ s) e

-- What is told of numbers of choices and of visits is told for k up to 32.
pub choices_told : (k t n : ℕ) → Some n ≡ binomial_told k t → (k ≤ 32) × (n ≡ binomial k t)
choices_told k t n e = grind (arith, nat_tests)

pub size_told_for : (k t q n : ℕ) → Some n ≡ size_told k t q → (k ≤ 32) × (n ≡ min (level_size k t q) (2 ^ 64 - 1))
size_told_for k t q n e = grind (arith, nat_tests)

pub tells_size : (k t q n : ℕ) → k ≤ 32 → n ≡ min (level_size k t q) (2 ^ 64 - 1) → Some n ≡ size_told k t q
tells_size k t q n small e = grind (arith, nat_tests)

-- A level with choices has the product of the choices and of the lists, each up to the largest number of 64 bits.
pub level_product : (k t q : ℕ) → 0 < t → min (binomial k t * min ((q - 1) ^ (t - 1)) (2 ^ 64 - 1)) (2 ^ 64 - 1) ≡ min (level_size k t q) (2 ^ 64 - 1)
level_product k t q some =
    ap (λ x. min x (2 ^ 64 - 1)) (mul_comm (binomial k t) _)
    ∙ stop_times ((q - 1) ^ (t - 1)) (binomial k t) (2 ^ 64 - 1)
    ∙ ap (λ x. min x (2 ^ 64 - 1)) (mul_comm _ (binomial k t) ∙ sym (level_some k t q some))
