-- A level has no more visits than its code has words; products that stop at a largest number.
use Rattle.std.proofs.Common.{◌≡◌, ℕ, zero, suc, ◌-◌, ◌*◌, ◌^◌, ◌<◌, ◌≤◌, min, ap, ◌∙◌, ⊎_elim, suc-mul, add-mul, mul-le-mul_left, mul-zero, zero-mul, mul-suc, mul_left_comm, arith}
use native.Mathlib.Nat.{pow-zero, pow-succ', one-le-pow, pow-le-pow_right}
use Rattle.std.proofs.lemmas.Bool.{cases_lt}
use Rattle.theory.specs.Visits.{binomial}
use Rattle.choices.specs.Sizes.{level_size}

-- one term of (m + 1)^k, by the binomial theorem
share : (m k t : ℕ) → binomial k t * m ^ t ≤ suc m ^ k
share m k zero = omega (arith, pow-zero m, one-le-pow k (suc m) (omega arith))
share m zero (suc t) = omega (arith, zero-mul (m ^ suc t))
share m (suc k) (suc t) =
    let a = binomial k (suc t) in
    let b = binomial k t in
    let turned : b * m ^ suc t ≡ m * (b * m ^ t) = ap (λ x. b * x) (pow-succ' m t) ∙ mul_left_comm b m (m ^ t) in
    omega (arith, add-mul a b (m ^ suc t), turned, share m k (suc t), mul-le-mul_left m (share m k t), pow-succ' (suc m) k, suc-mul m (suc m ^ k))

pub level_below : (k t q : ℕ) → 2 ≤ q → level_size k t q ≤ q ^ k
level_below k zero q h = omega arith
level_below k (suc t) q h =
    let e : suc (q - 1) ≡ q = omega (arith, h) in
    let some : 0 < q - 1 = omega (arith, h) in
    omega (arith, share (q - 1) k (suc t), ap (λ x. x ^ k) e, mul-le-mul_left (binomial k (suc t)) (pow-le-pow_right some {i = t} {j = suc t} (omega arith)))

-- to stop at a largest number before or after a product is the same
pub stop_times : (a b most : ℕ) → min (min a most * b) most ≡ min (a * b) most
stop_times a zero most = omega (arith, mul-zero (min a most), mul-zero a)
stop_times a (suc b) most =
    ⊎_elim
    (λ l. let e : min a most ≡ a = omega (arith, l) in ap (λ x. min (x * suc b) most) e)
    (λ l. let e : min a most ≡ most = omega (arith, l) in ap (λ x. min (x * suc b) most) e ∙ omega (arith, l, mul-suc most b, mul-suc a b))
    (cases_lt a most)
