-- The prime fields keep the laws, and their arithmetic fits bytes.
use Rattle.std.specs.Prelude.{◌≡◌, ℕ, ◌+◌, ◌-◌, ◌*◌, ◌/◌, ◌%◌, ◌^◌, ◌<◌, ◌≤◌, Bool, true, cond, ◌&&◌, ◌==◌, nat_le, nat_lt, refl}
use Rattle.std.proofs.Common.{sym, ◌∙◌, ap, subst, ⊎_elim, add-mul, mul_assoc, mod-eq_of_lt, arith}
use Rattle.std.proofs.Math.Nat.{mod-add-div, add-mul-mod_self_left, add-mod_right}
use Rattle.std.proofs.lemmas.Bool.{and_parts, leb-true, or_cases, eqb-true, cases_lt, cond-true, cond-false, lt-ltb, le-ltb}
use Rattle.theory.specs.Meanings.{FieldLaws, read_below}
use Rattle.theory.specs.Usual.{prime}
use Rattle.fields.specs.Primes.{is_prime, negation_of, inversion_of}
use Rattle.fields.specs.Finite.{Reads, read_twice, field_laws, pairs, pairs_at}

-- a code is read below the order
pub read_low : (q a : ℕ) → 0 < q → read_below q a < q
read_low q a some =
    ⊎_elim
    (λ lt. subst (λ (x : ℕ). x < q) (sym (cond-true (nat_lt a q) a 0 (lt-ltb a q lt))) lt)
    (λ ge. subst (λ (x : ℕ). x < q) (sym (cond-false (nat_lt a q) a 0 (le-ltb a q ge))) some)
    (cases_lt a q)

prime_reads : (p : ℕ) → 0 < p → Reads (prime p) (negation_of p) (inversion_of p)
prime_reads p some = record {
  sums = λ a b. sym (ap (λ (x : ℕ). (x + read_below p (read_below p b)) % p) (read_twice p a some) ∙ ap (λ (y : ℕ). (read_below p a + y) % p) (read_twice p b some));
  products = λ a b. sym (ap (λ (x : ℕ). (x * read_below p (read_below p b)) % p) (read_twice p a some) ∙ ap (λ (y : ℕ). (read_below p a * y) % p) (read_twice p b some));
  negatives = λ a. ap (λ (x : ℕ). (p - x) % p) (sym (read_twice p a some));
  inverses = λ a. ap (λ (x : ℕ). cond (x == 0) 0 ((x ^ (p - 2)) % p)) (sym (read_twice p a some));
}

abbrev Laws : ℕ → Type 0
Laws p = FieldLaws (prime p) (negation_of p) (inversion_of p)

at : (n p : ℕ) → Laws n → (p == n) ≡ true → Laws p
at n p laws e = subst Laws (sym (eqb-true p n e)) laws

-- each of the six by its computed test
pub prime_laws : (p : ℕ) → is_prime p ≡ true → Laws p
prime_laws p e =
    ⊎_elim (at 2 p (field_laws (prime 2) (negation_of 2) (inversion_of 2) refl (prime_reads 2 (omega arith)))) (λ e3.
    ⊎_elim (at 3 p (field_laws (prime 3) (negation_of 3) (inversion_of 3) refl (prime_reads 3 (omega arith)))) (λ e5.
    ⊎_elim (at 5 p (field_laws (prime 5) (negation_of 5) (inversion_of 5) refl (prime_reads 5 (omega arith)))) (λ e7.
    ⊎_elim (at 7 p (field_laws (prime 7) (negation_of 7) (inversion_of 7) refl (prime_reads 7 (omega arith)))) (λ e11.
    ⊎_elim (at 11 p (field_laws (prime 11) (negation_of 11) (inversion_of 11) refl (prime_reads 11 (omega arith))))
    (at 13 p (field_laws (prime 13) (negation_of 13) (inversion_of 13) refl (prime_reads 13 (omega arith))))
    (or_cases (p == 11) _ e11)) (or_cases (p == 7) _ e7)) (or_cases (p == 5) _ e5)) (or_cases (p == 3) _ e3)) (or_cases (p == 2) _ e)

pub prime_range : (p : ℕ) → is_prime p ≡ true → (2 ≤ p) × (p ≤ 13)
prime_range p e =
    ⊎_elim (λ h. let is = eqb-true p 2 h in (omega arith, omega arith)) (λ e3.
    ⊎_elim (λ h. let is = eqb-true p 3 h in (omega arith, omega arith)) (λ e5.
    ⊎_elim (λ h. let is = eqb-true p 5 h in (omega arith, omega arith)) (λ e7.
    ⊎_elim (λ h. let is = eqb-true p 7 h in (omega arith, omega arith)) (λ e11.
    ⊎_elim (λ h. let is = eqb-true p 11 h in (omega arith, omega arith)) (λ h. let is = eqb-true p 13 h in (omega arith, omega arith))
    (or_cases (p == 11) _ e11)) (or_cases (p == 7) _ e7)) (or_cases (p == 5) _ e5)) (or_cases (p == 3) _ e3)) (or_cases (p == 2) _ e)

-- a sum of two codes, folded back by one subtraction
pub fold_back : (s p : ℕ) → p ≤ s → s < p + p → s - p ≡ s % p
fold_back s p low high =
    let back : s - p + p ≡ s = omega arith in
    sym (ap (λ (x : ℕ). x % p) (sym back) ∙ add-mod_right (s - p) p ∙ mod-eq_of_lt (omega arith))

-- (a % m) * b and a * b leave the same remainder
pub mod_product : (a b m : ℕ) → (a % m * b) % m ≡ (a * b) % m
mod_product a b m =
    sym (ap (λ (x : ℕ). (x * b) % m) (sym (mod-add-div a m))
    ∙ ap (λ (x : ℕ). x % m) (add-mul (a % m) (m * (a / m)) b ∙ ap (λ (x : ℕ). a % m * b + x) (mul_assoc m (a / m) b))
    ∙ add-mul-mod_self_left (a % m * b) m (a / m * b))

-- the quotient of a product by p, from the reciprocal
abbrev pub quotient : ℕ → ℕ → ℕ
quotient p n = n * (65536 / p + 1) / 65536

abbrev divides_well : ℕ → ℕ → ℕ → Bool
divides_well p x y = nat_le (quotient p (x * y) * p) (x * y) && x * y - quotient p (x * y) * p == (x * y) % p

well : (n p : ℕ) → pairs n (divides_well n) ≡ true → (p == n) ≡ true → pairs p (divides_well p) ≡ true
well n p t e = subst (λ (m : ℕ). pairs m (divides_well m) ≡ true) (sym (eqb-true p n e)) t

-- the quotient is exact enough at all products of two codes: one test for each prime
all_well : (p : ℕ) → is_prime p ≡ true → pairs p (divides_well p) ≡ true
all_well p e =
    ⊎_elim (well 2 p refl) (λ e3. ⊎_elim (well 3 p refl) (λ e5. ⊎_elim (well 5 p refl) (λ e7. ⊎_elim (well 7 p refl) (λ e11. ⊎_elim (well 11 p refl) (well 13 p refl)
    (or_cases (p == 11) _ e11)) (or_cases (p == 7) _ e7)) (or_cases (p == 5) _ e5)) (or_cases (p == 3) _ e3)) (or_cases (p == 2) _ e)

pub reduced : (p x y : ℕ) → is_prime p ≡ true → x < p → y < p → (quotient p (x * y) * p ≤ x * y) × (x * y - quotient p (x * y) * p ≡ (x * y) % p)
reduced p x y e hx hy =
    let parts = and_parts (nat_le (quotient p (x * y) * p) (x * y)) _ (pairs_at p (divides_well p) (all_well p e) x y hx hy) in
    (leb-true _ _ parts.0, eqb-true _ _ parts.1)

-- the same at what the code holds
pub product_reduced : (p r n d x y : ℕ) → is_prime p ≡ true → x < p → y < p → r ≡ 65536 / p + 1 → n ≡ x * y → d ≡ p → (n * r / 65536 * d ≤ n) × (n - n * r / 65536 * d ≡ (x * y) % p)
product_reduced p r n d x y e below-x below-y hr hn hd = rw (hr, hn, hd) (reduced p x y e below-x below-y)
