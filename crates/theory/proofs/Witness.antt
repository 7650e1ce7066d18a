-- A code that a making accepts: the binary code of length 7 and dimension 4, its laws by cases and its rows by computed tests.
use Rattle.std.proofs.Common.{◌≡◌, ℕ, zero, suc, ◌+◌, ◌*◌, ◌%◌, ◌<◌, ◌≤◌, min, false, not, eqb, ltb, List, [], length, get_or, sym, refl, ap, ap₂, arith}
use Rattle.std.specs.List.{range_with_len}
use Rattle.std.proofs.lemmas.Bool.{ltb-true, lt-ltb, eqb-true, cond-true, cond-false, cond_both, not-false, le-ltb}
use Rattle.theory.specs.Meanings.{FieldMeaning, FieldLaws, WeightLaws, read_below}
use Rattle.theory.specs.Codes.{any, codewords}
use Rattle.theory.specs.Facts.{Matrix, Independent, Accepted}
use Rattle.theory.specs.Theorems.{dependent}
use Rattle.theory.specs.Usual.{prime, hamming}
use Rattle.theory.specs.Worked.{code74}
use Rattle.theory.proofs.Lists.Members.{in-get_or, in_counting}
use Rattle.theory.proofs.Lists.Tests.{not-any}
use Rattle.theory.proofs.Algebra.Earlier.{independent-rows}

-- What holds of 0 and of 1 holds below 2.
two : (P : ℕ → Type 0) → P 0 → P 1 → (a : ℕ) → a < 2 → P a
two P x y zero h = x
two P x y (suc zero) h = y
two P x y (suc (suc a)) h = absurd (omega arith)

two_two : (P : ℕ → ℕ → Type 0) → P 0 0 → P 0 1 → P 1 0 → P 1 1 → (a b : ℕ) → a < 2 → b < 2 → P a b
two_two P x y z w a b h k = two (λ a. P a b) (two (P 0) x y b k) (two (P 1) z w b k) a h

two_two_two : (P : ℕ → ℕ → ℕ → Type 0) → P 0 0 0 → P 0 0 1 → P 0 1 0 → P 0 1 1 → P 1 0 0 → P 1 0 1 → P 1 1 0 → P 1 1 1 → (a b c : ℕ) → a < 2 → b < 2 → c < 2 → P a b c
two_two_two P x y z w x' y' z' w' a b c h k l = two (λ a. P a b c) (two_two (P 0) x y z w b c k l) (two_two (P 1) x' y' z' w' b c k l) a h

-- Reading a code twice reads it once.
low_again : (q a : ℕ) → 0 < q → read_below q (read_below q a) ≡ read_below q a
low_again q a h = cond-true (ltb (read_below q a) q) (read_below q a) 0 (lt-ltb _ q (cond_both (ltb a q) a 0 (λ x. x < q) (λ e. ltb-true a q e) (λ e. h)))

twice : (a : ℕ) → read_below 2 a ≡ read_below 2 (read_below 2 a)
twice a = sym (low_again 2 a (omega arith))

binary : FieldLaws (prime 2) (read_below 2) (read_below 2)
binary = record {
  low = omega arith;
  high = omega arith;
  sum_reads = λ a b. ap₂ (λ (x y : ℕ). (x + y) % 2) (twice a) (twice b);
  product_reads = λ a b. ap₂ (λ (x y : ℕ). (x * y) % 2) (twice a) (twice b);
  negative_reads = twice;
  inverse_reads = twice;
  sum_below = two_two (λ a b. (prime 2).sum a b < 2) (omega arith) (omega arith) (omega arith) (omega arith);
  product_below = two_two (λ a b. (prime 2).product a b < 2) (omega arith) (omega arith) (omega arith) (omega arith);
  negative_below = two (λ a. read_below 2 a < 2) (omega arith) (omega arith);
  inverse_below = two (λ a. read_below 2 a < 2) (omega arith) (omega arith);
  sum_comm = two_two (λ a b. (prime 2).sum a b ≡ (prime 2).sum b a) refl refl refl refl;
  product_comm = two_two (λ a b. (prime 2).product a b ≡ (prime 2).product b a) refl refl refl refl;
  sum_assoc = two_two_two (λ a b c. (prime 2).sum ((prime 2).sum a b) c ≡ (prime 2).sum a ((prime 2).sum b c)) refl refl refl refl refl refl refl refl;
  product_assoc = two_two_two (λ a b c. (prime 2).product ((prime 2).product a b) c ≡ (prime 2).product a ((prime 2).product b c)) refl refl refl refl refl refl refl refl;
  distributes = two_two_two (λ a b c. (prime 2).product a ((prime 2).sum b c) ≡ (prime 2).sum ((prime 2).product a b) ((prime 2).product a c)) refl refl refl refl refl refl refl refl;
  sum_zero = two (λ a. (prime 2).sum 0 a ≡ a) refl refl;
  product_one = two (λ a. (prime 2).product 1 a ≡ a) refl refl;
  cancels = two (λ a. (prime 2).sum a (read_below 2 a) ≡ 0) refl refl;
  inverse_zero = refl;
  inverts = two (λ a. 0 < a → (prime 2).product a (read_below 2 a) ≡ 1) (λ h. absurd (omega arith)) (λ h. refl);
}

binary_weight : WeightLaws (hamming 2)
binary_weight = record {
  low = omega arith;
  high = omega arith;
  some = omega arith;
  few = omega arith;
  zero = refl;
  beyond = λ a h. ap (λ (x : ℕ). min x 1) (cond-false (ltb a 2) a 0 (le-ltb a 2 h));
  positive = λ a h k. two (λ a. 0 < a → 1 ≤ (hamming 2).of a) (λ z. absurd (omega arith)) (λ z. omega arith) a k h;
  bounded = two (λ a. (hamming 2).of a ≤ 1) (omega arith) (omega arith);
}

-- Rows that pass the tests of their lengths and codes are words.
pub matrix_tested : (f : FieldMeaning) (n : ℕ) (rows : List (List ℕ)) → any (λ r. not (eqb (length r) n)) rows ≡ false → any (any (λ a. not (ltb a f.order))) rows ≡ false → Matrix f n rows
matrix_tested f n rows lengths codes = record {
  lengths = λ i h. eqb-true _ n (not-false _ (not-any (λ r. not (eqb (length r) n)) (get_or rows i []) rows lengths (in-get_or rows i [] h)));
  codes = λ i h k l. ltb-true _ f.order (not-false _ (not-any (λ a. not (ltb a f.order)) (get_or (get_or rows i []) k 0) (get_or rows i []) (not-any (any (λ a. not (ltb a f.order))) (get_or rows i []) rows codes (in-get_or rows i [] h)) (in-get_or (get_or rows i []) k 0 l)));
}

-- Rows none of which depends on those before are independent.
pub independent_tested : (f : FieldMeaning) (negative inverse : ℕ → ℕ) → FieldLaws f negative inverse → (n : ℕ) (rows : List (List ℕ)) → Matrix f n rows → any (dependent f n rows) (range_with_len 0 (length rows)) ≡ false → Independent f n rows
independent_tested f negative inverse laws n rows matrix e = (independent-rows f negative inverse laws n rows matrix).1 (λ i h. not-any (dependent f n rows) i (range_with_len 0 (length rows)) e (in_counting i 0 (length rows) (omega arith) (omega arith)))

matrix74 : Matrix (prime 2) 7 code74.rows
matrix74 = matrix_tested (prime 2) 7 code74.rows refl refl

pub accepted74 : Accepted code74 (read_below 2) (read_below 2)
unfolding codewords
accepted74 = record {
  field_laws = binary;
  weight_laws = binary_weight;
  orders = refl;
  some_rows = omega arith;
  few_rows = omega arith;
  long = omega arith;
  short = omega arith;
  small = omega arith;
  matrix = matrix74;
  independent = independent_tested (prime 2) (read_below 2) (read_below 2) binary 7 code74.rows matrix74 refl;
}
