-- The laws of a finite field by one computed test over all its codes.
use Rattle.std.specs.Prelude.{◌≡◌, ℕ, zero, suc, ◌<◌, ◌≤◌, Bool, true, cond, ◌&&◌, ◌==◌, nat_le, nat_lt}
use Rattle.std.proofs.Common.{sym, ◌∙◌, ap, ⊎_elim, not-suc-le-zero, arith}
use Rattle.std.proofs.lemmas.Bool.{and_parts, eqb-true, ltb-true, leb-true, lt-ltb, le-ltb, cases_lt, cases_eq, cond-true, cond-false, ne_eqb}
use Rattle.theory.specs.Meanings.{FieldMeaning, FieldLaws, read_below, read}

-- a test passes at every code below n
abbrev pub all_below : ℕ → (ℕ → Bool) → Bool
all_below zero f = true
all_below (suc n) f = f n && all_below n f

pub below_at : (n : ℕ) (f : ℕ → Bool) → all_below n f ≡ true → (a : ℕ) → a < n → f a ≡ true
below_at zero f t a h = absurd (not-suc-le-zero h)
below_at (suc n) f t a h =
    let parts = and_parts (f n) (all_below n f) t in
    ⊎_elim (λ e. ap f e ∙ parts.0) (λ ne. below_at n f parts.1 a (omega arith)) (cases_eq a n)

-- at every pair, and at every triple of codes
abbrev pub pairs : ℕ → (ℕ → ℕ → Bool) → Bool
pairs n f = all_below n (λ a. all_below n (f a))

pub pairs_at : (n : ℕ) (f : ℕ → ℕ → Bool) → pairs n f ≡ true → (a b : ℕ) → a < n → b < n → f a b ≡ true
pairs_at n f t a b ha hb = below_at n (f a) (below_at n (λ x. all_below n (f x)) t a ha) b hb

abbrev triples : ℕ → (ℕ → ℕ → ℕ → Bool) → Bool
triples n f = all_below n (λ a. pairs n (f a))

triples_at : (n : ℕ) (f : ℕ → ℕ → ℕ → Bool) → triples n f ≡ true → (a b c : ℕ) → a < n → b < n → c < n → f a b c ≡ true
triples_at n f t a b c ha hb hc = pairs_at n (f a) (below_at n (λ x. pairs n (f x)) t a ha) b c hb hc

-- all laws of a field but those on reading, as one test
module _ (f : FieldMeaning) (negative inverse : ℕ → ℕ) where
  abbrev size_test : Bool
  size_test = nat_le 2 f.order && nat_le f.order 16

  abbrev one_test : ℕ → Bool
  one_test a = nat_lt (negative a) f.order && (nat_lt (inverse a) f.order && (f.sum 0 a == a && (f.product 1 a == a && (f.sum a (negative a) == 0 && cond (a == 0) (inverse a == 0) (f.product a (inverse a) == 1)))))

  abbrev two_test : ℕ → ℕ → Bool
  two_test a b = nat_lt (f.sum a b) f.order && (nat_lt (f.product a b) f.order && (f.sum a b == f.sum b a && f.product a b == f.product b a))

  abbrev three_test : ℕ → ℕ → ℕ → Bool
  three_test a b c = f.sum (f.sum a b) c == f.sum a (f.sum b c) && (f.product (f.product a b) c == f.product a (f.product b c) && f.product a (f.sum b c) == f.sum (f.product a b) (f.product a c))

  abbrev pub passes : Bool
  passes = size_test && (all_below f.order one_test && (pairs f.order two_test && triples f.order three_test))

  -- what the test shows of each code, pair and triple
  module _ (t : passes ≡ true) where
    sizes : (2 ≤ f.order) × (f.order ≤ 16)
    sizes = let parts = and_parts (nat_le 2 f.order) _ (and_parts size_test _ t).0 in (leb-true _ _ parts.0, leb-true _ _ parts.1)

    one_passes : (a : ℕ) → a < f.order → one_test a ≡ true
    one_passes a h = below_at f.order one_test (and_parts (all_below f.order one_test) _ (and_parts size_test _ t).1).0 a h

    two_passes : (a b : ℕ) → a < f.order → b < f.order → two_test a b ≡ true
    two_passes a b ha hb = pairs_at f.order two_test (and_parts (pairs f.order two_test) _ (and_parts (all_below f.order one_test) _ (and_parts size_test _ t).1).1).0 a b ha hb

    three_passes : (a b c : ℕ) → a < f.order → b < f.order → c < f.order → three_test a b c ≡ true
    three_passes a b c ha hb hc = triples_at f.order three_test (and_parts (pairs f.order two_test) _ (and_parts (all_below f.order one_test) _ (and_parts size_test _ t).1).1).1 a b c ha hb hc

    record One (a : ℕ) : Type 0 where
      negative_below : negative a < f.order
      inverse_below : inverse a < f.order
      sum_zero : f.sum 0 a ≡ a
      product_one : f.product 1 a ≡ a
      cancels : f.sum a (negative a) ≡ 0
      last : cond (a == 0) (inverse a == 0) (f.product a (inverse a) == 1) ≡ true

    one_at : (a : ℕ) → a < f.order → One a
    one_at a h =
        let p1 = and_parts (nat_lt (negative a) f.order) _ (one_passes a h) in
        let p2 = and_parts (nat_lt (inverse a) f.order) _ p1.1 in
        let p3 = and_parts (f.sum 0 a == a) _ p2.1 in
        let p4 = and_parts (f.product 1 a == a) _ p3.1 in
        let p5 = and_parts (f.sum a (negative a) == 0) _ p4.1 in
        record { negative_below = ltb-true _ _ p1.0; inverse_below = ltb-true _ _ p2.0; sum_zero = eqb-true _ _ p3.0; product_one = eqb-true _ _ p4.0; cancels = eqb-true _ _ p5.0; last = p5.1 }

    record Two (a b : ℕ) : Type 0 where
      sum_below : f.sum a b < f.order
      product_below : f.product a b < f.order
      sum_comm : f.sum a b ≡ f.sum b a
      product_comm : f.product a b ≡ f.product b a

    two_at : (a b : ℕ) → a < f.order → b < f.order → Two a b
    two_at a b ha hb =
        let p1 = and_parts (nat_lt (f.sum a b) f.order) _ (two_passes a b ha hb) in
        let p2 = and_parts (nat_lt (f.product a b) f.order) _ p1.1 in
        let p3 = and_parts (f.sum a b == f.sum b a) _ p2.1 in
        record { sum_below = ltb-true _ _ p1.0; product_below = ltb-true _ _ p2.0; sum_comm = eqb-true _ _ p3.0; product_comm = eqb-true _ _ p3.1 }

    record Three (a b c : ℕ) : Type 0 where
      sum_assoc : f.sum (f.sum a b) c ≡ f.sum a (f.sum b c)
      product_assoc : f.product (f.product a b) c ≡ f.product a (f.product b c)
      distributes : f.product a (f.sum b c) ≡ f.sum (f.product a b) (f.product a c)

    three_at : (a b c : ℕ) → a < f.order → b < f.order → c < f.order → Three a b c
    three_at a b c ha hb hc =
        let p1 = and_parts (f.sum (f.sum a b) c == f.sum a (f.sum b c)) _ (three_passes a b c ha hb hc) in
        let p2 = and_parts (f.product (f.product a b) c == f.product a (f.product b c)) _ p1.1 in
        record { sum_assoc = eqb-true _ _ p1.0; product_assoc = eqb-true _ _ p2.0; distributes = eqb-true _ _ p2.1 }

    inverse_of_zero : inverse 0 ≡ 0
    inverse_of_zero = eqb-true (inverse 0) 0 (one_at 0 (omega (arith, sizes))).last

    inverts_at : (a : ℕ) → a < f.order → 0 < a → f.product a (inverse a) ≡ 1
    inverts_at a h some = eqb-true _ _ (sym (cond-false (a == 0) _ _ (ne_eqb a 0 (omega arith))) ∙ (one_at a h).last)

-- a code read twice is read once
pub read_twice : (q a : ℕ) → 0 < q → read_below q (read_below q a) ≡ read_below q a
read_twice q a some =
    ⊎_elim
    (λ lt. let e = cond-true (nat_lt a q) a 0 (lt-ltb a q lt) in ap (read_below q) e)
    (λ ge. let e = cond-false (nat_lt a q) a 0 (le-ltb a q ge) in ap (read_below q) e ∙ cond-true (nat_lt 0 q) 0 0 (lt-ltb 0 q some) ∙ sym e)
    (cases_lt a q)

-- the reading laws, which no test over codes can show
pub record Reads (f : FieldMeaning) (negative inverse : ℕ → ℕ) : Type 0 where
  pub sums : (a b : ℕ) → f.sum a b ≡ f.sum (read f a) (read f b)
  pub products : (a b : ℕ) → f.product a b ≡ f.product (read f a) (read f b)
  pub negatives : (a : ℕ) → negative a ≡ negative (read f a)
  pub inverses : (a : ℕ) → inverse a ≡ inverse (read f a)

pub field_laws : (f : FieldMeaning) (negative inverse : ℕ → ℕ) → passes f negative inverse ≡ true → Reads f negative inverse → FieldLaws f negative inverse
field_laws f negative inverse t reads = record {
  low = (sizes f negative inverse t).0;
  high = (sizes f negative inverse t).1;
  sum_reads = reads.sums;
  product_reads = reads.products;
  negative_reads = reads.negatives;
  inverse_reads = reads.inverses;
  sum_below = λ a b ha hb. (two_at f negative inverse t a b ha hb).sum_below;
  product_below = λ a b ha hb. (two_at f negative inverse t a b ha hb).product_below;
  negative_below = λ a h. (one_at f negative inverse t a h).negative_below;
  inverse_below = λ a h. (one_at f negative inverse t a h).inverse_below;
  sum_comm = λ a b ha hb. (two_at f negative inverse t a b ha hb).sum_comm;
  product_comm = λ a b ha hb. (two_at f negative inverse t a b ha hb).product_comm;
  sum_assoc = λ a b c ha hb hc. (three_at f negative inverse t a b c ha hb hc).sum_assoc;
  product_assoc = λ a b c ha hb hc. (three_at f negative inverse t a b c ha hb hc).product_assoc;
  distributes = λ a b c ha hb hc. (three_at f negative inverse t a b c ha hb hc).distributes;
  sum_zero = λ a h. (one_at f negative inverse t a h).sum_zero;
  product_one = λ a h. (one_at f negative inverse t a h).product_one;
  cancels = λ a h. (one_at f negative inverse t a h).cancels;
  inverse_zero = inverse_of_zero f negative inverse t;
  inverts = λ a h some. inverts_at f negative inverse t a h some;
}
