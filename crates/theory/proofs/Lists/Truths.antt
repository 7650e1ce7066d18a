-- Truths: as a type and as an equation, joined by or, counted as 0 or 1, and the tests of numbers.
use Rattle.std.proofs.Common.{◌≡◌, ℕ, ◌+◌, ◌<◌, ◌≤◌, Bool, true, false, cond, not, ◌||◌, T, eqb, leb, ◌⊎◌, Some, None, sym, refl, ap, ◌∙◌, ap₂, inl, inr, arith}
use Rattle.std.proofs.lemmas.Bool.{both_ways, lt-leb, le-leb, eq-eqb, ne_eqb, cases_order, cases_eq}

pub T_true : (b : Bool) → T b → b ≡ true
T_true true t = refl
T_true false t = absurd t

pub true_T : (b : Bool) → b ≡ true → T b
true_T true e = tt
true_T false e = absurd (both_ways false refl e)

pub T_false : (b : Bool) → T (not b) → b ≡ false
T_false true t = absurd t
T_false false t = refl

pub false_T : (b : Bool) → b ≡ false → T (not b)
false_T true e = absurd (both_ways true e refl)
false_T false e = tt

pub same_truth : (a b : Bool) → (a ≡ true → b ≡ true) → (b ≡ true → a ≡ true) → a ≡ b
same_truth true b h k = sym (h refl)
same_truth false true h k = k refl
same_truth false false h k = refl

-- Two tests of which each fails where the other does are equal.
pub same_tests : (a b : Bool) → (a ≡ false → b ≡ false) → (b ≡ false → a ≡ false) → a ≡ b
same_tests true true h k = refl
same_tests true false h k = k refl
same_tests false true h k = sym (h refl)
same_tests false false h k = refl

pub or_one : (a b d : Bool) → (a || (b || d)) ≡ ((a || b) || d)
or_one true b d = refl
or_one false b d = refl

pub or_assoc : (a b d e : Bool) → (a || (b || (d || e))) ≡ ((a || (b || d)) || e)
or_assoc true b d e = refl
or_assoc false true d e = refl
or_assoc false false d e = refl

pub or_false : (b : Bool) → (b || false) ≡ b
or_false true = refl
or_false false = refl

pub or_swap : (a b d : Bool) → cond a true (b || d) ≡ (cond a true b || d)
or_swap true b d = refl
or_swap false b d = refl

pub or_last : (a b : Bool) → cond a true b ≡ (b || a)
or_last true true = refl
or_last true false = refl
or_last false true = refl
or_last false false = refl

pub cond-not : (b : Bool) (m : ℕ) → cond (not b) m 0 ≡ cond b 0 m
cond-not true m = refl
cond-not false m = refl

-- A truth counts at most once, and some count makes it true.
pub bit_few : (b : Bool) → cond b 1 0 ≤ 1
bit_few true = omega arith
bit_few false = omega arith

pub bit_some : (b : Bool) → 0 < cond b 1 0 → b ≡ true
bit_some true h = refl
bit_some false h = absurd (omega arith)

pub eqb_comm : (a b : ℕ) → eqb a b ≡ eqb b a
eqb_comm a b = elim (cases_eq a b) [ inl e ↦ eq-eqb a b e ∙ sym (eq-eqb b a (sym e)) | inr ne ↦ ne_eqb a b ne ∙ sym (ne_eqb b a (λ e. ne (sym e))) ]

-- At most l + 1 is at most l or equal to l + 1.
pub leb-more : (m l : ℕ) → leb m (l + 1) ≡ (leb m l || eqb m (l + 1))
leb-more m l = go (cases_order m (l + 1))
  where
    go : (m ≡ l + 1) ⊎ ((m < l + 1) ⊎ (l + 1 < m)) → leb m (l + 1) ≡ (leb m l || eqb m (l + 1))
    go (inl e) = le-leb m (l + 1) (omega arith) ∙ sym (ap₂ (λ (x y : Bool). x || y) (lt-leb m l (omega arith)) (eq-eqb m (l + 1) e))
    go (inr (inl h)) = le-leb m (l + 1) (omega arith) ∙ sym (ap (λ (x : Bool). x || eqb m (l + 1)) (le-leb m l (omega arith)))
    go (inr (inr h)) = lt-leb m (l + 1) h ∙ sym (ap₂ (λ (x y : Bool). x || y) (lt-leb m l (omega arith)) (ne_eqb m (l + 1) (λ e. omega arith)))

pub some-none : {A : Type 0} (x : A) → Some x ≡ None → ⊥
some-none x e = let z : ◌≡◌ {A = ℕ} 0 1 = cc in omega arith
