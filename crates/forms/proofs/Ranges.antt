-- What `find` tells of a range of numbers, and `position` of a list.
use Rattle.std.proofs.Common.{◌≡◌, ℕ, zero, suc, ◌+◌, ◌<◌, ◌≤◌, Bool, true, false, not, eqb, List, length, get_or, position, Option, Some, None, sym, refl, ◌∙◌, subst, ⊎_elim, arith}
use Rattle.std.specs.Option.{MatchOption, option_map}
use Rattle.std.specs.List.{find, range_with_len, position_or_len}
use Rattle.std.proofs.lemmas.Bool.{cases_Bool, cases_eq, cases_lt, cond-true, cond-false, lt-ltb}
use Rattle.std.proofs.lemmas.Bool.Decides.{nat_tests}
use Rattle.std.proofs.lemmas.List.Sums.{fails_before_first}

module _ (p : ℕ → Bool) where
  -- None of n numbers from `from` on passes.
  abbrev pub NonePasses : ℕ → ℕ → Type 0
  NonePasses from n = (i : ℕ) → from ≤ i → i < from + n → p i ≡ false

  -- The number i is the first of them that passes.
  abbrev pub FirstPasses : ℕ → ℕ → ℕ → Type 0
  FirstPasses from n i = (from ≤ i) × (i < from + n) × (p i ≡ true) × ((j : ℕ) → from ≤ j → j < i → p j ≡ false)

  before : (from : ℕ) → p from ≡ false → (i : ℕ) → from ≤ i → ((from + 1 ≤ i) → p i ≡ false) → p i ≡ false
  before from fails i le rest = ⊎_elim (λ e. subst (λ j. p j ≡ false) (sym e) fails) (λ ne. rest (omega arith)) (cases_eq i from)

  one_more : (from n : ℕ) (r : Option ℕ) → p from ≡ false → MatchOption r (NonePasses (from + 1) n) (FirstPasses (from + 1) n) → MatchOption r (NonePasses from (suc n)) (FirstPasses from (suc n))
  one_more from n None fails none = λ i low high. before from fails i low (λ l. none i l (omega arith))
  one_more from n (Some i) fails found = (omega (arith, found.0), omega (arith, found.1), found.2, λ j low high. before from fails j low (λ l. found.3 j l high))

  find_tells : (from n : ℕ) → MatchOption (find p (range_with_len from n)) (NonePasses from n) (FirstPasses from n)
  find_tells from zero = λ i low high. absurd (omega arith)
  find_tells from (suc n) =
      ⊎_elim
      (λ t. subst (λ r. MatchOption r (NonePasses from (suc n)) (FirstPasses from (suc n))) (sym (cond-true (p from) _ _ t)) (omega arith, omega arith, t, λ j low high. absurd (omega arith)))
      (λ t. subst (λ r. MatchOption r (NonePasses from (suc n)) (FirstPasses from (suc n))) (sym (cond-false (p from) _ _ t)) (one_more from n (find p (range_with_len (from + 1) n)) t (find_tells (from + 1) n)))
      (cases_Bool (p from))

  same : (r : Option ℕ) → option_map (λ (x : ℕ). x) r ≡ r
  same None = refl
  same (Some i) = refl

  -- An answer of `find` is the first number that passes, or that none does.
  pub found_in_range : (from n : ℕ) (r : Option ℕ) → option_map (λ (x : ℕ). x) r ≡ find p (range_with_len from n) → MatchOption r (NonePasses from n) (FirstPasses from n)
  found_in_range from n r e = subst (λ o. MatchOption o (NonePasses from n) (FirstPasses from n)) (sym e ∙ same r) (find_tells from n)

-- Where no element passes, each fails.
pub fails-all : {X : Type 0} (p : X → Bool) (xs : List X) (d : X) → None ≡ position p xs → (k : ℕ) → k < length xs → p (get_or xs k d) ≡ false
fails-all p xs d e k l =
    ⊎_elim
    (λ lt. let bad : None ≡ Some (position_or_len p xs) = e ∙ cond-true _ _ _ (lt-ltb (position_or_len p xs) (length xs) lt) in let z : ◌≡◌ {A = ℕ} 0 1 = cc in absurd (omega arith))
    (λ ge. fails_before_first p xs k d (omega arith))
    (cases_lt (position_or_len p xs) (length xs))

-- What the test for 0 tells.
pub zero_where : (x : ℕ) → not (eqb x 0) ≡ false → x ≡ 0
zero_where x e = grind (arith, nat_tests)

pub positive_where : (x : ℕ) → not (eqb x 0) ≡ true → 0 < x
positive_where x e = grind (arith, nat_tests)
