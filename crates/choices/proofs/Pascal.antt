-- Pascal's triangle, a table of 33 rows of 33 numbers, has the binomial numbers, by one computed test.
use Rattle.std.proofs.Common.{◌≡◌, ℕ, zero, suc, ◌+◌, ◌<◌, ◌≤◌, Some, Bool, false, not, eqb, List, [], get_or, refl, ◌∙◌, ap₂, arith}
use Rattle.std.specs.List.{range_with_len}
use Rattle.std.proofs.lemmas.Bool.{not-false, eqb-true}
use Rattle.std.proofs.lemmas.Bool.Decides.{nat_tests}
use Rattle.theory.specs.Codes.{any}
use Rattle.theory.specs.Visits.{binomial}
use Rattle.theory.proofs.Lists.Members.{in_counting}
use Rattle.theory.proofs.Lists.Tests.{not-any}
use Rattle.choices.specs.Sizes.{binomial_told}
use Rattle.choices.specs.Triangles.{triangle}

module _ (table : List (List ℕ)) where
  abbrev entry : ℕ → ℕ → ℕ
  entry k t = get_or (get_or table k []) t 0

  -- what Pascal's rule makes of the entries before
  abbrev by_rule : ℕ → ℕ → ℕ
  by_rule k zero = 1
  by_rule zero (suc t) = 0
  by_rule (suc k) (suc t) = entry k (suc t) + entry k t

  abbrev breaks_rule : ℕ → ℕ → Bool
  breaks_rule k t = not (eqb (entry k t) (by_rule k t))

  module _ (kept : any (λ k. any (breaks_rule k) (range_with_len 0 33)) (range_with_len 0 33) ≡ false) where
    rule_at : (k t : ℕ) → k < 33 → t < 33 → entry k t ≡ by_rule k t
    rule_at k t hk ht =
        let row = not-any (λ j. any (breaks_rule j) (range_with_len 0 33)) k (range_with_len 0 33) kept (in_counting k 0 33 (omega arith) (omega arith)) in
        eqb-true (entry k t) (by_rule k t) (not-false _ (not-any (breaks_rule k) t (range_with_len 0 33) row (in_counting t 0 33 (omega arith) (omega arith))))

    entry-is : (k t : ℕ) → k < 33 → t < 33 → get_or (get_or table k []) t 0 ≡ binomial k t
    entry-is k zero hk ht = rule_at k zero hk ht
    entry-is zero (suc t) hk ht = rule_at zero (suc t) hk ht
    entry-is (suc k) (suc t) hk ht = rule_at (suc k) (suc t) hk ht ∙ ap₂ ◌+◌ (entry-is k (suc t) (omega arith) ht) (entry-is k t (omega arith) (omega arith))

pub triangle-is : (k t : ℕ) → k < 33 → t < 33 → get_or (get_or triangle k []) t 0 ≡ binomial k t
triangle-is = entry-is triangle refl

-- A number of choices is told for k up to 32.
pub tells_choices : (k t n : ℕ) → k ≤ 32 → n ≡ binomial k t → Some n ≡ binomial_told k t
tells_choices k t n small e = grind (arith, nat_tests)
