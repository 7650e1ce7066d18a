-- The first and the last choice.
use Rattle.std.proofs.Common.{◌≡◌, ℕ, zero, suc, ◌+◌, ◌-◌, ◌<◌, ◌≤◌, List, [], ◌∷◌, ◌++◌, map, reverse, sym, refl, ap, ◌∙◌, subst, ⊎_elim, zero-add, arith}
use Rattle.std.specs.List.{range_with_len}
use Rattle.std.proofs.lemmas.List.{nil_from_length}
use Rattle.std.proofs.lemmas.Bool.{cases_lt}
use Rattle.theory.specs.Visits.{choices}
use Rattle.theory.proofs.Lists.Countings.{counting_push}
use Rattle.theory.proofs.Order.Choices.{binomial-none, length-choices, push}
use Rattle.theory.proofs.Lists.Neighbours.{First, Last, first-append, last-append, first-map, last-map, first-reverse, last-reverse}

pub choices-none : (k t : ℕ) → k < t → choices k t ≡ []
choices-none k t l = nil_from_length (choices k t) (length-choices k t ∙ binomial-none k t l)

-- The last choice: 0 to t - 2, and k - 1.
abbrev pub final : ℕ → ℕ → List ℕ
final k zero = []
final k (suc t) = range_with_len 0 t ++ ((k - 1) ∷ [])

pub final_full : (k : ℕ) → final k k ≡ range_with_len 0 k
final_full zero = refl
final_full (suc k) = let e : suc k - 1 ≡ 0 + k = omega arith in ap (λ x. range_with_len 0 k ++ (x ∷ [])) e ∙ sym (counting_push 0 k)

pub choices_ends : (k t : ℕ) → t ≤ k → First (choices k t) (range_with_len 0 t) × Last (choices k t) (final k t)
choices_ends zero zero l = (([], refl), ([], refl))
choices_ends (suc k) zero l = (([], refl), ([], refl))
choices_ends zero (suc t) l = absurd (omega arith)
choices_ends (suc k) (suc t) l = (⊎_elim (λ p. first-append (choices k (suc t)) (map (push k) (reverse (choices k t))) (range_with_len 0 (suc t)) (choices_ends k (suc t) p).0) (λ p. full (omega arith) (choices_ends k k (omega arith)).1) (cases_lt t k), subst (Last (choices (suc k) (suc t))) (ap (λ x. range_with_len 0 t ++ (x ∷ [])) top) (last-append (choices k (suc t)) (map (push k) (reverse (choices k t))) (push k (range_with_len 0 t)) (last-map (push k) (reverse (choices k t)) (range_with_len 0 t) (last-reverse (choices k t) (range_with_len 0 t) (choices_ends k t (omega arith)).0))))
  where
    top : k ≡ suc k - 1
    top = omega arith

    full : t ≡ k → Last (choices k k) (final k k) → First (choices (suc k) (suc t)) (range_with_len 0 (suc t))
    full e h = subst (λ s. First (choices (suc k) (suc s)) (range_with_len 0 (suc s))) (sym e) (rw (choices-none k (suc k) (omega arith)) (subst (First (map (push k) (reverse (choices k k)))) pushed (first-map (push k) (reverse (choices k k)) (final k k) (first-reverse (choices k k) (final k k) h))))
      where
        pushed : push k (final k k) ≡ range_with_len 0 (suc k)
        pushed = ap (push k) (final_full k) ∙ ap (λ x. range_with_len 0 k ++ (x ∷ [])) (sym (zero-add k)) ∙ sym (counting_push 0 k)

pub first-choices : (k t : ℕ) → t ≤ k → First (choices k t) (range_with_len 0 t)
first-choices k t l = (choices_ends k t l).0

pub last-choices : (k t : ℕ) → t ≤ k → Last (choices k t) (final k t)
last-choices k t l = (choices_ends k t l).1
