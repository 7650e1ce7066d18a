-- What a level goes through: each choice of rows and each list of coefficients exactly once.
use Rattle.std.proofs.Common.{◌≡◌, ℕ, zero, suc, ◌≤◌, List, [], ◌∷◌, length, get_or, sym, subst, arith}
use Rattle.theory.specs.Visits.{choices, coefficients, Choice}
use Rattle.theory.specs.Codes.{Exactly}
use Rattle.theory.proofs.Lists.Members.{In, all_from-in}
use Rattle.theory.proofs.Lists.Once.{exactly_from}
use Rattle.theory.proofs.Order.Choices.{of-choices, in-choices, distinct-choices}
use Rattle.theory.proofs.Order.Nonzeros.{Nonzero}
use Rattle.theory.proofs.Order.Coefficients.{in-coefficients, distinct-coefficients, list-codes}

-- The coefficients of t rows: nonzero codes that begin with 1.
abbrev pub Coefficients : ℕ → ℕ → List ℕ → Type 0
Coefficients q t cs = (length cs ≡ t) × (get_or cs 0 0 ≡ 1) × Nonzero q cs

pub choices_are : (k t : ℕ) → Exactly (Choice k t) (choices k t)
choices_are k t = exactly_from (Choice k t) (choices k t) (distinct-choices k t) (all_from-in (Choice k t) (choices k t) (of-choices k t)) (λ ch h. in-choices k t ch h.0 h.1)

pub coefficients_are : (q : ℕ) → 2 ≤ q → (t : ℕ) → Exactly (Coefficients q t) (coefficients q t)
coefficients_are q two t = exactly_from (Coefficients q t) (coefficients q t) (distinct-coefficients q t) (all_from-in (Coefficients q t) (coefficients q t) (list-codes q two t)) (λ cs h. have t cs h)
  where
    have : (t : ℕ) (cs : List ℕ) → Coefficients q t cs → In cs (coefficients q t)
    have t [] h = absurd (omega (arith, h.1))
    have zero (a ∷ u) h = absurd (omega (arith, h.0))
    have (suc t) (a ∷ u) h = subst (λ b. In (b ∷ u) (coefficients q (suc t))) (sym h.1) (in-coefficients q t u (omega (arith, h.0)) h.2.1)
