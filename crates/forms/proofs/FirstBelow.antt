-- The least number below a bound that passes a test, found by going up from 0.
use Rattle.std.proofs.Common.{◌≡◌, ℕ, zero, suc, ◌<◌, Bool, true, false, cond, Some, None, Option, sym, refl, ap, ◌∙◌, inl, inr, arith}
use Rattle.std.proofs.lemmas.Bool.{cases_eq, cases_Bool, cond-true, cond-false}
use Rattle.theory.proofs.Lists.Truths.{some-none}
use Rattle.forms.specs.Refusals.{first_below}

module _ (p : ℕ → Bool) where
  -- The number found below m, or m itself if none is.
  abbrev next : ℕ → Option ℕ → Option ℕ
  next m o = elim o [ Some i ↦ Some i | None ↦ cond (p m) (Some m) None ]

  pub first-none : (m : ℕ) → ((j : ℕ) → j < m → p j ≡ false) → first_below p m ≡ None
  first-none zero h = refl
  first-none (suc m) h = ap (next m) (first-none m (λ j l. h j (omega arith))) ∙ cond-false (p m) (Some m) None (h m (omega arith))

  pub first_found : (m i : ℕ) → i < m → p i ≡ true → ((j : ℕ) → j < i → p j ≡ false) → first_below p m ≡ Some i
  first_found zero i l e h = absurd (omega arith)
  first_found (suc m) i l e h = elim (cases_eq i m) [
    | inl s ↦ ap (next m) (first-none m (λ j k. h j (omega arith))) ∙ cond-true (p m) (Some m) None (ap p (sym s) ∙ e) ∙ ap Some (sym s)
    | inr ne ↦ ap (next m) (first_found m i (omega arith) e h)
  ]

  -- Where none is found, none passes.
  next_none : (m : ℕ) (o : Option ℕ) → next m o ≡ None → (o ≡ None) × (p m ≡ false)
  next_none m (Some i) e = absurd (some-none i e)
  next_none m None e = (refl, elim (cases_Bool (p m)) [ inl t ↦ absurd (some-none m (sym (cond-true (p m) (Some m) None t) ∙ e)) | inr t ↦ t ])

  pub none_below : (m : ℕ) → first_below p m ≡ None → (j : ℕ) → j < m → p j ≡ false
  none_below zero e j l = absurd (omega arith)
  none_below (suc m) e j l =
      let n = next_none m (first_below p m) e in
      elim (cases_eq j m) [ inl s ↦ ap p s ∙ n.1 | inr ne ↦ none_below m n.0 j (omega arith) ]
