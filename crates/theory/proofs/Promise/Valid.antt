-- The standings that a search can come to.
use Rattle.std.proofs.Common.{◌≡◌, ℕ, ◌+◌, ◌<◌, ◌≤◌, Bool, true, false, cond, eqb, ltb, ◌⊎◌, length, get_or, drop, set, Some, None, Option, sym, refl, ap, ◌∙◌, subst, inl, inr, arith}
use Rattle.std.proofs.lemmas.List.{length-set, length-take, length-drop, length-replicate, get_or-set_same, get_or-set_other}
use Rattle.std.proofs.lemmas.Bool.{ltb-true, eqb-true, eqb-false, cases_eq}
use Rattle.theory.specs.Standings.{LinearCode, Standing, all_forms, level_of, next_level}
use Rattle.theory.specs.Calls.{made_in, coming, raise_standing, refuse_raise, start}
use Rattle.theory.specs.Steps.{GoesOn, Opening, Valid}
use Rattle.theory.proofs.Equations.{raise_ends, raise-stays}
use Rattle.theory.proofs.Lists.Truths.{some-none}
use Rattle.theory.proofs.Lists.Zeros.{get_or_zeros}

pub start-valid : (c : LinearCode) (slots : ℕ) → Valid c (start c slots).standing
start-valid c slots = record { sizes = length-replicate (length (all_forms c)) 0; low = λ i. omega (arith, get_or_zeros (length (all_forms c)) i); opening = tt }

-- With no level open a form is raised that has a next one, and else the form whose level is open.
abbrev pub Going : LinearCode → Standing → ℕ → Option ℕ → Type 0
Going c s j None = level_of c s j ≡ length c.rows → ⊥
Going c s j (Some i) = i ≡ j

module _ (c : LinearCode) (s : Standing) (j budget : ℕ) (accepts : refuse_raise c s j budget ≡ None) where
  -- A raise that is not refused.
  pub raise_going : (j < length (all_forms c)) × Going c s j s.opened
  raise_going = go (ltb j (length (all_forms c))) refl (eqb budget 0) s.opened accepts
    where
      fresh : (b : Bool) → eqb (level_of c s j) (length c.rows) ≡ b → ◌≡◌ {A = Option (ℕ × ℕ)} (cond b (Some (25, 0)) None) None → level_of c s j ≡ length c.rows → ⊥
      fresh true q e = absurd (some-none _ e)
      fresh false q e = eqb-false _ _ q

      again : (i : ℕ) (b : Bool) → eqb i j ≡ b → ◌≡◌ {A = Option (ℕ × ℕ)} (cond b None (Some (24, i))) None → i ≡ j
      again i true q e = eqb-true i j q
      again i false q e = absurd (some-none _ e)

      go : (a : Bool) → ltb j (length (all_forms c)) ≡ a → (b : Bool) (o : Option ℕ) → elim a as (λ x. Option (ℕ × ℕ)) [
        | false ↦ Some (22, 0)
        | true ↦ elim b as (λ x. Option (ℕ × ℕ)) [
          | true ↦ Some (23, 0)
          | false ↦ elim o as (λ x. Option (ℕ × ℕ)) [
            | None ↦ cond (eqb (level_of c s j) (length c.rows)) (Some (25, 0)) None
            | Some i ↦ cond (eqb i j) None (Some (24, i))
          ]
        ]
      ] ≡ None → (j < length (all_forms c)) × Going c s j o
      go false l b o e = absurd (some-none _ e)
      go true l true o e = absurd (some-none _ e)
      go true l false None e = (ltb-true _ _ l, fresh (eqb (level_of c s j) (length c.rows)) refl e)
      go true l false (Some i) e = (ltb-true _ _ l, again i (eqb i j) refl e)

  -- It goes on with the open level, or opens one.
  pub raise_goes_on : GoesOn s j
  raise_goes_on = go s.opened refl raise_going.1
    where
      go : (o : Option ℕ) → s.opened ≡ o → Going c s j o → GoesOn s j
      go None e g = inl e
      go (Some i) e g = inr (e ∙ ap (λ (n : ℕ). Some n) g)

module _ (c : LinearCode) (s : Standing) (j budget : ℕ) (valid : Valid c s) (accepts : refuse_raise c s j budget ≡ None) where
  -- It goes on with a level that the form has.
  pub raise-fits : (j < length (all_forms c)) × (level_of c s j < length c.rows) × (made_in c s ≤ length (next_level c s j))
  raise-fits = let r = raise_going c s j budget accepts in let g = go s.opened valid.opening r.1 in (r.0, g.0, g.1)
    where
      go : (o : Option ℕ) → Opening c s o → Going c s j o → (level_of c s j < length c.rows) × (elim o as (λ x. ℕ) [ None ↦ 0 | Some i ↦ s.made ] ≤ length (next_level c s j))
      go None h g = (omega (arith, valid.low j, g), omega arith)
      go (Some i) h g = let k = subst (λ n. Opening c s (Some n)) g h in (k.1, omega (arith, k.2))

  pub raise-valid : Valid c (raise_standing c s j budget)
  raise-valid = go (eqb (made_in c s + length (coming c s j budget)) (length (next_level c s j))) refl
    where
      within : made_in c s + length (coming c s j budget) ≤ length (next_level c s j)
      within = omega (arith, raise-fits.2, length-take budget (drop (made_in c s) (next_level c s j)), length-drop (made_in c s) (next_level c s j))

      raised-low : (i : ℕ) → (i ≡ j) ⊎ (i ≡ j → ⊥) → get_or (set s.levels j (level_of c s j + 1)) i 0 ≤ length c.rows
      raised-low i (inl e) = omega (arith, ap (λ n. get_or (set s.levels j (level_of c s j + 1)) n 0) e, get_or-set_same s.levels j (level_of c s j + 1) 0 (omega (arith, raise-fits.0, valid.sizes)), raise-fits.1)
      raised-low i (inr n) = omega (arith, get_or-set_other s.levels j i (level_of c s j + 1) 0 n, valid.low i)

      go : (b : Bool) → eqb (made_in c s + length (coming c s j budget)) (length (next_level c s j)) ≡ b → Valid c (raise_standing c s j budget)
      go true q = subst (Valid c) (sym (raise_ends c s j budget (eqb-true _ _ q))) (record { sizes = length-set s.levels j _ ∙ valid.sizes; low = λ i. raised-low i (cases_eq i j); opening = tt })
      go false q = subst (Valid c) (sym (raise-stays c s j budget (eqb-false _ _ q))) (record { sizes = valid.sizes; low = valid.low; opening = (raise-fits.0, raise-fits.1, omega (arith, within, eqb-false _ _ q)) })
