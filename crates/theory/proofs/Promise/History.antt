-- Over a run each line is counted once.
use Rattle.std.proofs.Common.{◌≡◌, ℕ, ◌+◌, Bool, true, false, cond, List, [], ◌∷◌, Some, None, count_by, Option, sym, refl, ap, ◌∙◌, subst, zero-add, arith}
use Rattle.std.proofs.lemmas.List.Sums.{sum_by-append}
use Rattle.std.proofs.lemmas.Bool.{both_ways}
use Rattle.theory.specs.Codes.{is_zero, on_line}
use Rattle.theory.specs.Standings.{LinearCode, counted}
use Rattle.theory.specs.Promises.{Codeword, SearchState}
use Rattle.theory.specs.Facts.{Accepted}
use Rattle.theory.specs.Calls.{SearchCall, raise, look, ask, refuse_raise, raise_standing, raise_roll, after, counts, history, start, run, CountsWhatItVisits}
use Rattle.theory.specs.Steps.{Valid}
use Rattle.theory.proofs.Lists.Truths.{T_false}
use Rattle.theory.proofs.Algebra.Series.{forms_systematic}
use Rattle.theory.proofs.Equations.{after_look, after-ask, after-refused, after-raised, counts-refused, counts-raised}
use Rattle.theory.proofs.Lines.Raises.{counted-raised}
use Rattle.theory.proofs.Promise.Valid.{start-valid, raise_goes_on, raise-fits, raise-valid}
use Rattle.theory.proofs.Promise.Starts.{start-zero}

module _ (c : LinearCode) {negative inverse : ℕ → ℕ} (accepted : Accepted c negative inverse) (u : List ℕ) (codeword : Codeword c u) where
  abbrev is-counted : SearchState → ℕ
  is-counted x = cond (counted c x.standing u) 1 0

  -- One call leaves the standing valid, and counts the line of u if u comes to be counted.
  abbrev Counts : SearchState → SearchState → List (List ℕ) → Type 0
  Counts x y vs = Valid c y.standing × (is-counted y ≡ is-counted x + count_by (on_line c.field u) vs)

  counts-after : (x : SearchState) (k : SearchCall) → Valid c x.standing → Counts x (after c x k) (counts c x k)
  counts-after x look v = subst (λ (y : SearchState). Counts x y []) (sym (after_look c x)) (v, omega arith)
  counts-after x (ask w) v = subst (λ (y : SearchState). Counts x y []) (sym (after-ask c x w)) (v, omega arith)
  counts-after x (raise j budget) v = go (refuse_raise c x.standing j budget) refl
    where
      go : (o : Option (ℕ × ℕ)) → refuse_raise c x.standing j budget ≡ o → Counts x (after c x (raise j budget)) (counts c x (raise j budget))
      go (Some r) e = subst (λ (y : SearchState). Counts x y (counts c x (raise j budget))) (sym (after-refused c x j budget r.0 r.1 e)) (subst (Counts x x) (sym (counts-refused c x j budget r.0 r.1 e)) (v, omega arith))
      go None e =
          let f = raise-fits c x.standing j budget v e in
          let y : SearchState = record { standing = raise_standing c x.standing j budget; slots = x.slots; roll = raise_roll c x j budget } in
          subst (λ (z : SearchState). Counts x z (counts c x (raise j budget))) (sym (after-raised c x j budget e)) (subst (Counts x y) (sym (counts-raised c x j budget e))
          (raise-valid c x.standing j budget v e, counted-raised c accepted x.standing j f.0 (omega (arith, f.0, v.sizes)) budget (raise_goes_on c x.standing j budget e) f.2 u codeword))

  -- So over a list of calls.
  pub counts-run : (x : SearchState) (ks : List SearchCall) → Valid c x.standing → is-counted (run c x ks) ≡ is-counted x + count_by (on_line c.field u) (history c x ks)
  counts-run x [] v = omega arith
  counts-run x (k ∷ ks) v =
      let r = counts-after x k v in
      let rest = counts-run (after c x k) ks r.0 in
      let split = sum_by-append (λ w. cond (on_line c.field u w) 1 0) (counts c x k) (history c (after c x k) ks) in
      omega (arith, r.1, rest, split)

pub counts_what_it_visits : (c : LinearCode) (negative inverse : ℕ → ℕ) → Accepted c negative inverse → CountsWhatItVisits c
counts_what_it_visits c negative inverse accepted slots ks u codeword some = sym (counts-run c accepted u codeword (start c slots) ks (start-valid c slots) ∙ ap (λ (b : Bool). cond b 1 0 + count_by (on_line c.field u) (history c (start c slots) ks)) (none (counted c (start c slots).standing u) refl) ∙ zero-add (count_by (on_line c.field u) (history c (start c slots) ks)))
  where
    none : (b : Bool) → counted c (start c slots).standing u ≡ b → counted c (start c slots).standing u ≡ false
    none true e = absurd (both_ways (is_zero u) (T_false (is_zero u) some) (start-zero c accepted.field_laws (forms_systematic c accepted) slots u codeword e))
    none false e = e
