-- Every run of calls is sound: what each state keeps, and that it makes the promise.
use Rattle.std.proofs.Common.{◌≡◌, ℕ, ◌≤◌, List, [], ◌∷◌, Some, None, Option, sym, refl, subst}
use Rattle.std.specs.List.{AllByRecursion}
use Rattle.theory.specs.Standings.{LinearCode, all_forms, best, line_count}
use Rattle.theory.specs.Promises.{SearchState, Sound, Complete, lines_of, ExactlyTheLines}
use Rattle.theory.specs.Facts.{Systematic, Ranked, Accepted}
use Rattle.theory.specs.Calls.{SearchCall, raise, look, ask, refuse_raise, after, start, run, SoundRuns}
use Rattle.theory.specs.Steps.{Valid}
use Rattle.theory.proofs.Algebra.Series.{forms_systematic, forms_ranked}
use Rattle.theory.proofs.Equations.{after_look, after-ask, after-refused, after-raised}
use Rattle.theory.proofs.Promise.Bounds.{strong}
use Rattle.theory.proofs.Promise.Spectra.{never_more, exact}
use Rattle.theory.proofs.Promise.Distances.{known, complete-some, complete-counted, complete-lines}
use Rattle.theory.proofs.Promise.Rolls.{Holds, raise-holds}
use Rattle.theory.proofs.Promise.FullRolls.{holds_exactly}
use Rattle.theory.proofs.Promise.Valid.{start-valid, raise-valid}
use Rattle.theory.proofs.Promise.Starts.{start-holds}
use Rattle.theory.proofs.Promise.Raising.{raise_gains}

-- What every state of a run keeps.
pub record Kept (c : LinearCode) (x : SearchState) : Type 0 where
  pub valid : Valid c x.standing
  pub holds : Holds c x.standing x.slots x.roll

module _ (c : LinearCode) {negative inverse : ℕ → ℕ} (accepted : Accepted c negative inverse) where
  systematic : AllByRecursion (Systematic c) (all_forms c)
  systematic = forms_systematic c accepted

  ranked : Ranked [] (all_forms c)
  ranked = forms_ranked c.field c.n c.rows

  complete_by : (x : SearchState) → Kept c x → Complete c x.standing → (b : ℕ) × (best c x.standing ≡ Some b) × (line_count c x.standing ≡ lines_of c b) × (line_count c x.standing ≤ x.slots → ExactlyTheLines c b x.roll)
  complete_by x k h =
      let sizes = k.valid.sizes in
      let r = complete-some c accepted systematic ranked x.standing sizes h in
      (r.0, r.1, complete-lines c accepted systematic ranked x.standing sizes r.0 r.1 r.2, λ room. holds_exactly c x.standing r.0 x.slots x.roll r.1 (complete-counted c accepted systematic ranked x.standing sizes r.0 r.2) room k.holds)

  pub kept_sound : (x : SearchState) → Kept c x → Sound c x
  kept_sound x k = record {
    strong = strong c accepted systematic ranked x.standing;
    exact = λ w low. exact c accepted systematic ranked x.standing w low;
    never_more = never_more c x.standing;
    known = known c accepted systematic ranked x.standing k.valid.sizes;
    complete = λ h. ∣ complete_by x k h ∣₁;
  }

  pub start_kept : (slots : ℕ) → Kept c (start c slots)
  start_kept slots = record { valid = start-valid c slots; holds = start-holds c accepted.field_laws systematic slots }

  pub after_kept : (x : SearchState) (k : SearchCall) → Kept c x → Kept c (after c x k)
  after_kept x look h = subst (Kept c) (sym (after_look c x)) h
  after_kept x (ask w) h = subst (Kept c) (sym (after-ask c x w)) h
  after_kept x (raise j budget) h = go (refuse_raise c x.standing j budget) refl
    where
      go : (o : Option (ℕ × ℕ)) → refuse_raise c x.standing j budget ≡ o → Kept c (after c x (raise j budget))
      go (Some r) e = subst (Kept c) (sym (after-refused c x j budget r.0 r.1 e)) h
      go None e = subst (Kept c) (sym (after-raised c x j budget e)) (record { valid = raise-valid c x.standing j budget h.valid e; holds = raise-holds c accepted.field_laws x j budget (raise_gains c accepted x.standing j budget h.valid e) h.holds })

  pub run_kept : (x : SearchState) (ks : List SearchCall) → Kept c x → Kept c (run c x ks)
  run_kept x [] h = h
  run_kept x (k ∷ ks) h = run_kept (after c x k) ks (after_kept x k h)

  pub sound_runs : SoundRuns c
  sound_runs slots ks = kept_sound (run c (start c slots) ks) (run_kept (start c slots) ks (start_kept slots))
