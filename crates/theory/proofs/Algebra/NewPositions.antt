-- The new positions of forms: the rank of each form is their number, and no position is new in two forms.
use Rattle.std.proofs.Common.{◌≡◌, ℕ, zero, suc, ◌<◌, Bool, true, false, not, T, ◌⊎◌, List, [], ◌∷◌, ◌++◌, length, get_or, take, filter, sym, refl, ap, ◌∙◌, subst, inl, inr, append_assoc, append-nil, arith}
use Rattle.std.proofs.lemmas.List.{length-take, get_or-take}
use Rattle.std.proofs.lemmas.Bool.{not-true, both_ways, cases_order}
use Rattle.theory.specs.Forms.{GeneratorForm, among}
use Rattle.theory.specs.Standings.{no_form}
use Rattle.theory.specs.Facts.{Ranked, earlier_positions, new_positions, NewPositions}
use Rattle.theory.proofs.Lists.Truths.{T_true}
use Rattle.theory.proofs.Lists.Members.{In, in-get_or, in-joined, of_kept}
use Rattle.theory.proofs.Lists.Tests.{among_in}

-- The rank of form i, with the positions of the forms before it joined to those used at first.
rank-at : (used : List ℕ) (js : List GeneratorForm) → Ranked used js → (i : ℕ) → i < length js → (get_or js i no_form).rank ≡ length (filter (λ p. not (among p (used ++ earlier_positions js i))) (get_or js i no_form).positions)
rank-at used [] r i h = absurd (omega arith)
rank-at used (j ∷ js) r zero h = r.0 ∙ ap (λ (ps : List ℕ). length (filter (λ p. not (among p ps)) j.positions)) (sym (append-nil used))
rank-at used (j ∷ js) r (suc i) h = rank-at (used ++ j.positions) js r.1 i (omega arith)
    ∙ ap (λ (ps : List ℕ). length (filter (λ p. not (among p ps)) (get_or js i no_form).positions)) (append_assoc used j.positions (earlier_positions js i))

module _ (js : List GeneratorForm) where
  -- A new position of form i is one of its positions, and none of an earlier form.
  new_parts : (i p : ℕ) → T (among p (new_positions js i)) → In p (get_or js i no_form).positions × (among p (earlier_positions js i) ≡ false)
  new_parts i p t =
      let k = of_kept (λ p. not (among p (earlier_positions js i))) p (get_or js i no_form).positions ((among_in p (new_positions js i)).0 (T_true (among p (new_positions js i)) t)) in
      (k.0, not-true (among p (earlier_positions js i)) k.1)

  -- The positions of form h are among those before a later form.
  in_earlier : (i h p : ℕ) → h < i → h < length js → In p (get_or js h no_form).positions → among p (earlier_positions js i) ≡ true
  in_earlier i h p l k m = (among_in p (earlier_positions js i)).1 (in-joined (λ (j : GeneratorForm). j.positions) (get_or js h no_form) p (take i js) stands m)
    where
      stands : In (get_or js h no_form) (take i js)
      stands = subst (λ (j : GeneratorForm). In j (take i js)) (get_or-take i js h no_form l) (in-get_or (take i js) h no_form (omega (arith, length-take i js)))

  new_fresh : (i h p : ℕ) → h < i → i < length js → T (among p (new_positions js i)) → among p (get_or js h no_form).positions ≡ false
  new_fresh i h p l k t = go (among p (get_or js h no_form).positions) (λ e. in_earlier i h p l (omega arith) ((among_in p (get_or js h no_form).positions).0 e))
    where
      go : (b : Bool) → (b ≡ true → among p (earlier_positions js i) ≡ true) → b ≡ false
      go true f = absurd (both_ways (among p (earlier_positions js i)) (new_parts i p t).1 (f refl))
      go false f = refl

  new_apart : (i j p : ℕ) → i < j → j < length js → T (among p (new_positions js i)) → T (among p (new_positions js j)) → ⊥
  new_apart i j p l k s t = both_ways (among p (get_or js i no_form).positions) (new_fresh j i p l k t) ((among_in p (get_or js i no_form).positions).1 (new_parts i p s).0)

  pub ranked_new_positions : Ranked [] js → NewPositions js
  ranked_new_positions r = record {
    rank = rank-at [] js r;
    fresh = new_fresh;
    disjoint = λ i j p h k s t. go i j p h k s t (cases_order i j);
  }
    where
      go : (i j p : ℕ) → i < length js → j < length js → T (among p (new_positions js i)) → T (among p (new_positions js j)) → (i ≡ j) ⊎ ((i < j) ⊎ (j < i)) → i ≡ j
      go i j p h k s t (inl e) = e
      go i j p h k s t (inr (inl l)) = absurd (new_apart i j p l k s t)
      go i j p h k s t (inr (inr l)) = absurd (new_apart j i p l h t s)
