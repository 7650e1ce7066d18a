-- When the best is the least distance, and when the lines of that weight are all counted.
use Rattle.std.proofs.Common.{◌≡◌, ℕ, ◌<◌, ◌≤◌, Bool, true, false, cond, ◌&&◌, eqb, ltb, leb, ◌⊎◌, List, [], length, Some, None, Option, refl, ◌∙◌, inl, inr, ⊎_elim, arith}
use Rattle.std.specs.List.{AllByRecursion}
use Rattle.std.proofs.lemmas.Bool.{both_ways, and_parts, eqb-true, leb-true, ltb-true}
use Rattle.theory.specs.Codes.{codewords, is_zero, leads, weigh, line_weight}
use Rattle.theory.specs.Standings.{LinearCode, Standing, counted, counted_words, best, line_count, bound, reads_full, LedgerReading, still_open, complete, all_forms}
use Rattle.theory.specs.Promises.{Codeword, Known, Complete, Distance, lines_of}
use Rattle.theory.specs.Facts.{Systematic, Ranked, Accepted}
use Rattle.theory.proofs.Lists.Truths.{T_false, false_T}
use Rattle.theory.proofs.Lists.Counts.{count_by_kept, count_by_kept_all}
use Rattle.theory.proofs.Algebra.Codewords.{in-codeword}
use Rattle.theory.proofs.Lines.Lines.{Line, line-sym, line-is_zero, leader-line, leads_nonzero}
use Rattle.theory.proofs.Lines.LineWeights.{codeword-codes, codeword-line, line_weight-le, line_weight-at}
use Rattle.theory.proofs.Promise.Bounds.{strong_by}
use Rattle.theory.proofs.Lines.CountedLines.{counted-line, full_counted}
use Rattle.theory.proofs.Promise.CountedLeaders.{CountedLeader, best-at, best_under, best_none, line_count-at, some-codeword}

module _ (c : LinearCode) {negative inverse : ℕ → ℕ} (accepted : Accepted c negative inverse) (systematic : AllByRecursion (Systematic c) (all_forms c)) (ranked : Ranked [] (all_forms c)) (s : Standing) (sizes : length s.levels ≡ length (all_forms c)) where
  -- The leader of the line of a codeword that is not 0, with the line back.
  leader-back : (u : List ℕ) → Codeword c u → is_zero u ≡ false → (v : List ℕ) × Codeword c v × (leads v ≡ true) × Line c.field v u
  leader-back u w z =
      let low = codeword-codes c accepted.field_laws u w in
      let r = leader-line accepted.field_laws u low z in
      (r.0, codeword-line c accepted.field_laws u r.0 w r.1, r.2, line-sym accepted.field_laws u r.0 low r.1)

  -- A counted codeword that is not 0 weighs at least the best.
  best-le : (b : ℕ) → best c s ≡ Some b → (u : List ℕ) → Codeword c u → is_zero u ≡ false → counted c s u ≡ true → b ≤ weigh c.weight u
  best-le b e u w z k =
      let r = leader-back u w z in
      let low = codeword-codes c accepted.field_laws r.0 r.1 in
      let l : CountedLeader c s r.0 = record { codeword = r.1; leading = r.2; counts = counted-line c accepted.field_laws s r.0 u low r.3 ∙ k } in
      omega (arith, best_under c s b e r.0 l, line_weight-le accepted.field_laws c.weight r.0 u r.3)

  -- At a full level some line is counted.
  full_some : reads_full c s ≡ true → best c s ≡ None → ⊥
  full_some full e =
      let u = some-codeword c accepted in
      let r = leader-back u.0 u.1 u.2 in
      best_none c s e r.0 (record { codeword = r.1; leading = r.2; counts = full_counted c systematic s sizes full r.0 })

  counted_or_bound : (u : List ℕ) → Codeword c u → (counted c s u ≡ true) ⊎ ((reads_full c s ≡ true → ⊥) × (bound c s ≤ weigh c.weight u))
  counted_or_bound u w = go (counted c s u) refl
    where
      go : (b : Bool) → counted c s u ≡ b → (counted c s u ≡ true) ⊎ ((reads_full c s ≡ true → ⊥) × (bound c s ≤ weigh c.weight u))
      go true e = inl e
      go false e = inr ((λ full. both_ways (counted c s u) e (full_counted c systematic s sizes full u)), strong_by c accepted systematic ranked s u w e)

  known_some : (b : ℕ) → best c s ≡ Some b → (reads_full c s ≡ true) ⊎ (b ≤ bound c s) → Distance c b
  known_some b e h =
      let r = best-at c s b e in
      let low = codeword-codes c accepted.field_laws r.0 r.1.codeword in
      let v = line_weight-at accepted.field_laws c.weight r.0 low in (
        ∣ (v.0, codeword-line c accepted.field_laws r.0 v.0 r.1.codeword v.1, false_T (is_zero v.0) (line-is_zero accepted.field_laws r.0 v.0 low v.1 ∙ leads_nonzero r.0 r.1.leading), v.2 ∙ r.2) ∣₁,
        λ u w z. ⊎_elim (λ k. best-le b e u w (T_false (is_zero u) z) k) (λ far. ⊎_elim (λ full. absurd (far.0 full)) (λ le. omega (arith, far.1)) h) (counted_or_bound u w),
      )

  -- At a full level, or where the best keeps to the bound in some way, there is a best.
  best_by : (within : ℕ → Type 0) → (reads_full c s ≡ true) ⊎ ((b : ℕ) × (best c s ≡ Some b) × within b) → (b : ℕ) × (best c s ≡ Some b) × ((reads_full c s ≡ true) ⊎ within b)
  best_by within (inr r) = (r.0, r.1, inr r.2)
  best_by within (inl full) = go (best c s) refl
    where
      go : (o : Option ℕ) → best c s ≡ o → (b : ℕ) × (best c s ≡ Some b) × ((reads_full c s ≡ true) ⊎ within b)
      go None e = absurd (full_some full e)
      go (Some b) e = (b, e, inl full)

  -- The reading, by whether a level is full and by the best.
  abbrev read_by : Bool → Option ℕ → LedgerReading
  read_by full o = elim full [
    | true ↦ complete
    | false ↦ elim o [ None ↦ still_open | Some b ↦ cond (ltb b (bound c s)) complete (cond (leb b (bound c s)) LedgerReading.known still_open) ]
  ]

  pub known : Known c s → ∥ ((d : ℕ) × (best c s ≡ Some d) × Distance c d) ∥₁
  known k = let r = best_by (λ b. b ≤ bound c s) (go (reads_full c s) refl (best c s) refl k) in ∣ (r.0, r.1, known_some r.0 r.1 r.2) ∣₁
    where
      under : (b : ℕ) (x : Bool) → ltb b (bound c s) ≡ x → (y : Bool) → leb b (bound c s) ≡ y → (cond x complete (cond y LedgerReading.known still_open) ≡ still_open → ⊥) → b ≤ bound c s
      under b true e y q k = omega (arith, ltb-true _ _ e)
      under b false e true q k = leb-true _ _ q
      under b false e false q k = absurd (k refl)

      go : (full : Bool) → reads_full c s ≡ full → (o : Option ℕ) → best c s ≡ o → (read_by full o ≡ still_open → ⊥) → (reads_full c s ≡ true) ⊎ ((b : ℕ) × (best c s ≡ Some b) × (b ≤ bound c s))
      go true e o q k = inl e
      go false e None q k = absurd (k refl)
      go false e (Some b) q k = inr (b, q, under b (ltb b (bound c s)) refl (leb b (bound c s)) refl k)

  -- Each leader of a line of the best weight is counted.
  pub complete-counted : (b : ℕ) → (reads_full c s ≡ true) ⊎ (b < bound c s) → (u : List ℕ) → Codeword c u → line_weight c.field c.weight u ≡ b → counted c s u ≡ true
  complete-counted b h u w e =
      let low = codeword-codes c accepted.field_laws u w in
      let v = line_weight-at accepted.field_laws c.weight u low in
      counted-line c accepted.field_laws s u v.0 low v.1 ∙ go v.0 (v.2 ∙ e) (counted_or_bound v.0 (codeword-line c accepted.field_laws u v.0 w v.1))
    where
      go : (v : List ℕ) → weigh c.weight v ≡ b → (counted c s v ≡ true) ⊎ ((reads_full c s ≡ true → ⊥) × (bound c s ≤ weigh c.weight v)) → counted c s v ≡ true
      go v q (inl k) = k
      go v q (inr far) = absurd (⊎_elim far.0 (λ l. omega (arith, far.1)) h)

  pub complete-some : Complete c s → (b : ℕ) × (best c s ≡ Some b) × ((reads_full c s ≡ true) ⊎ (b < bound c s))
  complete-some k = best_by (λ b. b < bound c s) (go (reads_full c s) refl (best c s) refl k)
    where
      other : {A : Type 0} (y : Bool) → cond y LedgerReading.known still_open ≡ complete → A
      other true k = let z : ◌≡◌ {A = ℕ} 0 1 = cc in absurd (omega arith)
      other false k = let z : ◌≡◌ {A = ℕ} 0 1 = cc in absurd (omega arith)

      under : (b : ℕ) (x : Bool) → ltb b (bound c s) ≡ x → cond x complete (cond (leb b (bound c s)) LedgerReading.known still_open) ≡ complete → b < bound c s
      under b true e k = ltb-true _ _ e
      under b false e k = other (leb b (bound c s)) k

      go : (full : Bool) → reads_full c s ≡ full → (o : Option ℕ) → best c s ≡ o → read_by full o ≡ complete → (reads_full c s ≡ true) ⊎ ((b : ℕ) × (best c s ≡ Some b) × (b < bound c s))
      go true e o q k = inl e
      go false e None q k = other false k
      go false e (Some b) q k = inr (b, q, under b (ltb b (bound c s)) refl k)

  pub complete-lines : (b : ℕ) → best c s ≡ Some b → (reads_full c s ≡ true) ⊎ (b < bound c s) → line_count c s ≡ lines_of c b
  complete-lines b e h =
      let words : List (List ℕ) = codewords c.field c.n c.rows in
      let p : List ℕ → Bool = λ u. eqb (line_weight c.field c.weight u) b in
      line_count-at c s b e ∙ count_by_kept leads p (counted_words c s) ∙ count_by_kept_all (λ u. leads u && p u) (counted c s) words (λ u i t. complete-counted b h u (in-codeword c i) (eqb-true _ b (and_parts (leads u) (p u) t).1))
