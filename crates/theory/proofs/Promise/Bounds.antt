-- Why a codeword that is not counted weighs at least the bound.
use Rattle.std.proofs.Common.{◌≡◌, ℕ, zero, suc, ◌<◌, ◌≤◌, Bool, true, false, cond, not, ◌&&◌, ◌||◌, T, eqb, leb, List, [], ◌∷◌, ◌++◌, length, get_or, sum_by, count_by, refl, ap, ◌∙◌, arith}
use Rattle.std.specs.List.{range_with_len, AllByRecursion}
use Rattle.std.proofs.lemmas.List.Sums.{sum_by-cons, length-filter}
use Rattle.std.proofs.ByRecursion.{All-weaker}
use Rattle.std.proofs.lemmas.Bool.{both_ways, and_parts, eq-eqb, leb-false, or_parts, eqb-false}
use Rattle.theory.specs.Codes.{is_zero, weigh}
use Rattle.theory.specs.Forms.{GeneratorForm, among}
use Rattle.theory.specs.Standings.{LinearCode, Standing, message_weight, finished, counted, bound_over, bound, all_forms}
use Rattle.theory.specs.Promises.{Codeword}
use Rattle.theory.specs.Facts.{Systematic, Ranked, Accepted}
use Rattle.theory.proofs.Lists.Countings.{count_by_counting}
use Rattle.theory.proofs.Lists.Truths.{T_false}
use Rattle.theory.proofs.Lists.Members.{in_counting, In, place_of}
use Rattle.theory.proofs.Lists.Distinct.{Distinct, distinct-from_places}
use Rattle.theory.proofs.Lists.Tests.{any_append}
use Rattle.theory.proofs.Lists.Counts.{eqb_compares, count_by-none, bit, count_by_cons, count_by-same, count_by_weaker, count_by_both, count_by_apart}
use Rattle.theory.proofs.Lines.LineWeights.{codeword-codes}

abbrev pub nonzero_at : List ℕ → ℕ → Bool
nonzero_at u p = not (eqb (get_or u p 0) 0)

module _ (c : LinearCode) (u : List ℕ) where
  -- The nonzero symbols outside the positions used.
  abbrev pub outside : List ℕ → ℕ → Bool
  outside used p = nonzero_at u p && not (among p used)

  outside_append : (used ps : List ℕ) (p : ℕ) → outside (used ++ ps) p ≡ (outside used p && not (among p ps))
  outside_append used ps p = ap (λ b. nonzero_at u p && not b) (any_append (λ x. eqb x p) used ps) ∙ go (nonzero_at u p) (among p used) (among p ps)
    where
      go : (a b d : Bool) → (a && not (b || d)) ≡ ((a && not b) && not d)
      go true true d = refl
      go true false d = refl
      go false b d = refl

  unfinished_parts : (b r : Bool) → cond b true r ≡ false → (b ≡ false) × (r ≡ false)
  unfinished_parts true r e = absurd (both_ways true e refl)
  unfinished_parts false r e = (refl, e)

  -- A word unfinished in every form has as many nonzero symbols outside what was used.
  pub bound_outside : (used : List ℕ) (js : List GeneratorForm) (ts : List ℕ) → AllByRecursion (Systematic c) js → Ranked used js → finished js ts u ≡ false → bound_over (length c.rows) js ts ≤ count_by (outside used) (range_with_len 0 c.n)
  bound_outside used [] ts sys rank e = omega arith
  bound_outside used (j ∷ js) [] sys rank e = omega arith
  bound_outside used (j ∷ js) (t ∷ ts) sys rank e =
      let ps : List ℕ = j.positions in
      let xs : List ℕ = range_with_len 0 c.n in
      let k : ℕ = length c.rows in
      let parts = unfinished_parts (leb (message_weight j u) t) (finished js ts u) e in
      let heavy : t < message_weight j u = leb-false (message_weight j u) t parts.0 in
      let new : j.rank ≡ count_by (λ p. not (among p used)) ps = rank.0 ∙ length-filter (λ p. not (among p used)) ps in
      let both = count_by_both (nonzero_at u) (λ p. not (among p used)) ps in
      let size : length ps ≡ k = sys.0.size in
      let distinct : Distinct ps = distinct-from_places ps 0 (λ a b la lb. sys.0.distinct a b (omega arith) (omega arith)) in
      let inside : (x : ℕ) → In x ps → In x xs = λ x i. (let r = place_of x ps 0 i in in_counting x 0 c.n (omega arith) (omega (arith, sys.0.within r.0 (omega (arith, r.1)), r.2))) in
      let apart = count_by_apart eqb eqb_compares ps (outside used) xs distinct inside in
      let rest = bound_outside (used ++ ps) js ts sys.1 rank.1 parts.1 in
      let same : count_by (outside (used ++ ps)) xs ≡ count_by (λ p. outside used p && not (among p ps)) xs = count_by-same _ _ xs (λ p i. outside_append used ps p) in
      omega (arith, heavy, new, both, size, apart, rest, same)

-- Each nonzero symbol weighs at least 1.
nonzero_le-sum : (g : ℕ → ℕ) (u : List ℕ) (n : ℕ) → AllByRecursion (λ x. 0 < x → 1 ≤ g x) u → count_by (nonzero_at u) (range_with_len 0 n) ≤ sum_by g u
nonzero_le-sum g [] n h = omega (arith, count_by-none (λ p. not (eqb 0 0)) (range_with_len 0 n) (λ p. ap not (eq-eqb 0 0 refl)))
nonzero_le-sum g (x ∷ u) zero h = omega arith
nonzero_le-sum g (x ∷ u) (suc n) h = omega (arith, sum_by-cons g x u, count_by_cons (nonzero_at (x ∷ u)) 0 (range_with_len 1 n), count_by_counting (nonzero_at (x ∷ u)) 0 n, nonzero_le-sum g u n h.1, go (eqb x 0) refl)
  where
    go : (b : Bool) → eqb x 0 ≡ b → bit (not b) ≤ g x
    go true e = omega arith
    go false e = h.0 (omega (arith, eqb-false x 0 e))

module _ (c : LinearCode) {negative inverse : ℕ → ℕ} (accepted : Accepted c negative inverse) where
  pub nonzero_le-weight : (u : List ℕ) → Codeword c u → count_by (nonzero_at u) (range_with_len 0 c.n) ≤ weigh c.weight u
  nonzero_le-weight u w = nonzero_le-sum c.weight.of u c.n (All-weaker (λ x. x < c.field.order) (λ x. 0 < x → 1 ≤ c.weight.of x) (λ x k p. accepted.weight_laws.positive x p (omega (arith, k, accepted.orders))) u (codeword-codes c accepted.field_laws u w))

  module _ (systematic : AllByRecursion (Systematic c) (all_forms c)) (ranked : Ranked [] (all_forms c)) where
    pub strong_by : (s : Standing) (u : List ℕ) → Codeword c u → counted c s u ≡ false → bound c s ≤ weigh c.weight u
    unfolding bound counted
    strong_by s u w e =
        let js : List GeneratorForm = all_forms c in
        let unfinished : finished js s.levels u ≡ false = (or_parts (finished js s.levels u) _ (or_parts (is_zero u) _ e).1).0 in
        let few = count_by_weaker (outside c u []) (nonzero_at u) (range_with_len 0 c.n) (λ p i t. (and_parts (nonzero_at u p) true t).0) in
        omega (arith, bound_outside c u [] js s.levels systematic ranked unfinished, few, nonzero_le-weight u w)

    pub strong : (s : Standing) (u : List ℕ) → Codeword c u → T (not (counted c s u)) → bound c s ≤ weigh c.weight u
    strong s u w t = strong_by s u w (T_false (counted c s u) t)
