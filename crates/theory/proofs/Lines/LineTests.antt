-- The test whether a word is on the line of another, and how often a line's words and its leader stand among its multiples.
use Rattle.std.proofs.Common.{◌≡◌, ℕ, suc, ◌-◌, ◌<◌, Bool, true, false, cond, ◌&&◌, eqb, List, [], ◌∷◌, length, get_or, Decides, count_by, sym, refl, ap, ◌∙◌, subst, arith}
use Rattle.std.specs.List.{range_with_len}
use Rattle.std.proofs.lemmas.List.FromFn.{length-map-range_with_len}
use Rattle.std.proofs.lemmas.Bool.{eqb-false, both_ways}
use Rattle.theory.specs.Meanings.{FieldMeaning, FieldLaws, WeightMeaning}
use Rattle.theory.specs.Codes.{same, times, multiples, is_zero, leads, line_weight, on_line}
use Rattle.theory.specs.Forms.{GeneratorForm}
use Rattle.theory.specs.Standings.{message_weight}
use Rattle.theory.proofs.Lists.Truths.{same_truth}
use Rattle.theory.proofs.Lists.Members.{of_counting}
use Rattle.theory.proofs.Lists.Distinct.{Distinct, distinct-map, distinct_counting}
use Rattle.theory.proofs.Lists.Tests.{decides_in, decides_same}
use Rattle.theory.proofs.Lists.Counts.{count_by-same, count_by-none, any_none}
use Rattle.theory.proofs.Lists.Once.{distinct-once}
use Rattle.theory.proofs.Algebra.Scalars.{product-back, product_comm_all}
use Rattle.theory.proofs.Algebra.Multiples.{CodesOf, codes-get_or, get_or-times}
use Rattle.theory.proofs.Lines.Lines.{Line, line-sym, line_trans, line-codes, line-is_zero, in-multiples, multiples-in, one_leader, leader-line}
use Rattle.theory.proofs.Lines.LineWeights.{line_weight-same}
use Rattle.theory.proofs.Lines.CountedLines.{message_weight-line}

pub length-multiples : (f : FieldMeaning) (v : List ℕ) → length (multiples f v) ≡ f.order - 1
length-multiples f v = length-map-range_with_len (λ b. times f b v) 1 (f.order - 1)

some_symbol : (u : List ℕ) → is_zero u ≡ false → (p : ℕ) × (0 < get_or u p 0)
some_symbol [] z = absurd (both_ways true z refl)
some_symbol (a ∷ u) z = go (eqb a 0) refl z (some_symbol u)
  where
    go : (b : Bool) → eqb a 0 ≡ b → (b && is_zero u) ≡ false → (is_zero u ≡ false → (p : ℕ) × (0 < get_or u p 0)) → (p : ℕ) × (0 < get_or (a ∷ u) p 0)
    go true e z rec = let r = rec z in (suc r.0, r.1)
    go false e z rec = (0, omega (arith, eqb-false a 0 e))

module _ {f : FieldMeaning} {negative inverse : ℕ → ℕ} (laws : FieldLaws f negative inverse) where
  pub decides_line : (u v : List ℕ) → Decides (on_line f u v) (Line f v u)
  decides_line u v = (λ t. multiples-in laws v u ((decides_in u (multiples f v)).0 t), λ l. (decides_in u (multiples f v)).1 (in-multiples laws v u l))

  pub line_message : (j : GeneratorForm) (u v : List ℕ) → CodesOf f v → on_line f u v ≡ true → message_weight j u ≡ message_weight j v
  line_message j u v h t = message_weight-line laws j v u h ((decides_line u v).0 t)

  pub line_nonzero : (u v : List ℕ) → CodesOf f v → on_line f u v ≡ true → is_zero u ≡ is_zero v
  line_nonzero u v h t = line-is_zero laws v u h ((decides_line u v).0 t)

  -- The multiples of a word that is not 0 are different.
  pub times_apart : (a b : ℕ) (v : List ℕ) → CodesOf f v → is_zero v ≡ false → a < f.order → b < f.order → times f a v ≡ times f b v → a ≡ b
  times_apart a b v h z la lb e =
      let p = some_symbol v z in
      let x : ℕ = get_or v p.0 0 in
      let l : x < f.order = codes-get_or laws v p.0 h in
      let at : f.product x a ≡ f.product x b = product_comm_all laws x a ∙ sym (get_or-times laws a v p.0) ∙ ap (λ u. get_or u p.0 0) e ∙ get_or-times laws b v p.0 ∙ product_comm_all laws b x in
      sym (product-back laws x a p.1 l la) ∙ ap (f.product (inverse x)) at ∙ product-back laws x b p.1 l lb

  pub distinct-multiples : (v : List ℕ) → CodesOf f v → is_zero v ≡ false → Distinct (multiples f v)
  distinct-multiples v h z = distinct-map (λ b. times f b v) (range_with_len 1 (f.order - 1)) (distinct_counting 1 (f.order - 1)) (λ a b m n e. times_apart a b v h z (omega (arith, laws.low, of_counting a 1 (f.order - 1) m)) (omega (arith, laws.low, of_counting b 1 (f.order - 1) n)) e)

  -- Each word of a line stands once among the multiples.
  pub multiples-once : (u v : List ℕ) → CodesOf f v → is_zero v ≡ false → count_by (same u) (multiples f v) ≡ cond (on_line f u v) 1 0
  multiples-once u v h z = go (on_line f u v) refl
    where
      go : (t : Bool) → on_line f u v ≡ t → count_by (same u) (multiples f v) ≡ cond t 1 0
      go false t = any_none (same u) (multiples f v) t
      go true t = distinct-once (multiples f v) (distinct-multiples v h z) u ((decides_in u (multiples f v)).0 t)

  -- Exactly one of the multiples leads.
  pub one_leads : (v : List ℕ) → CodesOf f v → is_zero v ≡ false → count_by leads (multiples f v) ≡ 1
  one_leads v h z =
      let r = leader-line laws v h z in
      let w : List ℕ = r.0 in
      let low : CodesOf f w = line-codes laws v w r.1 in
      count_by-same leads (same w) (multiples f v) (λ u m. same_truth (leads u) (same w u)
      (λ t. (decides_same w u).1 (one_leader laws w u low (line_trans laws w v u (line-sym laws v w h r.1) (multiples-in laws v u m)) r.2 t))
      (λ t. subst (λ x. leads x ≡ true) ((decides_same w u).0 t) r.2))
      ∙ distinct-once (multiples f v) (distinct-multiples v h z) w (in-multiples laws v w r.1)

  -- Of a line's words one leads, and it has the line's weight.
  pub one_leads_weighing : (weight : WeightMeaning) (v : List ℕ) (b : ℕ) → CodesOf f v → is_zero v ≡ false → count_by (λ u. leads u && eqb (line_weight f weight u) b) (multiples f v) ≡ cond (eqb (line_weight f weight v) b) 1 0
  one_leads_weighing weight v b h some = count_by-same _ (λ u. leads u && eqb (line_weight f weight v) b) (multiples f v) (λ u m. ap (λ (n : ℕ). leads u && eqb n b) (sym (line_weight-same laws weight v u h (multiples-in laws v u m)))) ∙ here (eqb (line_weight f weight v) b)
    where
      and_true : (x : Bool) → (x && true) ≡ x
      and_true true = refl
      and_true false = refl

      and_false : (x : Bool) → (x && false) ≡ false
      and_false true = refl
      and_false false = refl

      here : (t : Bool) → count_by (λ u. leads u && t) (multiples f v) ≡ cond t 1 0
      here true = count_by-same _ leads (multiples f v) (λ u m. and_true (leads u)) ∙ one_leads v h some
      here false = count_by-none _ (multiples f v) (λ u. and_false (leads u))
