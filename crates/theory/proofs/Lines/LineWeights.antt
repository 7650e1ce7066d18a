-- The lines of a code: they hold codewords, and have a weight and a leader of their own.
use Rattle.std.proofs.Common.{◌≡◌, ℕ, ◌<◌, ◌≤◌, true, false, List, map, length, filter, sym, ap, ◌∙◌, subst, ⊎_elim, arith}
use mathlib.Core.Logic.{∥∥₁_map}
use Rattle.std.proofs.lemmas.List.{length-map}
use Rattle.std.proofs.ByRecursion.{All-get_or}
use Rattle.theory.specs.Meanings.{FieldMeaning, FieldLaws, WeightMeaning}
use Rattle.theory.specs.Codes.{times, multiples, tuples, combination, is_zero, leads, weigh, line_weight, codewords}
use Rattle.theory.specs.Standings.{LinearCode}
use Rattle.theory.specs.Promises.{Codeword}
use Rattle.theory.specs.Calls.{leader}
use Rattle.theory.proofs.Algebra.Codewords.{codeword-in}
use Rattle.theory.proofs.Lists.Members.{In, in_map, of_map, in_kept, of_kept, head_in}
use Rattle.theory.proofs.Algebra.Multiples.{CodesOf, combination-codes, times-codes, times-combination}
use Rattle.theory.proofs.Lines.Lines.{Line, least-le, least-in, line-refl, line-sym, line_trans, line-codes, in-multiples, multiples-in, leader-line}

module _ {f : FieldMeaning} {negative inverse : ℕ → ℕ} (laws : FieldLaws f negative inverse) (w : WeightMeaning) where
  pub line_weight-le : (u v : List ℕ) → Line f u v → line_weight f w u ≤ weigh w v
  line_weight-le u v l = least-le (map (weigh w) (multiples f u)) (weigh w u) (weigh w v) (in_map (weigh w) v (multiples f u) (in-multiples laws u v l))

  -- Some word of the line has its weight.
  pub line_weight-at : (u : List ℕ) → CodesOf f u → (v : List ℕ) × Line f u v × (weigh w v ≡ line_weight f w u)
  line_weight-at u h = ⊎_elim (λ i. let r = of_map (weigh w) _ (multiples f u) i in (r.0, multiples-in laws u r.0 r.1, r.2)) (λ e. (u, line-refl laws u h, sym e)) (least-in (map (weigh w) (multiples f u)) (weigh w u))

  line_weight_down : (u v : List ℕ) → CodesOf f u → Line f u v → line_weight f w u ≤ line_weight f w v
  line_weight_down u v h l = let r = line_weight-at v (line-codes laws u v l) in subst (λ n. line_weight f w u ≤ n) r.2 (line_weight-le u r.0 (line_trans laws u v r.0 l r.1))

  pub line_weight-same : (u v : List ℕ) → CodesOf f u → Line f u v → line_weight f w u ≡ line_weight f w v
  line_weight-same u v h l = omega (arith, line_weight_down u v h l, line_weight_down v u (line-codes laws u v l) (line-sym laws u v h l))

module _ (c : LinearCode) {negative inverse : ℕ → ℕ} (laws : FieldLaws c.field negative inverse) where
  pub codeword-codes : (u : List ℕ) → Codeword c u → CodesOf c.field u
  unfolding codewords
  codeword-codes u w =
      let r = of_map (λ cs. combination c.field c.n cs c.rows) u (tuples c.field.order (length c.rows)) (codeword-in c w) in
      subst (CodesOf c.field) r.2 (combination-codes laws c.n r.0 c.rows)

  pub codeword-line : (u v : List ℕ) → Codeword c u → Line c.field u v → Codeword c v
  codeword-line u v w l = ∥∥₁_map w (λ r. (times c.field l.0 r.0, length-map r.0 _ ∙ r.1, (λ i k. All-get_or (λ x. x < c.field.order) _ i 0 k (times-codes laws l.0 r.0)), l.3 ∙ ap (times c.field l.0) r.3 ∙ times-combination laws l.0 c.n r.0 c.rows))

  -- The leader that a call names is the leader of the line.
  pub leader-is : (u : List ℕ) → CodesOf c.field u → is_zero u ≡ false → Line c.field u (leader c u) × (leads (leader c u) ≡ true)
  leader-is u h z =
      let ws : List (List ℕ) = filter leads (multiples c.field u) in
      let r = leader-line laws u h z in
      let i : In (leader c u) ws = head_in u r.0 ws (in_kept leads r.0 (multiples c.field u) (in-multiples laws u r.0 r.1) r.2) in
      let k = of_kept leads (leader c u) (multiples c.field u) i in
      (multiples-in laws u (leader c u) k.0, k.1)
