-- The counted leaders, and what the best weight says of them.
use Rattle.std.proofs.Common.{◌≡◌, ℕ, zero, suc, ◌<◌, ◌≤◌, Bool, true, false, eqb, List, [], ◌∷◌, map, length, get_or, replicate, Some, None, count_by, Option, sym, refl, ap, ◌∙◌, subst, inl, inr, ⊎_elim, arith}
use Rattle.std.proofs.lemmas.List.{length-replicate}
use Rattle.std.proofs.ByRecursion.{All-get_or}
use Rattle.theory.specs.Codes.{combination, codewords, is_zero, leads, least, line_weight}
use Rattle.theory.specs.Standings.{LinearCode, Standing, counted, counted_words, counted_leaders, best, line_count, best_of}
use Rattle.theory.specs.Promises.{Below, Codeword}
use Rattle.theory.specs.Facts.{Accepted}
use Rattle.theory.proofs.Lists.Listed.{listed-length}
use Rattle.theory.proofs.Lists.Zeros.{is_zero_decides}
use Rattle.theory.proofs.Lists.Members.{In, of_kept, in_kept, in_map, of_map}
use Rattle.theory.proofs.Algebra.Multiples.{zeros_codes}
use Rattle.theory.proofs.Algebra.Codewords.{codeword-in, in-codeword, codeword-word}
use Rattle.theory.proofs.Lines.Lines.{least-le, least-le-last, least-in}

-- u is the leader of a counted line.
pub record CountedLeader (c : LinearCode) (s : Standing) (u : List ℕ) : Type 0 where
  pub codeword : Codeword c u
  pub leading : leads u ≡ true
  pub counts : counted c s u ≡ true

pub leader-in : (c : LinearCode) (s : Standing) (u : List ℕ) → CountedLeader c s u → In u (counted_leaders c s)
leader-in c s u l = in_kept leads u (counted_words c s) (in_kept (counted c s) u (codewords c.field c.n c.rows) (codeword-in c l.codeword) l.counts) l.leading

pub in_leaders : (c : LinearCode) (s : Standing) (u : List ℕ) → In u (counted_leaders c s) → CountedLeader c s u
in_leaders c s u i =
    let a = of_kept leads u (counted_words c s) i in
    let b = of_kept (counted c s) u (codewords c.field c.n c.rows) a.0 in
    record { codeword = in-codeword c b.0; leading = a.1; counts = b.1 }

best_of-some : (ns : List ℕ) (b : ℕ) → best_of ns ≡ Some b → In b ns × ((n : ℕ) → In n ns → b ≤ n)
best_of-some [] b e = absurd (let z : ◌≡◌ {A = ℕ} 0 1 = cc in omega arith)
best_of-some (x ∷ xs) b e =
    let q : least xs x ≡ b = cc in
    (subst (λ n. In n (x ∷ xs)) q (⊎_elim (λ i. inr i) (λ w. inl (sym w)) (least-in xs x)), λ n i. ⊎_elim (λ w. omega (arith, least-le-last xs x)) (λ j. omega (arith, least-le xs x n j)) i)

best_of-none : (ns : List ℕ) → best_of ns ≡ None → (n : ℕ) → In n ns → ⊥
best_of-none [] e n i = i
best_of-none (x ∷ xs) e n i = let z : ◌≡◌ {A = ℕ} 0 1 = cc in omega arith

module _ (c : LinearCode) (s : Standing) where
  abbrev weight-of : List ℕ → ℕ
  weight-of u = line_weight c.field c.weight u

  pub best-at : (b : ℕ) → best c s ≡ Some b → (u : List ℕ) × CountedLeader c s u × (weight-of u ≡ b)
  unfolding best
  best-at b e = let r = of_map weight-of b (counted_leaders c s) (best_of-some (map weight-of (counted_leaders c s)) b e).0 in (r.0, in_leaders c s r.0 r.1, r.2)

  pub best_under : (b : ℕ) → best c s ≡ Some b → (u : List ℕ) → CountedLeader c s u → b ≤ weight-of u
  unfolding best
  best_under b e u l = (best_of-some (map weight-of (counted_leaders c s)) b e).1 (weight-of u) (in_map weight-of u (counted_leaders c s) (leader-in c s u l))

  pub best_none : best c s ≡ None → (u : List ℕ) → CountedLeader c s u → ⊥
  unfolding best
  best_none e u l = best_of-none (map weight-of (counted_leaders c s)) e (weight-of u) (in_map weight-of u (counted_leaders c s) (leader-in c s u l))

  pub line_count-at : (b : ℕ) → best c s ≡ Some b → line_count c s ≡ count_by (λ u. eqb (weight-of u) b) (counted_leaders c s)
  unfolding line_count
  line_count-at b e = ap (λ (o : Option ℕ). elim o [ None ↦ 0 | Some b ↦ count_by (λ u. eqb (weight-of u) b) (counted_leaders c s) ]) e

module _ (c : LinearCode) {negative inverse : ℕ → ℕ} (accepted : Accepted c negative inverse) where
  pub codeword-length : (u : List ℕ) → Codeword c u → length u ≡ c.n
  codeword-length u w = listed-length (codeword-word c accepted w)

  -- Independent rows, of which there are some, give a word that is not 0.
  pub some-codeword : (u : List ℕ) × Codeword c u × (is_zero u ≡ false)
  some-codeword = go (length c.rows) refl
    where
      go : (k : ℕ) → length c.rows ≡ k → (u : List ℕ) × Codeword c u × (is_zero u ≡ false)
      go zero e = absurd (omega (arith, accepted.some_rows))
      go (suc k) e =
          let cs : List ℕ = 1 ∷ replicate k 0 in
          let u : List ℕ = combination c.field c.n cs c.rows in
          let size : length cs ≡ length c.rows = ap suc (length-replicate k 0) ∙ sym e in
          let codes : Below c.field.order cs = λ i l. All-get_or (λ x. x < c.field.order) cs i 0 l (accepted.field_laws.low, zeros_codes accepted.field_laws k) in
          let w : Codeword c u = ∣ (cs, size, codes, refl) ∣₁ in
          (u, w, nonzero k e size codes (is_zero u) refl (codeword-length u w))
        where
          nonzero : (k : ℕ) → length c.rows ≡ suc k → length {A = ℕ} (1 ∷ replicate k 0) ≡ length c.rows → Below c.field.order (1 ∷ replicate k 0) → (b : Bool) → is_zero (combination c.field c.n (1 ∷ replicate k 0) c.rows) ≡ b → length (combination c.field c.n (1 ∷ replicate k 0) c.rows) ≡ c.n → b ≡ false
          nonzero k e size codes false z l = refl
          nonzero k e size codes true z l =
              let zeros = accepted.independent (1 ∷ replicate k 0) size codes ((is_zero_decides _).0 z ∙ ap (λ n. replicate n 0) l) in
              let one : ◌≡◌ {A = ℕ} 1 0 = ap (λ v. get_or v 0 0) (zeros ∙ ap (λ n. replicate n 0) e) in
              absurd (omega arith)
