-- Words written symbol by symbol, and the symbols of sums and multiples.
use Rattle.std.proofs.Common.{◌≡◌, ℕ, zero, suc, ◌+◌, ◌<◌, ◌≤◌, ◌≢◌, List, [], ◌∷◌, length, get_or, set, sym, refl, ap, ◌∙◌, arith, length-set, get_or-set_other, get_or-set_same, below_more}
use lib.ListN.{length-map}
use Rattle.std.proofs.lemmas.List.{ext_get_or, get_or-map}
use Rattle.theory.specs.Meanings.{FieldMeaning}
use Rattle.theory.specs.Codes.{plus, times}

-- Of the word `before`, the symbols below i are now those of a function, and the others are as they were.
pub record Written (symbol : ℕ → ℕ) (before : List ℕ) (i : ℕ) (after : List ℕ) : Type 0 where
  pub same : length after ≡ length before
  pub done : (k : ℕ) → k < i → get_or after k 0 ≡ symbol k
  pub rest : (k : ℕ) → i ≤ k → get_or after k 0 ≡ get_or before k 0

pub written-more : (symbol : ℕ → ℕ) (before : List ℕ) (i : ℕ) (after : List ℕ) (a : ℕ) → Written symbol before i after → i < length after → a ≡ symbol i → Written symbol before (i + 1) (set after i a)
written-more symbol before i after a h l e = record {
  same = length-set after i a ∙ h.same;
  done = below_more _ _ (λ k lt. let ne : k ≢ i = omega arith in rw get_or-set_other (h.done k lt)) (get_or-set_same after i a 0 l ∙ e);
  rest = λ k ge. let ne : k ≢ i = omega arith in rw get_or-set_other (h.rest k (omega arith));
}

module _ (f : FieldMeaning) where
  pub length-times : (c : ℕ) (u : List ℕ) → length (times f c u) ≡ length u
  length-times c u = length-map u (λ a. f.product c a)

  pub length-plus : (u v : List ℕ) → length u ≡ length v → length (plus f u v) ≡ length u
  length-plus [] v e = refl
  length-plus (a ∷ u) [] e = absurd (omega (arith, e))
  length-plus (a ∷ u) (b ∷ v) e = ap suc (length-plus u v (omega (arith, e)))

  pub get_or-plus : (u v : List ℕ) (i : ℕ) → i < length u → i < length v → get_or (plus f u v) i 0 ≡ f.sum (get_or u i 0) (get_or v i 0)
  get_or-plus [] v i hu hv = absurd (omega arith)
  get_or-plus (a ∷ u) [] i hu hv = absurd (omega arith)
  get_or-plus (a ∷ u) (b ∷ v) zero hu hv = refl
  get_or-plus (a ∷ u) (b ∷ v) (suc i) hu hv = get_or-plus u v i (omega arith) (omega arith)

  -- symbol k of a multiple
  abbrev pub multiplied : ℕ → List ℕ → ℕ → ℕ
  multiplied c u k = f.product c (get_or u k 0)

  -- symbol k of a sum with a multiple
  abbrev pub gained : ℕ → List ℕ → List ℕ → ℕ → ℕ
  gained c u v k = f.sum (get_or u k 0) (f.product c (get_or v k 0))

  pub plus_all : (c : ℕ) (u v : List ℕ) (i : ℕ) (after : List ℕ) → length v ≡ length u → length u ≤ i → Written (gained c u v) u i after → after ≡ plus f u (times f c v)
  plus_all c u v i after e le h =
      let long : length u ≡ length (times f c v) = sym (length-times c v ∙ e) in
      ext_get_or 0 after (plus f u (times f c v)) (h.same ∙ sym (length-plus u (times f c v) long)) (λ k l.
      let inside : k < length u = omega (arith, h.same) in
      let there : k < length v = omega (arith, e) in
      h.done k (omega arith) ∙ ap (f.sum (get_or u k 0)) (sym (get_or-map (λ a. f.product c a) v k 0 0 there)) ∙ sym (get_or-plus u (times f c v) k inside (omega (arith, long))))
