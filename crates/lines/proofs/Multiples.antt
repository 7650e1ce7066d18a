-- The weights of the multiples of a word, by factor, and the least of them.
use Rattle.std.proofs.Common.{◌≡◌, ℕ, ◌+◌, ◌-◌, ◌^◌, ◌<◌, ◌≤◌, min, List, [], ◌∷◌, ◌++◌, map, length, take, set, sym, refl, ap, ◌∙◌, ap₂, arith, length-set}
use Rattle.std.specs.List.{range_with_len, fold}
use Rattle.std.proofs.lemmas.List.{take_more_set, map_push}
use Rattle.std.proofs.lemmas.List.FromFn.{map-range_with_len_more}
use Rattle.std.proofs.lemmas.List.Sums.{sum_by-cons}
use Rattle.theory.specs.Meanings.{FieldMeaning, WeightMeaning, WeightLaws}
use Rattle.theory.specs.Codes.{times, weigh, least, multiples, line_weight}
use Rattle.fields.proofs.Symbols.{length-times}
use Rattle.fields.proofs.WeightLists.{word_most}
use Rattle.lines.specs.LineWeights.{weighed}

-- the least of a list with one more at its end
pub least_push : (xs : List ℕ) (x m : ℕ) → least (xs ++ x ∷ []) m ≡ min (least xs m) x
least_push [] x m = omega arith
least_push (y ∷ xs) x m = omega (arith, least_push xs x m)

module _ (f : FieldMeaning) (w : WeightMeaning) (u : List ℕ) where
  -- the weights of a multiple's symbols, added with a stop at the largest number of 32 bits
  added : (c a : ℕ) (v : List ℕ) → fold (λ s x. min (s + x) (2 ^ 32 - 1)) (min a (2 ^ 32 - 1)) (map (λ b. w.of (f.product c b)) v) ≡ min (a + weigh w (times f c v)) (2 ^ 32 - 1)
  added c a [] = omega arith
  added c a (b ∷ v) =
      let x = w.of (f.product c b) in
      ap (λ s. fold (λ s y. min (s + y) (2 ^ 32 - 1)) s (map (λ d. w.of (f.product c d)) v)) (omega arith)
      ∙ added c (a + x) v ∙ omega (arith, sum_by-cons w.of (f.product c b) (times f c v))

  pub added_weights : (c r : ℕ) → r ≡ fold (λ s x. min (s + x) (2 ^ 32 - 1)) 0 (map (λ b. w.of (f.product c b)) u) → r ≡ weighed w (times f c u)
  added_weights c r e = omega (arith, e, added c 0 u)

  -- the weights of the first n multiples
  abbrev pub first-weights : ℕ → List ℕ
  first-weights n = map (weighed w) (map (λ c. times f c u) (range_with_len 1 n))

  pub first-weights-more : (i : ℕ) → first-weights (i + 1) ≡ first-weights i ++ weighed w (times f (i + 1) u) ∷ []
  first-weights-more i = ap (map (weighed w)) (map-range_with_len_more (λ c. times f c u) 1 i (i + 1) (omega arith)) ∙ map_push (weighed w) (map (λ c. times f c u) (range_with_len 1 i)) (times f (i + 1) u)

  -- the first i weights stand in an array of 15, and m is the least of them and of the weight of the word
  pub record WeighedTo (i : ℕ) (weights : List ℕ) (m : ℕ) : Type 0 where
    pub long : length weights ≡ 15
    pub done : take i weights ≡ first-weights i
    pub lowest : m ≡ least (first-weights i) (weighed w u)

  -- one multiple more, by the factor c, whose weight x stands at place p
  pub weighed-more : (i c p : ℕ) (weights : List ℕ) (m x n : ℕ) → WeighedTo i weights m → c ≡ i + 1 → p ≡ i → i < 15 → x ≡ weighed w (times f c u) → n ≡ min m x → WeighedTo (i + 1) (set weights p x) n
  weighed-more i c p weights m x n h next at l e lower =
      let place : set weights i x ≡ set weights p x = ap (λ k. set weights k x) (sym at) in
      let is : x ≡ weighed w (times f (i + 1) u) = e ∙ ap (λ d. weighed w (times f d u)) next in
      record {
        long = ap length (sym place) ∙ length-set weights i x ∙ h.long;
        done = ap (take (i + 1)) (sym place) ∙ take_more_set weights i x (omega (arith, h.long)) ∙ ap₂ (λ (xs : List ℕ) (y : ℕ). xs ++ y ∷ []) h.done is ∙ sym (first-weights-more i);
        lowest = lower ∙ ap₂ min h.lowest is ∙ sym (least_push (first-weights i) (weighed w (times f (i + 1) u)) (weighed w u)) ∙ ap (λ (xs : List ℕ). least xs (weighed w u)) (sym (first-weights-more i));
      }

  -- the weights of a word of up to 64 symbols and of its multiples are exact
  module _ (laws : WeightLaws w) (few : length u ≤ 64) where
    pub weighed-word : weighed w u ≡ weigh w u
    weighed-word = omega (arith, word_most w laws u)

    pub weighed_multiple : (c : ℕ) → weighed w (times f c u) ≡ weigh w (times f c u)
    weighed_multiple c = omega (arith, word_most w laws (times f c u), length-times f c u)

    weighed-list : (cs : List ℕ) → map (weighed w) (map (λ c. times f c u) cs) ≡ map (weigh w) (map (λ c. times f c u) cs)
    weighed-list [] = refl
    weighed-list (c ∷ cs) = ap₂ ◌∷◌ (weighed_multiple c) (weighed-list cs)

    pub weighed-multiples : map (weighed w) (multiples f u) ≡ map (weigh w) (multiples f u)
    weighed-multiples = weighed-list (range_with_len 1 (f.order - 1))

    -- with the last factor, all multiples are weighed
    pub exact_line : (i n : ℕ) (weights : List ℕ) (m : ℕ) → i ≡ f.order - 1 → n ≡ i → WeighedTo i weights m → (take n weights ≡ map (weigh w) (multiples f u)) × (m ≡ line_weight f w u)
    exact_line i n weights m last count h =
        let all : first-weights i ≡ map (weighed w) (multiples f u) = ap first-weights last in
        (ap (λ k. take k weights) count ∙ h.done ∙ all ∙ weighed-multiples, h.lowest ∙ ap₂ least (all ∙ weighed-multiples) weighed-word)
