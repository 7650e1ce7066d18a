-- The coefficient lists of t rows, which begin with 1: how many, which, in what order.
use Rattle.std.proofs.Common.{◌≡◌, ℕ, zero, suc, ◌+◌, ◌-◌, ◌^◌, ◌<◌, ◌≤◌, List, ◌∷◌, ◌++◌, length, get_or, take, replicate, sym, refl, ap, ◌∙◌, subst, arith}
use lib.ListN.{length-map}
use Rattle.theory.specs.Visits.{nonzeros, coefficients}
use Rattle.theory.proofs.Lists.Members.{In, in_map, of_map}
use Rattle.theory.proofs.Lists.Distinct.{Distinct, distinct-map}
use Rattle.theory.proofs.Lists.Neighbours.{First, Last, Follows, first-map, last-map, follows_map}
use Rattle.theory.proofs.Order.Nonzeros.{Nonzero, length-nonzeros, of-nonzeros, in-nonzeros, distinct-nonzeros, first-nonzeros, next_nonzeros, end-nonzeros}

module _ (q : ℕ) where
  pub length-coefficients : (t : ℕ) → length (coefficients q (suc t)) ≡ (q - 1) ^ t
  length-coefficients t = length-map (nonzeros q t) (λ cs. 1 ∷ cs) ∙ length-nonzeros q t

  pub of-coefficients : (t : ℕ) (cs : List ℕ) → In cs (coefficients q (suc t)) → (u : List ℕ) × (cs ≡ 1 ∷ u) × (length u ≡ t) × Nonzero q u
  of-coefficients t cs m =
      let r = of_map (λ u. 1 ∷ u) cs (nonzeros q t) m in
      let h = of-nonzeros q t r.0 r.1 in
      (r.0, sym r.2, h.0, h.1)

  pub in-coefficients : (t : ℕ) (u : List ℕ) → length u ≡ t → Nonzero q u → In (1 ∷ u) (coefficients q (suc t))
  in-coefficients t u e h = in_map (λ v. 1 ∷ v) u (nonzeros q t) (in-nonzeros q t u e h)

  pub distinct-coefficients : (t : ℕ) → Distinct (coefficients q t)
  distinct-coefficients zero = tt
  distinct-coefficients (suc t) = distinct-map (λ u. 1 ∷ u) (nonzeros q t) (distinct-nonzeros q t) (λ u v m n e. cc)

  module _ (two : 2 ≤ q) where
    pub first-coefficients : (t : ℕ) → First (coefficients q (suc t)) (replicate (suc t) 1)
    first-coefficients t = first-map (λ u. 1 ∷ u) (nonzeros q t) (replicate t 1) (first-nonzeros q two t)

    pub next_coefficients : (u : List ℕ) (p : ℕ) → Nonzero q u → p < length u → get_or u p 0 + 1 < q → ((i : ℕ) → p < i → i < length u → get_or u i 0 ≡ q - 1) → Follows (coefficients q (suc (length u))) (1 ∷ u) (1 ∷ (take p u ++ ((get_or u p 0 + 1) ∷ replicate (length u - (p + 1)) 1)))
    next_coefficients u p h l b full = follows_map (λ v. 1 ∷ v) (nonzeros q (length u)) u (take p u ++ ((get_or u p 0 + 1) ∷ replicate (length u - (p + 1)) 1)) (next_nonzeros q two u p h l b full)

    pub end-coefficients : (u : List ℕ) → ((i : ℕ) → i < length u → get_or u i 0 ≡ q - 1) → Last (coefficients q (suc (length u))) (1 ∷ u)
    end-coefficients u full = last-map (λ v. 1 ∷ v) (nonzeros q (length u)) u (end-nonzeros q two u full)

    -- The same by places of the whole list.
    pub next_list : (t : ℕ) (cs : List ℕ) (p : ℕ) → In cs (coefficients q t) → 1 ≤ p → p < t → get_or cs p 0 + 1 < q → ((i : ℕ) → p < i → i < t → get_or cs i 0 ≡ q - 1) → Follows (coefficients q t) cs (take p cs ++ ((get_or cs p 0 + 1) ∷ replicate (t - (p + 1)) 1))
    next_list zero cs p m one l b full = absurd m
    next_list (suc s) cs zero m one l b full = absurd (omega arith)
    next_list (suc s) cs (suc r) m one l b full =
        let h = of-coefficients s cs m in
        let n : length h.0 ≡ s = h.2 in
        let e : length h.0 - (r + 1) ≡ suc s - (suc r + 1) = omega arith in
        let c : get_or cs (suc r) 0 ≡ get_or h.0 r 0 = ap (λ v. get_or v (suc r) 0) h.1 in
        subst (λ v. Follows (coefficients q (suc s)) v (take (suc r) v ++ ((get_or v (suc r) 0 + 1) ∷ replicate (suc s - (suc r + 1)) 1))) (sym h.1)
        (subst (λ j. Follows (coefficients q (suc s)) (1 ∷ h.0) (1 ∷ (take r h.0 ++ ((get_or h.0 r 0 + 1) ∷ replicate j 1)))) e
        (subst (λ j. Follows (coefficients q (suc j)) (1 ∷ h.0) (1 ∷ (take r h.0 ++ ((get_or h.0 r 0 + 1) ∷ replicate (length h.0 - (r + 1)) 1)))) n
        (next_coefficients h.0 r h.3 (omega arith) (omega arith) (λ i g k. ap (λ v. get_or v (suc i) 0) (sym h.1) ∙ full (suc i) (omega arith) (omega arith)))))

    pub end_list : (t : ℕ) (cs : List ℕ) → In cs (coefficients q t) → ((i : ℕ) → 1 ≤ i → i < t → get_or cs i 0 ≡ q - 1) → Last (coefficients q t) cs
    end_list zero cs m full = absurd m
    end_list (suc s) cs m full =
        let h = of-coefficients s cs m in
        let n : length h.0 ≡ s = h.2 in
        subst (Last (coefficients q (suc s))) (sym h.1) (subst (λ j. Last (coefficients q (suc j)) (1 ∷ h.0)) n (end-coefficients h.0 (λ i l. ap (λ v. get_or v (suc i) 0) (sym h.1) ∙ full (suc i) (omega arith) (omega arith))))

    pub first-list : (t : ℕ) → 1 ≤ t → First (coefficients q t) (replicate t 1)
    first-list zero l = absurd (omega arith)
    first-list (suc t) l = first-coefficients t

    pub list-codes : (t : ℕ) (cs : List ℕ) → In cs (coefficients q t) → (length cs ≡ t) × (get_or cs 0 0 ≡ 1) × Nonzero q cs
    list-codes zero cs m = absurd m
    list-codes (suc s) cs m =
        let h = of-coefficients s cs m in
        subst (λ v. (length v ≡ suc s) × (get_or v 0 0 ≡ 1) × Nonzero q v) (sym h.1) (ap suc h.2, refl, ((omega arith, omega arith), h.3))
