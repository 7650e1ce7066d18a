-- The lists of t codes from 1 to q - 1: how many, which, in what order.
use Rattle.std.proofs.Common.{◌≡◌, ℕ, zero, suc, ◌+◌, ◌-◌, ◌*◌, ◌^◌, ◌<◌, ◌≤◌, List, [], ◌∷◌, ◌++◌, map, length, get_or, take, drop, replicate, sym, refl, ap, ◌∙◌, subst, inl, inr, arith, length-drop, length-take}
use native.Mathlib.Nat.{pow-succ', pow-zero}
use lib.ListN.{length-map, length-replicate}
use Rattle.std.specs.List.{range_with_len, AllByRecursion}
use Rattle.std.proofs.lemmas.List.FromFn.{length-range_with_len}
use Rattle.std.proofs.lemmas.List.{get_or-drop, get_or-replicate, ext_get_or, take-append-drop, drop_more}
use Rattle.std.proofs.ByRecursion.{All-take, All-get_or}
use Rattle.theory.specs.Visits.{nonzeros}
use Rattle.theory.proofs.Lists.Members.{In, in_map, of_map, of-joined, in-joined, of_counting, in_counting}
use Rattle.theory.proofs.Lists.Distinct.{Distinct, distinct-map, distinct-joined, distinct_counting}
use Rattle.theory.proofs.Lists.Blocks.{length-joined}
use Rattle.theory.proofs.Lists.Neighbours.{First, Last, Follows, first-map, last-map, follows_map, first-joined, last-joined, follows_joined, follows_joined-between, follows_counting, last_counting}

-- Codes from 1 to q - 1.
abbrev pub Nonzero : ℕ → List ℕ → Type 0
Nonzero q cs = AllByRecursion (λ c. (1 ≤ c) × (c < q)) cs

module _ (q : ℕ) where
  -- The lists that begin with c.
  abbrev block : ℕ → ℕ → List (List ℕ)
  block t c = map (λ cs. c ∷ cs) (nonzeros q t)

  pub length-nonzeros : (t : ℕ) → length (nonzeros q t) ≡ (q - 1) ^ t
  length-nonzeros zero = sym (pow-zero (q - 1))
  length-nonzeros (suc t) = length-joined (block t) ((q - 1) ^ t) (range_with_len 1 (q - 1)) (λ c m. length-map (nonzeros q t) (λ cs. c ∷ cs) ∙ length-nonzeros t) ∙ ap (λ n. n * (q - 1) ^ t) (length-range_with_len 1 (q - 1)) ∙ sym (pow-succ' (q - 1) t)

  pub of-nonzeros : (t : ℕ) (cs : List ℕ) → In cs (nonzeros q t) → (length cs ≡ t) × Nonzero q cs
  of-nonzeros zero cs (inl e) = subst (λ u. (length u ≡ 0) × Nonzero q u) e (refl, tt)
  of-nonzeros zero cs (inr m) = absurd m
  of-nonzeros (suc t) cs m =
      let r = of-joined (block t) cs (range_with_len 1 (q - 1)) m in
      let s = of_map (λ u. r.0 ∷ u) cs (nonzeros q t) r.2 in
      let h = of-nonzeros t s.0 s.1 in
      let b = of_counting r.0 1 (q - 1) r.1 in
      subst (λ u. (length u ≡ suc t) × Nonzero q u) s.2 (ap suc h.0, ((b.0, omega (arith, b.1)), h.1))

  pub in-nonzeros : (t : ℕ) (cs : List ℕ) → length cs ≡ t → Nonzero q cs → In cs (nonzeros q t)
  in-nonzeros zero [] e h = inl refl
  in-nonzeros zero (c ∷ cs) e h = absurd (omega arith)
  in-nonzeros (suc t) [] e h = absurd (omega arith)
  in-nonzeros (suc t) (c ∷ cs) e h = in-joined (block t) c (c ∷ cs) (range_with_len 1 (q - 1)) (in_counting c 1 (q - 1) h.0.0 (omega (arith, h.0.0, h.0.1))) (in_map (λ u. c ∷ u) cs (nonzeros q t) (in-nonzeros t cs (omega arith) h.1))

  pub distinct-nonzeros : (t : ℕ) → Distinct (nonzeros q t)
  distinct-nonzeros zero = (λ n. n, tt)
  distinct-nonzeros (suc t) = distinct-joined (block t) (range_with_len 1 (q - 1)) (distinct_counting 1 (q - 1)) (λ c m. distinct-map (λ u. c ∷ u) (nonzeros q t) (distinct-nonzeros t) (λ u v m n e. cc)) shared
    where
      shared : (b c : ℕ) (u : List ℕ) → In b (range_with_len 1 (q - 1)) → In c (range_with_len 1 (q - 1)) → In u (block t b) → In u (block t c) → b ≡ c
      shared b c u _ _ m n =
          let r = of_map (λ v. b ∷ v) u (nonzeros q t) m in
          let s = of_map (λ v. c ∷ v) u (nonzeros q t) n in
          let e : ◌≡◌ {A = List ℕ} (b ∷ r.0) (c ∷ s.0) = r.2 ∙ sym s.2 in cc

  module _ (two : 2 ≤ q) where
    pub first-nonzeros : (t : ℕ) → First (nonzeros q t) (replicate t 1)
    first-nonzeros zero = ([], refl)
    first-nonzeros (suc t) = first-joined (block t) (range_with_len 1 (q - 1)) 1 (replicate (suc t) 1) (subst (λ n. First (range_with_len 1 n) 1) some (range_with_len (1 + 1) (q - 2), refl)) (first-map (λ u. 1 ∷ u) (nonzeros q t) (replicate t 1) (first-nonzeros t))
      where
        some : suc (q - 2) ≡ q - 1
        some = omega arith

    last_code : Last (range_with_len 1 (q - 1)) (q - 1)
    last_code =
        let e : suc (q - 2) ≡ q - 1 = omega arith in
        let f : 1 + (q - 2) ≡ q - 1 = omega arith in
        subst (λ n. Last (range_with_len 1 n) (q - 1)) e (subst (Last (range_with_len 1 (suc (q - 2)))) f (last_counting 1 (q - 2)))

    pub last-nonzeros : (t : ℕ) → Last (nonzeros q t) (replicate t (q - 1))
    last-nonzeros zero = ([], refl)
    last-nonzeros (suc t) = last-joined (block t) (range_with_len 1 (q - 1)) (q - 1) (replicate (suc t) (q - 1)) last_code (last-map (λ u. (q - 1) ∷ u) (nonzeros q t) (replicate t (q - 1)) (last-nonzeros t))

    -- The odometer: the last code that is not q - 1 goes up by one, and those after it start over at 1.
    pub follows_nonzeros : (t : ℕ) (front : List ℕ) (c m : ℕ) → length front + suc m ≡ t → Nonzero q front → 1 ≤ c → c + 1 < q → Follows (nonzeros q t) (front ++ (c ∷ replicate m (q - 1))) (front ++ ((c + 1) ∷ replicate m 1))
    follows_nonzeros zero front c m e h l u = absurd (omega arith)
    follows_nonzeros (suc t) [] c m e h l u =
        let n : m ≡ t = omega arith in
        subst (λ j. Follows (nonzeros q (suc t)) (c ∷ replicate j (q - 1)) ((c + 1) ∷ replicate j 1)) (sym n)
        (follows_joined-between (block t) (range_with_len 1 (q - 1)) c (c + 1) (c ∷ replicate t (q - 1)) ((c + 1) ∷ replicate t 1) (follows_counting 1 (q - 1) c l (omega arith)) (last-map (λ v. c ∷ v) (nonzeros q t) (replicate t (q - 1)) (last-nonzeros t)) (first-map (λ v. (c + 1) ∷ v) (nonzeros q t) (replicate t 1) (first-nonzeros t)))
    follows_nonzeros (suc t) (a ∷ front) c m e h l u = follows_joined (block t) (range_with_len 1 (q - 1)) a (a ∷ (front ++ (c ∷ replicate m (q - 1)))) (a ∷ (front ++ ((c + 1) ∷ replicate m 1))) (in_counting a 1 (q - 1) h.0.0 (omega (arith, h.0.0, h.0.1))) (follows_map (λ v. a ∷ v) (nonzeros q t) (front ++ (c ∷ replicate m (q - 1))) (front ++ ((c + 1) ∷ replicate m 1)) (follows_nonzeros t front c m (omega arith) h.1 l u))

    -- The same by places: after place p all codes are q - 1.
    pub next_nonzeros : (cs : List ℕ) (p : ℕ) → Nonzero q cs → p < length cs → get_or cs p 0 + 1 < q → ((i : ℕ) → p < i → i < length cs → get_or cs i 0 ≡ q - 1) → Follows (nonzeros q (length cs)) cs (take p cs ++ ((get_or cs p 0 + 1) ∷ replicate (length cs - (p + 1)) 1))
    next_nonzeros cs p h l u full = subst (λ v. Follows (nonzeros q (length cs)) v (take p cs ++ ((c + 1) ∷ replicate m 1))) split (follows_nonzeros (length cs) (take p cs) c m counts (All-take (λ c. (1 ≤ c) × (c < q)) p cs h) (All-get_or (λ c. (1 ≤ c) × (c < q)) cs p 0 l h).0 u)
      where
        c : ℕ
        c = get_or cs p 0

        m : ℕ
        m = length cs - (p + 1)

        counts : length (take p cs) + suc m ≡ length cs
        counts = rw length-take (omega arith)

        rest : replicate m (q - 1) ≡ drop (p + 1) cs
        rest = ext_get_or 0 (replicate m (q - 1)) (drop (p + 1) cs) (length-replicate m (q - 1) ∙ sym (length-drop (p + 1) cs)) (λ i b. let b' : i < m = rw length-replicate at b in get_or-replicate m i (q - 1) 0 b' ∙ sym (get_or-drop (p + 1) cs i 0 ∙ full (p + 1 + i) (omega arith) (omega arith)))

        split : take p cs ++ (c ∷ replicate m (q - 1)) ≡ cs
        split = ap (λ r. take p cs ++ (c ∷ r)) rest ∙ ap (λ r. take p cs ++ r) (sym (drop_more cs p 0 l)) ∙ take-append-drop p cs

    pub end-nonzeros : (cs : List ℕ) → ((i : ℕ) → i < length cs → get_or cs i 0 ≡ q - 1) → Last (nonzeros q (length cs)) cs
    end-nonzeros cs full = subst (Last (nonzeros q (length cs))) (ext_get_or 0 (replicate (length cs) (q - 1)) cs (length-replicate (length cs) (q - 1)) (λ i b. let b' : i < length cs = rw length-replicate at b in get_or-replicate (length cs) i (q - 1) 0 b' ∙ sym (full i b'))) (last-nonzeros (length cs))
