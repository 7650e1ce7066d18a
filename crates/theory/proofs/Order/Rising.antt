-- Strictly rising lists of numbers from a up to below k.
use Rattle.std.proofs.Common.{◌≡◌, ℕ, zero, suc, ◌+◌, ◌<◌, ◌≤◌, ◌⊎◌, List, [], ◌∷◌, ◌++◌, length, get_or, take, drop, refl, ap, ◌∙◌, subst, inl, inr, le_of_suc-le-suc, not-suc-le-zero, arith}
use Rattle.std.specs.List.{range_with_len}
use Rattle.std.proofs.lemmas.Bool.{cases_order}
use Rattle.theory.specs.Visits.{Rising}
use Rattle.theory.proofs.Lists.Members.{In}
use Rattle.theory.proofs.Lists.Distinct.{Distinct}

pub rising_le : (a k : ℕ) (c : List ℕ) → Rising a k c → a ≤ k
rising_le a k [] h = h
rising_le a k (x ∷ c) h = omega (arith, rising_le (suc x) k c h.1, h.0)

pub rising_wider : (a k l : ℕ) (c : List ℕ) → k ≤ l → Rising a k c → Rising a l c
rising_wider a k l [] w h = omega arith
rising_wider a k l (x ∷ c) w h = (h.0, rising_wider (suc x) k l c w h.1)

pub rising_lower : (a b k : ℕ) (c : List ℕ) → b ≤ a → Rising a k c → Rising b k c
rising_lower a b k [] w h = omega arith
rising_lower a b k (x ∷ c) w h = (omega (arith, h.0), h.1)

pub rising_append : (a m k : ℕ) (c d : List ℕ) → Rising a m c → Rising m k d → Rising a k (c ++ d)
rising_append a m k [] d h g = rising_lower m a k d h g
rising_append a m k (x ∷ c) d h g = (h.0, rising_append (suc x) m k c d h.1 g)

pub rising_push : (a k : ℕ) (c : List ℕ) → Rising a k c → Rising a (suc k) (c ++ (k ∷ []))
rising_push a k c h = rising_append a k (suc k) c (k ∷ []) h (omega arith)

pub rising_none : (k : ℕ) (c : List ℕ) → Rising k k c → c ≡ []
rising_none k [] h = refl
rising_none k (x ∷ c) h = absurd (omega (arith, h.0, rising_le (suc x) k c h.1))

-- A list below suc k is below k, or ends in k.
pub rising_top : (a k : ℕ) (c : List ℕ) → a ≤ k → Rising a (suc k) c → Rising a k c ⊎ ((b : List ℕ) × (c ≡ b ++ (k ∷ [])) × Rising a k b)
rising_top a k [] l h = inl l
rising_top a k (x ∷ c) l h = go (rising_top (suc x) k c) (cases_order x k)
  where
    below : Rising (suc x) k c ⊎ ((b : List ℕ) × (c ≡ b ++ (k ∷ [])) × Rising (suc x) k b) → Rising a k (x ∷ c) ⊎ ((b : List ℕ) × (x ∷ c ≡ b ++ (k ∷ [])) × Rising a k b)
    below (inl g) = inl (h.0, g)
    below (inr g) = inr (x ∷ g.0, ap (λ d. x ∷ d) g.1, (h.0, g.2))

    go : (suc x ≤ k → Rising (suc x) (suc k) c → Rising (suc x) k c ⊎ ((b : List ℕ) × (c ≡ b ++ (k ∷ [])) × Rising (suc x) k b)) → (x ≡ k) ⊎ ((x < k) ⊎ (k < x)) → Rising a k (x ∷ c) ⊎ ((b : List ℕ) × (x ∷ c ≡ b ++ (k ∷ [])) × Rising a k b)
    go f (inl e) = inr ([], ap (λ y. y ∷ c) e ∙ ap (λ d. k ∷ d) (rising_none (suc k) c (subst (λ y. Rising (suc y) (suc k) c) e h.1)), l)
    go f (inr (inl p)) = below (f p h.1)
    go f (inr (inr p)) = absurd (omega (arith, rising_le (suc x) (suc k) c h.1))

pub rising_below : (a k : ℕ) (c : List ℕ) (i : ℕ) → Rising a k c → i < length c → (a + i ≤ get_or c i 0) × (get_or c i 0 < k)
rising_below a k [] i h l = absurd (not-suc-le-zero l)
rising_below a k (x ∷ c) zero h l = (omega (arith, h.0), rising_le (suc x) k c h.1)
rising_below a k (x ∷ c) (suc i) h l = let r = rising_below (suc x) k c i h.1 (le_of_suc-le-suc l) in (omega (arith, r.0, h.0), r.1)

pub rising_places : (a k : ℕ) (c : List ℕ) (i j : ℕ) → Rising a k c → i < j → j < length c → get_or c i 0 < get_or c j 0
rising_places a k [] i j h p l = absurd (not-suc-le-zero l)
rising_places a k (x ∷ c) i zero h p l = absurd (not-suc-le-zero p)
rising_places a k (x ∷ c) zero (suc j) h p l = omega (arith, rising_below (suc x) k c j h.1 (le_of_suc-le-suc l))
rising_places a k (x ∷ c) (suc i) (suc j) h p l = rising_places (suc x) k c i j h.1 (le_of_suc-le-suc p) (le_of_suc-le-suc l)

pub rising_from_places : (a k : ℕ) (c : List ℕ) → a ≤ k → (0 < length c → a ≤ get_or c 0 0) → ((i : ℕ) → i < length c → get_or c i 0 < k) → ((i : ℕ) → suc i < length c → get_or c i 0 < get_or c (suc i) 0) → Rising a k c
rising_from_places a k [] w f b h = w
rising_from_places a k (x ∷ c) w f b h = (f (omega arith), rising_from_places (suc x) k c (b 0 (omega arith)) (λ l. h 0 (omega arith)) (λ i l. b (suc i) (omega arith)) (λ i l. h (suc i) (omega arith)))

pub rising_not-top : (a k : ℕ) (b : List ℕ) → Rising a k (b ++ (k ∷ [])) → ⊥
rising_not-top a k [] h = omega (arith, h.1)
rising_not-top a k (x ∷ b) h = rising_not-top (suc x) k b h.1

pub rising_take : (a k : ℕ) (c : List ℕ) (p : ℕ) → Rising a k c → p < length c → Rising a (get_or c p 0) (take p c)
rising_take a k [] p h l = absurd (not-suc-le-zero l)
rising_take a k (x ∷ c) zero h l = h.0
rising_take a k (x ∷ c) (suc p) h l = (h.0, rising_take (suc x) k c p h.1 (le_of_suc-le-suc l))

pub rising_drop : (a k : ℕ) (c : List ℕ) (p : ℕ) → Rising a k c → p < length c → Rising (suc (get_or c p 0)) k (drop (suc p) c)
rising_drop a k [] p h l = absurd (not-suc-le-zero l)
rising_drop a k (x ∷ c) zero h l = h.1
rising_drop a k (x ∷ c) (suc p) h l = rising_drop (suc x) k c p h.1 (le_of_suc-le-suc l)

pub rising_length : (a k : ℕ) (c : List ℕ) → Rising a k c → a + length c ≤ k
rising_length a k [] h = omega (arith, h)
rising_length a k (x ∷ c) h = omega (arith, h.0, rising_length (suc x) k c h.1)

-- n rows out of n are all.
pub rising_full : (a n : ℕ) (c : List ℕ) → length c ≡ n → Rising a (a + n) c → c ≡ range_with_len a n
rising_full a zero [] e h = refl
rising_full a zero (x ∷ c) e h = absurd (omega arith)
rising_full a (suc n) [] e h = absurd (omega arith)
rising_full a (suc n) (x ∷ c) e h =
    let p : x ≡ a = omega (arith, h.0, rising_length (suc x) (a + suc n) c h.1) in
    let l : suc x ≡ a + 1 = omega arith in
    let r : a + suc n ≡ a + 1 + n = omega arith in
    ap (λ y. y ∷ c) p ∙ ap (λ d. a ∷ d) (rising_full (a + 1) n c (omega arith) (subst (λ j. Rising j (a + 1 + n) c) l (subst (λ j. Rising (suc x) j c) r h.1)))

pub rising_above : (a b k : ℕ) (c : List ℕ) → Rising a k c → b ≤ get_or c 0 k → Rising b k c
rising_above a b k [] h l = l
rising_above a b k (x ∷ c) h l = (l, h.1)

pub rising_in : (a k : ℕ) (c : List ℕ) → Rising a k c → (x : ℕ) → In x c → (a ≤ x) × (x < k)
rising_in a k [] h x m = absurd m
rising_in a k (y ∷ c) h x (inl e) = omega (arith, h.0, rising_le (suc y) k c h.1)
rising_in a k (y ∷ c) h x (inr m) = let r = rising_in (suc y) k c h.1 x m in (omega (arith, r.0, h.0), r.1)

pub rising_distinct : (a k : ℕ) (c : List ℕ) → Rising a k c → Distinct c
rising_distinct a k [] h = tt
rising_distinct a k (x ∷ c) h = (λ m. omega (arith, rising_in (suc x) k c h.1 x m), rising_distinct (suc x) k c h.1)
