-- A list of codes as its nonzero entries: the places where they stand (its support) and the entries themselves (its values).
use Rattle.std.proofs.Common.{◌≡◌, ℕ, zero, suc, ◌+◌, ◌-◌, ◌<◌, ◌≤◌, Bool, true, false, cond, not, eqb, List, [], ◌∷◌, length, get_or, count_by, filter, sym, refl, ap, ◌∙◌, subst, ap₂, arith}
use Rattle.std.specs.List.{AllByRecursion}
use Rattle.std.proofs.lemmas.Bool.{eqb-true, eqb-false, ne_eqb, not-false, not-true}
use Rattle.theory.specs.Visits.{Rising}
use Rattle.theory.proofs.Lists.Counts.{count_by_cons}
use Rattle.theory.proofs.Order.Rising.{rising_le, rising_lower, rising_below}

abbrev pub nonzero : ℕ → Bool
nonzero a = not (eqb a 0)

abbrev pub support : ℕ → List ℕ → List ℕ
support i [] = []
support i (x ∷ m) = cond (nonzero x) (i ∷ support (suc i) m) (support (suc i) m)

abbrev pub values : List ℕ → List ℕ
values m = filter nonzero m

-- The list of k codes that has the codes cs at the places ch, counted from i, and 0 elsewhere.
abbrev pub spread : ℕ → ℕ → List ℕ → List ℕ → List ℕ
spread i zero ch cs = []
spread i (suc k) [] cs = 0 ∷ spread (suc i) k [] cs
spread i (suc k) (a ∷ ch) [] = 0 ∷ spread (suc i) k ch []
spread i (suc k) (a ∷ ch) (b ∷ cs) = cond (eqb a i) (b ∷ spread (suc i) k ch cs) (0 ∷ spread (suc i) k (a ∷ ch) (b ∷ cs))

pub nonzero_pos : (a : ℕ) → 0 < a → nonzero a ≡ true
nonzero_pos a h = ap not (ne_eqb a 0 (λ e. omega arith))

pub pos_nonzero : (a : ℕ) → nonzero a ≡ true → 0 < a
pos_nonzero a t = let h : a ≡ 0 → ⊥ = eqb-false a 0 (not-true (eqb a 0) t) in omega arith

pub zero_nonzero : (a : ℕ) → nonzero a ≡ false → a ≡ 0
zero_nonzero a t = eqb-true a 0 (not-false (eqb a 0) t)

pub length_spread : (i k : ℕ) (ch cs : List ℕ) → length (spread i k ch cs) ≡ k
length_spread i zero ch cs = refl
length_spread i (suc k) [] cs = ap suc (length_spread (suc i) k [] cs)
length_spread i (suc k) (a ∷ ch) [] = ap suc (length_spread (suc i) k ch [])
length_spread i (suc k) (a ∷ ch) (b ∷ cs) = go (eqb a i) (length_spread (suc i) k ch cs) (length_spread (suc i) k (a ∷ ch) (b ∷ cs))
  where
    go : (t : Bool) → length (spread (suc i) k ch cs) ≡ k → length (spread (suc i) k (a ∷ ch) (b ∷ cs)) ≡ k → length (cond t (b ∷ spread (suc i) k ch cs) (0 ∷ spread (suc i) k (a ∷ ch) (b ∷ cs))) ≡ suc k
    go true l r = ap suc l
    go false l r = ap suc r

pub all_spread : (P : ℕ → Type 0) → P 0 → (i k : ℕ) (ch cs : List ℕ) → AllByRecursion P cs → AllByRecursion P (spread i k ch cs)
all_spread P z i zero ch cs h = tt
all_spread P z i (suc k) [] cs h = (z, all_spread P z (suc i) k [] cs h)
all_spread P z i (suc k) (a ∷ ch) [] h = (z, all_spread P z (suc i) k ch [] h)
all_spread P z i (suc k) (a ∷ ch) (b ∷ cs) h = go (eqb a i) (all_spread P z (suc i) k ch cs h.1) (all_spread P z (suc i) k (a ∷ ch) (b ∷ cs) h)
  where
    go : (t : Bool) → AllByRecursion P (spread (suc i) k ch cs) → AllByRecursion P (spread (suc i) k (a ∷ ch) (b ∷ cs)) → AllByRecursion P (cond t (b ∷ spread (suc i) k ch cs) (0 ∷ spread (suc i) k (a ∷ ch) (b ∷ cs)))
    go true l r = (h.0, l)
    go false l r = (z, r)

abbrev pub Parts : ℕ → List ℕ → List ℕ → List ℕ → Type 0
Parts i m ch cs = (support i m ≡ ch) × (values m ≡ cs)

-- The support and the values of what is spread are what was spread.
pub spread_parts : (i e k : ℕ) (ch cs : List ℕ) → i + k ≡ e → Rising i e ch → length cs ≡ length ch → AllByRecursion (λ b. 0 < b) cs → Parts i (spread i k ch cs) ch cs
spread_parts i e zero [] [] q r l h = (refl, refl)
spread_parts i e zero [] (b ∷ cs) q r l h = absurd (omega arith)
spread_parts i e zero (a ∷ ch) cs q r l h = absurd (omega (arith, r.0, rising_le (suc a) e ch r.1))
spread_parts i e (suc k) [] cs q r l h = spread_parts (suc i) e k [] cs (omega arith) (omega arith) l h
spread_parts i e (suc k) (a ∷ ch) [] q r l h = absurd (omega arith)
spread_parts i e (suc k) (a ∷ ch) (b ∷ cs) q r l h =
    go (eqb a i) refl (nonzero_pos b h.0) (λ x. spread_parts (suc i) e k ch cs (omega arith) x (omega arith) h.1) (λ x. spread_parts (suc i) e k (a ∷ ch) (b ∷ cs) (omega arith) x l h)
  where
    here : (t : Bool) → t ≡ true → a ≡ i → Parts (suc i) (spread (suc i) k ch cs) ch cs → (cond t (i ∷ support (suc i) (spread (suc i) k ch cs)) (support (suc i) (spread (suc i) k ch cs)) ≡ (a ∷ ch)) × (cond t (b ∷ values (spread (suc i) k ch cs)) (values (spread (suc i) k ch cs)) ≡ (b ∷ cs))
    here true z ai p = (ap₂ ◌∷◌ (sym ai) p.0, ap (λ (v : List ℕ). b ∷ v) p.1)
    here false z ai p = absurd (subst (λ (t : Bool). cond t ⊥ (Unit {0})) z tt)

    go : (t : Bool) → eqb a i ≡ t → nonzero b ≡ true → (Rising (suc i) e ch → Parts (suc i) (spread (suc i) k ch cs) ch cs) → (Rising (suc i) e (a ∷ ch) → Parts (suc i) (spread (suc i) k (a ∷ ch) (b ∷ cs)) (a ∷ ch) (b ∷ cs))
        → Parts i (cond t (b ∷ spread (suc i) k ch cs) (0 ∷ spread (suc i) k (a ∷ ch) (b ∷ cs))) (a ∷ ch) (b ∷ cs)
    go true t z f g = let ai : a ≡ i = eqb-true a i t in here (nonzero b) z ai (f (subst (λ (x : ℕ). Rising (suc x) e ch) ai r.1))
    go false t z f g = let ai : a ≡ i → ⊥ = eqb-false a i t in g (omega (arith, r.0), r.1)

pub length_support : (i : ℕ) (m : List ℕ) → length (support i m) ≡ count_by nonzero m
length_support i [] = refl
length_support i (x ∷ m) = go (nonzero x) (length_support (suc i) m) ∙ sym (count_by_cons nonzero x m)
  where
    go : (t : Bool) → length (support (suc i) m) ≡ count_by nonzero m → length (cond t (i ∷ support (suc i) m) (support (suc i) m)) ≡ cond t 1 0 + count_by nonzero m
    go true e = omega arith
    go false e = omega arith

pub rising_support : (i e : ℕ) (m : List ℕ) → i + length m ≡ e → Rising i e (support i m)
rising_support i e [] q = omega arith
rising_support i e (x ∷ m) q = go (nonzero x) (rising_support (suc i) e m (omega arith))
  where
    go : (t : Bool) → Rising (suc i) e (support (suc i) m) → Rising i e (cond t (i ∷ support (suc i) m) (support (suc i) m))
    go true r = (omega arith, r)
    go false r = rising_lower (suc i) i e (support (suc i) m) (omega arith) r

pub all_values : (P : ℕ → Type 0) (m : List ℕ) → AllByRecursion P m → AllByRecursion (λ a. (0 < a) × P a) (values m)
all_values P [] h = tt
all_values P (x ∷ m) h = go (nonzero x) refl (all_values P m h.1)
  where
    go : (t : Bool) → nonzero x ≡ t → AllByRecursion (λ a. (0 < a) × P a) (values m) → AllByRecursion (λ a. (0 < a) × P a) (cond t (x ∷ values m) (values m))
    go true t r = ((pos_nonzero x t, h.0), r)
    go false t r = r

rising_from : (i e : ℕ) (ch : List ℕ) (l : ℕ) → Rising i e ch → l < length ch → i ≤ get_or ch l 0
rising_from i e ch l r h = omega (arith, (rising_below i e ch l r h).0)

-- What is spread has the codes at their places, and 0 at the others.
pub spread_chosen : (i e k : ℕ) (ch cs : List ℕ) (l : ℕ) → i + k ≡ e → Rising i e ch → length cs ≡ length ch → l < length ch → get_or (spread i k ch cs) (get_or ch l 0 - i) 0 ≡ get_or cs l 0
spread_chosen i e zero ch cs l q r n h = absurd (empty ch l r h)
  where
    empty : (ch : List ℕ) (l : ℕ) → Rising i e ch → l < length ch → ⊥
    empty [] l r h = omega arith
    empty (a ∷ ch) l r h = omega (arith, r.0, rising_le (suc a) e ch r.1)
spread_chosen i e (suc k) [] cs l q r n h = absurd (omega arith)
spread_chosen i e (suc k) (a ∷ ch) [] l q r n h = absurd (omega arith)
spread_chosen i e (suc k) (a ∷ ch) (b ∷ cs) l q r n h = go (eqb a i) refl l h (λ l x g. spread_chosen (suc i) e k ch cs l (omega arith) x (omega arith) g) (λ l x g. spread_chosen (suc i) e k (a ∷ ch) (b ∷ cs) l (omega arith) x n g)
  where
    go : (t : Bool) → eqb a i ≡ t → (l : ℕ) → l < suc (length ch) → ((l : ℕ) → Rising (suc i) e ch → l < length ch → get_or (spread (suc i) k ch cs) (get_or ch l 0 - suc i) 0 ≡ get_or cs l 0)
        → ((l : ℕ) → Rising (suc i) e (a ∷ ch) → l < suc (length ch) → get_or (spread (suc i) k (a ∷ ch) (b ∷ cs)) (get_or (a ∷ ch) l 0 - suc i) 0 ≡ get_or (b ∷ cs) l 0)
        → get_or (cond t (b ∷ spread (suc i) k ch cs) (0 ∷ spread (suc i) k (a ∷ ch) (b ∷ cs))) (get_or (a ∷ ch) l 0 - i) 0 ≡ get_or (b ∷ cs) l 0
    go true t zero h f g = let ai : a ≡ i = eqb-true a i t in ap (λ (p : ℕ). get_or (b ∷ spread (suc i) k ch cs) p 0) (let z : a - i ≡ 0 = omega arith in z)
    go true t (suc l) h f g =
        let ai : a ≡ i = eqb-true a i t in
        let low : suc a ≤ get_or ch l 0 = rising_from (suc a) e ch l r.1 (omega arith) in
        ap (λ (p : ℕ). get_or (b ∷ spread (suc i) k ch cs) p 0) (let z : get_or ch l 0 - i ≡ suc (get_or ch l 0 - suc i) = omega arith in z) ∙ f l (subst (λ (x : ℕ). Rising (suc x) e ch) ai r.1) (omega arith)
    go false t l h f g =
        let ai : a ≡ i → ⊥ = eqb-false a i t in
        let r' : Rising (suc i) e (a ∷ ch) = (omega (arith, r.0), r.1) in
        let low : suc i ≤ get_or (a ∷ ch) l 0 = rising_from (suc i) e (a ∷ ch) l r' h in
        ap (λ (p : ℕ). get_or (0 ∷ spread (suc i) k (a ∷ ch) (b ∷ cs)) p 0) (let z : get_or (a ∷ ch) l 0 - i ≡ suc (get_or (a ∷ ch) l 0 - suc i) = omega arith in z) ∙ g l r' h

pub spread_other : (i k : ℕ) (ch cs : List ℕ) (p : ℕ) → ((l : ℕ) → l < length ch → get_or ch l 0 ≡ i + p → ⊥) → get_or (spread i k ch cs) p 0 ≡ 0
spread_other i zero ch cs p h = refl
spread_other i (suc k) [] cs zero h = refl
spread_other i (suc k) [] cs (suc p) h = spread_other (suc i) k [] cs p (λ l g e. omega arith)
spread_other i (suc k) (a ∷ ch) [] zero h = refl
spread_other i (suc k) (a ∷ ch) [] (suc p) h = spread_other (suc i) k ch [] p (λ l g e. h (suc l) (omega arith) (omega arith))
spread_other i (suc k) (a ∷ ch) (b ∷ cs) p h = go (eqb a i) refl p h (λ p x. spread_other (suc i) k ch cs p x) (λ p x. spread_other (suc i) k (a ∷ ch) (b ∷ cs) p x)
  where
    go : (t : Bool) → eqb a i ≡ t → (p : ℕ) → ((l : ℕ) → l < suc (length ch) → get_or (a ∷ ch) l 0 ≡ i + p → ⊥)
        → ((p : ℕ) → ((l : ℕ) → l < length ch → get_or ch l 0 ≡ suc i + p → ⊥) → get_or (spread (suc i) k ch cs) p 0 ≡ 0)
        → ((p : ℕ) → ((l : ℕ) → l < suc (length ch) → get_or (a ∷ ch) l 0 ≡ suc i + p → ⊥) → get_or (spread (suc i) k (a ∷ ch) (b ∷ cs)) p 0 ≡ 0)
        → get_or (cond t (b ∷ spread (suc i) k ch cs) (0 ∷ spread (suc i) k (a ∷ ch) (b ∷ cs))) p 0 ≡ 0
    go true t zero h f g = absurd (h 0 (omega arith) (let ai : a ≡ i = eqb-true a i t in omega arith))
    go true t (suc p) h f g = f p (λ l x e. h (suc l) (omega arith) (omega arith))
    go false t zero h f g = refl
    go false t (suc p) h f g = g p (λ l x e. h l x (omega arith))
