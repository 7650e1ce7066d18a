-- The least of a list of numbers, as its counts tell it.
use Rattle.std.proofs.Common.{◌≡◌, ℕ, ◌+◌, ◌<◌, ◌≤◌, min, Bool, true, false, cond, eqb, ltb, ◌⊎◌, List, [], ◌∷◌, ◌++◌, Some, None, count_by, Option, sym, refl, ap, ◌∙◌, subst, ap₂, inl, inr, append-nil, add-zero, add_comm, arith}
use Rattle.std.proofs.lemmas.List.Sums.{sum_by-append}
use Rattle.std.proofs.lemmas.Bool.{eq-eqb, ne_eqb, eqb-true, eqb-false, cases_order, lt-ltb, le-ltb}
use Rattle.theory.specs.Codes.{least}
use Rattle.theory.specs.Standings.{LinearCode, best_of}
use Rattle.theory.specs.Calls.{unchanged}
use Rattle.theory.specs.Steps.{at_best, lesser, lesser_all, next_count}
use Rattle.theory.proofs.Lists.Counts.{count_by_cons}

abbrev pub count_of : ℕ → List ℕ → ℕ
count_of b xs = count_by (λ x. eqb x b) xs

-- Of counts: None if nothing is counted, and Some b if b is counted and nothing less is.
abbrev pub Lowest : Option ℕ → (ℕ → ℕ) → Type 0
Lowest None count = (a : ℕ) → count a ≡ 0
Lowest (Some b) count = (0 < count b) × ((a : ℕ) → a < b → count a ≡ 0)

abbrev pub LeastOf : Option ℕ → List ℕ → Type 0
LeastOf o xs = Lowest o (λ a. count_of a xs)

pub at_best_next : (o : Option ℕ) (old new : ℕ → ℕ) (x : ℕ) → Lowest o old → ((a : ℕ) → new a ≡ old a + cond (eqb x a) 1 0) → at_best (lesser o x) new ≡ next_count o (at_best o old) x
at_best_next None old new x h e = e x ∙ ap (λ (t : Bool). old x + cond t 1 0) (eq-eqb x x refl) ∙ omega (arith, h x)
at_best_next (Some b) old new x h e = go (cases_order x b)
  where
    go : (x ≡ b) ⊎ ((x < b) ⊎ (b < x)) → new (min b x) ≡ cond (ltb x b) 1 (cond (eqb x b) (old b + 1) (old b))
    go (inl q) = ap new (let m : min b x ≡ b = omega arith in m) ∙ e b ∙ ap (λ (t : Bool). old b + cond t 1 0) (eq-eqb x b q)
        ∙ sym (ap₂ (λ (t r : Bool). cond t 1 (cond r (old b + 1) (old b))) (le-ltb x b (omega arith)) (eq-eqb x b q))
    go (inr (inl l)) = ap new (let m : min b x ≡ x = omega arith in m) ∙ e x ∙ ap (λ (t : Bool). old x + cond t 1 0) (eq-eqb x x refl) ∙ omega (arith, h.1 x l)
        ∙ sym (ap (λ (t : Bool). cond t 1 (cond (eqb x b) (old b + 1) (old b))) (lt-ltb x b l))
    go (inr (inr l)) = ap new (let m : min b x ≡ b = omega arith in m) ∙ e b ∙ ap (λ (t : Bool). old b + cond t 1 0) (ne_eqb x b (λ q. omega arith)) ∙ add-zero (old b)
        ∙ sym (ap₂ (λ (t r : Bool). cond t 1 (cond r (old b + 1) (old b))) (le-ltb x b (omega arith)) (ne_eqb x b (λ q. omega arith)))

pub least-last : (y x : ℕ) (ys : List ℕ) → min y (least ys x) ≡ min (least ys y) x
least-last y x [] = refl
least-last y x (z ∷ zs) = let e = least-last y x zs in omega arith

pub best_cons : (x : ℕ) (xs : List ℕ) → best_of (x ∷ xs) ≡ lesser (best_of xs) x
best_cons x [] = refl
best_cons x (y ∷ ys) = ap (λ (m : ℕ). Some m) (least-last y x ys)

pub least-of : (xs : List ℕ) → LeastOf (best_of xs) xs
least-of [] = λ a. refl
least-of (x ∷ xs) = subst (λ (o : Option ℕ). LeastOf o (x ∷ xs)) (sym (best_cons x xs)) (go (best_of xs) (least-of xs))
  where
    here : count_of x (x ∷ xs) ≡ 1 + count_of x xs
    here = count_by_cons (λ y. eqb y x) x xs ∙ ap (λ (b : Bool). cond b 1 0 + count_of x xs) (eq-eqb x x refl)

    there : (a : ℕ) → a < x → count_of a (x ∷ xs) ≡ count_of a xs
    there a h = count_by_cons (λ y. eqb y a) x xs ∙ ap (λ (b : Bool). cond b 1 0 + count_of a xs) (ne_eqb x a (λ e. omega arith)) ∙ omega arith

    more : (a : ℕ) → count_of a xs ≤ count_of a (x ∷ xs)
    more a = let e = count_by_cons (λ y. eqb y a) x xs in omega arith

    go : (o : Option ℕ) → LeastOf o xs → LeastOf (lesser o x) (x ∷ xs)
    go None h = (omega (arith, here), λ a l. there a l ∙ h a)
    go (Some b) h = (first (cases_order b x), λ a l. there a (omega arith) ∙ h.1 a (omega arith))
      where
        first : (b ≡ x) ⊎ ((b < x) ⊎ (x < b)) → 0 < count_of (min b x) (x ∷ xs)
        first (inl e) = subst (λ (m : ℕ). 0 < count_of m (x ∷ xs)) (let q : x ≡ min b x = omega arith in q) (omega (arith, here))
        first (inr (inl l)) = subst (λ (m : ℕ). 0 < count_of m (x ∷ xs)) (let q : b ≡ min b x = omega arith in q) (omega (arith, more b, h.0))
        first (inr (inr l)) = subst (λ (m : ℕ). 0 < count_of m (x ∷ xs)) (let q : x ≡ min b x = omega arith in q) (omega (arith, here))

pub low-counts : (o : Option ℕ) (xs : List ℕ) (count : ℕ → ℕ) → ((a : ℕ) → count_of a xs ≡ count a) → LeastOf o xs → Lowest o count
low-counts None xs count p k = λ a. sym (p a) ∙ k a
low-counts (Some b) xs count p k = (subst (λ (m : ℕ). 0 < m) (p b) k.0, λ a l. sym (p a) ∙ k.1 a l)

-- Lists with the same counts have the same least.
pub best-same : (xs ys : List ℕ) → ((a : ℕ) → count_of a xs ≡ count_of a ys) → best_of xs ≡ best_of ys
best-same xs ys e = go (best_of xs) (best_of ys) (least-of xs) (least-of ys)
  where
    go : (o p : Option ℕ) → LeastOf o xs → LeastOf p ys → o ≡ p
    go None None h k = refl
    go None (Some b) h k = absurd (omega (arith, e b, h b, k.0))
    go (Some b) None h k = absurd (omega (arith, e b, k b, h.0))
    go (Some b) (Some d) h k = ap (λ (m : ℕ). Some m) (at (cases_order b d))
      where
        at : (b ≡ d) ⊎ ((b < d) ⊎ (d < b)) → b ≡ d
        at (inl q) = q
        at (inr (inl l)) = absurd (omega (arith, h.0, e b, k.1 b l))
        at (inr (inr l)) = absurd (omega (arith, k.0, e d, h.1 d l))

-- A number x joins xs, or nothing does.
module _ (x : ℕ) (xs ys : List ℕ) where
  pub best_joining : (e : Bool) → ((a : ℕ) → count_of a ys ≡ count_of a xs + cond e 0 (cond (eqb x a) 1 0)) → best_of ys ≡ cond e (best_of xs) (lesser (best_of xs) x)
  best_joining true h = best-same ys xs (λ a. h a ∙ add-zero (count_of a xs))
  best_joining false h = best-same ys (x ∷ xs) (λ a. h a ∙ add_comm (count_of a xs) (cond (eqb x a) 1 0) ∙ sym (count_by_cons (λ y. eqb y a) x xs)) ∙ best_cons x xs

  pub count_joining : (old new : ℕ → ℕ) → ((a : ℕ) → count_of a xs ≡ old a) → ((a : ℕ) → count_of a ys ≡ new a) → (e : Bool) → ((a : ℕ) → new a ≡ old a + cond e 0 (cond (eqb x a) 1 0))
      → at_best (best_of ys) new ≡ cond e (at_best (best_of xs) old) (next_count (best_of xs) (at_best (best_of xs) old) x)
  count_joining old new p q true h = ap (λ (o : Option ℕ). at_best o new) (best_joining true (λ a. q a ∙ h a ∙ ap (λ (m : ℕ). m + 0) (sym (p a)))) ∙ go (best_of xs)
    where
      go : (o : Option ℕ) → at_best o new ≡ at_best o old
      go None = refl
      go (Some b) = h b ∙ add-zero (old b)
  count_joining old new p q false h = ap (λ (o : Option ℕ). at_best o new) (best_joining false (λ a. q a ∙ h a ∙ ap (λ (m : ℕ). m + cond (eqb x a) 1 0) (sym (p a)))) ∙ at_best_next (best_of xs) old new x (low-counts (best_of xs) xs old p (least-of xs)) h

-- The least of two lists is the least of the first, lessened by each number of the second.
pub best-append : (xs ys : List ℕ) → best_of (xs ++ ys) ≡ lesser_all (best_of xs) ys
best-append xs [] = ap best_of (append-nil xs)
best-append xs (y ∷ ys) = best-same (xs ++ (y ∷ ys)) ((y ∷ xs) ++ ys) moved ∙ best-append (y ∷ xs) ys ∙ ap (λ (o : Option ℕ). lesser_all o ys) (best_cons y xs)
  where
    moved : (a : ℕ) → count_of a (xs ++ (y ∷ ys)) ≡ count_of a ((y ∷ xs) ++ ys)
    moved a = omega (arith, sum_by-append (λ x. cond (eqb x a) 1 0) xs (y ∷ ys), count_by_cons (λ x. eqb x a) y ys, count_by_cons (λ x. eqb x a) y (xs ++ ys), sum_by-append (λ x. cond (eqb x a) 1 0) xs ys)

-- The count at the new best: those counted at the old best, if that is still the best, and the new ones.
pub at_best-more : (c : LinearCode) (o p : Option ℕ) (old more new : ℕ → ℕ) → Lowest o old → Lowest p new → ((a : ℕ) → new a ≡ old a + more a) → at_best p new ≡ cond (unchanged c o p) (at_best o old) 0 + at_best p more
at_best-more c None None old more new h k e = refl
at_best-more c (Some b) None old more new h k e = refl
at_best-more c None (Some d) old more new h k e = omega (arith, e d, h d)
at_best-more c (Some b) (Some d) old more new h k e = go (eqb b d) refl
  where
    go : (t : Bool) → eqb b d ≡ t → new d ≡ cond t (old b) 0 + more d
    go true t = e d ∙ ap (λ (a : ℕ). old a + more d) (sym (eqb-true b d t))
    go false t = e d ∙ ap (λ (m : ℕ). m + more d) (none (cases_order b d))
      where
        none : (b ≡ d) ⊎ ((b < d) ⊎ (d < b)) → old d ≡ 0
        none (inl q) = absurd (eqb-false b d t q)
        none (inr (inl l)) = absurd (omega (arith, h.0, e b, k.1 b l))
        none (inr (inr l)) = h.1 d l
