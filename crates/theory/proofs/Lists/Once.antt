-- Counts of one: in what places, and lists that hold exactly the words of a kind, each once.
use Rattle.std.proofs.Common.{◌≡◌, ℕ, zero, suc, ◌+◌, ◌<◌, ◌≤◌, Bool, true, false, cond, ◌&&◌, List, [], ◌∷◌, length, get_or, sum_by, count_by, sym, refl, ap, ◌∙◌, ap₂, arith}
use native.Mathlib.Nat.{suc_inj}
use Rattle.std.specs.List.{AllByRecursion}
use Rattle.std.proofs.ByRecursion.{All-weaker}
use Rattle.std.proofs.lemmas.Bool.{both_ways}
use Rattle.theory.specs.Codes.{same, any, Exactly}
use Rattle.theory.proofs.Lists.Members.{In, place_of}
use Rattle.theory.proofs.Lists.Distinct.{Distinct, distinct_places}
use Rattle.theory.proofs.Lists.Tests.{decides_same, same-sym}
use Rattle.theory.proofs.Lists.Sums.{sum_by-same, sum_by_ext, sum_by-zero, sum_by-swap}
use Rattle.theory.proofs.Lists.Counts.{count_by_cons, any-count}

module _ {X : Type 0} (p : X → Bool) (d : X) where
  -- The first place passes, or it does not, and the count is that of the rest and one, or of the rest.
  count_yes : (x : X) (xs : List X) → p x ≡ true → count_by p (x ∷ xs) ≡ suc (count_by p xs)
  count_yes x xs t = count_by_cons p x xs ∙ ap (λ (b : Bool). cond b 1 0 + count_by p xs) t ∙ omega arith

  count_no : (x : X) (xs : List X) → p x ≡ false → count_by p (x ∷ xs) ≡ count_by p xs
  count_no x xs t = count_by_cons p x xs ∙ ap (λ (b : Bool). cond b 1 0 + count_by p xs) t ∙ omega arith

  pub no_place : (xs : List X) → count_by p xs ≡ 0 → (k : ℕ) → k < length xs → p (get_or xs k d) ≡ true → ⊥
  no_place [] z k h t = omega arith
  no_place (x ∷ xs) z zero h t = omega (arith, count_yes x xs t)
  no_place (x ∷ xs) z (suc k) h t = no_place xs (let e = count_by_cons p x xs in omega arith) k (omega arith) t

  pub count_none : (xs : List X) → ((k : ℕ) → k < length xs → p (get_or xs k d) ≡ true → ⊥) → count_by p xs ≡ 0
  count_none [] h = refl
  count_none (x ∷ xs) h = go (p x) refl (count_none xs (λ k l t. h (suc k) (omega arith) t))
    where
      go : (b : Bool) → p x ≡ b → count_by p xs ≡ 0 → count_by p (x ∷ xs) ≡ 0
      go true e z = absurd (h 0 (omega arith) e)
      go false e z = count_no x xs e ∙ z

  abbrev pub Place : List X → ℕ → Type 0
  Place xs i = (i < length xs) × (p (get_or xs i d) ≡ true) × ((k : ℕ) → k < length xs → p (get_or xs k d) ≡ true → k ≡ i)

  -- What passes exactly once passes at exactly one place, and the other way round.
  pub one_place : (xs : List X) → count_by p xs ≡ 1 → (i : ℕ) × Place xs i
  one_place [] e = absurd (omega arith)
  one_place (x ∷ xs) e = go (p x) refl (one_place xs)
    where
      here : p x ≡ true → (k : ℕ) → k < suc (length xs) → p (get_or (x ∷ xs) k d) ≡ true → k ≡ 0
      here t zero h r = refl
      here t (suc k) h r = absurd (no_place xs (omega (arith, count_yes x xs t)) k (omega arith) r)

      there : p x ≡ false → (i : ℕ) → ((k : ℕ) → k < length xs → p (get_or xs k d) ≡ true → k ≡ i) → (k : ℕ) → k < suc (length xs) → p (get_or (x ∷ xs) k d) ≡ true → k ≡ suc i
      there t i u zero h r = absurd (both_ways (p x) t r)
      there t i u (suc k) h r = ap suc (u k (omega arith) r)

      go : (b : Bool) → p x ≡ b → (count_by p xs ≡ 1 → (i : ℕ) × Place xs i) → (i : ℕ) × Place (x ∷ xs) i
      go true t r = (0, (omega arith, t, here t))
      go false t r = let w : (i : ℕ) × Place xs i = r (sym (count_no x xs t) ∙ e) in (suc w.0, (omega (arith, w.1.0), w.1.1, there t w.0 w.1.2))

  pub count_one : (xs : List X) (i : ℕ) → Place xs i → count_by p xs ≡ 1
  count_one [] i h = absurd (omega (arith, h.0))
  count_one (x ∷ xs) zero h = count_yes x xs h.1 ∙ ap suc (count_none xs (λ k l t. let e = h.2 (suc k) (omega arith) t in omega arith))
  count_one (x ∷ xs) (suc i) h = go (p x) refl (count_one xs i (omega (arith, h.0), h.1, λ k l t. suc_inj (h.2 (suc k) (omega arith) t)))
    where
      go : (b : Bool) → p x ≡ b → count_by p xs ≡ 1 → count_by p (x ∷ xs) ≡ 1
      go true t e = let z = h.2 0 (omega arith) t in absurd (omega arith)
      go false t e = count_no x xs t ∙ e

-- What stands in a list without duplicates stands there once.
pub distinct-once : (xs : List (List ℕ)) → Distinct xs → (x : List ℕ) → In x xs → count_by (same x) xs ≡ 1
distinct-once xs d x m =
    let r = place_of x xs [] m in
    count_one (same x) [] xs r.0 (r.1, (decides_same x (get_or xs r.0 [])).1 (sym r.2), λ k l t. distinct_places xs d k r.0 [] l r.1 (sym ((decides_same x (get_or xs k [])).0 t) ∙ sym r.2))

pub exactly_from : (P : List ℕ → Type 0) (xs : List (List ℕ)) → Distinct xs → AllByRecursion P xs → ((x : List ℕ) → P x → In x xs) → Exactly P xs
exactly_from P xs d all each = record { only = all; once = λ x h. distinct-once xs d x (each x h) }

abbrev pub both : Bool → Bool → ℕ
both a b = cond a (cond b 1 0) 0

-- The test and the list may change places: only equal words meet.
same_moves : (p : List ℕ → Bool) (u x : List ℕ) → both (p u) (same u x) ≡ both (p x) (same x u)
same_moves p u x = go (same u x) refl
  where
    go : (b : Bool) → same u x ≡ b → both (p u) (same u x) ≡ both (p x) (same x u)
    go true t = let e : u ≡ x = (decides_same u x).0 t in ap₂ (λ (v y : List ℕ). both (p v) (same v y)) e (sym e)
    go false t = ap (λ (b : Bool). both (p u) b) t ∙ none (p u) ∙ sym (none (p x)) ∙ ap (λ (b : Bool). both (p x) b) (sym t ∙ same-sym u x)
      where
        none : (b : Bool) → both b false ≡ 0
        none true = refl
        none false = refl

-- Among words ys that hold each of xs once, those that stand in xs are counted in xs, where no word stands twice in xs.
pub count_by-listed : (p : List ℕ → Bool) (xs ys : List (List ℕ)) → AllByRecursion (λ x. count_by (same x) ys ≡ 1) xs → ((u : List ℕ) → count_by (same u) xs ≤ 1) → count_by (λ u. p u && any (same u) xs) ys ≡ count_by p xs
count_by-listed p xs ys each apart =
    sum_by_ext (λ u. cond (p u && any (same u) xs) 1 0) (λ u. sum_by (λ x. both (p x) (same x u)) xs) (λ u. at u (p u) ∙ sum_by_ext _ _ (same_moves p u) xs) ys
    ∙ sum_by-swap (λ u x. both (p x) (same x u)) ys xs
    ∙ sum_by-same _ _ xs (All-weaker _ _ (λ x h. once x h (p x)) xs each)
  where
    at : (u : List ℕ) (b : Bool) → cond (b && any (same u) xs) 1 0 ≡ sum_by (λ x. both b (same u x)) xs
    at u true = any-count (same u) xs (apart u)
    at u false = sym (sum_by-zero xs)

    once : (x : List ℕ) → count_by (same x) ys ≡ 1 → (b : Bool) → sum_by (λ u. both b (same x u)) ys ≡ cond b 1 0
    once x h true = h
    once x h false = sum_by-zero ys
