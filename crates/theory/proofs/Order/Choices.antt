-- The choices of t rows out of k: how many, which, each once.
use Rattle.std.proofs.Common.{◌≡◌, ℕ, zero, suc, ◌<◌, List, [], ◌∷◌, ◌++◌, map, reverse, length, get_or, sym, refl, ap, subst, inl, inr, ⊎_elim, arith, length-append}
use lib.ListN.{length-map, length-reverse}
use Rattle.std.proofs.lemmas.List.{append_cancel_right, length_push, nil_from_length}
use Rattle.theory.specs.Visits.{choices, Rising, binomial}
use Rattle.theory.proofs.Lists.Members.{In, in-get_or, of-append, in_append_left, in_append_right, of_reverse, in-reverse, in_map, of_map}
use Rattle.theory.proofs.Lists.Distinct.{Distinct, distinct_append, distinct-map, distinct-reverse}
use Rattle.theory.proofs.Order.Rising.{rising_wider, rising_push, rising_top, rising_le, rising_not-top}

abbrev pub push : ℕ → List ℕ → List ℕ
push k c = c ++ (k ∷ [])

pub length-choices : (k t : ℕ) → length (choices k t) ≡ binomial k t
length-choices zero zero = refl
length-choices (suc k) zero = refl
length-choices zero (suc t) = refl
length-choices (suc k) (suc t) = rw (length-append (choices k (suc t)) (map (push k) (reverse (choices k t))), length-map (reverse (choices k t)) (push k), length-reverse (choices k t)) (omega (arith, length-choices k (suc t), length-choices k t))

pub of-choices : (k t : ℕ) (c : List ℕ) → In c (choices k t) → (length c ≡ t) × Rising 0 k c
of-choices zero zero c (inl e) = subst (λ b. (length b ≡ 0) × Rising 0 0 b) e (refl, omega arith)
of-choices zero zero c (inr m) = absurd m
of-choices (suc k) zero c (inl e) = subst (λ b. (length b ≡ 0) × Rising 0 (suc k) b) e (refl, omega arith)
of-choices (suc k) zero c (inr m) = absurd m
of-choices zero (suc t) c m = absurd m
of-choices (suc k) (suc t) c m = ⊎_elim (λ l. let h = of-choices k (suc t) c l in (h.0, rising_wider 0 k (suc k) c (omega arith) h.1)) (λ r. top (of-choices k t) (of_map (push k) c (reverse (choices k t)) r)) (of-append c (choices k (suc t)) (map (push k) (reverse (choices k t))) m)
  where
    top : ((b : List ℕ) → In b (choices k t) → (length b ≡ t) × Rising 0 k b) → ((b : List ℕ) × In b (reverse (choices k t)) × (push k b ≡ c)) → (length c ≡ suc t) × Rising 0 (suc k) c
    top in-choices-below r =
        let h = in-choices-below r.0 (of_reverse r.0 (choices k t) r.1) in
        subst (λ b. (length b ≡ suc t) × Rising 0 (suc k) b) r.2 (omega (arith, length_push r.0 k, h.0), rising_push 0 k r.0 h.1)

pub in-choices : (k t : ℕ) (c : List ℕ) → length c ≡ t → Rising 0 k c → In c (choices k t)
in-choices zero zero c e h = inl (sym (nil_from_length c e))
in-choices (suc k) zero c e h = inl (sym (nil_from_length c e))
in-choices zero (suc t) [] e h = absurd (omega arith)
in-choices zero (suc t) (x ∷ c) e h = absurd (omega (arith, rising_le (suc x) 0 c h.1))
in-choices (suc k) (suc t) c e h = ⊎_elim (λ g. in_append_left c (choices k (suc t)) (map (push k) (reverse (choices k t))) (in-choices k (suc t) c e g)) (λ r. in_append_right c (choices k (suc t)) (map (push k) (reverse (choices k t))) (subst (λ b. In b (map (push k) (reverse (choices k t)))) (sym r.1) (in_map (push k) r.0 (reverse (choices k t)) (in-reverse r.0 (choices k t) (in-choices k t r.0 (omega (arith, e, ap length r.1, length_push r.0 k)) r.2))))) (rising_top 0 k c (omega arith) h)

pub distinct-choices : (k t : ℕ) → Distinct (choices k t)
distinct-choices zero zero = (λ n. n, tt)
distinct-choices (suc k) zero = (λ n. n, tt)
distinct-choices zero (suc t) = tt
distinct-choices (suc k) (suc t) = distinct_append (choices k (suc t)) (map (push k) (reverse (choices k t))) (distinct-choices k (suc t)) (distinct-map (push k) (reverse (choices k t)) (distinct-reverse (choices k t) (distinct-choices k t)) (λ b c _ _. append_cancel_right b c (k ∷ []))) fresh
  where
    fresh : (c : List ℕ) → In c (choices k (suc t)) → In c (map (push k) (reverse (choices k t))) → ⊥
    fresh c m n = let r = of_map (push k) c (reverse (choices k t)) n in rising_not-top 0 k r.0 (subst (Rising 0 k) (sym r.2) (of-choices k (suc t) c m).1)

pub binomial-none : (k t : ℕ) → k < t → binomial k t ≡ 0
binomial-none k zero l = absurd (omega arith)
binomial-none zero (suc t) l = refl
binomial-none (suc k) (suc t) l = omega (arith, binomial-none k (suc t) (omega arith), binomial-none k t (omega arith))

module _ (k t : ℕ) where
  pub choices-at : (i : ℕ) → i < length (choices k t) → (length (get_or (choices k t) i []) ≡ t) × Rising 0 k (get_or (choices k t) i [])
  choices-at i l = of-choices k t (get_or (choices k t) i []) (in-get_or (choices k t) i [] l)
