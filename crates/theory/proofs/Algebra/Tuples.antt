-- The list of all tuples of k codes below q: which, how many, each once.
use Rattle.std.proofs.Common.{◌≡◌, ℕ, zero, suc, ◌*◌, ◌^◌, List, ◌∷◌, map, length, sym, refl, ap, ◌∙◌, subst, inl, inr, arith}
use native.Mathlib.Nat.{pow-zero, pow-succ'}
use lib.ListN.{length-map}
use Rattle.std.specs.List.{range_with_len}
use Rattle.std.proofs.lemmas.List.FromFn.{length-range_with_len}
use Rattle.theory.specs.Codes.{tuples}
use Rattle.theory.proofs.Lists.Listed.{more, none}
use Rattle.theory.proofs.Lists.Members.{In, in_map, of_map, in-joined, of-joined, in_counting, of_counting}
use Rattle.theory.proofs.Lists.Distinct.{Distinct, distinct-map, distinct-joined, distinct_counting}
use Rattle.theory.proofs.Lists.Blocks.{length-joined}
use Rattle.theory.proofs.Algebra.Words.{Word}

pub in-tuples : {q k : ℕ} {t : List ℕ} → Word q k t → In t (tuples q k)
in-tuples none = inl refl
in-tuples {q} (more {n = k} {x = c} {xs = t} h w) = in-joined (λ c. map (λ t. c ∷ t) (tuples q k)) c (c ∷ t) (range_with_len 0 q) (in_counting c 0 q (omega arith) (omega arith)) (in_map (λ t. c ∷ t) t (tuples q k) (in-tuples w))

pub of-tuples : (q k : ℕ) {t : List ℕ} → In t (tuples q k) → Word q k t
of-tuples q zero (inl e) = subst (Word q 0) e none
of-tuples q zero (inr m) = absurd m
of-tuples q (suc k) {t} m =
    let r = of-joined (λ c. map (λ t. c ∷ t) (tuples q k)) t (range_with_len 0 q) m in
    let s = of_map (λ t. r.0 ∷ t) t (tuples q k) r.2 in
    subst (Word q (suc k)) s.2 (more (omega (arith, of_counting r.0 0 q r.1)) (of-tuples q k s.1))

pub length-tuples : (q k : ℕ) → length (tuples q k) ≡ q ^ k
length-tuples q zero = sym (pow-zero q)
length-tuples q (suc k) =
    length-joined (λ c. map (λ t. c ∷ t) (tuples q k)) (q ^ k) (range_with_len 0 q) (λ c m. length-map (tuples q k) (λ t. c ∷ t) ∙ length-tuples q k)
    ∙ ap (λ n. n * q ^ k) (length-range_with_len 0 q) ∙ sym (pow-succ' q k)

pub distinct-tuples : (q k : ℕ) → Distinct (tuples q k)
distinct-tuples q zero = (λ m. m, tt)
distinct-tuples q (suc k) =
    distinct-joined (λ c. map (λ t. c ∷ t) (tuples q k)) (range_with_len 0 q) (distinct_counting 0 q)
    (λ c i. distinct-map (λ t. c ∷ t) (tuples q k) (distinct-tuples q k) (λ a b m n e. cc))
    (λ c d y i j m n. let r = of_map (λ t. c ∷ t) y (tuples q k) m in let s = of_map (λ t. d ∷ t) y (tuples q k) n in let e : (c ∷ r.0) ≡ (d ∷ s.0) = r.2 ∙ sym s.2 in cc)
