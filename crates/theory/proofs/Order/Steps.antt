-- The step from a choice to the next, as a scan from the lowest row.
use Rattle.std.proofs.Common.{◌≡◌, ℕ, zero, suc, ◌+◌, ◌-◌, ◌<◌, ◌≤◌, Bool, true, false, List, [], ◌∷◌, ◌++◌, length, get_or, take, drop, set, sym, refl, ap, ◌∙◌, subst, append_assoc, add-zero, add-one, arith, length-drop}
use lib.Seq.{split_at}
use Rattle.std.specs.List.{range_with_len}
use Rattle.std.proofs.lemmas.List.FromFn.{length-range_with_len}
use Rattle.std.proofs.lemmas.List.{get_or-drop, take_more, length-take-le}
use Rattle.theory.specs.Visits.{choices, Rising}
use Rattle.theory.proofs.Lists.Cuts.{set_two}
use Rattle.theory.proofs.Lists.Countings.{counting_push}
use Rattle.theory.proofs.Order.Choices.{push}
use Rattle.theory.proofs.Order.Rising.{rising_below, rising_take, rising_drop, rising_full, rising_above}
use Rattle.theory.proofs.Lists.Neighbours.{Follows}
use Rattle.theory.proofs.Order.Ends.{final, final_full}
use Rattle.theory.proofs.Order.Doors.{even, Beside, door}

module _ (c : List ℕ) where
  -- Row p goes up by one, and the row below it takes its old place.
  abbrev pub raised : ℕ → List ℕ
  raised p = set (set c (p - 1) (get_or c p 0)) p (get_or c p 0 + 1)

  -- Row p goes down by one, and the row below it goes to p - 1.
  abbrev pub lowered : ℕ → List ℕ
  lowered p = set (set c (p - 1) (p - 1)) p (get_or c p 0 - 1)

-- The rows below place p are the lowest, since the top one of them is.
pub low : (k : ℕ) (c : List ℕ) (p : ℕ) → Rising 0 k c → p ≤ length c → (0 < p → get_or c (p - 1) 0 ≤ p - 1) → take p c ≡ range_with_len 0 p
low k c zero h l f = refl
low k c (suc r) h l f =
    let b = rising_below 0 k c r h l in
    let i : suc r - 1 ≡ r = omega arith in
    let v : get_or c (suc r - 1) 0 ≤ suc r - 1 = f (omega arith) in
    let e : get_or c r 0 ≡ 0 + r = omega (arith, b.0, subst (λ j. get_or c j 0 ≤ j) i v) in
    let front : take r c ≡ range_with_len 0 r = rising_full 0 r (take r c) (length-take-le r c (omega arith)) (subst (λ x. Rising 0 x (take r c)) e (rising_take 0 k c r h l)) in
    ap (λ j. take j c) (sym (add-one r)) ∙ take_more c r 0 l ∙ ap (λ u. u ++ (get_or c r 0 ∷ [])) front ∙ ap (λ x. range_with_len 0 r ++ (x ∷ [])) e ∙ sym (counting_push 0 r)

set_final : (z p v a b : ℕ) (hi : List ℕ) → set (set (final z p ++ (v ∷ hi)) (p - 1) a) p b ≡ final (suc a) p ++ (b ∷ hi)
set_final z zero v a b hi = refl
set_final z (suc r) v a b hi =
    let i : suc r - 1 ≡ r = omega arith in
    let j : a ≡ suc a - 1 = omega arith in
    rw (append_assoc (range_with_len 0 r) ((z - 1) ∷ []) (v ∷ hi), append_assoc (range_with_len 0 r) ((suc a - 1) ∷ []) (b ∷ hi), i) (set_two (range_with_len 0 r) hi (z - 1) v a b r (length-range_with_len 0 r) ∙ ap (λ x. range_with_len 0 r ++ (x ∷ b ∷ hi)) j)

lowest : (p : ℕ) → final (suc (p - 1)) p ≡ range_with_len 0 p
lowest zero = refl
lowest (suc r) = let e : suc (suc r - 1) ≡ suc r = omega arith in ap (λ x. final x (suc r)) e ∙ final_full (suc r)

module _ (k : ℕ) (c : List ℕ) (h : Rising 0 k c) (p : ℕ) (l : p < length c) where
  abbrev hi : List ℕ
  hi = drop (suc p) c

  length_hi : length hi ≡ length c - suc p
  length_hi = length-drop (suc p) c

  -- c by its place p.
  split : (front : List ℕ) → take p c ≡ front → c ≡ front ++ (get_or c p 0 ∷ hi)
  split front f = split_at c p 0 l ∙ ap (λ u. u ++ (get_or c p 0 ∷ drop (suc p) c)) f

  turned : (b : Bool) → even (length c - suc p) ≡ b → (x : ℕ) → suc p ≤ x → Rising (suc x) k hi → Beside b (choices k (length c)) (final x (suc p) ++ hi) (push x (final x p) ++ hi)
  turned b e x m g = subst (λ d. Beside d (choices k (length c)) (final x (suc p) ++ hi) (push x (final x p) ++ hi)) (ap even length_hi ∙ e) (door k x p (length c) hi m g (omega (arith, length_hi)))

  -- Row p goes up where it can and the rows below it are the lowest.
  pub step_up : even (length c - suc p) ≡ true → take p c ≡ range_with_len 0 p → get_or c p 0 + 1 < get_or c (suc p) k → Follows (choices k (length c)) c (raised c p)
  step_up e f u = subst (λ d. Follows (choices k (length c)) d (raised c p)) (sym is) (subst (Follows (choices k (length c)) (final (suc v) (suc p) ++ hi)) (sym becomes) (turned true e (suc v) (omega (arith, rising_below 0 k c p h l)) above))
    where
      v : ℕ
      v = get_or c p 0

      is : c ≡ final (suc v) (suc p) ++ hi
      is = let j : v ≡ suc v - 1 = omega arith in split (range_with_len 0 p) f ∙ ap (λ x. range_with_len 0 p ++ (x ∷ hi)) j ∙ sym (append_assoc (range_with_len 0 p) ((suc v - 1) ∷ []) hi)

      becomes : raised c p ≡ push (suc v) (final (suc v) p) ++ hi
      becomes = ap (λ d. set (set d (p - 1) v) p (v + 1)) (split (final p p) (f ∙ sym (final_full p))) ∙ set_final p p v v (v + 1) hi ∙ ap (λ x. final (suc v) p ++ (x ∷ hi)) (add-one v) ∙ sym (append_assoc (final (suc v) p) (suc v ∷ []) hi)

      above : Rising (suc (suc v)) k hi
      above = rising_above (suc v) (suc (suc v)) k (drop (suc p) c) (rising_drop 0 k c p h l) (rw (get_or-drop (suc p) c 0 k, add-zero (suc p)) (omega arith))

  -- Row p goes down where it can and the rows below it are the last choice below it.
  pub step_down : even (length c - suc p) ≡ false → take p c ≡ final (get_or c p 0) p → p < get_or c p 0 → Follows (choices k (length c)) c (lowered c p)
  step_down e f u = subst (λ d. Follows (choices k (length c)) d (lowered c p)) (sym is) (subst (Follows (choices k (length c)) (push v (final v p) ++ hi)) (sym becomes) (turned false e v u above))
    where
      v : ℕ
      v = get_or c p 0

      is : c ≡ push v (final v p) ++ hi
      is = split (final v p) f ∙ sym (append_assoc (final v p) (v ∷ []) hi)

      becomes : lowered c p ≡ final v (suc p) ++ hi
      becomes = ap (λ d. set (set d (p - 1) (p - 1)) p (v - 1)) (split (final v p) f) ∙ set_final v p v (p - 1) (v - 1) hi ∙ ap (λ u. u ++ ((v - 1) ∷ hi)) (lowest p) ∙ sym (append_assoc (range_with_len 0 p) ((v - 1) ∷ []) hi)

      above : Rising (suc v) k hi
      above = rising_drop 0 k c p h l
