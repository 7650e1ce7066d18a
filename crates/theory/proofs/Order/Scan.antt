-- The next choice: the lowest row that is not at its end takes a step, and after the last choice every row is at its end.
use Rattle.std.proofs.Common.{◌≡◌, ℕ, zero, suc, ◌+◌, ◌-◌, ◌<◌, ◌≤◌, true, false, not, List, [], ◌∷◌, ◌++◌, length, get_or, take, MatchBool, sym, refl, ap, ◌∙◌, subst, add-one, arith}
use Rattle.std.specs.List.{range_with_len}
use Rattle.std.proofs.lemmas.List.{take_more, take_all, get_or_default, get_or_past, nil_from_length}
use Rattle.theory.specs.Visits.{choices, Rising}
use Rattle.theory.proofs.Order.Rising.{rising_below, rising_places, rising_length}
use Rattle.theory.proofs.Lists.Neighbours.{Follows, Last}
use Rattle.theory.proofs.Order.Ends.{final, last-choices}
use Rattle.theory.proofs.Order.Doors.{even}
use Rattle.theory.proofs.Order.Steps.{raised, lowered, low, step_up, step_down}

-- Row i is at its end: in a choice of t rows it goes up if t - i is odd, to the row above it or k, and else down to i.
abbrev pub Blocked : ℕ → List ℕ → ℕ → Type 0
Blocked k c i = MatchBool (even (length c - suc i)) (get_or c (suc i) k ≤ get_or c i 0 + 1) (get_or c i 0 ≤ i)

-- The directions of neighbouring rows differ.
pub even_turn : (t p : ℕ) → suc p < t → even (t - suc p) ≡ not (even (t - suc (suc p)))
even_turn t p l = let e : t - suc p ≡ suc (t - suc (suc p)) = omega arith in ap even e

module _ (k : ℕ) (c : List ℕ) (h : Rising 0 k c) where
  blocked_up : (i : ℕ) → even (length c - suc i) ≡ true → Blocked k c i → get_or c (suc i) k ≤ get_or c i 0 + 1
  blocked_up i e b = subst (λ d. MatchBool d (get_or c (suc i) k ≤ get_or c i 0 + 1) (get_or c i 0 ≤ i)) e b

  blocked_down : (i : ℕ) → even (length c - suc i) ≡ false → Blocked k c i → get_or c i 0 ≤ i
  blocked_down i e b = subst (λ d. MatchBool d (get_or c (suc i) k ≤ get_or c i 0 + 1) (get_or c i 0 ≤ i)) e b

  -- Below a row that goes up, rows at their ends are the lowest.
  lows : (p : ℕ) → p < length c → even (length c - suc p) ≡ true → ((i : ℕ) → i < p → Blocked k c i) → take p c ≡ range_with_len 0 p
  lows zero l e b = refl
  lows (suc r) l e b =
      let i : suc r - 1 ≡ r = omega arith in
      low k c (suc r) h (omega arith) (λ _. subst (λ j. get_or c j 0 ≤ j) (sym i) (blocked_down r (even_turn (length c) r l ∙ ap not e) (b r (omega arith))))

  -- Below a row that goes down, they are the last choice below it.
  lasts : (p : ℕ) → p < length c → even (length c - suc p) ≡ false → ((i : ℕ) → i < p → Blocked k c i) → take p c ≡ final (get_or c p 0) p
  lasts zero l e b = refl
  lasts (suc r) l e b =
      let f : even (length c - suc r) ≡ true = even_turn (length c) r l ∙ ap not e in
      let u : get_or c (suc r) k ≤ get_or c r 0 + 1 = blocked_up r f (b r (omega arith)) in
      let v : get_or c r 0 ≡ get_or c (suc r) 0 - 1 = omega (arith, get_or_default c (suc r) k 0 l, rising_places 0 k c r (suc r) h (omega arith) l) in
      ap (λ j. take j c) (sym (add-one r)) ∙ take_more c r 0 (omega arith) ∙ ap (λ d. d ++ (get_or c r 0 ∷ [])) (lows r (omega arith) f (λ i m. b i (omega arith))) ∙ ap (λ x. range_with_len 0 r ++ (x ∷ [])) v

  module _ (p : ℕ) (l : p < length c) (b : (i : ℕ) → i < p → Blocked k c i) where
    pub next_up : even (length c - suc p) ≡ true → get_or c p 0 + 1 < get_or c (suc p) k → Follows (choices k (length c)) c (raised c p)
    next_up e u = step_up k c h p l e (lows p l e b) u

    pub next_down : even (length c - suc p) ≡ false → p < get_or c p 0 → Follows (choices k (length c)) c (lowered c p)
    next_down e u = step_down k c h p l e (lasts p l e b) u

  pub next_none : ((i : ℕ) → i < length c → Blocked k c i) → Last (choices k (length c)) c
  next_none b = subst (Last (choices k (length c))) (sym (is (length c) refl)) (last-choices k (length c) (omega (arith, rising_length 0 k c h)))
    where
      is : (t : ℕ) → length c ≡ t → c ≡ final k t
      is zero n = nil_from_length c n
      is (suc r) n =
          let e : even (length c - suc r) ≡ true = let z : length c - suc r ≡ 0 = omega arith in ap even z in
          let l : r < length c = omega arith in
          let u : get_or c (suc r) k ≤ get_or c r 0 + 1 = blocked_up r e (b r l) in
          let v : get_or c r 0 ≡ k - 1 = omega (arith, get_or_past c (suc r) k (omega arith), rising_below 0 k c r h l) in
          sym (take_all (r + 1) c (omega arith)) ∙ take_more c r 0 l ∙ ap (λ d. d ++ (get_or c r 0 ∷ [])) (lows r l e (λ i m. b i (omega arith))) ∙ ap (λ x. range_with_len 0 r ++ (x ∷ [])) v
