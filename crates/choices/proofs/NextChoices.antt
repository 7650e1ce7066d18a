-- The lowest row that is not at its end takes the step to the next choice; where all are, the choice is the last.
use Rattle.std.proofs.Common.{◌≡◌, ℕ, zero, suc, ◌+◌, ◌-◌, ◌%◌, ◌<◌, ◌≤◌, Bool, true, false, cond, not, ◌&&◌, eqb, leb, List, ◌∷◌, length, get_or, take, MatchBool, sym, refl, ap, ◌∙◌, subst, ⊎_elim, add-one, arith}
use mathlib.Core.Bool.{and-true, and-false}
use Rattle.std.specs.List.{range_with_len}
use Rattle.std.proofs.lemmas.Bool.{cases_Bool, cases_eq, leb-true, leb-false, cond-true, cond-false, eq-eqb, ne_eqb}
use Rattle.std.proofs.lemmas.Bool.Decides.{same_from_decides, Decides-like}
use Rattle.theory.specs.Forms.{among}
use Rattle.theory.specs.Visits.{choices, Rising}
use Rattle.theory.proofs.Lists.Members.{In}
use Rattle.theory.proofs.Lists.Tests.{among_in}
use Rattle.theory.proofs.Lists.Neighbours.{Follows}
use Rattle.theory.proofs.Order.Choices.{of-choices, distinct-choices, length-choices}
use Rattle.theory.proofs.Order.Exactly.{choices_are}
use Rattle.theory.proofs.Order.Exchange.{Swapped, swapped}
use Rattle.theory.proofs.Order.Ends.{first-choices}
use Rattle.theory.proofs.Order.Doors.{even, even_mod}
use Rattle.theory.proofs.Order.Rising.{rising_below}
use Rattle.theory.proofs.Order.Scan.{Blocked, next_up, next_down, next_none}
use Rattle.choices.specs.Places.{StandsAt, listed, Steps}
use Rattle.choices.specs.Moves.{goes_up, at_end, AllAtEnd, FirstMovable, raised, lowered}
use Rattle.choices.specs.Choosing.{AllChoices, OneExchanged}
use Rattle.choices.proofs.Places.{stands_in, first_stands, next_stands, last_stands, stands_follows, listed_in, listed_stands}

not-among : (x : ℕ) (c : List ℕ) → (In x c → ⊥) → among x c ≡ false
not-among x c apart = ⊎_elim (λ e. absurd (apart ((among_in x c).0 e))) (λ e. e) (cases_Bool (among x c))

rows-after : (c d : List ℕ) (out come : ℕ) → Swapped c d out come → (x : ℕ) → among x d ≡ cond (eqb x come) true (among x c && not (eqb x out))
rows-after c d out come w x = ⊎_elim comes (λ n. ⊎_elim (leaves n) (stays n) (cases_eq x out)) (cases_eq x come)
  where
    comes : x ≡ come → among x d ≡ cond (eqb x come) true (among x c && not (eqb x out))
    comes e = rw (eq-eqb x come e) ((among_in x d).1 (subst (λ y. In y d) (sym e) w.has))

    leaves : (x ≡ come → ⊥) → x ≡ out → among x d ≡ cond (eqb x come) true (among x c && not (eqb x out))
    leaves n e = rw (ne_eqb x come n, eq-eqb x out e) (not-among x d (λ m. w.left (subst (λ y. In y d) e m)) ∙ sym (and-false (among x c)))

    stays : (x ≡ come → ⊥) → (x ≡ out → ⊥) → among x d ≡ cond (eqb x come) true (among x c && not (eqb x out))
    stays n m = rw (ne_eqb x come n, ne_eqb x out m) (same_from_decides (among x d) (among x c) (among_in x d) (Decides-like (among x c) (λ i. w.stays x i m) (λ i. w.stayed x i n) (among_in x c)) ∙ sym (and-true (among x c)))

-- From a choice to the next one row leaves and one comes.
pub steps_exchange : (k t : ℕ) (c d : List ℕ) → listed (choices k t) c ≡ true → Steps (choices k t) true c d → OneExchanged c d
steps_exchange k t c d h f =
    let s = listed_stands (choices k t) c h in
    let w = swapped k t c d (stands_follows (choices k t) c d s.0 s.1 (f s.0 s.1)) in
    (w.0, w.1, (among_in w.0 c).1 w.2.had, not-among w.1 c w.2.came, rows-after c d w.0 w.1 w.2)

module _ (k : ℕ) (c : List ℕ) where
  parity : (i : ℕ) → even (length c - suc i) ≡ goes_up c i
  parity i = even_mod (length c - suc i) ∙ ap (λ j. eqb ((length c - j) % 2) 0) (sym (add-one i))

  abbrev up_end : ℕ → Bool
  up_end i = leb (get_or c (i + 1) k) (get_or c i 0 + 1)

  abbrev down_end : ℕ → Bool
  down_end i = leb (get_or c i 0) i

  blocked : (i : ℕ) → at_end k c i ≡ true → Blocked k c i
  blocked i h = ⊎_elim up down (cases_Bool (goes_up c i))
    where
      up : goes_up c i ≡ true → Blocked k c i
      up e =
          let m = leb-true (get_or c (i + 1) k) (get_or c i 0 + 1) (sym (cond-true (goes_up c i) (up_end i) (down_end i) e) ∙ h) in
          subst (λ b. MatchBool b (get_or c (suc i) k ≤ get_or c i 0 + 1) (get_or c i 0 ≤ i)) (sym (parity i ∙ e)) (subst (λ j. get_or c j k ≤ get_or c i 0 + 1) (add-one i) m)

      down : goes_up c i ≡ false → Blocked k c i
      down e =
          let m = leb-true (get_or c i 0) i (sym (cond-false (goes_up c i) (up_end i) (down_end i) e) ∙ h) in
          subst (λ b. MatchBool b (get_or c (suc i) k ≤ get_or c i 0 + 1) (get_or c i 0 ≤ i)) (sym (parity i ∙ e)) m

  free_up : (i : ℕ) → goes_up c i ≡ true → at_end k c i ≡ false → get_or c i 0 + 1 < get_or c (suc i) k
  free_up i e h = subst (λ j. get_or c i 0 + 1 < get_or c j k) (add-one i) (leb-false (get_or c (i + 1) k) (get_or c i 0 + 1) (sym (cond-true (goes_up c i) (up_end i) (down_end i) e) ∙ h))

  pub free_down : (i : ℕ) → goes_up c i ≡ false → at_end k c i ≡ false → i < get_or c i 0
  free_down i e h = leb-false (get_or c i 0) i (sym (cond-false (goes_up c i) (up_end i) (down_end i) e) ∙ h)

  rises : In c (choices k (length c)) → Rising 0 k c
  rises m = (of-choices k (length c) c m).1

  pub row_below : listed (choices k (length c)) c ≡ true → (p : ℕ) → p < length c → get_or c p 0 < k
  row_below h p l = (rising_below 0 k c p (rises (listed_in (choices k (length c)) c h)) l).1

  next : (d : List ℕ) → (In c (choices k (length c)) → Follows (choices k (length c)) c d) → Steps (choices k (length c)) true c d
  next d f i s = next_stands (choices k (length c)) (distinct-choices k (length c)) c d (f (stands_in (choices k (length c)) i c s)) i s

  pub steps_up : (p : ℕ) → FirstMovable k c p → goes_up c p ≡ true → Steps (choices k (length c)) true c (raised c p)
  steps_up p m e = next (raised c p) (λ w. next_up k c (rises w) p m.0 (λ j l. blocked j (m.2 j l)) (parity p ∙ e) (free_up p e m.1))

  pub steps_down : (p : ℕ) → FirstMovable k c p → goes_up c p ≡ false → Steps (choices k (length c)) true c (lowered c p)
  steps_down p m e = next (lowered c p) (λ w. next_down k c (rises w) p m.0 (λ j l. blocked j (m.2 j l)) (parity p ∙ e) (free_down p e m.1))

  pub steps_none : AllAtEnd k c (length c) → (i : ℕ) → StandsAt (choices k (length c)) i c → i + 1 ≡ length (choices k (length c))
  steps_none b i s = last_stands (choices k (length c)) (distinct-choices k (length c)) c (next_none k c (rises (stands_in (choices k (length c)) i c s)) (λ j l. blocked j (b j l))) i s

take_counting : (a n t : ℕ) → t ≤ n → take t (range_with_len a n) ≡ range_with_len a t
take_counting a n zero l = refl
take_counting a zero (suc t) l = absurd (omega arith)
take_counting a (suc n) (suc t) l = ap (λ xs. a ∷ xs) (take_counting (a + 1) n t (omega arith))

pub lowest_stand : (k t : ℕ) → k ≤ 32 → t ≤ k → StandsAt (choices k t) 0 (take t (range_with_len 0 32))
lowest_stand k t small l = subst (StandsAt (choices k t) 0) (sym (take_counting 0 32 t (omega (arith, small, l)))) (first_stands (choices k t) (range_with_len 0 t) (first-choices k t l))

pub all_choices : (k t : ℕ) → AllChoices k t
all_choices k t = (choices_are k t, length-choices k t)
