-- A place in a level: visit i, its choice c of rows and its coefficients cs, and the steps to the next.
use Rattle.std.proofs.Common.{◌≡◌, ℕ, suc, ◌+◌, ◌-◌, ◌*◌, ◌<◌, ◌≤◌, true, false, List, [], ◌∷◌, ◌++◌, length, get_or, take, replicate, sym, ap, ◌∙◌, subst, add-zero, suc-mul, zero-mul, arith}
use lib.Arith.{digits_lt}
use Rattle.std.specs.List.{range_with_len}
use Rattle.theory.specs.Meanings.{FieldMeaning}
use Rattle.theory.specs.Visits.{choices, coefficients, visits, Rising, binomial}
use Rattle.theory.proofs.Lists.Members.{In, in-get_or}
use Rattle.theory.proofs.Lists.Neighbours.{Follows, Last, first-place, follows_next, last-place}
use Rattle.theory.proofs.Order.Nonzeros.{Nonzero}
use Rattle.theory.proofs.Order.Coefficients.{distinct-coefficients, first-list, next_list, end_list, list-codes}
use Rattle.theory.proofs.Order.Choices.{length-choices, choices-at, distinct-choices}
use Rattle.theory.proofs.Order.Ends.{first-choices}
use Rattle.theory.proofs.Order.Doors.{even}
use Rattle.theory.proofs.Order.Steps.{raised, lowered}
use Rattle.theory.proofs.Order.Scan.{Blocked, next_up, next_down, next_none}
use Rattle.theory.proofs.Order.Visits.{lists, length_lists, word, visits-at}

pub record Cursor (q k t i : ℕ) (c cs : List ℕ) : Type 0 where
  pub a : ℕ
  pub b : ℕ
  pub choice_in : a < length (choices k t)
  pub list_in : b < length (coefficients q t)
  pub choice : get_or (choices k t) a [] ≡ c
  pub list : get_or (coefficients q t) b [] ≡ cs
  pub place : a * lists q t + b ≡ i

module _ (q k t : ℕ) (some : 1 ≤ t) where
  pub cursor_start : 2 ≤ q → t ≤ k → Cursor q k t 0 (range_with_len 0 t) (replicate t 1)
  cursor_start two l =
      let f = first-place (choices k t) (range_with_len 0 t) [] (first-choices k t l) in
      let g = first-place (coefficients q t) (replicate t 1) [] (first-list q two t some) in
      record { a = 0; b = 0; choice_in = f.0; list_in = g.0; choice = f.1; list = g.1; place = omega (arith, zero-mul (lists q t)) }

  module _ (i : ℕ) (c cs : List ℕ) (at : Cursor q k t i c cs) where
    pub cursor_below : i < binomial k t * lists q t
    cursor_below = subst (λ j. j < binomial k t * lists q t) at.place (digits_lt (omega (arith, at.choice_in, length-choices k t)) (omega (arith, at.list_in, length_lists q t some)))

    pub cursor_choice : (length c ≡ t) × Rising 0 k c
    cursor_choice = subst (λ d. (length d ≡ t) × Rising 0 k d) at.choice (choices-at k t at.a at.choice_in)

    held : In cs (coefficients q t)
    held = subst (λ b. In b (coefficients q t)) at.list (in-get_or (coefficients q t) at.b [] at.list_in)

    -- The next coefficients.
    turned : (ds : List ℕ) → Follows (coefficients q t) cs ds → Cursor q k t (suc i) c ds
    turned ds f =
        let r = follows_next (coefficients q t) cs ds [] (distinct-coefficients q t) f at.b at.list_in at.list in
        record { a = at.a; b = suc at.b; choice_in = at.choice_in; list_in = r.0; choice = at.choice; list = r.1; place = omega (arith, at.place) }

    -- The last coefficients.
    over : Last (coefficients q t) cs → suc i ≡ suc at.a * lists q t + 0
    over f = omega (arith, at.place, suc-mul at.a (lists q t), length_lists q t some, last-place (coefficients q t) cs [] (distinct-coefficients q t) f at.b at.list_in at.list)

    -- The next choice, with the first coefficients.
    stepped : 2 ≤ q → (d : List ℕ) → Last (coefficients q t) cs → Follows (choices k t) c d → Cursor q k t (suc i) d (replicate t 1)
    stepped two d e f =
        let r = follows_next (choices k t) c d [] (distinct-choices k t) f at.a at.choice_in at.choice in
        let g = first-place (coefficients q t) (replicate t 1) [] (first-list q two t some) in
        record { a = suc at.a; b = 0; choice_in = r.0; list_in = g.0; choice = r.1; list = g.1; place = sym (over e) }

    pub cursor_list : 2 ≤ q → (length cs ≡ t) × (get_or cs 0 0 ≡ 1) × Nonzero q cs
    cursor_list two = list-codes q two t cs held

    -- The coefficients go on at place p, behind which all are q - 1.
    pub cursor_turn : 2 ≤ q → (p : ℕ) → 1 ≤ p → p < t → get_or cs p 0 + 1 < q → ((j : ℕ) → p < j → j < t → get_or cs j 0 ≡ q - 1) → Cursor q k t (suc i) c (take p cs ++ ((get_or cs p 0 + 1) ∷ replicate (t - (p + 1)) 1))
    cursor_turn two p one l b full = turned (take p cs ++ ((get_or cs p 0 + 1) ∷ replicate (t - (p + 1)) 1)) (next_list q two t cs p held one l b full)

    -- All coefficients behind the first are q - 1, and the choice goes on at row p, below which all rows are at their ends.
    module _ (two : 2 ≤ q) (full : (j : ℕ) → 1 ≤ j → j < t → get_or cs j 0 ≡ q - 1) where
      module _ (p : ℕ) (l : p < t) (b : (j : ℕ) → j < p → Blocked k c j) where
        pub cursor_up : even (t - suc p) ≡ true → get_or c p 0 + 1 < get_or c (suc p) k → Cursor q k t (suc i) (raised c p) (replicate t 1)
        cursor_up e u = let n = cursor_choice.0 in stepped two (raised c p) (end_list q two t cs held full) (subst (λ s. Follows (choices k s) c (raised c p)) n (next_up k c cursor_choice.1 p (subst (λ s. p < s) (sym n) l) b (ap (λ s. even (s - suc p)) n ∙ e) u))

        pub cursor_down : even (t - suc p) ≡ false → p < get_or c p 0 → Cursor q k t (suc i) (lowered c p) (replicate t 1)
        cursor_down e u = let n = cursor_choice.0 in stepped two (lowered c p) (end_list q two t cs held full) (subst (λ s. Follows (choices k s) c (lowered c p)) n (next_down k c cursor_choice.1 p (subst (λ s. p < s) (sym n) l) b (ap (λ s. even (s - suc p)) n ∙ e) u))

      -- Where every row is at its end, this was the last visit.
      pub cursor_end : ((j : ℕ) → j < t → Blocked k c j) → suc i ≡ binomial k t * lists q t
      cursor_end b =
          let n = cursor_choice.0 in
          let f = subst (λ s. Last (choices k s) c) n (next_none k c cursor_choice.1 (λ j m. b j (subst (λ s. j < s) n m))) in
          let e : suc at.a ≡ binomial k t = last-place (choices k t) c [] (distinct-choices k t) f at.a at.choice_in at.choice ∙ length-choices k t in
          over (end_list q two t cs held full) ∙ add-zero (suc at.a * lists q t) ∙ ap (λ m. m * lists q t) e

pub cursor_word : (f : FieldMeaning) (n : ℕ) (rows : List (List ℕ)) (t : ℕ) → 1 ≤ t → (i : ℕ) (c cs : List ℕ) → Cursor f.order (length rows) t i c cs → get_or (visits f n rows t) i [] ≡ word f n rows c cs
cursor_word f n rows t some i c cs at = ap (λ j. get_or (visits f n rows t) j []) (sym at.place) ∙ visits-at f n rows t some at.a at.b (omega (arith, at.choice_in, length-choices (length rows) t)) (omega (arith, at.list_in, length_lists f.order t some)) ∙ ap (λ d. word f n rows d (get_or (coefficients f.order t) at.b [])) at.choice ∙ ap (word f n rows c) at.list
