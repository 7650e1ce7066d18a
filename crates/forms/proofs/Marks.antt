-- Marked columns, one more at a time: those put into an order, those counted, those marked, and whether one is open.
use Rattle.std.proofs.Common.{◌≡◌, ℕ, zero, suc, ◌+◌, ◌<◌, ◌≤◌, Bool, true, false, cond, not, ◌&&◌, ◌||◌, eqb, List, [], ◌∷◌, ◌++◌, length, get_or, take, set, is_some, Some, None, filter, Option, sym, refl, ap, ◌∙◌, ⊎_elim, append_assoc, append-nil, add-one, arith, length-append, length-set, get_or-set_other, get_or-set_same, MatchOption}
use mathlib.Core.Bool.{or-false}
use Rattle.std.specs.List.{range_with_len, AllByRecursion}
use Rattle.std.proofs.lemmas.List.FromFn.{length-range_with_len, get_or-map-range_with_len, length-map-range_with_len}
use Rattle.std.proofs.lemmas.List.Elements.{filter-append}
use Rattle.std.proofs.ByRecursion.{All-append, all_kept_by, All-map}
use Rattle.std.proofs.lemmas.List.Filters.{length-filter_both}
use Rattle.std.proofs.lemmas.List.{take_more, take_more_set, length_push, get_or-map}
use Rattle.std.proofs.lemmas.Bool.{cases_Bool, cases_eq, cond-true, cond-false, eq-eqb, ne_eqb, not_from_true, not_from_false, or_right}
use Rattle.theory.specs.Codes.{is_zero}
use Rattle.theory.specs.Forms.{among, column}
use Rattle.theory.proofs.Lists.Countings.{counting_push, all_counting}
use Rattle.theory.proofs.Lists.Members.{in_counting}
use Rattle.theory.proofs.Lists.Tests.{any-in, any_append}
use Rattle.theory.proofs.Lists.Zeros.{zeros_from, is_zero_decides, zero_symbol}
use Rattle.forms.specs.Matrices.{rows_of, row_at, symbol_at, ZeroIn, FirstPivot}
use Rattle.forms.specs.ColumnMarks.{marked, column_order, has_open}

-- One number more at the end.
counting_next : (c : ℕ) → range_with_len 0 (c + 1) ≡ range_with_len 0 c ++ (c ∷ [])
counting_next c = let e : 0 + c ≡ c = omega arith in ap (range_with_len 0) (add-one c) ∙ counting_push 0 c ∙ ap (λ x. range_with_len 0 c ++ (x ∷ [])) e

module _ (p : ℕ → Bool) where
  kept_next : (c : ℕ) → filter p (range_with_len 0 (c + 1)) ≡ filter p (range_with_len 0 c) ++ cond (p c) (c ∷ []) []
  kept_next c = ap (filter p) (counting_next c) ∙ filter-append p (range_with_len 0 c) (c ∷ [])

  kept_yes : (c : ℕ) → p c ≡ true → filter p (range_with_len 0 (c + 1)) ≡ filter p (range_with_len 0 c) ++ (c ∷ [])
  kept_yes c h = kept_next c ∙ ap (λ l. filter p (range_with_len 0 c) ++ l) (cond-true (p c) (c ∷ []) [] h)

  kept_no : (c : ℕ) → p c ≡ false → filter p (range_with_len 0 (c + 1)) ≡ filter p (range_with_len 0 c)
  kept_no c h = kept_next c ∙ ap (λ l. filter p (range_with_len 0 c) ++ l) (cond-false (p c) (c ∷ []) [] h) ∙ append-nil (filter p (range_with_len 0 c))

  -- Below more numbers as many pass, or more.
  kept_le : (m n : ℕ) → m ≤ n → length (filter p (range_with_len 0 m)) ≤ length (filter p (range_with_len 0 n))
  kept_le m zero h = let e : m ≡ 0 = omega arith in omega (arith, ap (λ i. length (filter p (range_with_len 0 i))) e)
  kept_le m (suc n) h =
      ⊎_elim
      (λ e. omega (arith, ap (λ i. length (filter p (range_with_len 0 i))) e))
      (λ ne. omega (arith, kept_le m n (omega arith), ap (λ i. length (filter p (range_with_len 0 i))) (add-one n), ap length (kept_next n), length-append (filter p (range_with_len 0 n)) (cond (p n) (n ∷ []) [])))
      (cases_eq m (suc n))

-- A mark is as wanted.
abbrev pub wants : List Bool → Bool → ℕ → Bool
wants marks wanted c = cond wanted (marked marks c) (not (marked marks c))

-- The columns below c that pass a test stand from a place on, up to the place `end`.
pub record Put (p : ℕ → Bool) (from : ℕ) (before : List ℕ) (c end : ℕ) (after : List ℕ) : Type 0 where
  pub place : end ≡ from + length (filter p (range_with_len 0 c))
  pub front : take end after ≡ take from before ++ filter p (range_with_len 0 c)
  pub long : length after ≡ length before

module _ {p : ℕ → Bool} {from : ℕ} {before : List ℕ} {c end : ℕ} {after : List ℕ} (t : Put p from before c end after) where
  pub put_room : (n m : ℕ) → c < n → p c ≡ true → from + length (filter p (range_with_len 0 n)) ≤ m → end < m
  put_room n m h passes room = omega (arith, t.place, kept_le p (c + 1) n (omega arith), ap length (kept_yes p c passes), length_push (filter p (range_with_len 0 c)) c)

  pub put_more : end < length before → p c ≡ true → Put p from before (c + 1) (end + 1) (set after end c)
  put_more h passes =
      let inside : end < length after = omega (arith, t.long) in
      let more = kept_yes p c passes in
      record {
        place = omega (arith, t.place, ap length more, length_push (filter p (range_with_len 0 c)) c);
        front = take_more_set after end c inside ∙ ap (λ l. l ++ (c ∷ [])) t.front ∙ append_assoc (take from before) (filter p (range_with_len 0 c)) (c ∷ []) ∙ ap (λ l. take from before ++ l) (sym more);
        long = length-set after end c ∙ t.long;
      }

  pub put_passed : p c ≡ false → Put p from before (c + 1) end after
  put_passed fails =
      let same = kept_no p c fails in
      record { place = t.place ∙ ap (λ l. from + length l) (sym same); front = t.front ∙ ap (λ l. take from before ++ l) (sym same); long = t.long }

module _ (n : ℕ) (marks : List Bool) where
  abbrev unmarked_below : List ℕ
  unmarked_below = filter (λ c. not (marked marks c)) (range_with_len 0 n)

  abbrev marked-below : List ℕ
  marked-below = filter (marked marks) (range_with_len 0 n)

  pub as_many-columns : length unmarked_below + length marked-below ≡ n
  as_many-columns = omega (arith, length-filter_both (marked marks) (λ c. not (marked marks c)) (λ _. refl) (range_with_len 0 n), length-range_with_len 0 n)

  -- The marked columns, put after the others, make the order.
  pub order_is : {middle end : ℕ} (others whole : List ℕ) → middle ≡ 0 + length unmarked_below → take middle others ≡ unmarked_below → end ≡ middle + length marked-below → take end whole ≡ take middle others ++ marked-below → take n whole ≡ column_order n marks
  order_is {end = end} others whole middle-is others-are end_is whole_is =
      let e : n ≡ end = omega (arith, as_many-columns) in
      ap (λ m. take m whole) e ∙ whole_is ∙ ap (λ l. l ++ marked-below) others-are

  pub order_below : AllByRecursion (λ c. c < n) (column_order n marks)
  order_below =
      let below : AllByRecursion (λ c. c < n) (range_with_len 0 n) = all_counting (λ c. c < n) 0 n (λ c _ h. omega arith) in
      All-append (λ c. c < n) unmarked_below marked-below (all_kept_by (λ c. not (marked marks c)) (λ c. c < n) (range_with_len 0 n) below) (all_kept_by (marked marks) (λ c. c < n) (range_with_len 0 n) below)

-- The count of those of the first i positions that are not marked.
abbrev pub Counted : List Bool → List ℕ → ℕ → ℕ → Type 0
Counted marks ps i count = (count ≡ length (filter (λ p. not (marked marks p)) (take i ps))) × (count ≤ i)

-- The columns ps are marked too, and the other marks are as they were.
abbrev pub MarkedToo : List Bool → List ℕ → List Bool → Type 0
MarkedToo before ps after = (c : ℕ) → c < 64 → marked after c ≡ cond (among c ps) true (marked before c)

pub marked_more : (before : List Bool) (ps : List ℕ) (i p : ℕ) (after : List Bool) → i < length ps → length after ≡ 64 → p ≡ get_or ps i 0 → get_or ps i 0 < 64 → MarkedToo before (take i ps) after → MarkedToo before (take (i + 1) ps) (set after p true)
marked_more before ps i p after h long e below t c l =
    let more : among c (take (i + 1) ps) ≡ (among c (take i ps) || cond (eqb p c) true false) = ap (among c) (take_more ps i 0 h) ∙ any_append (λ q. eqb q c) (take i ps) (get_or ps i 0 ∷ []) ∙ ap (λ q. among c (take i ps) || cond (eqb q c) true false) (sym e) in
    ⊎_elim
    (λ same.
    let found : among c (take (i + 1) ps) ≡ true = more ∙ or_right (among c (take i ps)) (cond (eqb p c) true false) (cond-true (eqb p c) true false (eq-eqb p c same)) in
    ap (marked (set after p true)) (sym same) ∙ get_or-set_same after p true false (omega arith) ∙ sym (cond-true (among c (take (i + 1) ps)) true (marked before c) found))
    (λ ne.
    let as_before : among c (take (i + 1) ps) ≡ among c (take i ps) = more ∙ ap (λ b. among c (take i ps) || b) (cond-false (eqb p c) true false (ne_eqb p c ne)) ∙ or-false (among c (take i ps)) in
    get_or-set_other after p c true false (λ same. ne (sym same)) ∙ t c l ∙ ap (λ b. cond b true (marked before c)) (sym as_before))
    (cases_eq p c)

module _ (k n : ℕ) (codes : List ℕ) (c : ℕ) where
  zero-column : ZeroIn n codes c 0 k → is_zero (column (rows_of k n codes) c) ≡ true
  zero-column zeros =
      let u : List ℕ = column (rows_of k n codes) c in
      let each : AllByRecursion (λ a. a ≡ 0) u = All-map (λ a. a ≡ 0) (λ row. get_or row c 0) (rows_of k n codes) (All-map (λ row. get_or row c 0 ≡ 0) (row_at n codes) (range_with_len 0 k) (all_counting (λ i. symbol_at n codes i c ≡ 0) 0 k (λ i a b. zeros i a (omega arith)))) in
      (is_zero_decides u).1 (zeros_from u each)

  nonzero_column : (p : ℕ) → FirstPivot n codes c 0 k p → is_zero (column (rows_of k n codes) c) ≡ false
  nonzero_column p pivot =
      let rows : List (List ℕ) = rows_of k n codes in
      let there : get_or (column rows c) p 0 ≡ symbol_at n codes p c =
      get_or-map (λ row. get_or row c 0) rows p [] 0 (omega (arith, length-map-range_with_len (row_at n codes) 0 k, pivot.1)) ∙ ap (λ row. get_or row c 0) (get_or-map-range_with_len (row_at n codes) 0 k p p [] pivot.1 (omega arith)) in
      ⊎_elim
      (λ z. absurd (omega (arith, there, zero_symbol (column rows c) p z, pivot.2)))
      (λ z. z)
      (cases_Bool (is_zero (column rows c)))

  pub column_tested : (r : Option ℕ) → MatchOption r (ZeroIn n codes c 0 k) (FirstPivot n codes c 0 k) → not (is_zero (column (rows_of k n codes) c)) ≡ is_some r
  column_tested None zeros = not_from_true (is_zero (column (rows_of k n codes) c)) (zero-column zeros)
  column_tested (Some p) pivot = not_from_false (is_zero (column (rows_of k n codes) c)) (nonzero_column p pivot)

-- Column c is not marked and not zero.
abbrev pub open_at : List (List ℕ) → List Bool → ℕ → Bool
open_at rows marks c = not (marked marks c) && not (is_zero (column rows c))

module _ (rows : List (List ℕ)) (marks : List Bool) where
  pub open_found : (n c : ℕ) → c < n → open_at rows marks c ≡ true → has_open n rows marks ≡ true
  open_found n c h passes = any-in (open_at rows marks) c (range_with_len 0 n) (in_counting c 0 n (omega arith) (omega arith)) passes
