-- The rows of a matrix that is given as one list of codes: their places, and what a row written there leaves.
use Rattle.std.proofs.Common.{◌≡◌, ℕ, suc, ◌+◌, ◌-◌, ◌*◌, ◌/◌, ◌%◌, ◌<◌, ◌≤◌, cond, eqb, List, length, get_or, take, drop, sym, ap, ◌∙◌, ⊎_elim, mul-le-mul_right, suc-mul, arith, length-append, length-drop, length-take, length-take-le, get_or-drop, get_or-take}
use borrow.Rule.Slice.PartMut.{put_mid}
use Rattle.std.proofs.lemmas.Nat.{div-mul-add, mod-mul-add}
use Rattle.std.proofs.lemmas.List.{ext_get_or, drop-take}
use Rattle.std.proofs.lemmas.Slice.{take-put_mid_below, drop-put_mid, between-put_mid}
use Rattle.std.proofs.lemmas.Bool.{cases_order, cases_eq, eq-eqb, ne_eqb, cond-true, cond-false}
use Rattle.forms.specs.Matrices.{row_at, symbol_at, HasRow}

module _ (n : ℕ) where
  -- A row ends where a later one begins, or before.
  pub rows_apart : (i m : ℕ) → i < m → i * n + n ≤ m * n
  rows_apart i m h = omega (arith, suc-mul i n, mul-le-mul_right {m = suc i} {n = m} n h)

  pub has_row : (k : ℕ) (codes : List ℕ) (i : ℕ) → length codes ≡ k * n → i < k → HasRow n codes i
  has_row k codes i e h = omega (arith, rows_apart i k h)

  -- A place tells its row and its column.
  pub same-place-row : (i c m d : ℕ) → c < n → d < n → m * n + d ≡ i * n + c → m ≡ i
  same-place-row i c m d hc hd e = sym (div-mul-add m n d hd) ∙ ap (λ p. p / n) e ∙ div-mul-add i n c hc

  pub same-place-column : (i c m d : ℕ) → c < n → d < n → m * n + d ≡ i * n + c → d ≡ c
  same-place-column i c m d hc hd e = sym (mod-mul-add m n d hd) ∙ ap (λ p. p % n) e ∙ mod-mul-add i n c hc

  pub length-row : (codes : List ℕ) (i : ℕ) → HasRow n codes i → length (row_at n codes i) ≡ n
  length-row codes i h = length-take-le n (drop (i * n) codes) (omega (arith, length-drop (i * n) codes))

  pub symbol_is : (codes : List ℕ) (i c : ℕ) → c < n → symbol_at n codes i c ≡ get_or codes (i * n + c) 0
  symbol_is codes i c h = get_or-take n (drop (i * n) codes) c 0 h ∙ get_or-drop (i * n) codes c 0

  -- Rows with the same symbols are equal.
  pub same_rows : (before after : List ℕ) (i m : ℕ) → HasRow n before i → HasRow n after m → ((c : ℕ) → c < n → get_or after (m * n + c) 0 ≡ get_or before (i * n + c) 0) → row_at n after m ≡ row_at n before i
  same_rows before after i m hi hm h =
      let long = length-row after m hm in
      ext_get_or 0 (row_at n after m) (row_at n before i) (long ∙ sym (length-row before i hi)) (λ c l.
      let inside : c < n = omega (arith, long) in
      symbol_is after m c inside ∙ h c inside ∙ sym (symbol_is before i c inside))

  -- Row i as the part from its first place to its last.
  pub part_is-row : (codes : List ℕ) (i : ℕ) → take (i * n + n - i * n) (drop (i * n) codes) ≡ row_at n codes i
  part_is-row codes i = let e : i * n + n - i * n ≡ n = omega arith in ap (λ j. take j (drop (i * n) codes)) e

  pub length_part : (codes : List ℕ) (i : ℕ) → HasRow n codes i → length (take (i * n + n - i * n) (drop (i * n) codes)) ≡ n
  length_part codes i h = ap length (part_is-row codes i) ∙ length-row codes i h

  -- The codes after a word was written over that part.
  abbrev pub put_row : List ℕ → ℕ → List ℕ → List ℕ
  put_row codes i word = put_mid (i * n) (i * n + n - i * n) codes word

  module _ (codes : List ℕ) (i : ℕ) (word : List ℕ) (fits : HasRow n codes i) (long : length word ≡ n) where
    pub length_put_row : length (put_row codes i word) ≡ length codes
    length_put_row = simp (length-append, length-take, length-drop) (omega arith)

    first : i * n ≤ length codes
    first = omega arith

    width : length word ≡ i * n + n - i * n
    width = omega arith

    pub row_put_same : row_at n (put_row codes i word) i ≡ word
    row_put_same = sym (part_is-row (put_row codes i word) i) ∙ between-put_mid (i * n) (i * n + n - i * n) codes word (i * n + n) first width

    row_put_before : (m : ℕ) → m < i → row_at n (put_row codes i word) m ≡ row_at n codes m
    row_put_before m h = sym (drop-take (m * n) n (put_row codes i word)) ∙ ap (drop (m * n)) (take-put_mid_below (i * n) (i * n + n - i * n) codes word (m * n + n) (rows_apart m i h) first) ∙ drop-take (m * n) n codes

    row_put_after : (m : ℕ) → i < m → row_at n (put_row codes i word) m ≡ row_at n codes m
    row_put_after m h =
        let past : i * n + (i * n + n - i * n) ≤ m * n = omega (arith, rows_apart i m h) in
        ap (take n) (drop-put_mid (i * n) (i * n + n - i * n) codes word (m * n) past first width)

    pub row_put_other : (m : ℕ) → (m ≡ i → ⊥) → row_at n (put_row codes i word) m ≡ row_at n codes m
    row_put_other m ne = ⊎_elim (λ e. absurd (ne e)) (⊎_elim (row_put_before m) (row_put_after m)) (cases_order m i)

    pub row_put : (m : ℕ) → row_at n (put_row codes i word) m ≡ cond (eqb m i) word (row_at n codes m)
    row_put m =
        ⊎_elim
        (λ e. ap (row_at n (put_row codes i word)) e ∙ row_put_same ∙ sym (cond-true _ _ _ (eq-eqb m i e)))
        (λ ne. row_put_other m ne ∙ sym (cond-false _ _ _ (ne_eqb m i ne)))
        (cases_eq m i)
