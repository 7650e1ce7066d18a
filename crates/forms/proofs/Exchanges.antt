-- Two rows change places symbol by symbol.
use Rattle.std.proofs.Common.{◌≡◌, ℕ, ◌+◌, ◌*◌, ◌<◌, ◌≤◌, Bool, true, false, cond, eqb, List, length, get_or, sym, refl, ap, ◌∙◌, ⊎_elim, arith}
use Rattle.std.specs.List.{swap as exchanged}
use Rattle.std.proofs.lemmas.List.Edits.{Swapped, swapped_from_swap, length-swap}
use Rattle.std.proofs.lemmas.Bool.{cases_eq, eq-eqb, ne_eqb, cond-true, cond-false}
use Rattle.forms.specs.Matrices.{row_at, HasRow}
use Rattle.forms.specs.RowSteps.{Exchanged}
use Rattle.forms.proofs.Flat.{same-place-row, same-place-column, same_rows}

-- The row whose symbols row m has after rows i and j have changed places.
abbrev partner : ℕ → ℕ → ℕ → ℕ
partner i j m = cond (eqb m i) j (cond (eqb m j) i m)

-- In the columns below c rows i and j have changed places; the others are as they were.
pub record PartlyExchanged (n : ℕ) (before : List ℕ) (i j c : ℕ) (after : List ℕ) : Type 0 where
  pub same : length after ≡ length before
  pub done : (m d : ℕ) → d < n → d < c → get_or after (m * n + d) 0 ≡ get_or before (partner i j m * n + d) 0
  pub rest : (m d : ℕ) → d < n → c ≤ d → get_or after (m * n + d) 0 ≡ get_or before (m * n + d) 0

module _ (n : ℕ) (before : List ℕ) (i j : ℕ) (hi : HasRow n before i) (hj : HasRow n before j) where
  module _ (c : ℕ) (h : c < n) (old new : List ℕ) (was : PartlyExchanged n before i j c old) (swap : new ≡ exchanged old (i * n + c) (j * n + c)) where
    swapped : Swapped (λ p. get_or old p 0) (λ p. get_or new p 0) (i * n + c) (j * n + c)
    swapped = swapped_from_swap old new (i * n + c) (j * n + c) 0 (omega (arith, was.same)) (omega (arith, was.same)) swap

    other_column : (m d : ℕ) → d < n → (d ≡ c → ⊥) → get_or new (m * n + d) 0 ≡ get_or old (m * n + d) 0
    other_column m d l ne = swapped.2 (m * n + d) (λ e. ne (same-place-column n i c m d h l e)) (λ e. ne (same-place-column n j c m d h l e))

    this_column : (m : ℕ) → get_or new (m * n + c) 0 ≡ get_or old (partner i j m * n + c) 0
    this_column m = ⊎_elim first (λ ni. ⊎_elim (second ni) (neither ni) (cases_eq m j)) (cases_eq m i)
      where
        at : ℕ → ℕ
        at r = get_or old (r * n + c) 0

        first : m ≡ i → get_or new (m * n + c) 0 ≡ at (partner i j m)
        first e = ap (λ r. get_or new (r * n + c) 0) e ∙ swapped.0 ∙ ap at (sym (cond-true _ _ _ (eq-eqb m i e)))

        second : (m ≡ i → ⊥) → m ≡ j → get_or new (m * n + c) 0 ≡ at (partner i j m)
        second ni e = ap (λ r. get_or new (r * n + c) 0) e ∙ swapped.1 ∙ ap at (sym (cond-false _ _ _ (ne_eqb m i ni) ∙ cond-true _ _ _ (eq-eqb m j e)))

        neither : (m ≡ i → ⊥) → (m ≡ j → ⊥) → get_or new (m * n + c) 0 ≡ at (partner i j m)
        neither ni nj =
            swapped.2 (m * n + c) (λ e. ni (same-place-row n i c m c h h e)) (λ e. nj (same-place-row n j c m c h h e))
            ∙ ap at (sym (cond-false _ _ _ (ne_eqb m i ni) ∙ cond-false _ _ _ (ne_eqb m j nj)))

    pub exchanged_more : PartlyExchanged n before i j (c + 1) new
    exchanged_more = record {
      same = ap length swap ∙ length-swap old (i * n + c) (j * n + c) ∙ was.same;
      done = λ m d l b. ⊎_elim (λ e. ap (λ x. get_or new (m * n + x) 0) e ∙ this_column m ∙ was.rest (partner i j m) c h (omega arith) ∙ ap (λ x. get_or before (partner i j m * n + x) 0) (sym e)) (λ ne. other_column m d l ne ∙ was.done m d l (omega arith)) (cases_eq d c);
      rest = λ m d l b. other_column m d l (λ e. omega arith) ∙ was.rest m d l (omega arith);
    }

  pub exchanged_all : (c : ℕ) (after : List ℕ) → n ≤ c → PartlyExchanged n before i j c after → Exchanged n before i j after
  exchanged_all c after le h = (h.same, λ m hm. same_rows n before after (partner i j m) m (has m hm (eqb m i) (eqb m j)) (omega (arith, h.same)) (λ d l. h.done m d l (omega arith)) ∙ turned m (eqb m i) (eqb m j))
    where
      has : (m : ℕ) → HasRow n before m → (b d : Bool) → HasRow n before (cond b j (cond d i m))
      has m hm true d = hj
      has m hm false true = hi
      has m hm false false = hm

      turned : (m : ℕ) (b d : Bool) → row_at n before (cond b j (cond d i m)) ≡ cond b (row_at n before j) (cond d (row_at n before i) (row_at n before m))
      turned m true d = refl
      turned m false true = refl
      turned m false false = refl
