-- The column found is the first, and a row with no symbol but 0 is zero.
use Rattle.std.proofs.Common.{◌≡◌, ℕ, ◌<◌, true, eqb, not, List, length, replicate, refl, Option, Some, None, sym, ◌∙◌, rules, arith}
use Rattle.std.specs.List.{find, range_with_len}
use Rattle.std.specs.Option.{option_map, MatchOption}
use Rattle.std.proofs.lemmas.Iterator.{YieldsList-from_range}
use Rattle.std.proofs.lemmas.Iterator.Search.{find_from_yields_List}
use Rattle.std.proofs.lemmas.List.{ext_get_or, length-replicate}
use Rattle.theory.specs.Codes.{is_zero}
use Rattle.theory.proofs.Lists.Zeros.{get_or_zeros, is_zero_decides}
use Rattle.forms.specs.Matrices.{row_at, symbol_at}
use Rattle.forms.proofs.Flat.{has_row, length-row}
use Rattle.forms.proofs.Ranges.{NonePasses, FirstPasses, found_in_range, zero_where, positive_where}
use Rattle.forms.proofs.matrix.MatrixView.leading_column.Goals as goal

-- The first column that passes the test is the leading one.
leading : (n : ℕ) (codes : List ℕ) (i : ℕ) (r : Option ℕ)
    → length (row_at n codes i) ≡ n
    → MatchOption r (NonePasses (λ c. not (eqb (symbol_at n codes i c) 0)) 0 n) (FirstPasses (λ c. not (eqb (symbol_at n codes i c) 0)) 0 n)
    → MatchOption r (is_zero (row_at n codes i) ≡ true) (λ c. (c < n) × (0 < symbol_at n codes i c))
leading n codes i None long none =
    let row : List ℕ = row_at n codes i in
    (is_zero_decides row).1 (ext_get_or 0 row (replicate (length row) 0) (sym (length-replicate {A = ℕ} (length row) 0)) (λ d l. zero_where (symbol_at n codes i d) (none d (omega arith) (omega (arith, l, long))) ∙ sym (get_or_zeros (length row) d)))
leading n codes i (Some c) long found = (omega (arith, found.1), positive_where (symbol_at n codes i c) found.2)

pub returns : goal.returns
returns c =
    let m = c.args.self.now in
    let i = c.args.i in
    let is : option_map (λ x. x) c.find.result ≡ find (λ d. not (eqb (symbol_at m.n m.codes.now i d) 0)) (range_with_len 0 m.n) =
    find_from_yields_List (λ d. not (eqb (symbol_at m.n m.codes.now i d) 0)) _ _ c.find.result c.find.ensures.ran (YieldsList-from_range 0 m.n m.n refl (omega arith)) (λ x b q k. search rules) in
    record { value = leading m.n m.codes.now i c.find.result (length-row m.n m.codes.now i (has_row m.n m.k m.codes.now i m.whole c.requires)) (found_in_range (λ d. not (eqb (symbol_at m.n m.codes.now i d) 0)) 0 m.n c.find.result is) }
