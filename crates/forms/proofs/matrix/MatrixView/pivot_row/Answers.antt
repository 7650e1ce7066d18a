-- The row found is the first in the range.
use Rattle.std.proofs.Common.{◌≡◌, ℕ, ◌-◌, eqb, not, refl, List, Option, Some, None, rules, arith}
use Rattle.std.specs.List.{find, range_with_len}
use Rattle.std.specs.Option.{option_map, MatchOption}
use Rattle.std.proofs.lemmas.Iterator.{YieldsList-from_range}
use Rattle.std.proofs.lemmas.Iterator.Search.{find_from_yields_List}
use Rattle.forms.specs.Matrices.{symbol_at, ZeroIn, FirstPivot}
use Rattle.forms.proofs.Ranges.{NonePasses, FirstPasses, found_in_range, zero_where, positive_where}
use Rattle.forms.proofs.matrix.MatrixView.pivot_row.Goals as goal

-- The first number of a range that passes the test is the first pivot.
first-pivot : (n : ℕ) (codes : List ℕ) (c from k : ℕ) (r : Option ℕ)
    → MatchOption r (NonePasses (λ i. not (eqb (symbol_at n codes i c) 0)) from (k - from)) (FirstPasses (λ i. not (eqb (symbol_at n codes i c) 0)) from (k - from))
    → MatchOption r (ZeroIn n codes c from k) (λ p. FirstPivot n codes c from k p)
first-pivot n codes c from k None none = λ i low high. zero_where (symbol_at n codes i c) (none i low (omega arith))
first-pivot n codes c from k (Some p) found = (
  found.0,
  omega (arith, found.0, found.1),
  positive_where (symbol_at n codes p c) found.2,
  λ i low high. zero_where (symbol_at n codes i c) (found.3 i low high),
)

pub returns : goal.returns
returns c =
    let m = c.args.self.now in
    let is : option_map (λ x. x) c.find.result ≡ find (λ i. not (eqb (symbol_at m.n m.codes.now i c.args.column) 0)) (range_with_len c.args.from (m.k - c.args.from)) =
    find_from_yields_List (λ i. not (eqb (symbol_at m.n m.codes.now i c.args.column) 0)) _ _ c.find.result c.find.ensures.ran (YieldsList-from_range c.args.from m.k (m.k - c.args.from) refl refl) (λ x b q k. search rules) in
    record { value = first-pivot m.n m.codes.now c.args.column c.args.from m.k c.find.result (found_in_range (λ i. not (eqb (symbol_at m.n m.codes.now i c.args.column) 0)) c.args.from (m.k - c.args.from) c.find.result is) }
