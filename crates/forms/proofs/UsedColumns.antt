-- Marks that agree with a list of used columns: the same order, rank and open columns, and more columns used.
use Rattle.std.proofs.Common.{◌≡◌, ℕ, ◌<◌, ◌≤◌, Bool, true, false, cond, not, ◌&&◌, ◌||◌, eqb, List, [], ◌∷◌, ◌++◌, length, replicate, filter, sym, refl, ap, ◌∙◌, ap₂, inl, inr, arith}
use Rattle.std.specs.List.{range_with_len, AllByRecursion}
use Rattle.std.proofs.ByRecursion.{All-weaker}
use Rattle.std.proofs.lemmas.List.{get_or-replicate}
use Rattle.theory.specs.Codes.{any, is_zero}
use Rattle.theory.specs.Forms.{among, column}
use Rattle.theory.proofs.Lists.Cuts.{kept_by_same, kept_by_all}
use Rattle.theory.proofs.Lists.Members.{In, of_counting}
use Rattle.theory.proofs.Lists.Tests.{any_append}
use Rattle.theory.proofs.Algebra.Generators.{order}
use Rattle.theory.proofs.Algebra.Series.{goes_on}
use Rattle.forms.specs.ColumnMarks.{marked, column_order, has_open, MarksUsed}
use Rattle.forms.proofs.Marks.{MarkedToo}

any_same : {X : Type 0} (p q : X → Bool) (xs : List X) → ((x : X) → In x xs → p x ≡ q x) → any p xs ≡ any q xs
any_same p q [] h = refl
any_same p q (x ∷ xs) h = ap₂ (λ b c. cond b true c) (h x (inl refl)) (any_same p q xs (λ y m. h y (inr m)))

module _ (n : ℕ) (marks : List Bool) (used : List ℕ) (agree : MarksUsed n marks used) where
  at-column : (c : ℕ) → In c (range_with_len 0 n) → marked marks c ≡ among c used
  at-column c m = agree c (omega (arith, of_counting c 0 n m))

  pub order-used : column_order n marks ≡ order n used
  order-used =
      ap₂ ◌++◌
      (kept_by_same (λ c. not (marked marks c)) (λ c. not (among c used)) (range_with_len 0 n) (λ c m. ap not (at-column c m)))
      (kept_by_same (marked marks) (λ c. among c used) (range_with_len 0 n) at-column)

  pub rank-used : (ps : List ℕ) → AllByRecursion (λ c. c < n) ps → length (filter (λ p. not (marked marks p)) ps) ≡ length (filter (λ p. not (among p used)) ps)
  rank-used ps below = ap length (kept_by_all (λ p. not (marked marks p)) (λ p. not (among p used)) ps (All-weaker (λ c. c < n) (λ p. not (marked marks p) ≡ not (among p used)) (λ p h. ap not (agree p h)) ps below))

  pub open_used : (rows : List (List ℕ)) → has_open n rows marks ≡ goes_on n rows used
  open_used rows = any_same (λ c. not (marked marks c) && not (is_zero (column rows c))) (λ c. not (among c used) && not (is_zero (column rows c))) (range_with_len 0 n) (λ c m. ap (λ b. not b && not (is_zero (column rows c))) (at-column c m))

-- With no mark no column is used.
pub marks_none : (n : ℕ) → n ≤ 64 → MarksUsed n (replicate 64 false) []
marks_none n few c h = get_or-replicate 64 c false false (omega arith)

-- Columns that are marked too are used too.
pub marks_more : (n : ℕ) (before after : List Bool) (used ps : List ℕ) → n ≤ 64 → MarksUsed n before used → MarkedToo before ps after → MarksUsed n after (used ++ ps)
marks_more n before after used ps few agree more c h =
    more c (omega arith) ∙ ap (λ b. cond (among c ps) true b) (agree c h) ∙ either (among c ps) (among c used) ∙ sym (any_append (λ p. eqb p c) used ps)
  where
    either : (a b : Bool) → cond a true b ≡ (b || a)
    either true true = refl
    either true false = refl
    either false true = refl
    either false false = refl
