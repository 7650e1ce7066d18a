-- The generator forms of a code: which positions are picked, in which order, and the rows.
use Rattle.std.specs.Prelude.{ℕ, zero, suc, Bool, true, false, cond, not, ◌&&◌, List, [], ◌∷◌, ◌++◌, map, length, filter, ◌==◌, nat_eq, nat_lt, slice_index}
use Rattle.std.specs.List.{range_with_len}
use Rattle.theory.specs.Meanings.{FieldMeaning}
use Rattle.theory.specs.Codes.{tuples, same, any, combination, codewords, is_zero}

-- Column c of a matrix, from the first row down.
abbrev pub column : List (List ℕ) → ℕ → List ℕ
column rows c = map (λ row. slice_index row c) rows

-- The number c is one of ps.
abbrev pub among : ℕ → List ℕ → Bool
among c ps = any (λ p. nat_eq p c) ps

-- Column c is no sum of multiples of the columns taken.
abbrev pub independent : FieldMeaning → List (List ℕ) → List ℕ → ℕ → Bool
independent f rows taken c =
    not (any (λ cs. same (combination f (length rows) cs (map (column rows) taken)) (column rows c)) (tuples f.order (length taken)))

-- Going through the columns given, each one independent of those taken is taken, until as many are taken as there are rows.
abbrev pub pick : FieldMeaning → List (List ℕ) → List ℕ → List ℕ → List ℕ
pick f rows taken [] = taken
pick f rows taken (c ∷ cs) = pick f rows (cond (nat_lt (length taken) (length rows) && independent f rows taken c) (taken ++ (c ∷ [])) taken) cs

-- A form: its positions in the order picked, its rank, and its rows.
pub record GeneratorForm : Type 0 where
  pub positions : List ℕ
  pub rank : ℕ
  pub rows : List (List ℕ)

-- Of the positions ps the word u has 1 at p and 0 at the others.
abbrev pub unit_at : List ℕ → ℕ → List ℕ → Bool
unit_at ps p u = same (map (λ c. slice_index u c) ps) (map (λ c. cond (c == p) 1 0) ps)

-- The first word of a list that passes a test, or the empty word.
abbrev pub first : (List ℕ → Bool) → List (List ℕ) → List ℕ
first p [] = []
first p (x ∷ xs) = cond (p x) x (first p xs)

-- The form made when the columns used are given: unused columns are picked first, then used ones; the rank is the number of unused ones picked; row i is the codeword that has 1 at position i and 0 at the other positions.
abbrev pub form : FieldMeaning → ℕ → List (List ℕ) → List ℕ → GeneratorForm
form f n rows used =
    let unused : List ℕ = filter (λ c. not (among c used)) (range_with_len 0 n) in
    let ps : List ℕ = pick f rows [] (unused ++ filter (λ c. among c used) (range_with_len 0 n)) in
    record { positions = ps; rank = length (filter (λ p. not (among p used)) ps); rows = map (λ p. first (unit_at ps p) (codewords f n rows)) ps }

-- Forms are made while some unused column is not zero, and at most as many as given.
abbrev pub forms_from : FieldMeaning → ℕ → List (List ℕ) → ℕ → List ℕ → List GeneratorForm
forms_from f n rows zero used = []
forms_from f n rows (suc left) used =
    let next : GeneratorForm = form f n rows used in
    elim (any (λ c. not (among c used) && not (is_zero (column rows c))) (range_with_len 0 n)) [
      | true ↦ next ∷ forms_from f n rows left (used ++ next.positions)
      | false ↦ []
    ]

-- The forms of a code: at most eight, made with no column used at first.
unfoldable pub forms : FieldMeaning → ℕ → List (List ℕ) → List GeneratorForm
forms f n rows = forms_from f n rows 8 []
