-- What the forms of a matrix with independent rows are.
use Rattle.std.specs.Prelude.{ℕ, List}
use Rattle.std.specs.List.{AllByRecursion}
use Rattle.theory.specs.Meanings.{FieldMeaning, WeightMeaning}
use Rattle.theory.specs.Standings.{LinearCode}
use Rattle.theory.specs.Forms.{form, forms}
use Rattle.theory.specs.Facts.{Systematic}
use Rattle.theory.specs.Theorems.{SystematicForms, NewPositionsDisjoint}
use Rattle.forms.specs.Elimination.{SameCodewords}

-- The code of a matrix under a symbol weight.
abbrev pub code_of : FieldMeaning → WeightMeaning → ℕ → List (List ℕ) → LinearCode
code_of f w n rows = record { field = f; weight = w; n = n; rows = rows }

-- The forms are generators of the code in systematic form, each rank counts the positions that no earlier form has, and no position is new in two forms. The symbol weight plays no part in it.
abbrev pub FormsAreSystematic : FieldMeaning → ℕ → List (List ℕ) → Type 0
FormsAreSystematic f n rows = (w : WeightMeaning) → SystematicForms (code_of f w n rows) × NewPositionsDisjoint (code_of f w n rows)

-- The same of the form that is made when these columns are used: it is a generator of the code in systematic form.
abbrev pub FormIsSystematic : FieldMeaning → ℕ → List (List ℕ) → List ℕ → Type 0
FormIsSystematic f n rows used = (w : WeightMeaning) → Systematic (code_of f w n rows) (form f n rows used)

-- The rows of each form generate exactly the codewords.
abbrev pub FormsGenerate : FieldMeaning → ℕ → List (List ℕ) → Type 0
FormsGenerate f n rows = AllByRecursion (λ j. SameCodewords f n rows j.rows) (forms f n rows)
