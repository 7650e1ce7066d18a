-- The forms of a code, made one after the other: the start, one form more, and the two ends.
use Rattle.std.proofs.Common.{◌≡◌, ℕ, suc, Bool, true, false, List, [], ◌∷◌, ◌++◌, sym, refl, ap, ◌∙◌, append_assoc, append-nil}
use Rattle.theory.specs.Meanings.{FieldMeaning}
use Rattle.theory.specs.Forms.{GeneratorForm, form, forms_from, forms}
use Rattle.theory.proofs.Algebra.Series.{goes_on}

module _ (f : FieldMeaning) (n : ℕ) (rows : List (List ℕ)) where
  pub forms-none : forms f n rows ≡ [] ++ forms_from f n rows 8 []
  unfolding forms
  forms-none = refl

  -- The next form and those after it.
  abbrev next_forms : ℕ → List ℕ → List GeneratorForm
  next_forms left used = form f n rows used ∷ forms_from f n rows left (used ++ (form f n rows used).positions)

  -- What is made where the columns allow another form, and where not.
  made_by : (left : ℕ) (used : List ℕ) (b : Bool) → goes_on n rows used ≡ b → forms_from f n rows (suc left) used ≡ elim b as (λ _. List GeneratorForm) [ true ↦ next_forms left used | false ↦ [] ]
  made_by left used b e = ap (λ b. elim b as (λ _. List GeneratorForm) [ true ↦ next_forms left used | false ↦ [] ]) e

  module _ (js : List GeneratorForm) (used : List ℕ) where
    pub forms-more : (left : ℕ) → forms f n rows ≡ js ++ forms_from f n rows (suc left) used → goes_on n rows used ≡ true → forms f n rows ≡ (js ++ (form f n rows used ∷ [])) ++ forms_from f n rows left (used ++ (form f n rows used).positions)
    forms-more left so_far e = so_far ∙ ap (λ l. js ++ l) (made_by left used true e) ∙ sym (append_assoc js (form f n rows used ∷ []) (forms_from f n rows left (used ++ (form f n rows used).positions)))

    -- No column is open.
    pub forms-ended : (left : ℕ) → forms f n rows ≡ js ++ forms_from f n rows (suc left) used → goes_on n rows used ≡ false → forms f n rows ≡ js
    forms-ended left so_far e = so_far ∙ ap (λ l. js ++ l) (made_by left used false e) ∙ append-nil js

    -- There is room for no more.
    pub forms_all : forms f n rows ≡ js ++ forms_from f n rows 0 used → forms f n rows ≡ js
    forms_all so_far = so_far ∙ append-nil js
