-- The list of the forms of a code: how many there are, and what each is.
use Rattle.std.proofs.Common.{◌≡◌, ℕ, zero, suc, ◌<◌, ◌≤◌, Bool, true, false, not, ◌&&◌, List, [], ◌∷◌, ◌++◌, length, get_or, replicate, sym, refl, ap, ◌∙◌, inl, inr, arith}
use lib.ListN.{length-replicate}
use Rattle.std.specs.List.{range_with_len, AllByRecursion}
use Rattle.std.proofs.lemmas.List.{ext_get_or}
use Rattle.std.proofs.ByRecursion.{All-get_or}
use Rattle.std.proofs.lemmas.Bool.{cases_Bool, not-false}
use Rattle.theory.specs.Meanings.{FieldMeaning, FieldLaws}
use Rattle.theory.specs.Codes.{combination, any, is_zero}
use Rattle.theory.specs.Forms.{column, among, GeneratorForm, form, forms_from, forms}
use Rattle.theory.specs.Standings.{LinearCode, no_form, all_forms}
use Rattle.theory.specs.Facts.{Matrix, Independent, Systematic, Ranked, Accepted}
use Rattle.theory.proofs.Lists.Listed.{listed-length}
use Rattle.theory.proofs.Lists.Zeros.{get_or_zeros, is_zero_decides}
use Rattle.theory.proofs.Lists.Members.{in_counting}
use Rattle.theory.proofs.Lists.Tests.{not-any}
use Rattle.theory.proofs.Algebra.Words.{Word}
use Rattle.theory.proofs.Algebra.Combinations.{rows_from, unit, unit-word, dot, combination-word, get_or-combination}
use Rattle.theory.proofs.Algebra.Columns.{column-word, dot_zero}
use Rattle.theory.proofs.Algebra.Free.{free-from-independent}
use Rattle.theory.proofs.Algebra.Reduced.{get_or-unit}
use Rattle.theory.proofs.Algebra.Generators.{form_systematic}

-- Some column that is not among those used is not zero.
abbrev pub goes_on : ℕ → List (List ℕ) → List ℕ → Bool
goes_on n rows used = any (λ c. not (among c used) && not (is_zero (column rows c))) (range_with_len 0 n)

module _ (f : FieldMeaning) (n : ℕ) (rows : List (List ℕ)) where
  -- What holds of no forms, and of a form and those after it, holds of the forms.
  forms_by : (P : List ℕ → List GeneratorForm → Type 0) → ((used : List ℕ) → P used []) → ((used : List ℕ) (js : List GeneratorForm) → P (used ++ (form f n rows used).positions) js → P used (form f n rows used ∷ js))
      → (left : ℕ) (used : List ℕ) → P used (forms_from f n rows left used)
  forms_by P none more zero used = none used
  forms_by P none more (suc left) used =
      elim (goes_on n rows used) as (λ b. P used (elim b [ true ↦ form f n rows used ∷ forms_from f n rows left (used ++ (form f n rows used).positions) | false ↦ [] ])) [
        | true ↦ more used (forms_from f n rows left (used ++ (form f n rows used).positions)) (forms_by P none more left (used ++ (form f n rows used).positions))
        | false ↦ none used
      ]

  pub forms_ranked : Ranked [] (forms f n rows)
  unfolding forms
  forms_ranked = forms_by Ranked (λ used. tt) (λ used js r. (refl, r)) 8 []

  forms-at_most : (left : ℕ) (used : List ℕ) → length (forms_from f n rows left used) ≤ left
  forms-at_most zero used = omega arith
  forms-at_most (suc left) used =
      let rest = forms-at_most left (used ++ (form f n rows used).positions) in
      elim (goes_on n rows used) as (λ b. length (elim b as (λ _. List GeneratorForm) [ true ↦ form f n rows used ∷ forms_from f n rows left (used ++ (form f n rows used).positions) | false ↦ [] ]) ≤ suc left) [
        | true ↦ omega (arith, rest)
        | false ↦ omega arith
      ]

  pub forms-few : length (forms f n rows) ≤ 8
  unfolding forms
  forms-few = forms-at_most 8 []

-- The forms of a matrix with independent rows, whatever the weight and the size of the code.
pub made_systematic : (c : LinearCode) {negative inverse : ℕ → ℕ} → FieldLaws c.field negative inverse → Matrix c.field c.n c.rows → Independent c.field c.n c.rows → AllByRecursion (Systematic c) (all_forms c)
unfolding forms
made_systematic c laws matrix independent = forms_by c.field c.n c.rows (λ used js. AllByRecursion (Systematic c) js) (λ used. tt) (λ used js r. (form_systematic c laws matrix independent used, r)) 8 []

pub forms_systematic : (c : LinearCode) {negative inverse : ℕ → ℕ} → Accepted c negative inverse → AllByRecursion (Systematic c) (all_forms c)
forms_systematic c accepted = made_systematic c accepted.field_laws accepted.matrix accepted.independent

pub form-is_systematic : (c : LinearCode) {negative inverse : ℕ → ℕ} → Accepted c negative inverse → (j : ℕ) → j < length (all_forms c) → Systematic c (get_or (all_forms c) j no_form)
form-is_systematic c accepted j h = All-get_or (Systematic c) (all_forms c) j no_form h (forms_systematic c accepted)

module _ (c : LinearCode) {negative inverse : ℕ → ℕ} (accepted : Accepted c negative inverse) where
  -- Where all columns are zero, so are all sums of the rows.
  zero-columns : goes_on c.n c.rows [] ≡ false → (cs : List ℕ) → Word c.field.order (length c.rows) cs → combination c.field c.n cs c.rows ≡ replicate c.n 0
  zero-columns e cs w =
      let f : FieldMeaning = c.field in
      let n : ℕ = c.n in
      let k : ℕ = length c.rows in
      let R = rows_from f n c.rows accepted.matrix in
      let v : List ℕ = combination f n cs c.rows in
      let x : Word f.order n v = combination-word accepted.field_laws w R in
      ext_get_or 0 v (replicate n 0) (listed-length x ∙ sym (length-replicate n 0))
      (λ i h.
      let l : i < n = omega (arith, listed-length x) in
      let z : column c.rows i ≡ replicate k 0 =
      (is_zero_decides (column c.rows i)).0 (not-false (is_zero (column c.rows i)) (not-any (λ p. not (among p []) && not (is_zero (column c.rows p))) i (range_with_len 0 n) e (in_counting i 0 n (omega arith) (omega arith))))
      ∙ ap (λ m. replicate m 0) (listed-length (column-word accepted.field_laws R i)) in
      get_or-combination accepted.field_laws w R i ∙ ap (dot f cs) z ∙ dot_zero accepted.field_laws w ∙ sym (get_or_zeros n i))

  -- Some column of an accepted code is not zero.
  pub some-column : goes_on c.n c.rows [] ≡ true
  some-column =
      let k : ℕ = length c.rows in
      let w = unit-word accepted.field_laws k 0 in
      elim (cases_Bool (goes_on c.n c.rows [])) [
        | inl e ↦ e
        | inr e ↦ absurd (omega (arith, get_or-unit k 0 0 accepted.some_rows, get_or_zeros k 0, ap (λ (l : List ℕ). get_or l 0 0) (free-from-independent c.field c.n c.rows accepted.independent (unit k 0) w (zero-columns e (unit k 0) w))))
      ]

  -- There is a first form, and it is made with no columns used.
  pub forms-first : (js : List GeneratorForm) × (forms c.field c.n c.rows ≡ form c.field c.n c.rows [] ∷ js)
  unfolding forms
  forms-first =
      let f : FieldMeaning = c.field in
      let first : GeneratorForm = form f c.n c.rows [] in
      let rest : List GeneratorForm = forms_from f c.n c.rows 7 first.positions in
      (rest, ap (λ b. elim b as (λ _. List GeneratorForm) [ true ↦ first ∷ rest | false ↦ [] ]) some-column)

  pub forms-some : 1 ≤ length (all_forms c)
  forms-some = omega (arith, ap length forms-first.1)
