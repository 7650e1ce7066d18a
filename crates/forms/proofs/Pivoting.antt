-- One step of an elimination: a row by the inverse of its symbol in a column, and then the column cleared by that row.
use Rattle.std.proofs.Common.{◌≡◌, ℕ, ◌<◌, cond, List, [], ◌∷◌, ◌++◌, length, get_or, set, sym, ap, ◌∙◌, inl, inr, arith, length-set}
use Rattle.std.proofs.lemmas.List.{get_or-set_same}
use Rattle.std.proofs.lemmas.Bool.{cases_eq, eq-eqb, ne_eqb}
use Rattle.theory.specs.Meanings.{FieldMeaning, FieldLaws}
use Rattle.theory.specs.Codes.{times}
use Rattle.theory.proofs.Lists.Listed.{listed-get_or}
use Rattle.theory.proofs.Algebra.Scalars.{inverse_nonzero}
use Rattle.theory.proofs.Algebra.Words.{Word, times-word}
use Rattle.theory.proofs.Algebra.Combinations.{Rows}
use Rattle.theory.proofs.Algebra.Columns.{symbol_below}
use Rattle.theory.proofs.Algebra.SameCode.{SameCode}
use Rattle.theory.proofs.Algebra.RowSteps.{rows-set, same_code_scale, same_code_then}
use Rattle.theory.proofs.Algebra.Reduced.{Reduced, reduced_push}
use Rattle.theory.proofs.Algebra.ReducedSteps.{reduced_scale, scaled_one}
use Rattle.forms.proofs.Clearing.{Gained, gained_rows, gained_same_code, gained_reduced}

-- The rows with row p multiplied by the inverse of its symbol in column c.
abbrev pub scaled : FieldMeaning → (ℕ → ℕ) → List (List ℕ) → ℕ → ℕ → List (List ℕ)
scaled f inverse gens p c = set gens p (times f (inverse (get_or (get_or gens p []) c 0)) (get_or gens p []))

module _ {f : FieldMeaning} {negative inverse : ℕ → ℕ} (laws : FieldLaws f negative inverse) {n : ℕ} {gens : List (List ℕ)} (G : Rows f.order n (length gens) gens)
    {next : List (List ℕ)} {factor : ℕ → ℕ} (p c : ℕ) (some : 0 < get_or (get_or gens p []) c 0) (g : Gained f (scaled f inverse gens p c) next p factor) where
  pub pivoted_length : length next ≡ length gens
  pivoted_length = g.as_many ∙ length-set gens p (times f (inverse (get_or (get_or gens p []) c 0)) (get_or gens p []))

  inside : p < length gens
  inside = omega (arith, g.inside, g.as_many, pivoted_length)

  pivot-word : Word f.order n (get_or gens p [])
  pivot-word = listed-get_or [] G p inside

  symbol_low : get_or (get_or gens p []) c 0 < f.order
  symbol_low = symbol_below laws pivot-word c

  factor_low : inverse (get_or (get_or gens p []) c 0) < f.order
  factor_low = laws.inverse_below (get_or (get_or gens p []) c 0) symbol_low

  scaled_rows : Rows f.order n (length (scaled f inverse gens p c)) (scaled f inverse gens p c)
  scaled_rows = rows-set laws G p (times-word laws (inverse (get_or (get_or gens p []) c 0)) factor_low pivot-word)

  pub pivoted_rows : Rows f.order n (length next) next
  pivoted_rows = gained_rows laws scaled_rows g

  pub pivoted_same_code : SameCode f n gens next
  pivoted_same_code = same_code_then (same_code_scale laws G p (inverse (get_or (get_or gens p []) c 0)) inside factor_low (inverse_nonzero laws (get_or (get_or gens p []) c 0) some symbol_low)) (gained_same_code laws scaled_rows g)

  -- Row p has a 1 in the column.
  pub pivoted_one : get_or (get_or next p []) c 0 ≡ 1
  pivoted_one = ap (λ r. get_or r c 0) (g.pivot ∙ get_or-set_same gens p (times f (inverse (get_or (get_or gens p []) c 0)) (get_or gens p [])) [] inside) ∙ scaled_one laws pivot-word c some

  -- If the others are 0 there, the column is one more that the rows are reduced at.
  pub pivoted_reduced : (ps : List ℕ) → length ps ≡ p → Reduced gens ps → ((i : ℕ) → i < length next → (i ≡ p → ⊥) → get_or (get_or next i []) c 0 ≡ 0) → Reduced next (ps ++ c ∷ [])
  pivoted_reduced ps e D clear =
      reduced_push next ps c
      (gained_reduced laws scaled_rows g ps (reduced_scale laws G ps D p (inverse (get_or (get_or gens p []) c 0)) (omega arith) inside factor_low) (omega arith))
      (λ i l. elim (cases_eq i p) [
        | inl s ↦ ap (λ x. get_or (get_or next x []) c 0) s ∙ pivoted_one ∙ ap (λ b. cond b 1 0) (sym (eq-eqb (length ps) i (e ∙ sym s)))
        | inr ne ↦ clear i l ne ∙ ap (λ b. cond b 1 0) (sym (ne_eqb (length ps) i (λ s. ne (sym s ∙ e))))
      ])
