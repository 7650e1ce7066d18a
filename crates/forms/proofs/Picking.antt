-- What a form's elimination keeps while it goes through the columns.
use Rattle.std.proofs.Common.{◌≡◌, ℕ, ◌<◌, ◌≤◌, List, [], ◌∷◌, ◌++◌, length, get_or, set, sym, refl, ap, ◌∙◌, subst, inl, inr, arith, length-set}
use Rattle.std.proofs.lemmas.List.{get_or-set_same, get_or-set_other, length_push}
use Rattle.std.proofs.lemmas.Bool.{cases_eq}
use Rattle.theory.specs.Meanings.{FieldMeaning, FieldLaws}
use Rattle.theory.specs.Forms.{pick, form}
use Rattle.theory.specs.Facts.{Independent}
use Rattle.theory.proofs.Lists.Listed.{Listed, listed-from}
use Rattle.theory.proofs.Algebra.Combinations.{Rows}
use Rattle.theory.proofs.Algebra.Codewords.{Made, made_row}
use Rattle.theory.proofs.Algebra.Picking.{pick_takes, pick-passes, pick_full}
use Rattle.theory.proofs.Algebra.Reduced.{Reduced, reduced_passed, reduced_taken}
use Rattle.theory.proofs.Algebra.ReducedSteps.{reduced_exchange}
use Rattle.theory.proofs.Algebra.Bases.{Basis}
use Rattle.theory.proofs.Algebra.Generators.{order, form_basis, reduced-rows}
use Rattle.theory.proofs.Algebra.SameCode.{SameCode, independent-same}
use Rattle.theory.proofs.Algebra.RowSteps.{exchanged, rows_exchanged, same_code_exchange, same_code_then}
use Rattle.forms.proofs.Clearing.{Gained}
use Rattle.forms.proofs.Pivoting.{scaled, pivoted_length, pivoted_rows, pivoted_same_code, pivoted_reduced}

-- The rows as given, the columns to go through, the rows now, the positions taken, and the columns to come.
pub record Picking (f : FieldMeaning) (n : ℕ) (rows : List (List ℕ)) (all : List ℕ) (gens : List (List ℕ)) (ps rest : List ℕ) : Type 0 where
  pub same_code : SameCode f n rows gens
  pub words : Rows f.order n (length gens) gens
  pub reduced : Reduced gens ps
  pub few : length ps ≤ length rows
  pub picks : pick f rows ps rest ≡ pick f rows [] all

pub length_exchanged : (rows : List (List ℕ)) (i j : ℕ) → length (exchanged rows i j) ≡ length rows
length_exchanged rows i j = length-set (set rows i (get_or rows j [])) j (get_or rows i []) ∙ length-set rows i (get_or rows j [])

pub exchanged_first : (rows : List (List ℕ)) (i j : ℕ) → i < length rows → j < length rows → get_or (exchanged rows i j) i [] ≡ get_or rows j []
exchanged_first rows i j h k =
    let half : List (List ℕ) = set rows i (get_or rows j []) in
    elim (cases_eq i j) [
      | inl e ↦ ap (λ x. get_or (exchanged rows i j) x []) e ∙ get_or-set_same half j (get_or rows i []) [] (omega (arith, length-set rows i (get_or rows j []))) ∙ ap (λ x. get_or rows x []) e
      | inr ne ↦ get_or-set_other half j i (get_or rows i []) [] ne ∙ get_or-set_same rows i (get_or rows j []) [] h
    ]

module _ {f : FieldMeaning} {negative inverse : ℕ → ℕ} (laws : FieldLaws f negative inverse) {n : ℕ} {rows : List (List ℕ)} (R : Rows f.order n (length rows) rows) where
  pub picking_start : {gens : List (List ℕ)} → Rows f.order n (length gens) gens → SameCode f n rows gens → (all : List ℕ) → Picking f n rows all gens [] all
  picking_start G S all = record { same_code = S; words = G; reduced = λ i a h l. absurd (omega arith); few = omega arith; picks = refl }

  -- A column that is 0 in the rows after those of the positions is passed.
  pub picking_passes : {all : List ℕ} {gens : List (List ℕ)} {ps : List ℕ} {c : ℕ} {rest : List ℕ} → Picking f n rows all gens ps (c ∷ rest)
      → ((i : ℕ) → length ps ≤ i → i < length rows → get_or (get_or gens i []) c 0 ≡ 0) → Picking f n rows all gens ps rest
  picking_passes {gens = gens} {ps} {c} {rest} t zeros = record {
    same_code = t.same_code;
    words = t.words;
    reduced = t.reduced;
    few = t.few;
    picks = sym (pick-passes f rows ps c rest (independent-same laws R t.words t.same_code ps c
        ∙ reduced_passed laws t.words ps t.reduced c (λ i l h. zeros i l (omega (arith, t.same_code.as_many))))) ∙ t.picks;
  }

  -- A column that is not 0 in one of those rows is taken: that row goes to the place after them and is made 1 there, and then the column is cleared in all others.
  pub picking_takes : {all : List ℕ} {gens exchanged-gens scaled-gens next : List (List ℕ)} {ps : List ℕ} {c : ℕ} {rest : List ℕ} {factor : ℕ → ℕ} → Picking f n rows all gens ps (c ∷ rest)
      → (p : ℕ) → length ps ≤ p → p < length rows → 0 < get_or (get_or gens p []) c 0
      → exchanged-gens ≡ exchanged gens (length ps) p → scaled-gens ≡ scaled f inverse exchanged-gens (length ps) c → Gained f scaled-gens next (length ps) factor
      → ((i : ℕ) → i < length rows → (i ≡ length ps → ⊥) → get_or (get_or next i []) c 0 ≡ 0) → Picking f n rows all next (ps ++ c ∷ []) rest
  picking_takes {gens = gens} {exchanged-gens} {next = next} {ps} {c} {rest} {factor} t p l h some e s g clear =
      let r : ℕ = length ps in
      let as_many = t.same_code.as_many in
      let here : r < length gens = omega (arith, as_many) in
      let there : p < length gens = omega (arith, as_many) in
      let E = rows_exchanged laws t.words r p here there in
      let some-here : 0 < get_or (get_or (exchanged gens r p) r []) c 0 = subst (λ u. 0 < get_or u c 0) (sym (exchanged_first gens r p here there)) some in
      let gain : Gained f (scaled f inverse (exchanged gens r p) r c) next r factor = subst (λ (x : List (List ℕ)). Gained f x next r factor) (s ∙ ap (λ (x : List (List ℕ)). scaled f inverse x r c) e) g in
      let long : length next ≡ length rows = pivoted_length laws E r c some-here gain ∙ length_exchanged gens r p ∙ as_many in
      record {
        same_code = same_code_then t.same_code (same_code_then (same_code_exchange laws t.words r p here there) (pivoted_same_code laws E r c some-here gain));
        words = pivoted_rows laws E r c some-here gain;
        reduced = pivoted_reduced laws E r c some-here gain ps refl (reduced_exchange gens ps t.reduced r p (omega arith) l here there) (λ i k ne. clear i (omega arith) ne);
        few = omega (arith, length_push ps c);
        picks = sym (pick_takes f rows ps c rest (omega arith) (independent-same laws R t.words t.same_code ps c ∙ reduced_taken laws t.words ps t.reduced c p l there some)) ∙ t.picks;
      }

  -- When there are as many positions as rows, every column is passed.
  pub picking_stops : {all : List ℕ} {gens : List (List ℕ)} {ps : List ℕ} {c : ℕ} {rest : List ℕ} → Picking f n rows all gens ps (c ∷ rest) → length rows ≤ length ps → Picking f n rows all gens ps rest
  picking_stops {ps = ps} {c} {rest} t full = record {
    same_code = t.same_code;
    words = t.words;
    reduced = t.reduced;
    few = t.few;
    picks = pick_full f rows ps rest full ∙ sym (pick_full f rows ps (c ∷ rest) full) ∙ t.picks;
  }

  -- and at the end of the columns.
  pub picking_ends : {all : List ℕ} {gens : List (List ℕ)} {ps : List ℕ} → Picking f n rows all gens ps [] → ps ≡ pick f rows [] all
  picking_ends t = t.picks

  -- Then, of independent rows, the rows now are those of the form, and there are as many positions.
  pub picking_rows : Independent f n rows → (used : List ℕ) {gens : List (List ℕ)} {ps rest : List ℕ} → Picking f n rows (order n used) gens ps rest → ps ≡ pick f rows [] (order n used)
      → (gens ≡ (form f n rows used).rows) × (ps ≡ (form f n rows used).positions) × (length ps ≡ length rows)
  picking_rows I used {gens} {ps} t e =
      let B : Basis f n rows (form f n rows used).positions = form_basis laws R I used in
      let each : Listed (Made f n rows) (length rows) gens = listed-from [] (length rows) gens t.same_code.as_many (λ i h. t.same_code.back (get_or gens i []) (made_row laws t.words i h)) in
      (reduced-rows laws R I B gens each (subst (Reduced gens) e t.reduced), e, ap length e ∙ B.count)
