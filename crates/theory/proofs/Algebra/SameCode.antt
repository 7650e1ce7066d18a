-- Which columns are independent, and so which forms there are, depends on the code and not on the rows that generate it.
use Rattle.std.proofs.Common.{◌≡◌, ℕ, zero, suc, Bool, true, false, cond, not, ◌&&◌, eqb, ltb, List, [], ◌∷◌, ◌++◌, map, length, get_or, replicate, Decides, filter, sym, refl, ap, ◌∙◌, subst, ap₂}
use mathlib.Core.Path.{fun_ext}
use lib.ListN.{length-map}
use Rattle.std.specs.List.{range_with_len}
use Rattle.std.proofs.lemmas.Bool.Decides.{same_from_decides, Decides-like}
use Rattle.theory.specs.Meanings.{FieldMeaning, FieldLaws}
use Rattle.theory.specs.Codes.{codewords, combination, any, is_zero}
use Rattle.theory.specs.Forms.{column, independent, pick, among, GeneratorForm, form, forms_from, forms, unit_at}
use Rattle.theory.specs.Facts.{Independent}
use Rattle.theory.proofs.Lists.Truths.{same_tests}
use Rattle.theory.proofs.Lists.Zeros.{is_zero_decides}
use Rattle.theory.proofs.Lists.Listed.{Listed, listed-none, none}
use Rattle.theory.proofs.Algebra.Combinations.{Rows, dot}
use Rattle.theory.proofs.Algebra.Columns.{symbols, relation_symbols, symbols_relation}
use Rattle.theory.proofs.Lists.Tests.{decides_same}
use Rattle.theory.proofs.Algebra.Codewords.{Made, made_in, made-from-in, made-combination}
use Rattle.theory.proofs.Algebra.Picking.{Column, column_found, column-dependent}
use Rattle.theory.proofs.Algebra.Bases.{Basis, basis_same}
use Rattle.theory.proofs.Algebra.Generators.{first_found, form_basis, unit_row, unit-rows, unit-row_found, order}
use Rattle.theory.proofs.Algebra.Series.{goes_on}

-- Two generators of one code, with as many rows.
pub record SameCode (f : FieldMeaning) (n : ℕ) (rows gens : List (List ℕ)) : Type 0 where
  pub as_many : length gens ≡ length rows
  pub there : (u : List ℕ) → Made f n rows u → Made f n gens u
  pub back : (u : List ℕ) → Made f n gens u → Made f n rows u

-- A column is zero if it is the sum of no columns.
zero-column : (f : FieldMeaning) (rows : List (List ℕ)) (c : ℕ) → Decides (is_zero (column rows c)) (Column f rows [] c)
zero-column f rows c =
    let long : length (column rows c) ≡ length rows = length-map rows (λ row. get_or row c 0) in (
      (λ h. record { coefficients = []; codes = none; is = (is_zero_decides (column rows c)).0 h ∙ ap (λ k. replicate k 0) long }),
      (λ s. (is_zero_decides (column rows c)).1 (s.is ∙ ap (λ cs. combination f (length rows) cs []) (listed-none s.codes) ∙ ap (λ k. replicate k 0) (sym long))),
    )

module _ {f : FieldMeaning} {negative inverse : ℕ → ℕ} (laws : FieldLaws f negative inverse) {n : ℕ} {rows gens : List (List ℕ)}
    (R : Rows f.order n (length rows) rows) (G : Rows f.order n (length gens) gens) where
  -- Rows made from others make no more words than those.
  pub made_through : Listed (Made f n rows) (length gens) gens → (u : List ℕ) → Made f n gens u → Made f n rows u
  made_through each u m = subst (Made f n rows) (sym m.is) (made-combination laws R m.codes each)

  -- A relation of columns holds in each generator of a part of the code.
  pub column_kept : ((u : List ℕ) → Made f n gens u → Made f n rows u) → (ps : List ℕ) (c : ℕ) → Column f rows ps c → Column f gens ps c
  column_kept back ps c s = record {
    coefficients = s.coefficients;
    codes = s.codes;
    is = symbols_relation laws G ps c s.codes (λ cs w.
        let m : Made f n rows (combination f n cs gens) = back (combination f n cs gens) (record { coefficients = cs; codes = w; is = refl }) in
        subst (λ (u : List ℕ). get_or u c 0 ≡ dot f s.coefficients (symbols ps u)) (sym m.is) (relation_symbols laws R ps c s.codes s.is m.codes));
  }

module _ {f : FieldMeaning} {negative inverse : ℕ → ℕ} (laws : FieldLaws f negative inverse) {n : ℕ} {rows gens : List (List ℕ)}
    (R : Rows f.order n (length rows) rows) (G : Rows f.order n (length gens) gens) (S : SameCode f n rows gens) where
  pub independent-same : (ps : List ℕ) (c : ℕ) → independent f rows ps c ≡ independent f gens ps c
  independent-same ps c = same_tests (independent f rows ps c) (independent f gens ps c)
      (λ e. column-dependent f gens ps c (column_kept laws R G S.back ps c (column_found f rows ps c e)))
      (λ e. column-dependent f rows ps c (column_kept laws G R S.there ps c (column_found f gens ps c e)))

  pub pick_same : (taken cs : List ℕ) → pick f rows taken cs ≡ pick f gens taken cs
  pick_same taken [] = refl
  pick_same taken (c ∷ cs) =
      pick_same (cond (ltb (length taken) (length rows) && independent f rows taken c) (taken ++ c ∷ []) taken) cs
      ∙ ap₂ (λ (k : ℕ) (b : Bool). pick f gens (cond (ltb (length taken) k && b) (taken ++ c ∷ []) taken) cs) (sym S.as_many) (independent-same taken c)

  pub zero-column-same : (c : ℕ) → is_zero (column rows c) ≡ is_zero (column gens c)
  zero-column-same c = same_from_decides (is_zero (column rows c)) (is_zero (column gens c)) (zero-column f rows c)
      (Decides-like (is_zero (column gens c)) (column_kept laws G R S.there [] c) (column_kept laws R G S.back [] c) (zero-column f gens c))

  module _ (I : Independent f n rows) where
    unit-row-same : {ps : List ℕ} → Basis f n rows ps → (p : ℕ) → unit_row f n rows ps p ≡ unit_row f n gens ps p
    unit-row-same {ps} B p =
        let t : List ℕ = map (λ c. cond (eqb c p) 1 0) ps in
        let u : List ℕ = unit_row f n rows ps p in
        let x = unit-row_found laws R I B p in
        let y = first_found (unit_at ps p) u (codewords f n gens) (made_in (S.there u x.0)) ((decides_same (symbols ps u) t).1 x.1) in
        let v : List ℕ = unit_row f n gens ps p in
        basis_same laws R I B x.0 (S.back v (made-from-in y.0)) (x.1 ∙ sym ((decides_same (symbols ps v) t).0 y.1))

    pub form-same : (used : List ℕ) → form f n rows used ≡ form f n gens used
    form-same used =
        let ps : List ℕ = pick f rows [] (order n used) in
        (λ i. record { positions = ps; rank = length (filter (λ p. not (among p used)) ps); rows = map (fun_ext (unit-row-same (form_basis laws R I used)) i) ps })
        ∙ ap (λ ps. record { positions = ps; rank = length (filter (λ p. not (among p used)) ps); rows = unit-rows f n gens ps }) (pick_same [] (order n used))

    forms_from-same : (left : ℕ) (used : List ℕ) → forms_from f n rows left used ≡ forms_from f n gens left used
    forms_from-same zero used = refl
    forms_from-same (suc left) used =
        ap₂ (λ (j : GeneratorForm) (b : Bool). elim b as (λ _. List GeneratorForm) [ true ↦ j ∷ forms_from f n rows left (used ++ j.positions) | false ↦ [] ])
        (form-same used) (ap (λ (z : ℕ → Bool). any (λ c. not (among c used) && not (z c)) (range_with_len 0 n)) (fun_ext zero-column-same))
        ∙ ap (λ (js : List GeneratorForm). elim (goes_on n gens used) as (λ _. List GeneratorForm) [ true ↦ form f n gens used ∷ js | false ↦ [] ]) (forms_from-same left (used ++ (form f n gens used).positions))

    pub forms-same : forms f n rows ≡ forms f n gens
    unfolding forms
    forms-same = forms_from-same 8 []
