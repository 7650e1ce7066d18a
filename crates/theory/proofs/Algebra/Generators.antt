-- The rows of a form are unit at the positions picked, and so each form of an accepted code is systematic.
use Rattle.std.proofs.Common.{◌≡◌, ℕ, ◌<◌, Bool, true, cond, not, eqb, List, [], ◌∷◌, ◌++◌, map, length, get_or, filter, sym, refl, ap, ◌∙◌, inl, inr, arith}
use lib.ListN.{length-map}
use Rattle.std.specs.List.{range_with_len}
use Rattle.std.proofs.lemmas.List.{ext_get_or, get_or-map}
use Rattle.std.proofs.lemmas.Bool.{cases_Bool, cases_eq, cond-true, eq-eqb, ne_eqb, cond_both, not_from_false}
use Rattle.theory.specs.Meanings.{FieldMeaning, FieldLaws}
use Rattle.theory.specs.Codes.{combination, codewords}
use Rattle.theory.specs.Forms.{among, unit_at, first, form}
use Rattle.theory.specs.Standings.{LinearCode}
use Rattle.theory.specs.Facts.{Matrix, Independent, Systematic}
use Rattle.theory.proofs.Lists.Listed.{Listed, listed-any, listed-get_or, listed-length, listed-map}
use Rattle.theory.proofs.Lists.Members.{In, in-get_or, in_append_left, in_append_right, of-append, in_kept, of_kept, in_counting, of_counting}
use Rattle.theory.proofs.Lists.Distinct.{distinct_places}
use Rattle.theory.proofs.Lists.Tests.{decides_same}
use Rattle.theory.proofs.Algebra.Scalars.{zero-below, one_below}
use Rattle.theory.proofs.Algebra.Words.{Word}
use Rattle.theory.proofs.Algebra.Combinations.{Rows, rows_from, matrix-from}
use Rattle.theory.proofs.Algebra.Columns.{symbols, symbols_word}
use Rattle.theory.proofs.Algebra.Codewords.{Made, made_in, made-from-in, made-from-codeword, codeword-from-made, made_word, made-combination}
use Rattle.theory.proofs.Algebra.Picking.{pick-picked}
use Rattle.theory.proofs.Algebra.Reduced.{Reduced, reduced_symbols}
use Rattle.theory.proofs.Algebra.Bases.{Basis, pick_basis, basis_same, basis_reaches}

pub first_found : (p : List ℕ → Bool) (x : List ℕ) (xs : List (List ℕ)) → In x xs → p x ≡ true → In (first p xs) xs × (p (first p xs) ≡ true)
first_found p x [] m h = absurd m
first_found p x (y ∷ ys) (inl i) h = let e : cond (p y) y (first p ys) ≡ y = cond-true (p y) y (first p ys) (ap p i ∙ h) in (inl (sym e), ap p (e ∙ i) ∙ h)
first_found p x (y ∷ ys) (inr m) h = cond_both (p y) y (first p ys) (λ u. In u (y ∷ ys) × (p u ≡ true)) (λ e. (inl refl, e)) (λ e. let r = first_found p x ys m h in (inr r.0, r.1))

-- The first codeword that is 1 at p and 0 at the other places, and those of all the places: the rows of a form.
abbrev pub unit_row : FieldMeaning → ℕ → List (List ℕ) → List ℕ → ℕ → List ℕ
unit_row f n rows ps p = first (unit_at ps p) (codewords f n rows)

abbrev pub unit-rows : FieldMeaning → ℕ → List (List ℕ) → List ℕ → List (List ℕ)
unit-rows f n rows ps = map (unit_row f n rows ps) ps

-- The order in which a form goes through the columns.
abbrev pub order : ℕ → List ℕ → List ℕ
order n used = filter (λ c. not (among c used)) (range_with_len 0 n) ++ filter (λ c. among c used) (range_with_len 0 n)

pub in_order : (n : ℕ) (used : List ℕ) (c : ℕ) → c < n → In c (order n used)
in_order n used c h =
    let m : In c (range_with_len 0 n) = in_counting c 0 n (omega arith) (omega arith) in
    elim (cases_Bool (among c used)) [
      | inl e ↦ in_append_right c (filter (λ c. not (among c used)) (range_with_len 0 n)) (filter (λ c. among c used) (range_with_len 0 n)) (in_kept (λ c. among c used) c (range_with_len 0 n) m e)
      | inr e ↦ in_append_left c (filter (λ c. not (among c used)) (range_with_len 0 n)) (filter (λ c. among c used) (range_with_len 0 n)) (in_kept (λ c. not (among c used)) c (range_with_len 0 n) m (not_from_false (among c used) e))
    ]

pub of-order : (n : ℕ) (used : List ℕ) (c : ℕ) → In c (order n used) → c < n
of-order n used c m =
    let r : In c (range_with_len 0 n) = elim (of-append c (filter (λ c. not (among c used)) (range_with_len 0 n)) (filter (λ c. among c used) (range_with_len 0 n)) m) [ inl l ↦ (of_kept (λ c. not (among c used)) c (range_with_len 0 n) l).0 | inr r ↦ (of_kept (λ c. among c used) c (range_with_len 0 n) r).0 ] in
    omega (arith, of_counting c 0 n r)

-- Positions are equal where their places are.
pub place_tests : {f : FieldMeaning} {n : ℕ} {rows : List (List ℕ)} {ps : List ℕ} → Basis f n rows ps → (a i : ℕ) → a < length ps → i < length ps → eqb (get_or ps a 0) (get_or ps i 0) ≡ eqb a i
place_tests {ps = ps} B a i h l = elim (cases_eq a i) [
  | inl e ↦ eq-eqb (get_or ps a 0) (get_or ps i 0) (ap (λ x. get_or ps x 0) e) ∙ sym (eq-eqb a i e)
  | inr ne ↦ ne_eqb (get_or ps a 0) (get_or ps i 0) (λ e. ne (distinct_places ps B.distinct a i 0 h l e)) ∙ sym (ne_eqb a i ne)
]

module _ {f : FieldMeaning} {negative inverse : ℕ → ℕ} (laws : FieldLaws f negative inverse) {n : ℕ} {rows : List (List ℕ)} (R : Rows f.order n (length rows) rows) (I : Independent f n rows) where
  pub form_basis : (used : List ℕ) → Basis f n rows (form f n rows used).positions
  form_basis used = pick_basis laws R I (order n used) (in_order n used)

  pub form-within : (used : List ℕ) (p : ℕ) → In p (form f n rows used).positions → p < n
  form-within used p m = elim ((pick-picked laws R (order n used)).from p m) [ inl r ↦ absurd r | inr r ↦ of-order n used p r ]

  module _ {ps : List ℕ} (B : Basis f n rows ps) where
    pub unit-row_found : (p : ℕ) → Made f n rows (unit_row f n rows ps p) × (symbols ps (unit_row f n rows ps p) ≡ map (λ c. cond (eqb c p) 1 0) ps)
    unit-row_found p =
        let t : List ℕ = map (λ c. cond (eqb c p) 1 0) ps in
        let w : Word f.order (length ps) t = listed-map (λ a. a < f.order) (λ c. cond (eqb c p) 1 0) (λ c h. cond_both (eqb c p) 1 0 (λ a. a < f.order) (λ _. one_below laws) (λ _. zero-below laws)) (listed-any ps) in
        let u = basis_reaches laws R I B w in
        let r = first_found (unit_at ps p) u.0 (codewords f n rows) (made_in u.1) ((decides_same (symbols ps u.0) t).1 u.2) in
        (made-from-in r.0, (decides_same (symbols ps (unit_row f n rows ps p)) t).0 r.1)

    pub unit-rows-made : Listed (Made f n rows) (length ps) (unit-rows f n rows ps)
    unit-rows-made = listed-map (Made f n rows) (unit_row f n rows ps) (λ p h. (unit-row_found p).0) (listed-any ps)

    pub unit-rows-rows : Rows f.order n (length ps) (unit-rows f n rows ps)
    unit-rows-rows = listed-map (Word f.order n) (unit_row f n rows ps) (λ p h. made_word laws R (unit-row_found p).0) (listed-any ps)

    pub unit-rows-unit : (i a : ℕ) → i < length ps → a < length ps → get_or (get_or (unit-rows f n rows ps) i []) (get_or ps a 0) 0 ≡ cond (eqb a i) 1 0
    unit-rows-unit i a h l =
        let p : ℕ = get_or ps i 0 in
        let u : List ℕ = unit_row f n rows ps p in
        ap (λ v. get_or v (get_or ps a 0) 0) (get_or-map (unit_row f n rows ps) ps i 0 [] h)
        ∙ sym (get_or-map (λ c. get_or u c 0) ps a 0 0 l)
        ∙ ap (λ t. get_or t a 0) (unit-row_found p).1
        ∙ get_or-map (λ c. cond (eqb c p) 1 0) ps a 0 0 l
        ∙ ap (λ b. cond b 1 0) (place_tests B a i l h)

    pub unit-rows-reduced : Reduced (unit-rows f n rows ps) ps
    unit-rows-reduced i a h l = unit-rows-unit i a (omega (arith, length-map ps (unit_row f n rows ps))) l

    pub unit-rows_generate : {u : List ℕ} → Made f n rows u → u ≡ combination f n (symbols ps u) (unit-rows f n rows ps)
    unit-rows_generate {u} m =
        let w = symbols_word laws ps (made_word laws R m) in
        basis_same laws R I B m (made-combination laws R w unit-rows-made) (sym (reduced_symbols laws unit-rows-rows ps unit-rows-reduced refl w))

    -- Codewords that are reduced at a basis are the rows of the form.
    pub reduced-rows : (gens : List (List ℕ)) → Listed (Made f n rows) (length rows) gens → Reduced gens ps → gens ≡ unit-rows f n rows ps
    reduced-rows gens each D =
        ext_get_or [] gens (unit-rows f n rows ps) (listed-length each ∙ sym B.count ∙ sym (length-map ps (unit_row f n rows ps)))
        (λ i l.
        let k : i < length ps = omega (arith, listed-length each, B.count) in
        let p : ℕ = get_or ps i 0 in
        let u : List ℕ = get_or gens i [] in
        let t : List ℕ = map (λ c. cond (eqb c p) 1 0) ps in
        let x = unit-row_found p in
        let at : symbols ps u ≡ t = ext_get_or 0 (symbols ps u) t (length-map ps (λ c. get_or u c 0) ∙ sym (length-map ps (λ c. cond (eqb c p) 1 0)))
        (λ a m. let h : a < length ps = omega (arith, length-map ps (λ c. get_or u c 0)) in
        get_or-map (λ c. get_or u c 0) ps a 0 0 h ∙ D i a l h ∙ ap (λ b. cond b 1 0) (sym (place_tests B a i h k)) ∙ sym (get_or-map (λ c. cond (eqb c p) 1 0) ps a 0 0 h)) in
        basis_same laws R I B (listed-get_or [] each i (omega (arith, listed-length each))) x.0 (at ∙ sym x.1)
        ∙ sym (get_or-map (unit_row f n rows ps) ps i 0 [] k))

pub form_systematic : (c : LinearCode) {negative inverse : ℕ → ℕ} → FieldLaws c.field negative inverse → Matrix c.field c.n c.rows → Independent c.field c.n c.rows → (used : List ℕ) → Systematic c (form c.field c.n c.rows used)
form_systematic c laws matrix I used =
    let f : FieldMeaning = c.field in
    let n : ℕ = c.n in
    let R = rows_from f n c.rows matrix in
    let ps : List ℕ = (form f n c.rows used).positions in
    let B : Basis f n c.rows ps = form_basis laws R I used in
    record {
      size = B.count;
      within = λ a h. form-within laws R I used (get_or ps a 0) (in-get_or ps a 0 (omega (arith, B.count)));
      distinct = λ a b h k e. distinct_places ps B.distinct a b 0 (omega (arith, B.count)) (omega (arith, B.count)) e;
      row_count = length-map ps (unit_row f n c.rows ps) ∙ B.count;
      row_matrix = matrix-from f (unit-rows-rows laws R I B);
      row_codeword = λ i h. codeword-from-made c (listed-get_or [] (unit-rows-made laws R I B) i (omega (arith, B.count)));
      unit = λ i a h k. unit-rows-unit laws R I B i a (omega (arith, B.count)) (omega (arith, B.count));
      generates = λ u h. unit-rows_generate laws R I B (made-from-codeword c h);
    }
