-- Rows reduced at some places: what an elimination reads off them.
use Rattle.std.proofs.Common.{◌≡◌, ℕ, zero, suc, ◌<◌, ◌≤◌, true, false, cond, eqb, List, [], ◌∷◌, ◌++◌, map, length, get_or, sym, refl, ap, ◌∙◌, subst, inl, inr, arith}
use lib.Dec.{eqb-zero-suc, eqb-suc-zero, eqb-suc-suc}
use lib.ListN.{length-map}
use Rattle.std.specs.List.{range_with_len}
use Rattle.std.proofs.lemmas.List.{ext_get_or, get_or-map, get_or_past, get_or_append_left, get_or_push, length_push}
use Rattle.std.proofs.lemmas.List.FromFn.{length-range_with_len, get_or-map-range_with_len}
use Rattle.std.proofs.lemmas.Bool.{cases_Bool, cases_lt}
use Rattle.theory.specs.Meanings.{FieldMeaning, FieldLaws}
use Rattle.theory.specs.Codes.{combination}
use Rattle.theory.specs.Forms.{column, independent}
use Rattle.theory.proofs.Lists.Truths.{eqb_comm}
use Rattle.theory.proofs.Lists.Zeros.{get_or_zeros}
use Rattle.theory.proofs.Lists.Listed.{listed-length}
use Rattle.theory.proofs.Algebra.Words.{Word}
use Rattle.theory.proofs.Algebra.Combinations.{Rows, dot, unit, unit-word, combination-word, get_or-combination}
use Rattle.theory.proofs.Algebra.Columns.{symbols, symbols_word, column-word, columns-rows, dot_comm, unit_dot}
use Rattle.theory.proofs.Algebra.Picking.{Column, column_found, column-dependent}

-- Each of the places has a 1 in the row of its own number and 0 in the others.
abbrev pub Reduced : List (List ℕ) → List ℕ → Type 0
Reduced gens ps = (i a : ℕ) → i < length gens → a < length ps → get_or (get_or gens i []) (get_or ps a 0) 0 ≡ cond (eqb a i) 1 0

pub get_or-unit : (k a i : ℕ) → i < k → get_or (unit k a) i 0 ≡ cond (eqb a i) 1 0
get_or-unit zero a i h = absurd (omega arith)
get_or-unit (suc k) zero zero h = refl
get_or-unit (suc k) zero (suc i) h = get_or_zeros k i ∙ ap (λ b. cond b 1 0) (sym (eqb-zero-suc i))
get_or-unit (suc k) (suc a) zero h = ap (λ b. cond b 1 0) (sym (eqb-suc-zero a))
get_or-unit (suc k) (suc a) (suc i) h = get_or-unit k a i (omega arith) ∙ ap (λ b. cond b 1 0) (sym (eqb-suc-suc a i))

pub get_or-column : (rows : List (List ℕ)) (c i : ℕ) → i < length rows → get_or (column rows c) i 0 ≡ get_or (get_or rows i []) c 0
get_or-column rows c i h = get_or-map (λ row. get_or row c 0) rows i [] 0 h

pub reduced_push : (gens : List (List ℕ)) (ps : List ℕ) (c : ℕ) → Reduced gens ps → ((i : ℕ) → i < length gens → get_or (get_or gens i []) c 0 ≡ cond (eqb (length ps) i) 1 0) → Reduced gens (ps ++ c ∷ [])
reduced_push gens ps c D h i a k l = elim (cases_lt a (length ps)) [
  | inl m ↦ ap (λ p. get_or (get_or gens i []) p 0) (get_or_append_left ps (c ∷ []) 0 a m) ∙ D i a k m
  | inr m ↦
      let e : length ps ≡ a = omega (arith, length_push ps c) in
      ap (λ p. get_or (get_or gens i []) p 0) (get_or_push ps c 0 a e) ∙ h i k ∙ ap (λ x. cond (eqb x i) 1 0) e
]

module _ {f : FieldMeaning} {negative inverse : ℕ → ℕ} (laws : FieldLaws f negative inverse) {n m : ℕ} {gens : List (List ℕ)} (G : Rows f.order n m gens) (ps : List ℕ) (D : Reduced gens ps) where
  unit-column : (a : ℕ) → a < length ps → column gens (get_or ps a 0) ≡ unit m a
  unit-column a l =
      let w = column-word laws G (get_or ps a 0) in
      ext_get_or 0 (column gens (get_or ps a 0)) (unit m a) (listed-length w ∙ sym (listed-length (unit-word laws m a)))
      (λ i h. let k : i < length gens = omega (arith, listed-length w, listed-length G) in
      get_or-column gens (get_or ps a 0) i k ∙ D i a k l ∙ sym (get_or-unit m a i (omega (arith, listed-length w))))

  -- The symbol of a sum of reduced rows at one of the places is the coefficient,
  pub reduced_symbol : {cs : List ℕ} → Word f.order m cs → (a : ℕ) → a < length ps → get_or (combination f n cs gens) (get_or ps a 0) 0 ≡ get_or cs a 0
  reduced_symbol {cs} w a l =
      get_or-combination laws w G (get_or ps a 0) ∙ ap (dot f cs) (unit-column a l) ∙ dot_comm laws w (unit-word laws m a) ∙ unit_dot laws w a

  -- and if there are as many places as rows, the symbols there are the coefficients.
  pub reduced_symbols : length ps ≡ m → {cs : List ℕ} → Word f.order m cs → symbols ps (combination f n cs gens) ≡ cs
  reduced_symbols e {cs} w =
      let v : List ℕ = combination f n cs gens in
      let long : length (symbols ps v) ≡ length ps = length-map ps (λ p. get_or v p 0) in
      ext_get_or 0 (symbols ps v) cs (long ∙ e ∙ sym (listed-length w))
      (λ a h. let l : a < length ps = omega arith in get_or-map (λ p. get_or v p 0) ps a 0 0 l ∙ reduced_symbol w a l)

module _ {f : FieldMeaning} {negative inverse : ℕ → ℕ} (laws : FieldLaws f negative inverse) {n : ℕ} {gens : List (List ℕ)} (G : Rows f.order n (length gens) gens) (ps : List ℕ) (D : Reduced gens ps) where
  -- A sum of multiples of reduced columns has the coefficients first, and then zeros.
  pub reduced-combination : {ls : List ℕ} → Word f.order (length ps) ls → (i : ℕ) → i < length gens → get_or (combination f (length gens) ls (map (column gens) ps)) i 0 ≡ get_or ls i 0
  reduced-combination {ls} w i h =
      let vs : List (List ℕ) = map (column gens) ps in
      let V : Rows f.order (length gens) (length ps) vs = columns-rows laws G ps in
      let x : Word f.order (length ps) (column vs i) = column-word laws V i in
      let U : Word f.order (length ps) (unit (length ps) i) = unit-word laws (length ps) i in
      let is-unit : column vs i ≡ unit (length ps) i = ext_get_or 0 (column vs i) (unit (length ps) i) (listed-length x ∙ sym (listed-length U))
      (λ a l. let k : a < length ps = omega (arith, listed-length x) in
      get_or-column vs i a (omega (arith, listed-length V))
      ∙ ap (λ v. get_or v i 0) (get_or-map (column gens) ps a 0 [] k)
      ∙ get_or-column gens (get_or ps a 0) i h
      ∙ D i a h k
      ∙ ap (λ b. cond b 1 0) (eqb_comm a i)
      ∙ sym (get_or-unit (length ps) i a k)) in
      get_or-combination laws w V i ∙ ap (dot f ls) is-unit ∙ dot_comm laws w U ∙ unit_dot laws w i

  -- A column is a sum of multiples of the reduced ones if it is zero in the rows after theirs,
  pub reduced-column : (c : ℕ) → ((i : ℕ) → length ps ≤ i → i < length gens → get_or (get_or gens i []) c 0 ≡ 0) → Column f gens ps c
  reduced-column c z =
      let v : List ℕ = column gens c in
      let V : Word f.order (length gens) v = column-word laws G c in
      let ls : List ℕ = symbols (range_with_len 0 (length ps)) v in
      let w : Word f.order (length ps) ls = subst (λ (m : ℕ). Word f.order m ls) (length-range_with_len 0 (length ps)) (symbols_word laws (range_with_len 0 (length ps)) V) in
      let x = combination-word laws w (columns-rows laws G ps) in
      record {
        coefficients = ls;
        codes = w;
        is = ext_get_or 0 v (combination f (length gens) ls (map (column gens) ps)) (listed-length V ∙ sym (listed-length x))
            (λ i l. let h : i < length gens = omega (arith, listed-length V) in
            elim (cases_lt i (length ps)) [
              | inl k ↦ sym (get_or-map-range_with_len (λ p. get_or v p 0) 0 (length ps) i i 0 k (omega arith)) ∙ sym (reduced-combination w i h)
              | inr k ↦ get_or-column gens c i h ∙ z i k h ∙ sym (get_or_past ls i 0 (omega (arith, listed-length w))) ∙ sym (reduced-combination w i h)
            ]);
      }

  -- and only then.
  pub reduced-column-zero : (c : ℕ) → Column f gens ps c → (i : ℕ) → length ps ≤ i → i < length gens → get_or (get_or gens i []) c 0 ≡ 0
  reduced-column-zero c s i l h =
      sym (get_or-column gens c i h) ∙ ap (λ v. get_or v i 0) s.is ∙ reduced-combination s.codes i h ∙ get_or_past s.coefficients i 0 (omega (arith, listed-length s.codes))

  pub reduced_passed : (c : ℕ) → ((i : ℕ) → length ps ≤ i → i < length gens → get_or (get_or gens i []) c 0 ≡ 0) → independent f gens ps c ≡ false
  reduced_passed c z = column-dependent f gens ps c (reduced-column c z)

  pub reduced_taken : (c i : ℕ) → length ps ≤ i → i < length gens → 0 < get_or (get_or gens i []) c 0 → independent f gens ps c ≡ true
  reduced_taken c i l h p = elim (cases_Bool (independent f gens ps c)) [ inl e ↦ e | inr e ↦ absurd (omega (arith, reduced-column-zero c (column_found f gens ps c e) i l h)) ]
