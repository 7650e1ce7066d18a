-- The steps of an elimination keep the code: a row by a multiple, a row plus a multiple of another, and two rows exchanged.
use Rattle.std.proofs.Common.{◌≡◌, ℕ, ◌<◌, List, [], length, get_or, set, sym, refl, ap, ◌∙◌, subst, inl, inr, arith, length-set}
use Rattle.std.proofs.lemmas.List.{get_or-set_same, get_or-set_other}
use Rattle.std.proofs.lemmas.Bool.{cases_eq}
use Rattle.theory.specs.Meanings.{FieldMeaning, FieldLaws}
use Rattle.theory.specs.Codes.{plus, times}
use Rattle.theory.proofs.Lists.Listed.{listed-from, listed-get_or, listed-set}
use Rattle.theory.proofs.Algebra.Scalars.{one_below}
use Rattle.theory.proofs.Algebra.Multiples.{times-back}
use Rattle.theory.proofs.Algebra.Words.{word-codes, Word, times-word, plus-word, plus_assoc, plus-zero, plus_negative}
use Rattle.theory.proofs.Algebra.Combinations.{Rows}
use Rattle.theory.proofs.Algebra.Codewords.{Made, made_row, made-plus, made-times}
use Rattle.theory.proofs.Algebra.SameCode.{SameCode, made_through}

module _ {f : FieldMeaning} {negative inverse : ℕ → ℕ} (laws : FieldLaws f negative inverse) {n : ℕ} {rows : List (List ℕ)} (R : Rows f.order n (length rows) rows) where
  pub rows-set : (i : ℕ) {r : List ℕ} → Word f.order n r → Rows f.order n (length (set rows i r)) (set rows i r)
  rows-set i {r} w = subst (λ (k : ℕ). Rows f.order n k (set rows i r)) (sym (length-set rows i r)) (listed-set i r w R)

  -- Rows that are made from each other generate one code.
  pub same_code-from : (gens : List (List ℕ)) → Rows f.order n (length gens) gens → length gens ≡ length rows
      → ((i : ℕ) → i < length gens → Made f n rows (get_or gens i [])) → ((i : ℕ) → i < length rows → Made f n gens (get_or rows i [])) → SameCode f n rows gens
  same_code-from gens G e from to = record {
    as_many = e;
    there = made_through laws G R (listed-from [] (length rows) rows refl to);
    back = made_through laws R G (listed-from [] (length gens) gens refl from);
  }

  -- After a row is set, the others stand as they were, and the row there is the new one.
  kept_row : (i : ℕ) {r : List ℕ} → Word f.order n r → (j : ℕ) → j < length rows → (j ≡ i → ⊥) → Made f n (set rows i r) (get_or rows j [])
  kept_row i {r} w j l ne = subst (Made f n (set rows i r)) (get_or-set_other rows i j r [] ne) (made_row laws (rows-set i w) j (omega (arith, length-set rows i r)))

  new_row : (i : ℕ) {r : List ℕ} → Word f.order n r → i < length rows → Made f n (set rows i r) r
  new_row i {r} w l = subst (Made f n (set rows i r)) (get_or-set_same rows i r [] l) (made_row laws (rows-set i w) i (omega (arith, length-set rows i r)))

  -- A row may be set to a word made from the rows, if the row can be made again from the others and that.
  pub same_code-set : (i : ℕ) (r : List ℕ) → i < length rows → Word f.order n r → Made f n rows r → Made f n (set rows i r) (get_or rows i []) → SameCode f n rows (set rows i r)
  same_code-set i r h w m again =
      same_code-from (set rows i r) (rows-set i w) (length-set rows i r)
      (λ j l. elim (cases_eq j i) [
        | inl e ↦ subst (Made f n rows) (sym (ap (λ x. get_or (set rows i r) x []) e ∙ get_or-set_same rows i r [] h)) m
        | inr ne ↦ subst (Made f n rows) (sym (get_or-set_other rows i j r [] ne)) (made_row laws R j (omega (arith, length-set rows i r)))
      ])
      (λ j l. elim (cases_eq j i) [
        | inl e ↦ subst (Made f n (set rows i r)) (sym (ap (λ x. get_or rows x []) e)) again
        | inr ne ↦ kept_row i w j l ne
      ])

  pub same_code_scale : (i a : ℕ) → i < length rows → a < f.order → 0 < a → SameCode f n rows (set rows i (times f a (get_or rows i [])))
  same_code_scale i a h l p =
      let u : List ℕ = get_or rows i [] in
      let U : Word f.order n u = listed-get_or [] R i h in
      let w = times-word laws a l U in
      same_code-set i (times f a u) h w (made-times laws R a l (made_row laws R i h))
      (subst (Made f n (set rows i (times f a u))) (times-back laws a u p l (word-codes U)) (made-times laws (rows-set i w) (inverse a) (laws.inverse_below a l) (new_row i w h)))

  pub same_code_add : (i j a : ℕ) → i < length rows → j < length rows → (j ≡ i → ⊥) → a < f.order → SameCode f n rows (set rows i (plus f (get_or rows i []) (times f a (get_or rows j []))))
  same_code_add i j a h k ne l =
      let u : List ℕ = get_or rows i [] in
      let v : List ℕ = get_or rows j [] in
      let x : List ℕ = times f a v in
      let r : List ℕ = plus f u x in
      let U : Word f.order n u = listed-get_or [] R i h in
      let X : Word f.order n x = times-word laws a l (listed-get_or [] R j k) in
      let w : Word f.order n r = plus-word laws U X in
      let low : negative 1 < f.order = laws.negative_below 1 (one_below laws) in
      let undone : plus f r (times f (negative 1) x) ≡ u = plus_assoc laws U X (times-word laws (negative 1) low X) ∙ ap (plus f u) (plus_negative laws X) ∙ plus-zero laws U in
      let S = rows-set i w in
      same_code-set i r h w (made-plus laws R (made_row laws R i h) (made-times laws R a l (made_row laws R j k)))
      (subst (Made f n (set rows i r)) undone (made-plus laws S (new_row i w h) (made-times laws S (negative 1) low (made-times laws S a l (kept_row i w j k ne)))))

-- Two rows exchanged.
abbrev pub exchanged : List (List ℕ) → ℕ → ℕ → List (List ℕ)
exchanged rows i j = set (set rows i (get_or rows j [])) j (get_or rows i [])

length_exchanged : (rows : List (List ℕ)) (i j : ℕ) → length (exchanged rows i j) ≡ length rows
length_exchanged rows i j = length-set (set rows i (get_or rows j [])) j (get_or rows i []) ∙ length-set rows i (get_or rows j [])

-- Each row of the one list stands in the other, at some place.
exchanged_from : (rows : List (List ℕ)) (i j : ℕ) → i < length rows → j < length rows → (m : ℕ) → m < length rows → (p : ℕ) × (p < length rows) × (get_or (exchanged rows i j) m [] ≡ get_or rows p [])
exchanged_from rows i j h k m l =
    let half : List (List ℕ) = set rows i (get_or rows j []) in
    elim (cases_eq m j) [
      | inl e ↦ (i, h, ap (λ x. get_or (exchanged rows i j) x []) e ∙ get_or-set_same half j (get_or rows i []) [] (omega (arith, length-set rows i (get_or rows j []))))
      | inr ne ↦ elim (cases_eq m i) [
        | inl e ↦ (j, k, get_or-set_other half j m (get_or rows i []) [] ne ∙ ap (λ x. get_or half x []) e ∙ get_or-set_same rows i (get_or rows j []) [] h)
        | inr nf ↦ (m, l, get_or-set_other half j m (get_or rows i []) [] ne ∙ get_or-set_other rows i m (get_or rows j []) [] nf)
      ]
    ]

exchanged_to : (rows : List (List ℕ)) (i j : ℕ) → i < length rows → j < length rows → (m : ℕ) → m < length rows → (p : ℕ) × (p < length rows) × (get_or (exchanged rows i j) p [] ≡ get_or rows m [])
exchanged_to rows i j h k m l =
    let half : List (List ℕ) = set rows i (get_or rows j []) in
    let at_j : get_or (exchanged rows i j) j [] ≡ get_or rows i [] = get_or-set_same half j (get_or rows i []) [] (omega (arith, length-set rows i (get_or rows j []))) in
    elim (cases_eq m i) [
      | inl e ↦ (j, k, at_j ∙ ap (λ x. get_or rows x []) (sym e))
      | inr ne ↦ elim (cases_eq m j) [
        | inl e ↦ (i, h, get_or-set_other half j i (get_or rows i []) [] (λ s. ne (e ∙ sym s)) ∙ get_or-set_same rows i (get_or rows j []) [] h ∙ ap (λ x. get_or rows x []) (sym e))
        | inr nf ↦ (m, l, get_or-set_other half j m (get_or rows i []) [] nf ∙ get_or-set_other rows i m (get_or rows j []) [] ne)
      ]
    ]

module _ {f : FieldMeaning} {negative inverse : ℕ → ℕ} (laws : FieldLaws f negative inverse) {n : ℕ} {rows : List (List ℕ)} (R : Rows f.order n (length rows) rows) where
  pub rows_exchanged : (i j : ℕ) → i < length rows → j < length rows → Rows f.order n (length (exchanged rows i j)) (exchanged rows i j)
  rows_exchanged i j h k = rows-set laws (rows-set laws R i (listed-get_or [] R j k)) j (listed-get_or [] R i h)

  pub same_code_exchange : (i j : ℕ) → i < length rows → j < length rows → SameCode f n rows (exchanged rows i j)
  same_code_exchange i j h k =
      let E = rows_exchanged i j h k in
      same_code-from laws R (exchanged rows i j) E (length_exchanged rows i j)
      (λ m l. let r = exchanged_from rows i j h k m (omega (arith, length_exchanged rows i j)) in subst (Made f n rows) (sym r.2) (made_row laws R r.0 r.1))
      (λ m l. let r = exchanged_to rows i j h k m l in subst (Made f n (exchanged rows i j)) r.2 (made_row laws E r.0 (omega (arith, r.1, length_exchanged rows i j))))

pub same_code-refl : (f : FieldMeaning) (n : ℕ) (rows : List (List ℕ)) → SameCode f n rows rows
same_code-refl f n rows = record { as_many = refl; there = λ u m. m; back = λ u m. m }

pub same_code_then : {f : FieldMeaning} {n : ℕ} {rows gens more : List (List ℕ)} → SameCode f n rows gens → SameCode f n gens more → SameCode f n rows more
same_code_then S T = record { as_many = T.as_many ∙ S.as_many; there = λ u m. T.there u (S.there u m); back = λ u m. S.back u (T.back u m) }
