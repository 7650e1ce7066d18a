-- What `pick` takes: free columns, and each column that it passed is settled by those, or all the room is taken.
use Rattle.std.proofs.Common.{◌≡◌, ℕ, suc, ◌<◌, ◌≤◌, Bool, true, false, ◌&&◌, ltb, ◌⊎◌, List, [], ◌∷◌, ◌++◌, map, length, get_or, sym, refl, ap, ◌∙◌, subst, ap₂, subst₂, inl, inr, arith}
use Rattle.std.proofs.lemmas.List.{length_push, map_push, get_or-map}
use Rattle.std.proofs.lemmas.Bool.{cond_both, and_parts, and_cases, ltb-true, ltb-false, not-true, not-false, both_ways, cases_Bool, cond-true, cond-false, and_from, and_left, and_right, lt-ltb, le-ltb}
use Rattle.theory.specs.Meanings.{FieldMeaning, FieldLaws}
use Rattle.theory.specs.Codes.{combination, tuples, same, any}
use Rattle.theory.specs.Forms.{column, independent, pick}
use Rattle.theory.proofs.Lists.Listed.{listed-none}
use Rattle.theory.proofs.Lists.Members.{In, Within, in_cast, place_of, in_append_left, in_append_right, of-append}
use Rattle.theory.proofs.Lists.Distinct.{Distinct, distinct_push, pigeonhole}
use Rattle.theory.proofs.Lists.Tests.{of-any, not-any, decides_same}
use Rattle.theory.proofs.Algebra.Combinations.{Rows, dot, unit, unit-word, combination-unit}
use Rattle.theory.proofs.Algebra.Columns.{symbols, column-word, columns-rows, relation_symbols}
use Rattle.theory.proofs.Algebra.Tuples.{in-tuples, of-tuples}
use Rattle.theory.proofs.Algebra.Free.{Free, Spanned, free_push}
use Rattle.theory.proofs.Algebra.Codewords.{Made}

-- Two words have the same symbols at these places.
abbrev pub Agree : List ℕ → List ℕ → List ℕ → Type 0
Agree ps u v = (p : ℕ) → In p ps → get_or u p 0 ≡ get_or v p 0

pub agree-from_symbols : (ps u v : List ℕ) → symbols ps u ≡ symbols ps v → Agree ps u v
agree-from_symbols [] u v e p m = absurd m
agree-from_symbols (c ∷ ps) u v e p m = elim m [
  | inl i ↦ ap (λ x. get_or u x 0) (sym i) ∙ heads ∙ ap (λ x. get_or v x 0) i
  | inr r ↦ agree-from_symbols ps u v tails p r
]
  where
    heads : get_or u c 0 ≡ get_or v c 0
    heads = cc

    tails : symbols ps u ≡ symbols ps v
    tails = cc

pub symbols_from-agree : (ps u v : List ℕ) → Agree ps u v → symbols ps u ≡ symbols ps v
symbols_from-agree [] u v h = refl
symbols_from-agree (c ∷ ps) u v h = ap₂ ◌∷◌ (h c (inl refl)) (symbols_from-agree ps u v (λ p m. h p (inr m)))

-- The column is a sum of multiples of the columns at these places.
abbrev pub Column : FieldMeaning → List (List ℕ) → List ℕ → ℕ → Type 0
Column f rows ps c = Spanned f (length rows) (length ps) (map (column rows) ps) (column rows c)

-- Codewords with the same symbols at these places have the same symbol at c.
abbrev pub Settled : FieldMeaning → ℕ → List (List ℕ) → List ℕ → ℕ → Type 0
Settled f n rows ps c = (u v : List ℕ) → Made f n rows u → Made f n rows v → Agree ps u v → get_or u c 0 ≡ get_or v c 0

pub column_found : (f : FieldMeaning) (rows : List (List ℕ)) (ps : List ℕ) (c : ℕ) → independent f rows ps c ≡ false → Column f rows ps c
column_found f rows ps c h =
    let test : List ℕ → Bool = λ cs. same (combination f (length rows) cs (map (column rows) ps)) (column rows c) in
    let ts = tuples f.order (length ps) in
    let r = of-any test ts (not-false (any test ts) h) in
    record { coefficients = r.0; codes = of-tuples f.order (length ps) r.1; is = sym ((decides_same (combination f (length rows) r.0 (map (column rows) ps)) (column rows c)).0 r.2) }

pub column_apart : (f : FieldMeaning) (rows : List (List ℕ)) (ps : List ℕ) (c : ℕ) → independent f rows ps c ≡ true → Column f rows ps c → ⊥
column_apart f rows ps c h s =
    let test : List ℕ → Bool = λ cs. same (combination f (length rows) cs (map (column rows) ps)) (column rows c) in
    let ts = tuples f.order (length ps) in
    both_ways (test s.coefficients) (not-any test s.coefficients ts (not-true (any test ts) h) (in-tuples s.codes))
    ((decides_same (combination f (length rows) s.coefficients (map (column rows) ps)) (column rows c)).1 (sym s.is))

pub column-dependent : (f : FieldMeaning) (rows : List (List ℕ)) (ps : List ℕ) (c : ℕ) → Column f rows ps c → independent f rows ps c ≡ false
column-dependent f rows ps c s = elim (cases_Bool (independent f rows ps c)) [ inl e ↦ absurd (column_apart f rows ps c e s) | inr e ↦ e ]

-- The steps of `pick`.
module _ (f : FieldMeaning) (rows : List (List ℕ)) (taken : List ℕ) where
  pub pick_takes : (c : ℕ) (cs : List ℕ) → length taken < length rows → independent f rows taken c ≡ true → pick f rows taken (c ∷ cs) ≡ pick f rows (taken ++ c ∷ []) cs
  pick_takes c cs h e = ap (λ t. pick f rows t cs) (cond-true (ltb (length taken) (length rows) && independent f rows taken c) (taken ++ c ∷ []) taken (and_from (ltb (length taken) (length rows)) (independent f rows taken c) (lt-ltb (length taken) (length rows) h) e))

  pub pick-passes : (c : ℕ) (cs : List ℕ) → independent f rows taken c ≡ false → pick f rows taken (c ∷ cs) ≡ pick f rows taken cs
  pick-passes c cs e = ap (λ t. pick f rows t cs) (cond-false (ltb (length taken) (length rows) && independent f rows taken c) (taken ++ c ∷ []) taken (and_right (ltb (length taken) (length rows)) (independent f rows taken c) e))

  pub pick_full : (cs : List ℕ) → length rows ≤ length taken → pick f rows taken cs ≡ taken
  pick_full [] h = refl
  pick_full (c ∷ cs) h =
      ap (λ t. pick f rows t cs) (cond-false (ltb (length taken) (length rows) && independent f rows taken c) (taken ++ c ∷ []) taken (and_left (ltb (length taken) (length rows)) (independent f rows taken c) (le-ltb (length taken) (length rows) h)))
      ∙ pick_full cs h

module _ {f : FieldMeaning} {negative inverse : ℕ → ℕ} (laws : FieldLaws f negative inverse) {n : ℕ} {rows : List (List ℕ)} (R : Rows f.order n (length rows) rows) where
  pub settled_by_column : (ps : List ℕ) (c : ℕ) → Column f rows ps c → Settled f n rows ps c
  settled_by_column ps c s u v m k h =
      let at : (w : List ℕ) → Made f n rows w → get_or w c 0 ≡ dot f s.coefficients (symbols ps w) = λ w x. subst (λ (w : List ℕ). get_or w c 0 ≡ dot f s.coefficients (symbols ps w)) (sym x.is) (relation_symbols laws R ps c s.codes s.is x.codes) in
      at u m ∙ ap (dot f s.coefficients) (symbols_from-agree ps u v h) ∙ sym (at v k)

  -- A column that stands among those taken is a sum of their multiples.
  pub column_member : (ps : List ℕ) (c : ℕ) → In c ps → Column f rows ps c
  column_member ps c m =
      let r = place_of c ps 0 m in
      record {
        coefficients = unit (length ps) r.0;
        codes = unit-word laws (length ps) r.0;
        is = ap (column rows) (sym r.2) ∙ sym (get_or-map (column rows) ps r.0 0 [] r.1) ∙ sym (combination-unit laws (columns-rows laws R ps) r.0 r.1);
      }

  free_taken : (ps : List ℕ) (c : ℕ) → Free f (length rows) (length ps) (map (column rows) ps) → (Column f rows ps c → ⊥) → Free f (length rows) (length (ps ++ c ∷ [])) (map (column rows) (ps ++ c ∷ []))
  free_taken ps c F apart =
      let pushed : length (ps ++ c ∷ []) ≡ suc (length ps) = omega (arith, length_push ps c) in
      subst₂ (Free f (length rows)) (sym pushed) (sym (map_push (column rows) ps c)) (free_push laws (column-word laws R c) (columns-rows laws R ps) F apart)

-- What `pick` has taken after going through cs, with `taken` taken before.
pub record Picked (f : FieldMeaning) (n : ℕ) (rows : List (List ℕ)) (taken cs ps : List ℕ) : Type 0 where
  pub free : Free f (length rows) (length ps) (map (column rows) ps)
  pub few : length ps ≤ length rows
  pub distinct : Distinct ps
  pub keeps : Within taken ps
  pub from : (p : ℕ) → In p ps → In p taken ⊎ In p cs
  pub settles : (c : ℕ) → In c cs → (length ps ≡ length rows) ⊎ Settled f n rows ps c

module _ {f : FieldMeaning} {negative inverse : ℕ → ℕ} (laws : FieldLaws f negative inverse) {n : ℕ} {rows : List (List ℕ)} (R : Rows f.order n (length rows) rows) where
  picked_taken : (taken cs ps : List ℕ) (c : ℕ) → Picked f n rows (taken ++ c ∷ []) cs ps → Picked f n rows taken (c ∷ cs) ps
  picked_taken taken cs ps c P = record {
    free = P.free;
    few = P.few;
    distinct = P.distinct;
    keeps = λ x m. P.keeps x (in_append_left x taken (c ∷ []) m);
    from = λ p m. elim (P.from p m) [ inl t ↦ elim (of-append p taken (c ∷ []) t) [ inl l ↦ inl l | inr r ↦ inr (elim r [ inl e ↦ inl e | inr n ↦ absurd n ]) ] | inr r ↦ inr (inr r) ];
    settles = λ d m. elim m [ inl e ↦ inr (λ u v k l h. h d (in_cast ps (sym e) (P.keeps c (in_append_right c taken (c ∷ []) (inl refl))))) | inr r ↦ P.settles d r ];
  }

  picked_passed : (taken cs ps : List ℕ) (c : ℕ) → Distinct taken → (length rows ≤ length taken) ⊎ Column f rows taken c → Picked f n rows taken cs ps → Picked f n rows taken (c ∷ cs) ps
  picked_passed taken cs ps c d why P = record {
    free = P.free;
    few = P.few;
    distinct = P.distinct;
    keeps = P.keeps;
    from = λ p m. elim (P.from p m) [ inl l ↦ inl l | inr r ↦ inr (inr r) ];
    settles = λ x m. elim m [
      | inl e ↦ elim why [
        | inl full ↦ inl (omega (arith, P.few, pigeonhole taken ps d P.keeps))
        | inr s ↦ inr (λ u v k l h. ap (λ i. get_or u i 0) (sym e) ∙ settled_by_column laws R taken c s u v k l (λ p t. h p (P.keeps p t)) ∙ ap (λ i. get_or v i 0) e)
      ]
      | inr r ↦ P.settles x r
    ];
  }

  pub picked : (taken cs : List ℕ) → Free f (length rows) (length taken) (map (column rows) taken) → length taken ≤ length rows → Distinct taken → Picked f n rows taken cs (pick f rows taken cs)
  picked taken [] F few d = record { free = F; few = few; distinct = d; keeps = λ x m. m; from = λ p m. inl m; settles = λ c m. absurd m }
  picked taken (c ∷ cs) F few d =
      let room : Bool = ltb (length taken) (length rows) in
      cond_both (room && independent f rows taken c) (taken ++ c ∷ []) taken (λ t. Picked f n rows taken (c ∷ cs) (pick f rows t cs))
      (λ e.
      let both = and_parts room (independent f rows taken c) e in
      let apart : Column f rows taken c → ⊥ = column_apart f rows taken c both.1 in
      picked_taken taken cs (pick f rows (taken ++ c ∷ []) cs) c
      (picked (taken ++ c ∷ []) cs (free_taken laws R taken c F apart) (omega (arith, length_push taken c, ltb-true (length taken) (length rows) both.0))
      (distinct_push taken c d (λ m. apart (column_member laws R taken c m)))))
      (λ e. picked_passed taken cs (pick f rows taken cs) c d
      (elim (and_cases room (independent f rows taken c) e) [ inl h ↦ inl (ltb-false (length taken) (length rows) h) | inr h ↦ inr (column_found f rows taken c h) ])
      (picked taken cs F few d))

  pub pick-picked : (cs : List ℕ) → Picked f n rows [] cs (pick f rows [] cs)
  pick-picked cs = picked [] cs (λ ds w e. listed-none w) (omega arith) tt
