-- As many columns as there are rows, of which no sum of multiples is zero: the symbols there tell the codewords apart, and any symbols are those of a codeword.
use Rattle.std.proofs.Common.{◌≡◌, ℕ, suc, ◌^◌, ◌<◌, ◌≤◌, List, [], map, length, sym, ap, ◌∙◌, subst, inl, inr, mul-le-mul_right, arith}
use native.Mathlib.Nat.{pow-succ', pow-le-pow_right, one-le-pow}
use lib.ListN.{length-map}
use Rattle.std.proofs.lemmas.List.{ext_get_or}
use Rattle.std.proofs.lemmas.Bool.{cases_eq}
use Rattle.theory.specs.Meanings.{FieldMeaning, FieldLaws}
use Rattle.theory.specs.Codes.{codewords, tuples}
use Rattle.theory.specs.Forms.{column, pick}
use Rattle.theory.specs.Facts.{Independent}
use Rattle.theory.proofs.Lists.Listed.{listed-length}
use Rattle.theory.proofs.Lists.Members.{In, Within, of_map}
use Rattle.theory.proofs.Lists.Distinct.{Distinct, distinct-map, pigeonhole, pigeonhole_all}
use Rattle.theory.proofs.Algebra.Words.{Word}
use Rattle.theory.proofs.Algebra.Combinations.{Rows}
use Rattle.theory.proofs.Algebra.Columns.{symbols, symbols_word, column-word, columns-rows}
use Rattle.theory.proofs.Algebra.Tuples.{in-tuples, length-tuples}
use Rattle.theory.proofs.Algebra.Free.{Free, Spanned, free_spans}
use Rattle.theory.proofs.Algebra.Codewords.{Made, made-from-in, made_word, length-codewords, distinct-codewords}
use Rattle.theory.proofs.Algebra.Picking.{Agree, agree-from_symbols, Column, Settled, settled_by_column, Picked, pick-picked}

pow_grows : (q s k : ℕ) → 2 ≤ q → s < k → q ^ s < q ^ k
pow_grows q s k h l =
    let some : 0 < q = omega arith in
    omega (arith, pow-le-pow_right some {i = suc s} {j = k} l, pow-succ' q s, one-le-pow s q some, mul-le-mul_right (q ^ s) h)

-- Places that serve as the positions of a form.
pub record Basis (f : FieldMeaning) (n : ℕ) (rows : List (List ℕ)) (ps : List ℕ) : Type 0 where
  pub count : length ps ≡ length rows
  pub distinct : Distinct ps
  pub columns : (c : ℕ) → Column f rows ps c

module _ {f : FieldMeaning} {negative inverse : ℕ → ℕ} (laws : FieldLaws f negative inverse) {n : ℕ} {rows : List (List ℕ)} (R : Rows f.order n (length rows) rows) (I : Independent f n rows) where
  -- Codewords that agree at places which settle all others are equal.
  pub same-from_settled : (ps : List ℕ) → ((c : ℕ) → c < n → Settled f n rows ps c) → {u v : List ℕ} → Made f n rows u → Made f n rows v → Agree ps u v → u ≡ v
  same-from_settled ps h {u} {v} m k a =
      let long : length u ≡ n = listed-length (made_word laws R m) in
      ext_get_or 0 u v (long ∙ sym (listed-length (made_word laws R k))) (λ i l. h i (omega arith) u v m k a)

  all_symbols : List ℕ → List (List ℕ)
  all_symbols ps = map (symbols ps) (codewords f n rows)

  length_all_symbols : (ps : List ℕ) → length (all_symbols ps) ≡ f.order ^ length rows
  unfolding all_symbols
  length_all_symbols ps = length-map (codewords f n rows) (symbols ps) ∙ length-codewords f n rows

  distinct_all_symbols : (ps : List ℕ) → ((c : ℕ) → c < n → Settled f n rows ps c) → Distinct (all_symbols ps)
  unfolding all_symbols
  distinct_all_symbols ps h =
      distinct-map (symbols ps) (codewords f n rows) (distinct-codewords laws R I)
      (λ u v m k e. same-from_settled ps h (made-from-in m) (made-from-in k) (agree-from_symbols ps u v e))

  within-tuples : (ps : List ℕ) → Within (all_symbols ps) (tuples f.order (length ps))
  unfolding all_symbols
  within-tuples ps t m =
      let r = of_map (symbols ps) t (codewords f n rows) m in
      in-tuples (subst (Word f.order (length ps)) r.2 (symbols_word laws ps (made_word laws R (made-from-in r.1))))

  -- Places that settle all others are at least as many as the rows.
  pub settled_count : (ps : List ℕ) → ((c : ℕ) → c < n → Settled f n rows ps c) → length ps ≤ length rows → length ps ≡ length rows
  settled_count ps h few = elim (cases_eq (length ps) (length rows)) [
    | inl e ↦ e
    | inr ne ↦ absurd (omega (
      arith,
      pow_grows f.order (length ps) (length rows) laws.low (omega (arith, ne)),
      length_all_symbols ps,
      length-tuples f.order (length ps),
      pigeonhole (all_symbols ps) (tuples f.order (length ps)) (distinct_all_symbols ps h) (within-tuples ps),
    ))
  ]

  free-columns : (ps : List ℕ) → length ps ≡ length rows → Free f (length rows) (length ps) (map (column rows) ps) → (c : ℕ) → Column f rows ps c
  free-columns ps e F c =
      let k : ℕ = length rows in
      let vs : List (List ℕ) = map (column rows) ps in
      subst (λ (m : ℕ). Spanned f k m vs (column rows c)) (sym e)
      (free_spans laws (subst (λ (m : ℕ). Rows f.order k m vs) e (columns-rows laws R ps)) (subst (λ (m : ℕ). Free f k m vs) e F) (column-word laws R c))

  -- Going through all columns, `pick` takes a basis.
  pub pick_basis : (cs : List ℕ) → ((c : ℕ) → c < n → In c cs) → Basis f n rows (pick f rows [] cs)
  pick_basis cs all =
      let ps : List ℕ = pick f rows [] cs in
      let P : Picked f n rows [] cs ps = pick-picked laws R cs in
      let full : length ps ≡ length rows = elim (cases_eq (length ps) (length rows)) [
        | inl e ↦ e
        | inr ne ↦ settled_count ps (λ c l. elim (P.settles c (all c l)) [ inl e ↦ absurd (ne e) | inr s ↦ s ]) P.few
      ] in
      record { count = full; distinct = P.distinct; columns = free-columns ps full P.free }

  module _ {ps : List ℕ} (B : Basis f n rows ps) where
    -- A codeword is settled by its symbols at a basis.
    pub basis_same : {u v : List ℕ} → Made f n rows u → Made f n rows v → symbols ps u ≡ symbols ps v → u ≡ v
    basis_same {u} {v} m k e = same-from_settled ps (λ c l. settled_by_column laws R ps c (B.columns c)) m k (agree-from_symbols ps u v e)

    -- Any symbols at a basis are those of a codeword.
    pub basis_reaches : {t : List ℕ} → Word f.order (length ps) t → (u : List ℕ) × Made f n rows u × (symbols ps u ≡ t)
    unfolding all_symbols
    basis_reaches {t} w =
        let r = of_map (symbols ps) t (codewords f n rows)
        (pigeonhole_all (all_symbols ps) (tuples f.order (length ps)) (distinct_all_symbols ps (λ c l. settled_by_column laws R ps c (B.columns c))) (within-tuples ps)
        (omega (arith, length_all_symbols ps, length-tuples f.order (length ps), ap (λ k. f.order ^ k) B.count)) t (in-tuples w)) in
        (r.0, made-from-in r.1, r.2)
