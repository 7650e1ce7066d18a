-- Whether rows are independent depends on the code and the number of rows, and an elimination tells it.
use Rattle.std.proofs.Common.{◌≡◌, ℕ, ◌^◌, List, length, replicate, sym, ap, ◌∙◌, arith}
use Rattle.theory.specs.Meanings.{FieldMeaning, FieldLaws}
use Rattle.theory.specs.Codes.{combination, codewords, tuples}
use Rattle.theory.specs.Facts.{Independent}
use Rattle.theory.proofs.Lists.Distinct.{Distinct, pigeonhole_distinct, distinct-map_injective}
use Rattle.theory.proofs.Algebra.Words.{word-from, word-zero}
use Rattle.theory.proofs.Algebra.Combinations.{Rows, combination-zero}
use Rattle.theory.proofs.Algebra.Columns.{symbols}
use Rattle.theory.proofs.Algebra.Tuples.{in-tuples}
use Rattle.theory.proofs.Algebra.Codewords.{made_in, made-from-in, length-codewords, distinct-codewords}
use Rattle.theory.proofs.Algebra.SameCode.{SameCode}
use Rattle.theory.proofs.Algebra.Reduced.{Reduced, reduced_symbols}

module _ {f : FieldMeaning} {negative inverse : ℕ → ℕ} (laws : FieldLaws f negative inverse) {n : ℕ} where
  -- Rows whose list of codewords has no duplicates are independent.
  pub independent-from-distinct : (rows : List (List ℕ)) → Rows f.order n (length rows) rows → Distinct (codewords f n rows) → Independent f n rows
  unfolding codewords
  independent-from-distinct rows R d cs e h z =
      distinct-map_injective (λ cs. combination f n cs rows) (tuples f.order (length rows)) d cs (replicate (length rows) 0)
      (in-tuples (word-from f.order (length rows) cs e h)) (in-tuples (word-zero laws (length rows))) (z ∙ sym (combination-zero laws R))

  pub independent_kept : {rows gens : List (List ℕ)} → Rows f.order n (length rows) rows → Rows f.order n (length gens) gens → SameCode f n rows gens → Independent f n gens → Independent f n rows
  independent_kept {rows} {gens} R G S I =
      independent-from-distinct rows R
      (pigeonhole_distinct (codewords f n gens) (codewords f n rows) (distinct-codewords laws G I) (λ u m. made_in (S.back u (made-from-in m)))
      (omega (arith, length-codewords f n rows, length-codewords f n gens, ap (λ k. f.order ^ k) S.as_many)))

  -- Rows that are reduced at as many places are independent.
  pub independent-reduced : {gens : List (List ℕ)} → Rows f.order n (length gens) gens → (ps : List ℕ) → length ps ≡ length gens → Reduced gens ps → Independent f n gens
  independent-reduced {gens} G ps e D cs c b z =
      let k : ℕ = length gens in
      sym (reduced_symbols laws G ps D e (word-from f.order k cs c b))
      ∙ ap (symbols ps) (z ∙ sym (combination-zero laws G))
      ∙ reduced_symbols laws G ps D e (word-zero laws k)
