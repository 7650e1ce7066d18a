-- The codewords: what they are closed under, and their list.
use Rattle.std.proofs.Common.{◌≡◌, ℕ, ◌^◌, ◌<◌, true, List, [], length, get_or, replicate, sym, ap, ◌∙◌, subst, ap₂}
use mathlib.Core.Bool.{Bool-set}
use mathlib.Core.Logic.{∥∥₁_elim}
use lib.ListN.{length-map}
use Rattle.theory.specs.Meanings.{FieldMeaning, FieldLaws}
use Rattle.theory.specs.Codes.{plus, times, combination, codewords, tuples, same, any, Exactly}
use Rattle.theory.specs.Standings.{LinearCode}
use Rattle.theory.specs.Promises.{Codeword}
use Rattle.theory.specs.Facts.{Independent, Accepted}
use Rattle.theory.proofs.Lists.Listed.{Listed, listed-length, more, none}
use Rattle.theory.proofs.Lists.Members.{In, all_from-in, in_cast, in_map, of_map}
use Rattle.theory.proofs.Lists.Distinct.{Distinct, distinct-map}
use Rattle.theory.proofs.Lists.Tests.{any-in, of-any, decides_same, same_refl}
use Rattle.theory.proofs.Lists.Once.{exactly_from}
use Rattle.theory.proofs.Algebra.Multiples.{times-combination}
use Rattle.theory.proofs.Algebra.Words.{Word, word-from, word_below, word-zero, plus-word, times-word}
use Rattle.theory.proofs.Algebra.Combinations.{Rows, rows_from, unit, combination-word, combination-plus, combination-zero, combination-unit, unit-word}
use Rattle.theory.proofs.Algebra.Tuples.{in-tuples, of-tuples, length-tuples, distinct-tuples}
use Rattle.theory.proofs.Algebra.Free.{Spanned, free-from-independent, combination_injective}

-- A word is made from the rows: by which coefficients.
abbrev pub Made : FieldMeaning → ℕ → List (List ℕ) → List ℕ → Type 0
Made f n rows u = Spanned f n (length rows) rows u

module _ {f : FieldMeaning} {n : ℕ} {rows : List (List ℕ)} where
  pub made_in : {u : List ℕ} → Made f n rows u → In u (codewords f n rows)
  unfolding codewords
  made_in m = in_cast (codewords f n rows) m.is (in_map (λ cs. combination f n cs rows) m.coefficients (tuples f.order (length rows)) (in-tuples m.codes))

  pub made-from-in : {u : List ℕ} → In u (codewords f n rows) → Made f n rows u
  unfolding codewords
  made-from-in {u} m =
      let r = of_map (λ cs. combination f n cs rows) u (tuples f.order (length rows)) m in
      record { coefficients = r.0; codes = of-tuples f.order (length rows) r.1; is = sym r.2 }

pub length-codewords : (f : FieldMeaning) (n : ℕ) (rows : List (List ℕ)) → length (codewords f n rows) ≡ f.order ^ length rows
unfolding codewords
length-codewords f n rows = length-map (tuples f.order (length rows)) (λ cs. combination f n cs rows) ∙ length-tuples f.order (length rows)

-- A codeword is made from the rows, and by which coefficients can be found by going through the list.
pub made-from-codeword : (c : LinearCode) {u : List ℕ} → Codeword c u → Made c.field c.n c.rows u
made-from-codeword c {u} h =
    let us = codewords c.field c.n c.rows in
    let found : any (same u) us ≡ true = ∥∥₁_elim h (Bool-set (any (same u) us) true)
    (λ r. any-in (same u) u us (made_in (record { coefficients = r.0; codes = word-from c.field.order (length c.rows) r.0 r.1 r.2; is = r.3 })) (same_refl u)) in
    let r = of-any (same u) us found in
    made-from-in (in_cast us ((decides_same u r.0).0 r.2) r.1)

pub codeword-from-made : (c : LinearCode) {u : List ℕ} → Made c.field c.n c.rows u → Codeword c u
codeword-from-made c m = ∣ (m.coefficients, listed-length m.codes, word_below m.codes, m.is) ∣₁

pub codeword-in : (c : LinearCode) {u : List ℕ} → Codeword c u → In u (codewords c.field c.n c.rows)
codeword-in c h = made_in (made-from-codeword c h)

pub in-codeword : (c : LinearCode) {u : List ℕ} → In u (codewords c.field c.n c.rows) → Codeword c u
in-codeword c m = codeword-from-made c (made-from-in m)

module _ {f : FieldMeaning} {negative inverse : ℕ → ℕ} (laws : FieldLaws f negative inverse) {n : ℕ} {rows : List (List ℕ)} (R : Rows f.order n (length rows) rows) where
  pub made_word : {u : List ℕ} → Made f n rows u → Word f.order n u
  made_word m = subst (Word f.order n) (sym m.is) (combination-word laws m.codes R)

  pub made-zero : Made f n rows (replicate n 0)
  made-zero = record { coefficients = replicate (length rows) 0; codes = word-zero laws (length rows); is = sym (combination-zero laws R) }

  pub made-plus : {u v : List ℕ} → Made f n rows u → Made f n rows v → Made f n rows (plus f u v)
  made-plus m k = record { coefficients = plus f m.coefficients k.coefficients; codes = plus-word laws m.codes k.codes; is = ap₂ (plus f) m.is k.is ∙ sym (combination-plus laws m.codes k.codes R) }

  pub made-times : (a : ℕ) → a < f.order → {u : List ℕ} → Made f n rows u → Made f n rows (times f a u)
  made-times a h m = record { coefficients = times f a m.coefficients; codes = times-word laws a h m.codes; is = ap (times f a) m.is ∙ times-combination laws a n m.coefficients rows }

  pub made_row : (i : ℕ) → i < length rows → Made f n rows (get_or rows i [])
  made_row i h = record { coefficients = unit (length rows) i; codes = unit-word laws (length rows) i; is = sym (combination-unit laws R i h) }

  -- A sum of multiples of codewords is a codeword.
  pub made-combination : {k : ℕ} {cs : List ℕ} {us : List (List ℕ)} → Word f.order k cs → Listed (Made f n rows) k us → Made f n rows (combination f n cs us)
  made-combination none none = made-zero
  made-combination (more {x = a} h w) (more m ms) = made-plus (made-times a h m) (made-combination w ms)

  module _ (I : Independent f n rows) where
    pub distinct-codewords : Distinct (codewords f n rows)
    unfolding codewords
    distinct-codewords =
        distinct-map (λ cs. combination f n cs rows) (tuples f.order (length rows)) (distinct-tuples f.order (length rows))
        (λ a b m k. combination_injective laws R (free-from-independent f n rows I) (of-tuples f.order (length rows) m) (of-tuples f.order (length rows) k))

module _ (c : LinearCode) {negative inverse : ℕ → ℕ} (accepted : Accepted c negative inverse) where
  pub code_rows : Rows c.field.order c.n (length c.rows) c.rows
  code_rows = rows_from c.field c.n c.rows accepted.matrix

  pub codeword-word : {u : List ℕ} → Codeword c u → Word c.field.order c.n u
  codeword-word h = made_word accepted.field_laws code_rows (made-from-codeword c h)

  pub codeword-zero : Codeword c (replicate c.n 0)
  codeword-zero = codeword-from-made c (made-zero accepted.field_laws code_rows)

  pub codeword-plus : {u v : List ℕ} → Codeword c u → Codeword c v → Codeword c (plus c.field u v)
  codeword-plus h k = codeword-from-made c (made-plus accepted.field_laws code_rows (made-from-codeword c h) (made-from-codeword c k))

  pub codeword-times : (a : ℕ) → a < c.field.order → {u : List ℕ} → Codeword c u → Codeword c (times c.field a u)
  codeword-times a l h = codeword-from-made c (made-times accepted.field_laws code_rows a l (made-from-codeword c h))

  pub codewords-distinct : Distinct (codewords c.field c.n c.rows)
  codewords-distinct = distinct-codewords accepted.field_laws code_rows accepted.independent

  -- The list holds exactly the codewords, each once.
  pub codewords_are : Exactly (Codeword c) (codewords c.field c.n c.rows)
  codewords_are = exactly_from (Codeword c) (codewords c.field c.n c.rows) codewords-distinct (all_from-in (Codeword c) (codewords c.field c.n c.rows) (λ u m. in-codeword c m)) (λ u h. codeword-in c h)
