-- That what an elimination leaves of the codes and the positions is the record of a form.
use Rattle.std.proofs.Common.{◌≡◌, ℕ, zero, suc, ◌+◌, ◌-◌, ◌*◌, ◌<◌, ◌≤◌, Bool, not, List, [], ◌++◌, length, take, drop, replicate, filter, sym, ap, ◌∙◌, subst, ap₂, inl, inr, suc-mul, zero-mul, add-one, arith}
use Rattle.std.specs.List.{flat_map, AllByRecursion}
use Rattle.std.proofs.lemmas.List.FromFn.{map-range_with_len_more}
use Rattle.std.proofs.lemmas.List.{flat_map_more, take-take, drop-take, take-append-drop, take_all, drop-replicate, length-take}
use Rattle.theory.specs.Meanings.{FieldMeaning, FieldLaws}
use Rattle.theory.specs.Forms.{pick, form}
use Rattle.theory.specs.Facts.{Matrix, Independent}
use Rattle.theory.proofs.Lists.Members.{all_in, all_from-in}
use Rattle.theory.proofs.Algebra.Combinations.{Rows, rows_from}
use Rattle.theory.proofs.Algebra.Picking.{pick-picked}
use Rattle.theory.proofs.Algebra.Generators.{order}
use Rattle.forms.specs.Matrices.{row_at, rows_of}
use Rattle.forms.specs.Elimination.{Eliminated}
use Rattle.forms.specs.ColumnMarks.{marked, column_order, MarksUsed}
use Rattle.forms.specs.FormRecords.{padded, record_of}
use Rattle.forms.specs.declared.form.Form.{Form}
use Rattle.forms.proofs.Picking.{Picking, picking_rows}
use Rattle.forms.proofs.RowLists.{length-rows, same_code-from-codewords}
use Rattle.forms.proofs.Marks.{order_below}
use Rattle.forms.proofs.UsedColumns.{order-used, rank-used}

take_next : (a m : ℕ) (xs : List ℕ) → take a xs ++ take m (drop a xs) ≡ take (a + m) xs
take_next a m xs = ap₂ ◌++◌ (sym (take-take a (a + m) xs (omega arith))) (sym (drop-take a m xs)) ∙ take-append-drop a (take (a + m) xs)

module _ (n : ℕ) (codes : List ℕ) where
  joined_taken : (k : ℕ) → flat_map (λ row. row) (rows_of k n codes) ≡ take (k * n) codes
  joined_taken zero = sym (ap (λ m. take m codes) (zero-mul n))
  joined_taken (suc k) =
      let e : k * n + n ≡ suc k * n = omega (arith, suc-mul k n) in
      ap (λ m. flat_map (λ row. row) (rows_of m n codes)) (sym (add-one k))
      ∙ ap (flat_map (λ row. row)) (map-range_with_len_more (row_at n codes) 0 k k (omega arith))
      ∙ sym (flat_map_more (λ row. row) [] (rows_of k n codes) (row_at n codes k))
      ∙ ap (λ l. l ++ row_at n codes k) (joined_taken k)
      ∙ take_next (k * n) n codes
      ∙ ap (λ m. take m codes) e

  -- The rows, joined again, are the codes.
  pub joined-rows : (k : ℕ) → length codes ≡ k * n → flat_map (λ row. row) (rows_of k n codes) ≡ codes
  joined-rows k e = joined_taken k ∙ take_all (k * n) codes (omega arith)

-- A list that has zeros from place r on is its first r places with zeros behind them.
padded-front : (m r : ℕ) (xs : List ℕ) → length (take r xs) ≡ r → drop r xs ≡ drop r (replicate m 0) → xs ≡ padded m (take r xs)
padded-front m r xs count rest =
    let same : m - r ≡ m - length (take r xs) = omega arith in
    let zeros : drop r xs ≡ replicate (m - length (take r xs)) 0 = rest ∙ drop-replicate r m 0 ∙ ap (λ x. replicate x 0) same in
    sym (take-append-drop r xs) ∙ ap (λ l. take r xs ++ l) zeros

same-form : {ps qs : List ℕ} {a b : ℕ} {us vs : List ℕ} → ps ≡ qs → a ≡ b → us ≡ vs → ◌≡◌ {A = Form} (record { positions = ps; rank = a; rows = us }) (record { positions = qs; rank = b; rows = vs })
same-form p r u = cc

module _ {f : FieldMeaning} {negative inverse : ℕ → ℕ} (laws : FieldLaws f negative inverse) {n : ℕ} {rows : List (List ℕ)} (M : Matrix f n rows) where
  R : Rows f.order n (length rows) rows
  R = rows_from f n rows M

  picked-below : (columns : List ℕ) → AllByRecursion (λ c. c < n) columns → AllByRecursion (λ c. c < n) (pick f rows [] columns)
  picked-below columns below = all_from-in (λ c. c < n) (pick f rows [] columns) (λ p m. elim ((pick-picked laws R columns).from p m) [ inl z ↦ absurd z | inr z ↦ all_in (λ c. c < n) columns below p z ])

  module _ (I : Independent f n rows) (marks : List Bool) (used : List ℕ) (agree : MarksUsed n marks used) where
    -- Rows from which the columns of that order were taken are those of the form, and so are the positions.
    left-form : (columns ps : List ℕ) (gens : List (List ℕ)) → columns ≡ column_order n marks → length ps ≤ length rows → ps ≡ pick f rows [] columns → Eliminated f n rows ps gens → (gens ≡ (form f n rows used).rows) × (ps ≡ (form f n rows used).positions) × (length ps ≡ length rows)
    left-form columns ps gens c few p E =
        let e : ps ≡ pick f rows [] (order n used) = p ∙ ap (pick f rows []) (c ∙ order-used n marks used agree) in
        let t : Picking f n rows (order n used) gens ps [] = record { same_code = same_code-from-codewords E.as_many E.same_code; words = rows_from f n gens E.matrix; reduced = E.unit; few = few; picks = e } in
        picking_rows laws R I used t e

    -- The rank counts the positions that are not marked.
    left-rank : (form f n rows used).rank ≡ length (filter (λ p. not (marked marks p)) (form f n rows used).positions)
    left-rank =
        let below : AllByRecursion (λ c. c < n) (order n used) = subst (AllByRecursion (λ c. c < n)) (order-used n marks used agree) (order_below n marks) in
        sym (rank-used n marks used agree (form f n rows used).positions (picked-below (order n used) below))

-- The record of the form.
pub form-made : {f : FieldMeaning} {negative inverse : ℕ → ℕ} → FieldLaws f negative inverse → (k n : ℕ) (codes : List ℕ) → Matrix f n (rows_of k n codes) → Independent f n (rows_of k n codes) → (marks : List Bool) (used : List ℕ) → MarksUsed n marks used → (columns : List ℕ) → columns ≡ column_order n marks
    → (positions now array : List ℕ) (r rank : ℕ) → length now ≡ k * n → array ≡ padded 2048 now → r ≤ k → take r positions ≡ pick f (rows_of k n codes) [] columns → drop r positions ≡ drop r (replicate 32 0)
    → Eliminated f n (rows_of k n codes) (take r positions) (rows_of k n now) → rank ≡ length (filter (λ p. not (marked marks p)) (take k positions))
    → ◌≡◌ {A = Form} (record { positions = positions; rank = rank; rows = array }) (record_of (form f n (rows_of k n codes) used))
form-made {f} laws k n codes M I marks used agree columns c positions now array r rank long behind most taken rest E counted =
    let rows : List (List ℕ) = rows_of k n codes in
    let left = left-form laws M I marks used agree columns (take r positions) (rows_of k n now) c (omega (arith, length-rows k n codes, length-take r positions)) taken E in
    let all : k ≡ r = omega (arith, left.2, length-rows k n codes, length-take r positions) in
    same-form
    (padded-front 32 r positions (omega (arith, left.2, length-rows k n codes)) rest ∙ ap (padded 32) left.1)
    (counted ∙ ap (λ m. length (filter (λ p. not (marked marks p)) (take m positions))) all ∙ ap (λ l. length (filter (λ p. not (marked marks p)) l)) left.1 ∙ sym (left-rank laws M I marks used agree))
    (behind ∙ ap (padded 2048) (sym (joined-rows n now k long) ∙ ap (flat_map (λ row. row)) left.0))
