-- The forms that are written when the forms of a code are made one after the other.
use Rattle.std.proofs.Common.{◌≡◌, ℕ, suc, ◌+◌, ◌-◌, ◌<◌, ◌≤◌, Bool, true, false, List, [], ◌∷◌, ◌++◌, map, length, get_or, take, drop, set, replicate, sym, refl, ap, ◌∙◌, subst, append_assoc, arith}
use lib.ListN.{length-map}
use Rattle.std.specs.List.{AllByRecursion}
use Rattle.std.proofs.lemmas.List.{take_at, set_at, drop_more, map_push, length_push}
use Rattle.theory.specs.Meanings.{FieldMeaning, FieldLaws}
use Rattle.theory.specs.Forms.{GeneratorForm, form, forms_from, forms}
use Rattle.theory.specs.Facts.{Matrix, Independent}
use Rattle.theory.proofs.Lists.Members.{all_from-in}
use Rattle.theory.proofs.Algebra.Combinations.{rows_from}
use Rattle.theory.proofs.Algebra.Generators.{form_basis, form-within}
use Rattle.forms.specs.ColumnMarks.{has_open, MarksUsed}
use Rattle.forms.specs.FormRecords.{record_of}
use Rattle.forms.specs.declared.form.Form.{Form}
use Rattle.forms.proofs.Marks.{MarkedToo}
use Rattle.forms.proofs.UsedColumns.{open_used, marks_none, marks_more}
use Rattle.forms.proofs.FormSeries.{forms-none, forms-more, forms-ended}

-- The first m forms are written over those places, and the columns that they use are marked.
pub record SoFar (f : FieldMeaning) (n : ℕ) (rows : List (List ℕ)) (before : List Form) (m : ℕ) (marks : List Bool) (after : List Form) : Type 0 where
  pub used : List ℕ
  pub made : List GeneratorForm
  pub agree : MarksUsed n marks used
  pub count : length made ≡ m
  pub series : forms f n rows ≡ made ++ forms_from f n rows (8 - m) used
  pub written : after ≡ map record_of made ++ drop m before

-- A record over the place that comes next.
written-more : (records before : List Form) (m : ℕ) (next : Form) → length records ≡ m → m < length before → set (records ++ drop m before) m next ≡ (records ++ next ∷ []) ++ drop (m + 1) before
written-more records before m next e h =
    ap (λ l. set (records ++ l) m next) (drop_more before m next h) ∙ set_at records (get_or before m next) (drop (m + 1) before) next m e ∙ sym (append_assoc records (next ∷ []) (drop (m + 1) before))

-- The positions of a form and its record: as many as the rows, and below 64.
module _ {f : FieldMeaning} {negative inverse : ℕ → ℕ} (laws : FieldLaws f negative inverse) {n : ℕ} {rows : List (List ℕ)} (M : Matrix f n rows) (I : Independent f n rows) (used : List ℕ) (next : Form) (is : next ≡ record_of (form f n rows used)) where
  pub next_positions : (k : ℕ) → length rows ≡ k → take k next.positions ≡ (form f n rows used).positions
  next_positions k e =
      let ps : List ℕ = (form f n rows used).positions in
      ap (λ (x : Form). take k x.positions) is ∙ take_at ps (replicate (32 - length ps) 0) k ((form_basis laws (rows_from f n rows M) I used).count ∙ e)

  pub next_below : (k : ℕ) → length rows ≡ k → n ≤ 64 → AllByRecursion (λ c. c < 64) (take k next.positions)
  next_below k e few = subst (AllByRecursion (λ c. c < 64)) (sym (next_positions k e)) (all_from-in (λ c. c < 64) (form f n rows used).positions (λ p m. omega (arith, form-within laws (rows_from f n rows M) I used p m)))

pub so_far_none : (f : FieldMeaning) (n : ℕ) (rows : List (List ℕ)) (before : List Form) → n ≤ 64 → SoFar f n rows before 0 (replicate 64 false) before
so_far_none f n rows before few = record { used = []; made = []; agree = marks_none n few; count = refl; series = forms-none f n rows; written = refl }

module _ {f : FieldMeaning} {n : ℕ} {rows : List (List ℕ)} {before : List Form} {m : ℕ} {marks : List Bool} {after : List Form} (t : SoFar f n rows before m marks after) where
  series-left : m < 8 → forms f n rows ≡ t.made ++ forms_from f n rows (suc (8 - (m + 1))) t.used
  series-left h = let e : 8 - m ≡ suc (8 - (m + 1)) = omega arith in t.series ∙ ap (λ left. t.made ++ forms_from f n rows left t.used) e

  pub so_far_more : n ≤ 64 → m < 8 → m < length before → true ≡ has_open n rows marks → (next : Form) → next ≡ record_of (form f n rows t.used) → (ps : List ℕ) → ps ≡ (form f n rows t.used).positions → (more : List Bool) → MarkedToo marks ps more → SoFar f n rows before (m + 1) more (set after m next)
  so_far_more few h room going next is ps p more marked-too =
      let j : GeneratorForm = form f n rows t.used in
      let records : List Form = map record_of t.made in
      record {
        used = t.used ++ j.positions;
        made = t.made ++ j ∷ [];
        agree = marks_more n marks more t.used j.positions few t.agree (subst (λ l. MarkedToo marks l more) p marked-too);
        count = length_push t.made j ∙ ap (λ x. x + 1) t.count;
        series = forms-more f n rows t.made t.used (8 - (m + 1)) (series-left h) (sym (going ∙ open_used n marks t.used t.agree rows));
        written = ap (λ l. set l m next) t.written
            ∙ written-more records before m next (length-map t.made record_of ∙ t.count) room
            ∙ ap (λ l. l ++ drop (m + 1) before) (ap (λ x. records ++ x ∷ []) is ∙ sym (map_push record_of t.made j));
      }

  -- A number of forms, and their records over the first places.
  abbrev Written : ℕ → List GeneratorForm → Type 0
  Written number js = (number ≡ length js) × (after ≡ map record_of js ++ drop number before)

  so_far_end : forms f n rows ≡ t.made → Written m (forms f n rows)
  so_far_end e = subst (Written m) (sym e) (sym t.count, t.written)

  -- No column is open.
  pub so_far_ended : m < 8 → false ≡ has_open n rows marks → Written m (forms f n rows)
  so_far_ended h none = so_far_end (forms-ended f n rows t.made t.used (8 - (m + 1)) (series-left h) (sym (none ∙ open_used n marks t.used t.agree rows)))
