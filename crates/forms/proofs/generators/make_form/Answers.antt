-- The form is that of the matrix as given.
use Rattle.std.proofs.Common.{◌≡◌, ℕ, Bool, List, is_some, sym, ap, ◌∙◌, subst}
use Rattle.std.proofs.lemmas.Bool.{cond-false}
use Rattle.theory.specs.Meanings.{FieldMeaning}
use Rattle.theory.specs.Forms.{form}
use Rattle.forms.specs.Matrices.{rows_of}
use Rattle.forms.specs.ColumnMarks.{marked_columns}
use Rattle.forms.specs.FormRecords.{record_of}
use Rattle.forms.specs.Elimination.{SameCodewords}
use Rattle.forms.specs.Systematic.{FormIsSystematic}
use Rattle.forms.proofs.generators.make_form.Goals as goal

-- The matrix that passed the tests has the form of the matrix that was given.
given : {f h : FieldMeaning} {n m k j : ℕ} {codes others : List ℕ} (marks : List Bool) → f ≡ h → others ≡ codes → j ≡ k → m ≡ n → record_of (form f m (rows_of j m others) (marked_columns m marks)) ≡ record_of (form h n (rows_of k n codes) (marked_columns n marks))
given marks e a b d = cc

pub returns-clause-after : goal.returns-clause-after
returns-clause-after g c =
    let is = c.in_ok-check_rows.ensures.matrix in
    c.form.ensures.marked ∙ given c.args.used.now (ap g.F.Field.meaning is.0) is.1 is.2 is.3 ∙ sym (cond-false _ _ _ (ap is_some c.in_ok-check_rows.ensures.value))

-- What holds of the matrix that passed the tests holds of the matrix that was given.
abbrev Says : FieldMeaning → ℕ → List (List ℕ) → List ℕ → Type 0
Says f n rows used = FormIsSystematic f n rows used × SameCodewords f n rows (form f n rows used).rows

said : {f h : FieldMeaning} {n m k j : ℕ} {codes others : List ℕ} (marks : List Bool) → f ≡ h → others ≡ codes → j ≡ k → m ≡ n → Says f m (rows_of j m others) (marked_columns m marks) → Says h n (rows_of k n codes) (marked_columns n marks)
said {f} {h} {n} {m} {k} {j} {codes} {others} marks e a b d S =
    subst (λ x. Says x n (rows_of k n codes) (marked_columns n marks)) e
    (subst (λ x. Says f x (rows_of k x codes) (marked_columns x marks)) d
    (subst (λ x. Says f m (rows_of x m codes) (marked_columns m marks)) b
    (subst (λ x. Says f m (rows_of j m x) (marked_columns m marks)) a S)))

pub returns-clause-systematic : goal.returns-clause-systematic
returns-clause-systematic g c =
    let is = c.in_ok-check_rows.ensures.matrix in
    (said c.args.used.now (ap g.F.Field.meaning is.0) is.1 is.2 is.3 (c.form.ensures.systematic, c.form.ensures.generates)).0

pub returns-clause-generates : goal.returns-clause-generates
returns-clause-generates g c =
    let is = c.in_ok-check_rows.ensures.matrix in
    (said c.args.used.now (ap g.F.Field.meaning is.0) is.1 is.2 is.3 (c.form.ensures.systematic, c.form.ensures.generates)).1
