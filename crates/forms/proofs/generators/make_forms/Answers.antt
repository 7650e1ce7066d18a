-- The forms are those of the matrix as given.
use Rattle.std.proofs.Common.{◌≡◌, ℕ, List, ap, subst}
use Rattle.theory.specs.Meanings.{FieldMeaning}
use Rattle.forms.specs.Matrices.{rows_of}
use Rattle.forms.specs.Systematic.{FormsAreSystematic, FormsGenerate}
use Rattle.forms.proofs.generators.make_forms.Goals as goal

-- What holds of the matrix that passed the tests holds of the matrix that was given.
abbrev Says : FieldMeaning → ℕ → List (List ℕ) → Type 0
Says f n rows = FormsAreSystematic f n rows × FormsGenerate f n rows

given : {f h : FieldMeaning} {n m k j : ℕ} {codes others : List ℕ} → f ≡ h → others ≡ codes → j ≡ k → m ≡ n → Says f m (rows_of j m others) → Says h n (rows_of k n codes)
given {f} {h} {n} {m} {k} {j} {codes} {others} e a b d S =
    subst (λ x. Says x n (rows_of k n codes)) e
    (subst (λ x. Says f x (rows_of k x codes)) d
    (subst (λ x. Says f m (rows_of x m codes)) b
    (subst (λ x. Says f m (rows_of j m x)) a S)))

pub returns-clause-systematic : goal.returns-clause-systematic
returns-clause-systematic g c =
    let is = c.in_ok-check_rows.ensures.matrix in
    (given (ap g.F.Field.meaning is.0) is.1 is.2 is.3 (c.forms.ensures.systematic, c.forms.ensures.generates)).0

pub returns-clause-generates : goal.returns-clause-generates
returns-clause-generates g c =
    let is = c.in_ok-check_rows.ensures.matrix in
    (given (ap g.F.Field.meaning is.0) is.1 is.2 is.3 (c.forms.ensures.systematic, c.forms.ensures.generates)).1
