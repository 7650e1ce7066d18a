-- The forms of a matrix with independent rows are systematic, and their new positions disjoint.
use Rattle.std.proofs.Common.{ℕ, ◌<◌, List, [], ◌∷◌, length, get_or, sym, ◌∙◌, subst, arith}
use Rattle.std.specs.List.{AllByRecursion}
use Rattle.theory.specs.Meanings.{FieldMeaning, FieldLaws}
use Rattle.theory.specs.Forms.{GeneratorForm, form, forms}
use Rattle.theory.specs.Standings.{LinearCode, all_forms}
use Rattle.theory.specs.Usual.{hamming}
use Rattle.theory.specs.Facts.{Matrix, Independent, Systematic}
use Rattle.theory.proofs.Algebra.Words.{Word}
use Rattle.theory.proofs.Algebra.Combinations.{rows_from}
use Rattle.theory.proofs.Algebra.Columns.{symbols, symbols_word}
use Rattle.theory.proofs.Algebra.Codewords.{Made, made_row, made_word, made-from-codeword, codeword-from-made}
use Rattle.theory.proofs.Algebra.RowSteps.{same_code-from}
use Rattle.theory.proofs.Algebra.Generators.{form_systematic}
use Rattle.theory.proofs.Algebra.Series.{made_systematic, forms_ranked}
use Rattle.theory.proofs.Algebra.NewPositions.{ranked_new_positions}
use Rattle.forms.specs.Elimination.{SameCodewords}
use Rattle.forms.specs.Systematic.{code_of, FormsAreSystematic, FormIsSystematic, FormsGenerate}
use Rattle.forms.proofs.RowLists.{same-codewords}

pub are_systematic : {f : FieldMeaning} {negative inverse : ℕ → ℕ} → FieldLaws f negative inverse → {n : ℕ} {rows : List (List ℕ)} → Matrix f n rows → Independent f n rows → FormsAreSystematic f n rows
are_systematic {f} laws {n} {rows} matrix independent w =
    let c = code_of f w n rows in
    let ranked = forms_ranked f n rows in
    ((made_systematic c laws matrix independent, ranked), ranked_new_positions (all_forms c) ranked)

pub is_systematic : {f : FieldMeaning} {negative inverse : ℕ → ℕ} → FieldLaws f negative inverse → {n : ℕ} {rows : List (List ℕ)} → Matrix f n rows → Independent f n rows → (used : List ℕ) → FormIsSystematic f n rows used
is_systematic {f} laws {n} {rows} matrix independent used w = form_systematic (code_of f w n rows) laws matrix independent used

-- A generator in systematic form makes what the rows make: its rows are codewords, and each row is the sum of them that its symbols at the positions say.
systematic_generates : (c : LinearCode) {negative inverse : ℕ → ℕ} → FieldLaws c.field negative inverse → Matrix c.field c.n c.rows → (j : GeneratorForm) → Systematic c j → SameCodewords c.field c.n c.rows j.rows
systematic_generates c laws matrix j S =
    let f : FieldMeaning = c.field in
    let R = rows_from f c.n c.rows matrix in
    let made : (i : ℕ) → i < length c.rows → Made f c.n j.rows (get_or c.rows i []) = λ i h.
    let m = made_row laws R i h in
    let u : List ℕ = get_or c.rows i [] in
    record { coefficients = symbols j.positions u; codes = subst (λ m. Word f.order m (symbols j.positions u)) (S.size ∙ sym S.row_count) (symbols_word laws j.positions (made_word laws R m)); is = S.generates u (codeword-from-made c m) } in
    same-codewords (same_code-from laws R j.rows (rows_from f c.n j.rows S.row_matrix) S.row_count (λ i h. made-from-codeword c (S.row_codeword i (omega (arith, h, S.row_count)))) made)

pub form_generates : {f : FieldMeaning} {negative inverse : ℕ → ℕ} → FieldLaws f negative inverse → {n : ℕ} {rows : List (List ℕ)} → Matrix f n rows → Independent f n rows → (used : List ℕ) → SameCodewords f n rows (form f n rows used).rows
form_generates {f} laws {n} {rows} matrix independent used =
    let c = code_of f (hamming 2) n rows in
    systematic_generates c laws matrix (form f n rows used) (form_systematic c laws matrix independent used)

all_generate : (c : LinearCode) {negative inverse : ℕ → ℕ} → FieldLaws c.field negative inverse → Matrix c.field c.n c.rows → (js : List GeneratorForm) → AllByRecursion (Systematic c) js → AllByRecursion (λ j. SameCodewords c.field c.n c.rows j.rows) js
all_generate c laws matrix [] S = S
all_generate c laws matrix (j ∷ js) S = (systematic_generates c laws matrix j S.0, all_generate c laws matrix js S.1)

pub forms_generate : {f : FieldMeaning} {negative inverse : ℕ → ℕ} → FieldLaws f negative inverse → {n : ℕ} {rows : List (List ℕ)} → Matrix f n rows → Independent f n rows → FormsGenerate f n rows
forms_generate {f} laws {n} {rows} matrix independent =
    let c = code_of f (hamming 2) n rows in
    all_generate c laws matrix (forms f n rows) (made_systematic c laws matrix independent)
