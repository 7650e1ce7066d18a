-- What is asked where the columns are taken, and that the result is the form.
use Rattle.std.proofs.Common.{◌≡◌, ℕ, ◌-◌, ◌*◌, List, ◌++◌, length, take, drop, replicate, ap, ◌∙◌, mul-le-mul, arith}
use Rattle.std.proofs.lemmas.List.{drop-replicate, length-replicate, length-take-le}
use Rattle.forms.specs.FormRecords.{padded}
use Rattle.forms.specs.ColumnMarks.{MarksUsed, marked_columns}
use Rattle.forms.proofs.MarkedColumns.{marks_are_used}
use Rattle.forms.proofs.FormMade.{form-made}
use Rattle.forms.proofs.SystematicForms.{is_systematic, form_generates}
use Rattle.forms.proofs.generator.GeneratorMatrix.form.Goals as goal

-- Zeros stand behind what is written over the first of them.
padded-front : (size : ℕ) (now : List ℕ) → length now ≡ size → now ++ drop size (replicate 2048 0) ≡ padded 2048 now
padded-front size now long = ap (λ l. now ++ l) (drop-replicate size 2048 0 ∙ ap (λ m. replicate (2048 - m) 0) (omega arith))

pub returns : goal.returns
returns g c =
    let rows = c.args.self.now.rows in
    let m = rows.matrix in
    let columns : List ℕ = take m.n c.order_columns-order.result in
    let now = c.eliminate.new.rows in
    let long : length now ≡ m.k * m.n = c.eliminate.auto.rows ∙ length-take-le (m.k * m.n) (replicate 2048 0) (omega (arith, mul-le-mul rows.few rows.narrow, length-replicate {A = ℕ} 2048 0)) in
    let behind = padded-front (m.k * m.n) now long in
    let made : (used : List ℕ) → MarksUsed m.n c.args.marks.now used → _ = λ used agree. form-made (g.met.F.Field.lawful rows.field.now) m.k m.n m.codes.now rows.coded c.args.self.now.independent c.args.marks.now used agree columns c.order_columns-order.ensures.value c.eliminate.new.positions now (now ++ drop (m.k * m.n) (replicate 2048 0)) c.eliminate.result c.count_unmarked-rank.result long behind c.eliminate.ensures.taken.0 c.eliminate.ensures.taken.1 c.eliminate.ensures.rest c.eliminate.ensures.rows c.count_unmarked-rank.ensures.value in
    let laws = g.met.F.Field.lawful rows.field.now in
    let used = marked_columns m.n c.args.marks.now in
    record { value = made; marked = made used (marks_are_used m.n c.args.marks.now); systematic = is_systematic laws rows.coded c.args.self.now.independent used; generates = form_generates laws rows.coded c.args.self.now.independent used }
