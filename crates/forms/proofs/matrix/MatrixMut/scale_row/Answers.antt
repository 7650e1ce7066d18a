-- The row is written, and the others stay.
use Rattle.std.proofs.Common.{◌≡◌, cond, eqb, length, ap, ◌∙◌}
use Rattle.theory.specs.Codes.{times}
use Rattle.forms.specs.Matrices.{row_at}
use Rattle.fields.proofs.Symbols.{length-times}
use Rattle.forms.proofs.Flat.{has_row, length-row, part_is-row, length_put_row, row_put}
use Rattle.forms.proofs.matrix.MatrixMut.scale_row.Goals as goal

pub returns-clause-after : goal.returns-clause-after
returns-clause-after g c =
    let m = g.F.Field.meaning c.args.field.now in
    let n = c.args.self.now.n in
    let codes = c.args.self.now.codes.now in
    let i = c.args.i in
    let there = has_row n c.args.self.now.k codes i c.args.self.now.whole c.requires in
    let word : c.multiply.new.word ≡ times m c.args.factor (row_at n codes i) = c.multiply.ensures.after ∙ ap (times m c.args.factor) (part_is-row n codes i) in
    let long : length c.multiply.new.word ≡ n = ap length word ∙ length-times m c.args.factor (row_at n codes i) ∙ length-row n codes i there in
    (length_put_row n codes i c.multiply.new.word there long, λ j h. row_put n codes i c.multiply.new.word there long j ∙ ap (λ w. cond (eqb j i) w (row_at n codes j)) word)
