-- One form more, and the end of the forms.
use Rattle.std.proofs.Common.{◌<◌, length, take, arith}
use Rattle.forms.specs.Matrices.{rows_of}
use Rattle.forms.proofs.RowLists.{length-rows}
use Rattle.forms.proofs.SystematicForms.{are_systematic, forms_generate}
use Rattle.forms.proofs.FormsSoFar.{so_far_none, so_far_more, so_far_ended, next_positions, next_below}
use Rattle.forms.proofs.generator.GeneratorMatrix.forms.Goals as goal

pub loop-j-init : goal.loop-j-init
loop-j-init g c = so_far_none (g.F.Field.meaning c.args.self.now.rows.field.now) c.args.self.now.rows.matrix.n (rows_of c.args.self.now.rows.matrix.k c.args.self.now.rows.matrix.n c.args.self.now.rows.matrix.codes.now) c.args.forms.now c.args.self.now.rows.narrow

pub returns-then-not-has_open_column : goal.returns-then-not-has_open_column
returns-then-not-has_open_column g c =
    let end = so_far_ended c.loop-j.invariant c.loop-j-test.true c.if-not-has_open_column.ensures.value in
    record { value = end.0; after = end.1; systematic = are_systematic (g.met.F.Field.lawful c.args.self.now.rows.field.now) c.args.self.now.rows.coded c.args.self.now.independent; generates = forms_generate (g.met.F.Field.lawful c.args.self.now.rows.field.now) c.args.self.now.rows.coded c.args.self.now.independent }

pub mark-requires : goal.mark-requires
mark-requires g c =
    let field = c.args.self.now.rows.field.now in
    let used = c.loop-j.invariant.used in
    let k = c.args.self.now.rows.matrix.k in
    let n = c.args.self.now.rows.matrix.n in
    next_below (g.met.F.Field.lawful field) c.args.self.now.rows.coded c.args.self.now.independent used c.form-next.result (c.form-next.ensures.value used c.loop-j.invariant.agree) k (length-rows k n c.args.self.now.rows.matrix.codes.now) c.args.self.now.rows.narrow

pub loop-j-preserved : goal.loop-j-preserved
loop-j-preserved g c =
    let field = c.args.self.now.rows.field.now in
    let used = c.loop-j.invariant.used in
    let k = c.args.self.now.rows.matrix.k in
    let n = c.args.self.now.rows.matrix.n in
    let next = c.form-next.result in
    let is = c.form-next.ensures.value used c.loop-j.invariant.agree in
    let places = next_positions (g.met.F.Field.lawful field) c.args.self.now.rows.coded c.args.self.now.independent used next is k (length-rows k n c.args.self.now.rows.matrix.codes.now) in
    let room : c.loop-j.j < length c.args.forms.now = omega (arith, c.told-forms, c.loop-j-test.true) in
    so_far_more c.loop-j.invariant c.args.self.now.rows.narrow c.loop-j-test.true room c.if-not-has_open_column.ensures.value next is (take k next.positions) places c.mark.new.marks c.mark.ensures.after

pub returns-clause-systematic : goal.returns-clause-systematic
returns-clause-systematic g c = are_systematic (g.met.F.Field.lawful c.args.self.now.rows.field.now) c.args.self.now.rows.coded c.args.self.now.independent

pub returns-clause-generates : goal.returns-clause-generates
returns-clause-generates g c = forms_generate (g.met.F.Field.lawful c.args.self.now.rows.field.now) c.args.self.now.rows.coded c.args.self.now.independent
