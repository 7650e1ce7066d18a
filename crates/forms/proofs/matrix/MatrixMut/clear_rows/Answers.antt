-- One row more.
use Rattle.std.proofs.Common.{◌≡◌, ℕ, ◌+◌, ◌-◌, ◌*◌, false, eqb, List, length, get_or, take, drop, Result, Ok, Err, MatchResult, sym, ap, ap₂, subst, ◌∙◌, arith}
use Rattle.std.proofs.lemmas.Bool.{eq-eqb, false≢true}
use Rattle.fields.specs.declared.words.LengthsDiffer.{LengthsDiffer}
use Rattle.forms.specs.declared.matrix.MatrixMut.{MatrixMut}
use Rattle.forms.specs.Shapes.{SameShape}
use Rattle.forms.specs.Matrices.{row_at}
use Rattle.forms.proofs.Flat.{has_row, part_is-row, length_part, symbol_is}
use Rattle.forms.proofs.Clears.{PartlyCleared, cleared_pivot, cleared_more}
use Rattle.forms.proofs.matrix.MatrixMut.clear_rows.Goals as goal
use Rattle.forms.proofs.matrix.MatrixMut.clear_rows.Goals.{then-i-pivot, else-i-pivot}

-- Words of the same length are added.
added : {U : Type 0} (r : Result U LengthsDiffer) (source row word sum : List ℕ) → MatchResult r (λ _. (length source ≡ length row) × (word ≡ sum)) (λ _. (eqb (length source) (length row) ≡ false) × (word ≡ row)) → length source ≡ length row → word ≡ sum
added (Ok u) source row word sum told same = told.1
added (Err e) source row word sum told same = absurd (false≢true (sym told.0 ∙ eq-eqb (length source) (length row) same))

pub loop-i-preserved : goal.loop-i-preserved
loop-i-preserved g c =
    let f = g.F.Field.meaning c.args.field.now in
    let negative = g.F.Field.negation c.args.field.now in
    let inverse = g.F.Field.inversion c.args.field.now in
    let n = c.args.self.now.n in
    let k = c.args.self.now.k in
    let codes = c.args.self.now.codes.now in
    let whole = c.args.self.now.whole in
    let pivot = c.args.pivot in
    let column = c.args.column in
    let i = c.loop-i.i in
    let source = c.copy_from_slice.new.self in
    let v = c.view.ensures.value in
    let copied : source ≡ row_at n codes pivot = c.copy_from_slice.ensures.after ∙ c.row.ensures.value ∙ ap₂ (λ m l. row_at m l pivot) v.2 v.0 in
    let old = c.loop-i.self.codes.now in
    let row : List ℕ = take (i * n + n - i * n) (drop (i * n) old) in
    let there = has_row n k codes pivot whole c.requires.2 in
    let here = has_row n k codes i whole c.loop-i-test.true in
    let as_long : length source ≡ length row = omega (arith, ap length copied, length_part n codes pivot there, ap length (part_is-row n codes pivot), length_part n old i (has_row n k old i (c.loop-i.invariant.0.same ∙ whole) c.loop-i-test.true)) in
    let symbol : get_or row column 0 ≡ get_or old (i * n + column) 0 = ap (λ u. get_or u column 0) (part_is-row n old i) ∙ symbol_is n old i column c.requires.1 in
    let turn : MatrixMut → Type 0 = λ x. PartlyCleared f negative inverse n codes pivot column (i + 1) x.codes.now × SameShape c.args.self.now x in
    elim c.if-i-pivot.branch [
      | then-i-pivot w ↦
          let word = w.add_multiple.new.target in
          let sum = added w.add_multiple.result source row word _ w.add_multiple.ensures.after as_long in
          let divides = w.product.ensures.value ∙ ap (λ x. f.product x c.inverse-inverse.result) symbol in
          let next = cleared_more f negative inverse n codes pivot column i old source word c.inverse-inverse.result w.product.result w.negative-factor.result c.loop-i.invariant.0 c.requires.1 there here copied c.inverse-inverse.ensures.value divides w.negative-factor.ensures.value sum w.if-i-pivot.true in
          subst turn (sym w.self-is) (next, c.loop-i.invariant.1)
      | else-i-pivot w ↦ subst turn (sym w.self-is) (cleared_pivot f negative inverse n codes pivot column i old c.loop-i.invariant.0 w.if-i-pivot.false, c.loop-i.invariant.1)
    ]
