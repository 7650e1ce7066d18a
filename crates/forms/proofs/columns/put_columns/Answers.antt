-- There is room for each column that passes, which is put behind the others.
use Rattle.std.proofs.Common.{sym, ◌∙◌, arith}
use Rattle.forms.proofs.Marks.{put_room, put_more, put_passed}
use Rattle.forms.proofs.columns.put_columns.Goals as goal
use Rattle.forms.proofs.columns.put_columns.Goals.{then-is_wanted, else-is_wanted}

pub bounds-order-end : goal.bounds-order-end
bounds-order-end c = put_room c.loop-c.invariant c.args.n 64 c.loop-c-test.true (sym c.is_wanted.ensures.value ∙ c.if-is_wanted.true) c.requires.1

pub loop-c-preserved : goal.loop-c-preserved
loop-c-preserved c =
    let wanted = sym c.is_wanted.ensures.value in
    elim c.if-is_wanted.branch [
      | then-is_wanted w ↦
          let passes = wanted ∙ w.if-is_wanted.true in
          let room = put_room c.loop-c.invariant c.args.n 64 c.loop-c-test.true passes c.requires.1 in
          rw (w.order-is, w.end-is) (put_more c.loop-c.invariant (omega (arith, room)) passes)
      | else-is_wanted w ↦ rw (w.order-is, w.end-is) (put_passed c.loop-c.invariant (wanted ∙ w.if-is_wanted.false))
    ]
