-- First the columns that are not marked are put, then the marked ones, and together they are all.
use Rattle.std.proofs.Common.{◌≡◌, ◌<◌, take, sym, subst, arith}
use Rattle.std.specs.List.{AllByRecursion}
use Rattle.forms.specs.ColumnMarks.{column_order}
use Rattle.forms.proofs.Marks.{as_many-columns, order_is, order_below}
use Rattle.forms.proofs.columns.order_columns.Goals as goal

pub put_columns-middle-requires : goal.put_columns-middle-requires
put_columns-middle-requires c = (c.requires, omega (arith, as_many-columns c.args.n c.args.marks.now))

pub put_columns-requires : goal.put_columns-requires
put_columns-requires c = (c.requires, omega (arith, c.put_columns-middle.ensures.value, as_many-columns c.args.n c.args.marks.now))

pub returns : goal.returns
returns c =
    let n = c.args.n in
    let marks = c.args.marks.now in
    let whole : take n c.put_columns.new.order ≡ column_order n marks = order_is n marks c.put_columns-middle.new.order c.put_columns.new.order c.put_columns-middle.ensures.value c.put_columns-middle.ensures.after c.put_columns.ensures.value c.put_columns.ensures.after in
    record { value = whole; columns = subst (AllByRecursion (λ c. c < n)) (sym whole) (order_below n marks) }
