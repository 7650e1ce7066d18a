-- The row's faults in their order, and the row.
use Rattle.entries.proofs.Exits.{same_error}
use Rattle.entries.proofs.NextParts.{row_read}
use Rattle.entries.proofs.reader.PartReader.next_row.Goals as goal

pub returns-in_err-check_row-clause-value : goal.returns-in_err-check_row-clause-value
returns-in_err-check_row-clause-value c =
    let line = rw c.in_ok-found.ensures.ok_part at c.next_line.ensures.value in
    rw (same_error _ _ c.from_residual-in_err-check_row.ensures.1) (row_read _ _ _ _ _ line.2 c.in_err-check_row.ensures.value)

pub returns-clause-value : goal.returns-clause-value
returns-clause-value c =
    let line = rw c.in_ok-found.ensures.ok_part at c.next_line.ensures.value in
    row_read _ _ _ _ _ line.2 c.in_ok-check_row.ensures.value
