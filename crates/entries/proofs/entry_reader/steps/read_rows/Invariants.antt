-- The rows so far are read, and what is left decides.
use Rattle.std.proofs.Common.{◌≡◌, ◌+◌, ◌-◌, ◌*◌, ◌≤◌, length, take, drop}
use Rattle.std.specs.List.{flat_map}
use Rattle.entries.specs.Rows.{row_codes}
use Rattle.entries.specs.Parts.{rows_due}
use Rattle.entries.specs.Readers.{text_of, left}
use Rattle.entries.specs.Entries.{rows_fault}
use Rattle.entries.proofs.entry_reader.steps.read_rows.Given as goal

abbrev pub invariant-loop-row : goal.invariant-loop-row
invariant-loop-row l =
    (text_of l.parts ≡ text_of l.initial.parts)
    × (l.parts.due ≡ rows_due l.header (l.header.k - l.row))
    × (left l.parts ≡ drop l.row (left l.initial.parts))
    × (l.parts.passed ≡ l.initial.parts.passed + l.row)
    × (l.row ≤ length (left l.initial.parts))
    × (rows_fault l.header l.header.k (left l.initial.parts) (l.initial.parts.passed + 1) ≡ rows_fault l.header (l.header.k - l.row) (left l.parts) (l.parts.passed + 1))
    × (take (l.row * l.header.n) l.codes ≡ flat_map row_codes (take l.row (left l.initial.parts)))
