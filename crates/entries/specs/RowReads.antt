-- What the rows of an entry decide.
use Rattle.std.specs.Prelude.{◌≡◌, ℕ, ◌+◌, ◌*◌, ◌≤◌, List, length, take, Some, Ok, Err, Result}
use Rattle.std.specs.List.{flat_map}
use Rattle.entries.specs.declared.header.Header.{Header}
use Rattle.entries.specs.declared.reader.PartReader.{PartReader}
use Rattle.entries.specs.declared.refusal.TextRefusal.{TextRefusal}
use Rattle.entries.specs.Rows.{row_codes}
use Rattle.entries.specs.Entries.{rows_fault}
use Rattle.entries.specs.Readers.{left}

-- All rows of a header are there, their codes stand in row order at the front of the place, and only the end of the entry can still have a fault; or the first fault of the rows is the answer.
abbrev pub RowsRead : PartReader → Header → Result (Unit {0}) TextRefusal → PartReader → List ℕ → Type 0
RowsRead r h (Ok u) s codes = (h.k ≤ length (left r)) × (rows_fault h h.k (left r) (r.passed + 1) ≡ rows_fault h 0 (left s) (s.passed + 1)) × (take (h.k * h.n) codes ≡ flat_map row_codes (take h.k (left r)))
RowsRead r h (Err f) s codes = rows_fault h h.k (left r) (r.passed + 1) ≡ Some f
