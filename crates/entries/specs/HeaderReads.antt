-- What the first part of an entry decides.
use Rattle.std.specs.Prelude.{◌≡◌, ◌+◌, ◌<◌, ◌≤◌, [], length, drop, Some, None, Ok, Err, Option, Result, slice_index_or}
use Rattle.entries.specs.declared.header.Header.{Header}
use Rattle.entries.specs.declared.reader.PartReader.{PartReader}
use Rattle.entries.specs.declared.refusal.TextRefusal.{TextRefusal}
use Rattle.entries.specs.Headers.{header_reading}
use Rattle.entries.specs.Parts.{rows_due}
use Rattle.entries.specs.Readers.{text_of, left, answer_between}

-- A header stands in the first line left, or nothing is left, or the entry is refused with the header.
abbrev pub HeaderRead : PartReader → Result (Option Header) TextRefusal → Type 0
HeaderRead r (Ok (Some h)) = (length (text_of r) ≤ 60000) × (0 < length (left r)) × (header_reading (slice_index_or (left r) 0 []) (r.passed + 1) ≡ Ok h)
HeaderRead r (Ok None) = answer_between r ≡ Ok None
HeaderRead r (Err f) = answer_between r ≡ Err f

-- Past a header its rows are due.
abbrev pub HeaderPassed : PartReader → Result (Option Header) TextRefusal → PartReader → Type 0
HeaderPassed r (Ok (Some h)) s = (left s ≡ drop 1 (left r)) × (s.passed ≡ r.passed + 1) × (s.due ≡ rows_due h h.k)
HeaderPassed r (Ok None) s = Unit {0}
HeaderPassed r (Err f) s = Unit {0}
