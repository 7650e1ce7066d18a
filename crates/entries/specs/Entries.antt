-- Whole entries: which entry comes next in the lines left, or which fault, and the codes of its rows.
use Rattle.std.specs.Prelude.{ℕ, zero, suc, ◌+◌, List, [], ◌∷◌, Some, None, Ok, Err, Option, Result}
use Rattle.entries.specs.declared.header.Header.{Header}
use Rattle.entries.specs.declared.refusal.TextRefusal.{TextRefusal}
use Rattle.entries.specs.declared.refusal.TextRefusal.TheVariants.{MissingRow, NoEntryEnd}
use Rattle.entries.specs.Headers.{header_reading}
use Rattle.entries.specs.Rows.{row_fault}

-- The first of two faults.
abbrev pub first_fault : Option TextRefusal → Option TextRefusal → Option TextRefusal
first_fault (Some f) later = Some f
first_fault None later = later

-- An entry ends with the text or with an empty line: the fault of the lines left after its rows, the first of them line i.
abbrev pub end_fault : List (List ℕ) → ℕ → Option TextRefusal
end_fault [] i = None
end_fault ([] ∷ ls) i = None
end_fault ((b ∷ l) ∷ ls) i = Some (NoEntryEnd i)

-- The first fault of m rows and the end of their entry, row by row, the first of the lines left being line i.
unfoldable pub rows_fault : Header → ℕ → List (List ℕ) → ℕ → Option TextRefusal
rows_fault h zero ls i = end_fault ls i
rows_fault h (suc m) [] i = Some (MissingRow i)
rows_fault h (suc m) (l ∷ ls) i = first_fault (row_fault h l i) (rows_fault h m ls (i + 1))

-- A header, unless its rows have a fault.
abbrev pub unless : Option TextRefusal → Header → Result (Option Header) TextRefusal
unless (Some f) h = Err f
unless None h = Ok (Some h)

-- An entry whose header was read so, with these lines after it, the first of them line i.
abbrev pub entry_after : Result Header TextRefusal → List (List ℕ) → ℕ → Result (Option Header) TextRefusal
entry_after (Err f) ls i = Err f
entry_after (Ok h) ls i = unless (rows_fault h h.k ls i) h

-- The next entry of the lines left, the first of them line i: none without lines, else the header and its rows or their first fault.
unfoldable pub next_entry : List (List ℕ) → ℕ → Result (Option Header) TextRefusal
next_entry [] i = Ok None
next_entry (l ∷ ls) i = entry_after (header_reading l i) ls (i + 1)
