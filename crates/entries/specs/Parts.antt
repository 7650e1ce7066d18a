-- The parts that a text is read in: which part comes next, or which fault, and what is due after it.
use Rattle.std.specs.Prelude.{ℕ, zero, suc, Bool, true, false, List, [], ◌∷◌, Some, None, Ok, Err, Option, Result}
use Rattle.entries.specs.declared.header.Header.{Header}
use Rattle.entries.specs.declared.part.Part.{Part}
use Rattle.entries.specs.declared.part.Due.{Due}
use Rattle.entries.specs.declared.refusal.TextRefusal.{TextRefusal}
use Rattle.entries.specs.declared.refusal.TextRefusal.TheVariants.{MissingRow, NoEntryEnd}
use Rattle.entries.specs.Lines.{words}
use Rattle.entries.specs.Headers.{header_reading}
use Rattle.entries.specs.HeaderWords.{word_list}
use Rattle.entries.specs.Rows.{row_fault}

-- What a part holds: a header's words and values, a row's symbols, or nothing.
pub data Content : Type 0 where
  header_part : List (List ℕ) → Header → Content
  row_part : List ℕ → Content
  gap_part : Content

-- The content of a part handed out.
abbrev pub content : Part → Content
content (Part.Header words values line) = header_part (word_list words) values
content (Part.Row symbols line column) = row_part symbols.now
content (Part.Gap line column) = gap_part

-- The content of an answer.
abbrev pub handed : Result (Option Part) TextRefusal → Result (Option Content) TextRefusal
handed (Ok None) = Ok None
handed (Ok (Some p)) = Ok (Some (content p))
handed (Err f) = Err f

-- A header line of these words, read so.
abbrev pub header_answer : List (List ℕ) → Result Header TextRefusal → Result (Option Content) TextRefusal
header_answer ws (Ok h) = Ok (Some (header_part ws h))
header_answer ws (Err f) = Err f

-- A row, by its first fault.
abbrev pub row_answer : List ℕ → Option TextRefusal → Result (Option Content) TextRefusal
row_answer l None = Ok (Some (row_part l))
row_answer l (Some f) = Err f

-- A line where an entry should end: an empty one, or a fault.
abbrev pub ending_answer : List ℕ → ℕ → Result (Option Content) TextRefusal
ending_answer [] i = Ok (Some gap_part)
ending_answer (b ∷ l) i = Err (NoEntryEnd i)

-- The next part of the lines left, the first of them line i, by what is due; without a line there is no part, but a row that is due is missing.
unfoldable pub next_part : Due → List (List ℕ) → ℕ → Result (Option Content) TextRefusal
next_part Due.Header [] i = Ok None
next_part Due.Header (l ∷ ls) i = header_answer (words l) (header_reading l i)
next_part (Due.Row h m) [] i = Err (MissingRow i)
next_part (Due.Row h m) (l ∷ ls) i = row_answer l (row_fault h l i)
next_part Due.Ending [] i = Ok None
next_part Due.Ending (l ∷ ls) i = ending_answer l i

-- m rows and then the end of the entry are due.
abbrev pub rows_due : Header → ℕ → Due
rows_due h zero = Due.Ending
rows_due h (suc m) = Due.Row h m

-- What is due after a part.
abbrev pub due_after : Due → Content → Due
due_after d (header_part ws h) = rows_due h h.k
due_after (Due.Row h m) (row_part l) = rows_due h m
due_after Due.Header (row_part l) = Due.Header
due_after Due.Ending (row_part l) = Due.Ending
due_after d gap_part = Due.Header

-- A header is due.
abbrev pub header_due : Due → Bool
header_due Due.Header = true
header_due (Due.Row h m) = false
header_due Due.Ending = false
