-- Entries as the format writes them.
use Rattle.std.specs.Prelude.{◌≡◌, ℕ, ◌<◌, ◌≤◌, true, ◌⊎◌, List, [], ◌∷◌, ◌++◌, map, length, take, drop, Some, Ok, codes, decimal}
use Rattle.std.specs.List.{join_with_byte, flat_map, AllByRecursion}
use Rattle.entries.specs.declared.header.Header.{Header}
use Rattle.entries.specs.Lines.{lines}
use Rattle.entries.specs.Headers.{within_limits}
use Rattle.entries.specs.Entries.{next_entry}
use Rattle.entries.specs.Names.{order, field_word, weight_word, goes_with}
use Rattle.entries.specs.Rows.{row_codes}
use Rattle.entries.specs.Symbols.{symbol_of}

-- An entry: what its header says, and its rows of codes.
pub record WrittenEntry : Type 0 where
  pub header : Header
  pub rows : List (List ℕ)

-- A lawful entry: the limits hold, the weight goes with the field, and there are k rows of n elements of the field.
pub record Lawful (e : WrittenEntry) : Type 0 where
  pub claims : 1 ≤ e.header.claim
  pub limits : within_limits e.header ≡ true
  pub weight : goes_with e.header.field e.header.weight ≡ true
  pub count : length e.rows ≡ e.header.k
  pub lengths : AllByRecursion (λ row. length row ≡ e.header.n) e.rows
  pub codes : AllByRecursion (AllByRecursion (λ a. a < order e.header.field)) e.rows

-- The line of a header: six words parted by single spaces.
abbrev pub header_line : Header → List ℕ
header_line h = join_with_byte 32 (codes "code" ∷ decimal h.n ∷ decimal h.k ∷ decimal h.claim ∷ field_word h.field ∷ weight_word h.weight ∷ [])

-- The line of a row: one symbol for each code.
abbrev pub row_line : List ℕ → List ℕ
row_line row = map symbol_of row

-- The lines of an entry.
abbrev pub entry_lines : WrittenEntry → List (List ℕ)
entry_lines e = header_line e.header ∷ map row_line e.rows

-- The lines of entries one after another, each with an empty line after it.
abbrev pub entries_lines : List WrittenEntry → List (List ℕ)
entries_lines es = flat_map (λ e. entry_lines e ++ [] ∷ []) es

-- The text of some lines: each with a break after it.
abbrev pub text_of_lines : List (List ℕ) → List ℕ
text_of_lines ls = flat_map (λ l. l ++ 10 ∷ []) ls

-- The codes of an entry in row order.
abbrev pub codes_of : WrittenEntry → List ℕ
codes_of e = flat_map (λ row. row) e.rows

-- The entry that stands in lines beginning with its header.
abbrev pub entry_in : Header → List (List ℕ) → WrittenEntry
entry_in h ls = record { header = h; rows = map row_codes (take h.k (drop 1 ls)) }

-- An entry ends where the lines end, or with an empty line.
abbrev pub Ends : List (List ℕ) → Type 0
Ends ls = (ls ≡ []) ⊎ (ls ≡ [] ∷ drop 1 ls)

-- A text is these lines, each with a break after it, but for the last break, which it may lack.
abbrev pub Lined : List ℕ → List (List ℕ) → Type 0
Lined s ls = (text_of_lines ls ≡ s) ⊎ (text_of_lines ls ≡ s ++ 10 ∷ [])

-- The text of an entry alone is cut into the entry's lines, has at most 60,000 bytes, and reads as the entry.
pub record WrittenReadsBack (e : WrittenEntry) : Type 0 where
  pub cut : lines (text_of_lines (entry_lines e)) ≡ entry_lines e
  pub fits : length (text_of_lines (entry_lines e)) ≤ 60000
  pub reads : next_entry (lines (text_of_lines (entry_lines e))) 1 ≡ Ok (Some e.header)
  pub entry : entry_in e.header (lines (text_of_lines (entry_lines e))) ≡ e

-- So do all lawful entries.
abbrev pub TextsReadBack : Type 0
TextsReadBack = (e : WrittenEntry) → Lawful e → WrittenReadsBack e
