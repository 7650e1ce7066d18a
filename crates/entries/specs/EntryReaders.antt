-- What a reader of entries answers, and where it then stands.
use Rattle.std.specs.Prelude.{◌≡◌, ℕ, ◌+◌, ◌*◌, ◌≤◌, min, ◌⊎◌, List, [], ◌∷◌, ◌++◌, length, take, drop, Some, None, Ok, Err, Option, Result}
use Rattle.std.specs.List.{AllByRecursion}
use Rattle.entries.specs.declared.entry_reader.EntryReader.{EntryReader}
use Rattle.entries.specs.declared.header.Header.{Header}
use Rattle.entries.specs.declared.refusal.TextRefusal.{TextRefusal}
use Rattle.entries.specs.Lines.{lines}
use Rattle.entries.specs.Written.{WrittenEntry, Lawful, Ends, entry_in, codes_of, entry_lines, entries_lines}
use Rattle.entries.specs.Readers.{text_of, left, answer_between}

-- The text that is read.
abbrev pub text_in : EntryReader → List ℕ
text_in r = text_of r.parts

-- The lines that are left to read.
abbrev pub lines_left : EntryReader → List (List ℕ)
lines_left r = left r.parts

-- How many lines of the text have been read.
abbrev pub lines_read : EntryReader → ℕ
lines_read r = r.parts.passed

-- What the next call answers.
abbrev pub entry_answer : EntryReader → Result (Option Header) TextRefusal
entry_answer r = answer_between r.parts

-- Where a call that answered so leaves the reader: past the entry's header, its rows and the empty line after it, if there is one; else where it was.
abbrev pub EntryAfter : EntryReader → Result (Option Header) TextRefusal → EntryReader → Type 0
EntryAfter r (Ok (Some h)) s = (lines_left s ≡ drop (h.k + 2) (lines_left r)) × (lines_read s ≡ lines_read r + min (h.k + 2) (length (lines_left r)))
EntryAfter r (Ok None) s = s ≡ r
EntryAfter r (Err f) s = s ≡ r

-- What the caller's place for codes then holds: the entry's codes in row order, and behind them what was there; else what was there.
abbrev pub codes_after : Result (Option Header) TextRefusal → List (List ℕ) → List ℕ → List ℕ
codes_after (Ok (Some h)) ls codes = codes_of (entry_in h ls) ++ drop (h.k * h.n) codes
codes_after (Ok None) ls codes = codes
codes_after (Err f) ls codes = codes

-- The entry that an answer hands out from the lines left.
abbrev pub entries_of : Result (Option Header) TextRefusal → List (List ℕ) → List WrittenEntry
entries_of (Ok (Some h)) ls = entry_in h ls ∷ []
entries_of (Ok None) ls = []
entries_of (Err f) ls = []

-- The lines read so far are those of some entries, each with an empty line after it, which the last may lack where no line is left.
abbrev pub ReadAs : EntryReader → List WrittenEntry → Type 0
ReadAs r es =
    (take (lines_read r) (lines (text_in r)) ≡ entries_lines es)
    ⊎ ((take (lines_read r) (lines (text_in r)) ++ [] ∷ [] ≡ entries_lines es) × (lines_left r ≡ []))

-- What handing out an entry means.
pub record HandsOut (r : EntryReader) (a : Result (Option Header) TextRefusal) (s : EntryReader) : Type 0 where
  -- what is handed out is lawful
  pub lawful : AllByRecursion Lawful (entries_of a (lines_left r))
  -- the entries handed out, with the one handed out now, are the lines read so far: nothing is skipped, invented or read twice
  pub joined : (es : List WrittenEntry) → ReadAs r es → ReadAs s (es ++ entries_of a (lines_left r))
  -- a lawful entry that stands next as the format writes it is handed out as it is
  pub back : (e : WrittenEntry) (rest : List (List ℕ)) → Lawful e → Ends rest → length (text_in r) ≤ 60000 → lines_left r ≡ entry_lines e ++ rest → entries_of a (lines_left r) ≡ e ∷ []
