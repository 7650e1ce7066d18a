-- What a reader of parts stands for, and what a call does to it.
use Rattle.std.specs.Prelude.{◌≡◌, ℕ, ◌+◌, ◌-◌, ◌≤◌, cond, List, [], length, take, drop, Some, None, Ok, Err, Option, Result, nat_le, slice_index_or}
use Rattle.entries.specs.declared.header.Header.{Header}
use Rattle.entries.specs.declared.part.Part.{Part}
use Rattle.entries.specs.declared.part.Due.{Due}
use Rattle.entries.specs.declared.reader.PartReader.{PartReader}
use Rattle.entries.specs.declared.refusal.TextRefusal.{TextRefusal}
use Rattle.entries.specs.declared.refusal.TextRefusal.TheVariants.{TooLong}
use Rattle.entries.specs.Lines.{lines}
use Rattle.entries.specs.HeaderWords.{Columned}
use Rattle.entries.specs.Parts.{Content, next_part, due_after}
use Rattle.entries.specs.Entries.{next_entry}

-- The text that is read.
abbrev pub text_of : PartReader → List ℕ
text_of r = r.text.now

-- The lines that are left to read.
abbrev pub left : PartReader → List (List ℕ)
left r = lines (drop r.at (text_of r))

-- What the next call answers: a text of more than 60,000 bytes is refused, else the part that is due comes from the lines left.
abbrev pub part_answer : PartReader → Result (Option Content) TextRefusal
part_answer r = cond (nat_le (length (text_of r)) 60000) (next_part r.due (left r) (r.passed + 1)) (Err TooLong)

-- The next entry where none is begun: a text of more than 60,000 bytes is refused, else it comes from the lines left.
abbrev pub answer_between : PartReader → Result (Option Header) TextRefusal
answer_between r = cond (nat_le (length (text_of r)) 60000) (next_entry (left r) (r.passed + 1)) (Err TooLong)

-- Where a call that answered so leaves the reader: one line on after a part; at the end with a header due; as it was after a refusal.
abbrev pub After : PartReader → Result (Option Content) TextRefusal → PartReader → Type 0
After r (Ok (Some x)) s = (left s ≡ drop 1 (left r)) × (s.passed ≡ r.passed + 1) × (s.due ≡ due_after r.due x)
After r (Ok None) s = (left s ≡ left r) × (s.passed ≡ r.passed) × (s.due ≡ Due.Header)
After r (Err f) s = s ≡ r

-- The bytes stand in the line of that number, from that column on.
abbrev pub StandsAt : List (List ℕ) → ℕ → ℕ → List ℕ → Type 0
StandsAt ls i c bytes = take (length bytes) (drop (c - 1) (slice_index_or ls (i - 1) [])) ≡ bytes

-- A part is what stands in the text at its place: a row and a gap are the whole line, each word of a header stands at its column.
abbrev pub Stands : List (List ℕ) → Part → Type 0
Stands ls (Part.Header w v i) = (i ≤ length ls) × Columned w × StandsAt ls i w.code.column w.code.bytes.now × StandsAt ls i w.n.column w.n.bytes.now × StandsAt ls i w.k.column w.k.bytes.now × StandsAt ls i w.claim.column w.claim.bytes.now × StandsAt ls i w.field.column w.field.bytes.now × StandsAt ls i w.weight.column w.weight.bytes.now
Stands ls (Part.Row s i c) = (i ≤ length ls) × (c ≡ 1) × (slice_index_or ls (i - 1) [] ≡ s.now)
Stands ls (Part.Gap i c) = (i ≤ length ls) × (c ≡ 1) × (slice_index_or ls (i - 1) [] ≡ [])

-- The line of a part.
abbrev pub line_of : Part → ℕ
line_of (Part.Header w v i) = i
line_of (Part.Row s i c) = i
line_of (Part.Gap i c) = i

-- A part handed out is the one at line i of the text's lines.
abbrev pub Placed : List (List ℕ) → ℕ → Result (Option Part) TextRefusal → Type 0
Placed ls i (Ok (Some p)) = (line_of p ≡ i) × Stands ls p
Placed ls i (Ok None) = Unit {0}
Placed ls i (Err f) = Unit {0}

-- A part handed out has this line number and its columns.
abbrev pub Numbered : ℕ → Result (Option Part) TextRefusal → Type 0
Numbered i (Ok (Some (Part.Header w v l))) = (l ≡ i) × Columned w
Numbered i (Ok (Some (Part.Row s l c))) = (l ≡ i) × (c ≡ 1)
Numbered i (Ok (Some (Part.Gap l c))) = (l ≡ i) × (c ≡ 1)
Numbered i (Ok None) = Unit {0}
Numbered i (Err f) = Unit {0}
