-- The number, the line and the column of each refusal of a text.
use Rattle.std.specs.Prelude.{ℕ}
use Rattle.entries.specs.declared.refusal.TextRefusal.{TextRefusal}
use Rattle.entries.specs.declared.refusal.TextRefusal.TheVariants.{TooLong, HeaderShape, BadNumber, UnknownField, UnknownWeight, OutsideLimits, MissingRow, RowLength, NoEntryEnd, BadSymbol}

-- The number by which a refusal is known.
abbrev pub number : TextRefusal → ℕ
number TooLong = 60
number (HeaderShape l) = 61
number (BadNumber l c) = 62
number (UnknownField l c) = 63
number (UnknownWeight l c) = 64
number (OutsideLimits l) = 65
number (MissingRow l) = 66
number (RowLength l) = 66
number (NoEntryEnd l) = 66
number (BadSymbol l c) = 67

-- The line at fault, counted from 1; 0 for the text as a whole.
abbrev pub line : TextRefusal → ℕ
line TooLong = 0
line (HeaderShape l) = l
line (BadNumber l c) = l
line (UnknownField l c) = l
line (UnknownWeight l c) = l
line (OutsideLimits l) = l
line (MissingRow l) = l
line (RowLength l) = l
line (NoEntryEnd l) = l
line (BadSymbol l c) = l

-- The column at fault, counted from 1: where the word or the symbol begins, else 1; 0 for the text as a whole.
abbrev pub column : TextRefusal → ℕ
column TooLong = 0
column (HeaderShape l) = 1
column (BadNumber l c) = c
column (UnknownField l c) = c
column (UnknownWeight l c) = c
column (OutsideLimits l) = 1
column (MissingRow l) = 1
column (RowLength l) = 1
column (NoEntryEnd l) = 1
column (BadSymbol l c) = c
