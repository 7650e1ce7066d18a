-- The symbols before this place are written over by their codes.
use Rattle.std.proofs.Common.{◌≡◌, ◌++◌, take, drop}
use Rattle.entries.specs.Rows.{row_codes}
use Rattle.entries.proofs.rows.decode_row.Given as goal

abbrev pub invariant-loop-code : goal.invariant-loop-code
invariant-loop-code l = l.codes ≡ row_codes (take l.code-index l.symbols) ++ drop l.code-index l.symbols
