-- The rows of an entry: their symbols, codes and faults.
use Rattle.std.specs.Prelude.{ℕ, ◌+◌, Bool, false, cond, List, [], ◌∷◌, map, length, Some, None, Option, ◌==◌, nat_lt}
use Rattle.std.specs.Option.{unwrap_or}
use Rattle.entries.specs.declared.header.Header.{Header}
use Rattle.entries.specs.declared.refusal.TextRefusal.{TextRefusal}
use Rattle.entries.specs.declared.refusal.TextRefusal.TheVariants.{RowLength, BadSymbol}
use Rattle.entries.specs.Names.{order}
use Rattle.entries.specs.Symbols.{code_of}

-- A byte is the symbol of an element of the field of order q.
abbrev pub is_element : ℕ → ℕ → Bool
is_element q b = elim (code_of b) [ None ↦ false | Some a ↦ nat_lt a q ]

-- The first symbol of a line i that is no element of the field of order q, the columns counted on from c.
abbrev pub symbol_fault : ℕ → ℕ → ℕ → List ℕ → Option TextRefusal
symbol_fault q i c [] = None
symbol_fault q i c (b ∷ s) = cond (is_element q b) (symbol_fault q i (c + 1) s) (Some (BadSymbol i c))

-- The first fault of a row in line i: its length, then its symbols.
unfoldable pub row_fault : Header → List ℕ → ℕ → Option TextRefusal
row_fault h l i = cond (length l == h.n) (symbol_fault (order h.field) i 1 l) (Some (RowLength i))

-- The codes of the symbols of a row.
abbrev pub row_codes : List ℕ → List ℕ
row_codes l = map (λ b. unwrap_or (code_of b) 0) l
