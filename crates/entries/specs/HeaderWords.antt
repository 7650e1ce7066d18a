-- The six words of a header as a list, and their columns.
use Rattle.std.specs.Prelude.{◌≡◌, ℕ, List, [], ◌∷◌}
use Rattle.entries.specs.declared.header.HeaderWords.{HeaderWords}
use Rattle.entries.specs.Headers.{word_column}

-- The words, first to last.
abbrev pub word_list : HeaderWords → List (List ℕ)
word_list w = w.code.bytes.now ∷ w.n.bytes.now ∷ w.k.bytes.now ∷ w.claim.bytes.now ∷ w.field.bytes.now ∷ w.weight.bytes.now ∷ []

-- Each word's column is where it begins in the line.
abbrev pub Columned : HeaderWords → Type 0
Columned w =
    (w.code.column ≡ word_column (word_list w) 0) × (w.n.column ≡ word_column (word_list w) 1) × (w.k.column ≡ word_column (word_list w) 2)
    × (w.claim.column ≡ word_column (word_list w) 3) × (w.field.column ≡ word_column (word_list w) 4) × (w.weight.column ≡ word_column (word_list w) 5)
