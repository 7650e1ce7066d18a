-- The lines of a text, and the words of a line.
use Rattle.std.specs.Prelude.{ℕ, cond, List, [], ◌∷◌, ◌==◌}

-- One byte more in front of the first of some pieces.
abbrev pub onto : ℕ → List (List ℕ) → List (List ℕ)
onto b [] = (b ∷ []) ∷ []
onto b (p ∷ ps) = (b ∷ p) ∷ ps

-- The pieces of a text between the bytes c; what follows the last of these, if nothing, is cut as `none`.
unfoldable pub cut : ℕ → List (List ℕ) → List ℕ → List (List ℕ)
cut c none [] = none
cut c none (b ∷ s) = cond (b == c) ([] ∷ cut c none s) (onto b (cut c none s))

-- The lines of a text: each ends with byte 10 or with the text, and where no bytes are left no line begins.
abbrev pub lines : List ℕ → List (List ℕ)
lines s = cut 10 [] s

-- The words of a line, parted by single bytes 32: one more than these, and a word may be empty.
abbrev pub words : List ℕ → List (List ℕ)
words s = cut 32 ([] ∷ []) s
