-- The steps of a raise: one more visit, the end of a level, and what they do to the best and the line count.
use Rattle.std.specs.Prelude.{◌≡◌, ℕ, ◌+◌, ◌<◌, ◌≤◌, min, cond, ◌⊎◌, List, [], ◌∷◌, length, Some, None, Option, ◌==◌, nat_lt, slice_index_or, slice_set}
use Rattle.theory.specs.Standings.{LinearCode, Standing, all_forms, level_of, next_level}
use Rattle.theory.specs.Calls.{made_in}

-- The open level, if there is one, is of a form that has it, and not all its visits are made.
abbrev pub Opening : LinearCode → Standing → Option ℕ → Type 0
Opening c s None = Unit {0}
Opening c s (Some i) = (i < length (all_forms c)) × (level_of c s i < length c.rows) × (s.made < length (next_level c s i))

-- A standing that a search can come to: a level for each form, none above k.
pub record Valid (c : LinearCode) (s : Standing) : Type 0 where
  pub sizes : length s.levels ≡ length (all_forms c)
  pub low : (i : ℕ) → level_of c s i ≤ length c.rows
  pub opening : Opening c s s.opened

-- Form i's level may go on: it is open, or none is.
abbrev pub GoesOn : Standing → ℕ → Type 0
GoesOn s i = (s.opened ≡ None) ⊎ (s.opened ≡ Some i)

-- The standing with m visits made in form i's level.
abbrev pub stood : Standing → ℕ → ℕ → Standing
stood s i m = record { levels = s.levels; opened = Some i; made = m }

-- The standing with one more visit made in form i's level.
abbrev pub visited : LinearCode → Standing → ℕ → Standing
visited c s i = stood s i (made_in c s + 1)

-- The word of that visit.
abbrev pub coming_word : LinearCode → Standing → ℕ → List ℕ
coming_word c s i = slice_index_or (next_level c s i) (made_in c s) []

-- The standing with all visits of form i's level made, and the level not yet finished.
abbrev pub all_made : LinearCode → Standing → ℕ → Standing
all_made c s i = stood s i (length (next_level c s i))

-- The standing with form i's level finished.
abbrev pub ended : LinearCode → Standing → ℕ → Standing
ended c s i = record { levels = slice_set s.levels i (level_of c s i + 1); opened = None; made = 0 }

-- The best weight with one more line of weight x.
abbrev pub lesser : Option ℕ → ℕ → Option ℕ
lesser None x = Some x
lesser (Some b) x = Some (min b x)

-- The best weight with more lines of these weights.
abbrev pub lesser_all : Option ℕ → List ℕ → Option ℕ
lesser_all o [] = o
lesser_all o (x ∷ xs) = lesser_all (lesser o x) xs

-- The number counted at the best weight, 0 where there is none.
abbrev pub at_best : Option ℕ → (ℕ → ℕ) → ℕ
at_best o count = elim o [ None ↦ 0 | Some b ↦ count b ]

-- The line count with one more line of weight x, after a line count of m: 1 if it is lighter than the best, one more if equal, the same if heavier.
abbrev pub next_count : Option ℕ → ℕ → ℕ → ℕ
next_count None m x = 1
next_count (Some b) m x = cond (nat_lt x b) 1 (cond (x == b) (m + 1) m)
