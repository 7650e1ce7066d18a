-- The numbers of a header: one to three digits, the first not 0.
use Rattle.std.specs.Prelude.{ℕ, ◌+◌, ◌-◌, ◌*◌, Bool, cond, not, ◌&&◌, List, [], ◌∷◌, length, Some, None, Option, ◌==◌, nat_le, nat_lt, slice_index}
use Rattle.std.specs.Str.{all_ascii_digits}

-- The value of digits, going on from what those before them gave.
abbrev pub digits_value : ℕ → List ℕ → ℕ
digits_value v [] = v
digits_value v (b ∷ bs) = digits_value (10 * v + (b - 48)) bs

-- A word that is a number.
abbrev pub is_number : List ℕ → Bool
is_number word = nat_lt 0 (length word) && (nat_le (length word) 3 && (not (slice_index word 0 == 48) && all_ascii_digits word))

-- The number that a word writes.
abbrev pub number_of : List ℕ → Option ℕ
number_of word = cond (is_number word) (Some (digits_value 0 word)) None
