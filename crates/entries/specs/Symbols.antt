-- The symbols of a row and their codes.
use Rattle.std.specs.Prelude.{ℕ, ◌+◌, ◌-◌, cond, ◌&&◌, Some, None, Option, nat_le, nat_lt}

-- The code of a byte that is a symbol: the digits for 0 to 9, then a, b and c for 10 to 12.
abbrev pub code_of : ℕ → Option ℕ
code_of b = cond (nat_le 48 b && nat_le b 57) (Some (b - 48)) (cond (nat_le 97 b && nat_le b 99) (Some (b - 87)) None)

-- The symbol of a code below 13.
abbrev pub symbol_of : ℕ → ℕ
symbol_of a = cond (nat_lt a 10) (48 + a) (87 + a)
