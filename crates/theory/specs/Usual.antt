-- The usual fields and symbol weights: the numbers modulo a prime, Hamming's weight and Lee's.
use Rattle.std.specs.Prelude.{ℕ, ◌+◌, ◌-◌, ◌*◌, ◌/◌, ◌%◌, min}
use Rattle.theory.specs.Meanings.{FieldMeaning, WeightMeaning, read_below}

-- The field of the numbers modulo a prime p.
abbrev pub prime : ℕ → FieldMeaning
prime p = record { order = p; sum = λ a b. (read_below p a + read_below p b) % p; product = λ a b. (read_below p a * read_below p b) % p }

-- The Hamming weight: each nonzero code weighs 1.
abbrev pub hamming : ℕ → WeightMeaning
hamming q = record { order = q; top = 1; of = λ a. min (read_below q a) 1 }

-- The Lee weight for a prime p: code a weighs the smaller of a and p - a.
abbrev pub lee : ℕ → WeightMeaning
lee p = record { order = p; top = p / 2; of = λ a. min (read_below p a) (p - read_below p a) }
