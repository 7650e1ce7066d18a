-- The six primes, and what a prime field tells as negatives and inverses.
use Rattle.std.specs.Prelude.{ℕ, ◌-◌, ◌%◌, ◌^◌, Bool, cond, ◌||◌, ◌==◌}
use Rattle.theory.specs.Meanings.{read_below}

-- One of the primes below 16.
abbrev pub is_prime : ℕ → Bool
is_prime p = p == 2 || (p == 3 || (p == 5 || (p == 7 || (p == 11 || p == 13))))

-- The negative of a code modulo p.
abbrev pub negation_of : ℕ → ℕ → ℕ
negation_of p a = (p - read_below p a) % p

-- The inverse of a code modulo p: its power p - 2, and 0 for 0.
abbrev pub inversion_of : ℕ → ℕ → ℕ
inversion_of p a = cond (read_below p a == 0) 0 ((read_below p a ^ (p - 2)) % p)
