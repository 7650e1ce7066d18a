-- The Hamming weight, the Lee weight and the weights of a table keep the laws.
use Rattle.std.specs.Prelude.{◌≡◌, ℕ, ◌<◌, ◌≤◌, true, List, slice_index}
use Rattle.std.proofs.Common.{arith}
use Rattle.theory.specs.Meanings.{WeightLaws}
use Rattle.theory.specs.Usual.{hamming, lee}
use Rattle.fields.specs.Primes.{is_prime}
use Rattle.fields.specs.Tables.{table_of}
use Rattle.fields.specs.Modular.{prime_range}

pub hamming_laws : (q : ℕ) → 2 ≤ q → q ≤ 16 → WeightLaws (hamming q)
hamming_laws q low high = grind arith

pub lee_laws : (p : ℕ) → is_prime p ≡ true → WeightLaws (lee p)
lee_laws p six = let range = prime_range p six in grind arith

pub table_laws : (q : ℕ) (ws : List ℕ) → 2 ≤ q → q ≤ 16 → slice_index ws 0 ≡ 0
    → ((a : ℕ) → 1 ≤ a → a < q → 1 ≤ slice_index ws a) → ((a : ℕ) → a < q → slice_index ws a ≤ 8) → WeightLaws (table_of q ws)
table_laws q ws low high zero positive bounded = grind arith
