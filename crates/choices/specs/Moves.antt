-- The step from a choice of rows to the next in revolving-door order.
use Rattle.std.specs.Prelude.{◌≡◌, ℕ, ◌+◌, ◌-◌, ◌%◌, ◌<◌, Bool, true, false, cond, List, [], length, ◌==◌, nat_le, slice_index, slice_index_or, slice_set}
use Rattle.theory.specs.Codes.{same, any}
use Rattle.theory.specs.Visits.{choices}

-- A row of a choice goes up where an even number of rows is above it, and else down.
abbrev pub goes_up : List ℕ → ℕ → Bool
goes_up c i = (length c - (i + 1)) % 2 == 0

-- The row at a place is at its end: up at the row above it (or k), down at its own place.
abbrev pub at_end : ℕ → List ℕ → ℕ → Bool
at_end k c i = cond (goes_up c i) (nat_le (slice_index_or c (i + 1) k) (slice_index c i + 1)) (nat_le (slice_index c i) i)

-- The rows below place p are at their ends.
abbrev pub AllAtEnd : ℕ → List ℕ → ℕ → Type 0
AllAtEnd k c p = (i : ℕ) → i < p → at_end k c i ≡ true

-- The row at place p is the lowest that is not at its end.
abbrev pub FirstMovable : ℕ → List ℕ → ℕ → Type 0
FirstMovable k c p = (p < length c) × (at_end k c p ≡ false) × AllAtEnd k c p

-- Row p goes up by one, and the row below it takes its place.
abbrev pub raised : List ℕ → ℕ → List ℕ
raised c p = slice_set (slice_set c (p - 1) (slice_index c p)) p (slice_index c p + 1)

-- Row p goes down by one, and the row below it goes to its lowest.
abbrev pub lowered : List ℕ → ℕ → List ℕ
lowered c p = slice_set (slice_set c (p - 1) (p - 1)) p (slice_index c p - 1)

-- The choice stands at place i of R(k, t).
abbrev pub StandsAt : ℕ → ℕ → ℕ → List ℕ → Type 0
StandsAt k t i c = (i < length (choices k t)) × (slice_index_or (choices k t) i [] ≡ c)

-- The choice stands in R(k, t), as a test.
abbrev pub is_choice : ℕ → ℕ → List ℕ → Bool
is_choice k t c = any (same c) (choices k t)

-- What a step does: to the next choice in R(k, t), or, where the choice was the last, nothing.
abbrev pub Steps : ℕ → ℕ → Bool → List ℕ → List ℕ → Type 0
Steps k t true c d = (i : ℕ) → StandsAt k t i c → StandsAt k t (i + 1) d
Steps k t false c d = (d ≡ c) × ((i : ℕ) → StandsAt k t i c → i + 1 ≡ length (choices k t))
