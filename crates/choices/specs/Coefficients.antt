-- What coefficients are, where they begin, and what all of them are.
use Rattle.std.specs.Prelude.{◌≡◌, ℕ, ◌-◌, ◌^◌, ◌<◌, ◌≤◌, Bool, true, false, ◌&&◌, List, length, take, Option, MatchOption, nat_le, slice_index}
use Rattle.std.specs.List.{AllByRecursion}
use Rattle.theory.specs.Codes.{Exactly}
use Rattle.theory.specs.Visits.{coefficients}
use Rattle.choices.specs.Places.{StandsAt}
use Rattle.choices.specs.declared.coefficients.Coefficients.{Coefficients}

-- The coefficients, that of the lowest row first.
abbrev pub codes_of : Coefficients → List ℕ
codes_of c = take c.t c.codes

-- There are coefficients of t rows over q codes, and t is within the limit.
abbrev pub has_lists : ℕ → ℕ → Bool
has_lists q t = nat_le 2 q && nat_le 1 t && nat_le t 32

-- The first coefficients of t rows over q codes, or none where there are none or t is beyond 32.
abbrev pub FirstListOr : ℕ → ℕ → Option Coefficients → Type 0
FirstListOr q t r = MatchOption r (has_lists q t ≡ false) (λ c. (has_lists q t ≡ true) × (c.q ≡ q) × (c.t ≡ t) × StandsAt (coefficients q t) 0 (codes_of c))

-- Lists of t nonzero codes that begin with 1.
abbrev pub BeginWithOne : ℕ → ℕ → List ℕ → Type 0
BeginWithOne q t cs = (length cs ≡ t) × (slice_index cs 0 ≡ 1) × AllByRecursion (λ c. (1 ≤ c) × (c < q)) cs

-- The coefficients of t rows are all lists of t nonzero codes that begin with 1 and no others, each exactly once, and (q - 1)^(t - 1) of them.
abbrev pub AllLists : ℕ → ℕ → Type 0
AllLists q t = 2 ≤ q → Exactly (BeginWithOne q t) (coefficients q t) × (1 ≤ t → length (coefficients q t) ≡ (q - 1) ^ (t - 1))
