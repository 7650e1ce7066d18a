-- What a choice holds, where it begins, and what all choices are.
use Rattle.std.specs.Prelude.{◌≡◌, ℕ, Bool, true, false, cond, not, ◌&&◌, List, length, take, Option, MatchOption, ◌==◌, nat_le}
use Rattle.theory.specs.Codes.{Exactly}
use Rattle.theory.specs.Forms.{among}
use Rattle.theory.specs.Visits.{choices, binomial, Choice as RisingRows}
use Rattle.choices.specs.Moves.{StandsAt}
use Rattle.choices.specs.declared.choice.Choice.{Choice}

-- The rows chosen, in rising order.
abbrev pub chosen : Choice → List ℕ
chosen c = take c.t c.rows

-- There are choices of t rows out of k, and k is within the limit.
abbrev pub choosable : ℕ → ℕ → Bool
choosable k t = nat_le k 32 && nat_le t k

-- The first choice of t rows out of k, or none where there is no choice or k is beyond 32.
abbrev pub FirstOr : ℕ → ℕ → Option Choice → Type 0
FirstOr k t r = MatchOption r (choosable k t ≡ false) (λ c. (choosable k t ≡ true) × (c.k ≡ k) × (c.t ≡ t) × StandsAt k t 0 (chosen c))

-- R(k, t) holds every rising list of t rows below k and nothing else, each exactly once, and C(k, t) of them.
abbrev pub AllChoices : ℕ → ℕ → Type 0
AllChoices k t = Exactly (RisingRows k t) (choices k t) × (length (choices k t) ≡ binomial k t)

-- One row of c leaves, one that c lacks comes, and these are the rows of d.
abbrev pub OneExchanged : List ℕ → List ℕ → Type 0
OneExchanged c d = (out : ℕ) × (come : ℕ) × (among out c ≡ true) × (among come c ≡ false) × ((x : ℕ) → among x d ≡ cond (x == come) true (among x c && not (x == out)))
