-- The visits of a level as pairs of rows and coefficients, and what a visit counter stands at.
use Rattle.std.specs.Prelude.{◌≡◌, ℕ, ◌-◌, ◌^◌, Bool, true, false, ◌&&◌, List, length, Option, MatchOption, nat_le, nat_lt}
use Rattle.theory.specs.Meanings.{FieldMeaning}
use Rattle.theory.specs.Codes.{combination}
use Rattle.theory.specs.Visits.{picked, visits}
use Rattle.choices.specs.Places.{StandsAt}
use Rattle.choices.specs.Sizes.{level_size}
use Rattle.choices.specs.Choosing.{chosen}
use Rattle.choices.specs.Coefficients.{codes_of}
use Rattle.choices.specs.LevelVisits.{level_visits}
use Rattle.choices.specs.declared.visit_counter.VisitCounter.{VisitCounter}

-- The rows and the coefficients of the visit at which a counter stands.
abbrev pub visit_of : VisitCounter → List ℕ × List ℕ
visit_of v = (chosen v.choice, codes_of v.coefficients)

-- The number of visits of the level at which a counter stands.
abbrev pub size_of : VisitCounter → ℕ
size_of v = level_size v.choice.k v.choice.t v.coefficients.q

-- The visits of the level at which a counter stands, in order.
abbrev pub visits_of : VisitCounter → List (List ℕ × List ℕ)
visits_of v = level_visits v.choice.k v.choice.t v.coefficients.q

-- The counter stands at visit i of level t of k rows over q codes: i visits come before it.
abbrev pub CounterAt : ℕ → ℕ → ℕ → ℕ → VisitCounter → Type 0
CounterAt k t q i v = (v.choice.k ≡ k) × (v.choice.t ≡ t) × (v.coefficients.q ≡ q) × (v.place ≡ i) × StandsAt (level_visits k t q) i (visit_of v)

-- The level has visits, and few enough to be numbered by 64 bits; k is within the limit.
abbrev pub has_level : ℕ → ℕ → ℕ → Bool
has_level k t q = nat_le k 32 && nat_le 1 t && nat_le t k && nat_le 2 q && nat_lt (level_size k t q) (2 ^ 64 - 1)

-- A counter at visit i, or none where the level has no such visit, or is none that is counted.
abbrev pub CounterOr : ℕ → ℕ → ℕ → ℕ → Option VisitCounter → Type 0
CounterOr k t q i r = MatchOption r ((has_level k t q && nat_lt i (level_size k t q)) ≡ false) (λ v. ((has_level k t q && nat_lt i (level_size k t q)) ≡ true) × CounterAt k t q i v)

-- These rows and coefficients make the i-th word that the level visits, whatever the field of order q and the k rows of the form.
abbrev pub IsVisit : ℕ → ℕ → ℕ → ℕ → List ℕ × List ℕ → Type 0
IsVisit k t q i v = (f : FieldMeaning) (n : ℕ) (rows : List (List ℕ)) → f.order ≡ q → length rows ≡ k → StandsAt (visits f n rows t) i (combination f n v.1 (picked rows v.0))
