-- What every choice, every list of coefficients and every visit counter keeps, whatever calls it went through.
use Rattle.std.specs.Prelude.{◌≡◌, ℕ, ◌≤◌, true, take}
use Rattle.theory.specs.Visits.{coefficients}
use Rattle.choices.specs.Held.{HeldChoice, HeldCoefficients, HeldVisit}
use Rattle.choices.specs.Moves.{is_choice}
use Rattle.choices.specs.Places.{listed}
use Rattle.choices.specs.Sizes.{level_size}
use Rattle.choices.specs.LevelVisits.{is_visit}

-- The rows stand in R(k, t), and k is within the limit.
abbrev pub KeptChoice : HeldChoice → Type 0
KeptChoice c = (c.k ≤ 32) × (c.t ≤ c.k) × (is_choice c.k c.t (take c.t c.rows) ≡ true)

-- The codes stand among the coefficients of t rows over q codes, and t is within the limit.
abbrev pub KeptCoefficients : HeldCoefficients → Type 0
KeptCoefficients c = (c.t ≤ 32) × (2 ≤ c.q) × (listed (coefficients c.q c.t) (take c.t c.codes) ≡ true)

-- The rows and the coefficients are those of the visit at this place of their level, which has this size.
abbrev pub KeptVisit : HeldVisit → Type 0
KeptVisit v = KeptChoice v.choice × KeptCoefficients v.coefficients × (v.choice.t ≡ v.coefficients.t) × (v.size ≡ level_size v.choice.k v.choice.t v.coefficients.q) × (is_visit v.choice.k v.choice.t v.coefficients.q v.place (take v.choice.t v.choice.rows) (take v.coefficients.t v.coefficients.codes) ≡ true)
