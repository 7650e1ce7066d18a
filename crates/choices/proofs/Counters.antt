-- What holds of every visit counter, from the promises of its type.
use Rattle.std.proofs.Common.{◌≡◌, ℕ, ◌+◌, ◌-◌, ◌^◌, ◌<◌, ◌≤◌, true, false, ltb, List, length, sym, refl, ◌∙◌, subst, add-zero, arith}
use Rattle.std.proofs.lemmas.Bool.{lt-ltb, le-ltb}
use Rattle.std.proofs.lemmas.Bool.Decides.{nat_tests}
use Rattle.choices.specs.Places.{StandsAt, Steps}
use Rattle.choices.specs.Sizes.{level_size}
use Rattle.choices.specs.Choosing.{chosen, choosable}
use Rattle.choices.specs.Coefficients.{codes_of, has_lists}
use Rattle.choices.specs.LevelVisits.{level_visits, is_visit}
use Rattle.choices.specs.Levels.{visit_of, size_of, visits_of, CounterAt, has_level}
use Rattle.choices.specs.Kept.{KeptChoice, KeptCoefficients, KeptVisit}
use Rattle.choices.specs.declared.choice.Choice.{Choice}
use Rattle.choices.specs.declared.coefficients.Coefficients.{Coefficients}
use Rattle.choices.specs.declared.visit_counter.VisitCounter.{VisitCounter}
use Rattle.choices.proofs.LevelSteps.{visit_stands, stands_visit, some_rows, length_level}

-- What the invariant of a counter says of its place and its level.
module _ (v : VisitCounter) (h : KeptVisit v) where
  pub counter_stands : StandsAt (visits_of v) v.place (visit_of v)
  counter_stands = visit_stands v.choice.k v.choice.t v.coefficients.q v.place (chosen v.choice) (codes_of v.coefficients) h.4

  pub counter_length : length (visits_of v) ≡ v.size
  counter_length = length_level v.choice.k v.choice.t v.coefficients.q (some_rows v.choice.k v.choice.t v.coefficients.q (chosen v.choice) (codes_of v.coefficients) v.place counter_stands) ∙ sym h.3

  pub counter_below : v.place < v.size
  counter_below = omega (arith, counter_stands.0, counter_length)

-- A level that has choices and coefficients, and few enough visits, is one that is counted.
pub counted_level : (k t q : ℕ) → choosable k t ≡ true → has_lists q t ≡ true → level_size k t q < 2 ^ 64 - 1 → has_level k t q ≡ true
counted_level k t q c l few = grind (arith, nat_tests)

-- Equal levels have the same tests and sizes.
module _ {k t q k' t' q' : ℕ} (same-k : k' ≡ k) (same-t : t' ≡ t) (same-q : q' ≡ q) where
  pub test_moved : (i : ℕ) (c cs : List ℕ) → StandsAt (level_visits k t q) i (c, cs) → is_visit k' t' q' i c cs ≡ true
  test_moved i c cs s = rw (same-k, same-t, same-q) (stands_visit k t q i c cs s)

  pub size_moved : (s : ℕ) → s ≡ level_size k t q → s ≡ level_size k' t' q'
  size_moved s e = rw (same-k, same-t, same-q) e

-- What the test of a level tells.
pub level_tells : (k t q : ℕ) → has_level k t q ≡ true → (k ≤ 32) × (1 ≤ t) × (t ≤ k) × (2 ≤ q)
level_tells k t q h = grind (arith, nat_tests)

-- A step of the visit is a step of the counter: its fields are kept, and it tells whether there is such a visit.
module _ (v : VisitCounter) (h : KeptVisit v) (choice : Choice) (list : Coefficients) (same : (choice.k ≡ v.choice.k) × (choice.t ≡ v.choice.t) × (list.q ≡ v.coefficients.q) × (list.t ≡ v.coefficients.t)) where
  module _ (next : Steps (visits_of v) true (visit_of v) (chosen choice, codes_of list)) where
    pub stepped_kept : KeptChoice choice → KeptCoefficients list → KeptVisit record { choice = choice; coefficients = list; place = v.place + 1; size = v.size }
    stepped_kept rows codes = (rows, codes, same.1 ∙ h.2 ∙ sym same.3, size_moved same.0 same.1 same.2 v.size h.3, test_moved same.0 same.1 same.2 (v.place + 1) (chosen choice) (codes_of list) (next v.place (counter_stands v h)))

    pub stepped_below : true ≡ ltb (v.place + 1) (size_of v)
    stepped_below = sym (lt-ltb (v.place + 1) (size_of v) (omega (arith, (next v.place (counter_stands v h)).0, counter_length v h, h.3)))

    pub stepped_last : true ≡ ltb (v.place + 1) (length (visits_of v))
    stepped_last = rw (counter_length v h, h.3) stepped_below

    pub stepped_at : CounterAt v.choice.k v.choice.t v.coefficients.q (v.place + 1) record { choice = choice; coefficients = list; place = v.place + 1; size = v.size }
    stepped_at = (same.0, same.1, same.2, refl, next v.place (counter_stands v h))

  module _ (last : Steps (visits_of v) false (visit_of v) (chosen choice, codes_of list)) where
    pub ended_below : false ≡ ltb (v.place + 1) (size_of v)
    ended_below = sym (le-ltb (v.place + 1) (size_of v) (omega (arith, last.1 v.place (counter_stands v h), counter_length v h, h.3)))

    pub ended_last : false ≡ ltb (v.place + 1) (length (visits_of v))
    ended_last = rw (counter_length v h, h.3) ended_below

    pub ended_at : CounterAt v.choice.k v.choice.t v.coefficients.q (v.place + 0) record { choice = choice; coefficients = list; place = v.place; size = v.size }
    ended_at = (same.0, same.1, same.2, sym (add-zero v.place), subst (λ i. StandsAt (visits_of v) i (chosen choice, codes_of list)) (sym (add-zero v.place)) (subst (StandsAt (visits_of v) v.place) (sym last.0) (counter_stands v h)))

    pub ended_kept : KeptChoice choice → KeptCoefficients list → KeptVisit record { choice = choice; coefficients = list; place = v.place; size = v.size }
    ended_kept rows codes = (rows, codes, same.1 ∙ h.2 ∙ sym same.3, size_moved same.0 same.1 same.2 v.size h.3, test_moved same.0 same.1 same.2 v.place (chosen choice) (codes_of list) (subst (StandsAt (visits_of v) v.place) (sym last.0) (counter_stands v h)))
