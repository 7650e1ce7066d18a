-- What each call answers, and where it leaves the search and the roll.
use Rattle.std.specs.Prelude.{◌≡◌, ℕ, suc, ◌+◌, ◌*◌, Bool, true, false, cond, not, ◌||◌, T, List, [], ◌∷◌, ◌++◌, map, length, take, drop, replicate, Some, None, count_by, filter, Option, ◌==◌, nat_eq, nat_le, nat_lt, slice_set}
use Rattle.theory.specs.Codes.{on_line, is_zero, leads, line_weight, multiples}
use Rattle.theory.specs.Forms.{GeneratorForm}
use Rattle.theory.specs.Standings.{LinearCode, Standing, all_forms, level_of, next_level, finished, counted, spectrum, best, line_count, bound, LedgerReading, reading}
use Rattle.theory.specs.Promises.{Codeword, LeaderRecord, SearchState, Sound}

-- A call: raise a form with a budget, look at the ledger, or ask the spectrum at a weight.
pub data SearchCall : Type 0 where
  raise : ℕ → ℕ → SearchCall
  look : SearchCall
  ask : ℕ → SearchCall

-- The ledger: bound, best weight or none, line count, number of forms, the open form or none, all levels and ranks, and what it reads.
pub record LedgerFigures : Type 0 where
  pub bound : ℕ
  pub best : Option ℕ
  pub lines : ℕ
  pub forms : ℕ
  pub opened : Option ℕ
  pub levels : List ℕ
  pub ranks : List ℕ
  pub reads : LedgerReading

-- An answer: refused with a number and a place; raised, with form, level, visits made and whether the level ended; the ledger; or the spectrum there.
pub data SearchAnswer : Type 0 where
  refused : ℕ → ℕ → SearchAnswer
  raised : ℕ → ℕ → ℕ → Bool → SearchAnswer
  looked : LedgerFigures → SearchAnswer
  told : ℕ → SearchAnswer

module _ (c : LinearCode) where
  -- The visits made in the level that is open, none if no level is.
  abbrev pub made_in : Standing → ℕ
  made_in s = elim s.opened [ None ↦ 0 | Some i ↦ s.made ]

  -- The words that a raise of form j visits: the next of the level, at most as many as the budget.
  abbrev pub coming : Standing → ℕ → ℕ → List (List ℕ)
  coming s j budget = take budget (drop (made_in s) (next_level c s j))

  -- The standing after a raise: with the level's last visit the level is finished, else it stays open.
  unfoldable pub raise_standing : Standing → ℕ → ℕ → Standing
  raise_standing s j budget =
      let done : ℕ = made_in s + length (coming s j budget) in
      elim (done == length (next_level c s j)) [
        | true ↦ record { levels = slice_set s.levels j (level_of c s j + 1); opened = None; made = 0 }
        | false ↦ record { levels = s.levels; opened = Some j; made = done }
      ]

  -- The word is finished in a form other than j, so that its line is not counted again.
  abbrev pub elsewhere : Standing → ℕ → List ℕ → Bool
  elsewhere s j u = finished (take j (all_forms c)) (take j s.levels) u || finished (drop (suc j) (all_forms c)) (drop (suc j) s.levels) u

  -- The words of a raise whose lines are newly counted.
  abbrev pub newly : Standing → ℕ → ℕ → List (List ℕ)
  newly s j budget = filter (λ u. not (elsewhere s j u)) (coming s j budget)

  -- The leader of a word's line.
  abbrev pub leader : List ℕ → List ℕ
  leader u = elim (filter leads (multiples c.field u)) [ [] ↦ u | v ∷ vs ↦ v ]

  -- The records of the lines of weight b among the words given, in order.
  abbrev pub lightest : Option ℕ → List (List ℕ) → List LeaderRecord
  lightest None us = []
  lightest (Some b) us = map (λ u. record { word = leader u; weight = b }) (filter (λ u. nat_eq (line_weight c.field c.weight u) b) us)

  -- Two best weights are the same, or both are none.
  abbrev pub unchanged : Option ℕ → Option ℕ → Bool
  unchanged None None = true
  unchanged None (Some b) = false
  unchanged (Some a) None = false
  unchanged (Some a) (Some b) = a == b

  -- The roll after a raise: what it held, or nothing if a lighter line was met, followed by the records of the lines of best weight newly counted, in order, as far as the slots go.
  unfoldable pub raise_roll : SearchState → ℕ → ℕ → List LeaderRecord
  raise_roll x j budget =
      let s : Standing = x.standing in
      let after : Option ℕ = best c (raise_standing s j budget) in
      let kept : List LeaderRecord = cond (unchanged (best c s) after) x.roll [] in
      take x.slots (kept ++ lightest after (newly s j budget))

  -- Whether a raise is refused, with number and place: 22 no such form, 23 budget 0, 24 another form's level open (place: that form), 25 the form's level is k.
  abbrev pub refuse_raise : Standing → ℕ → ℕ → Option (ℕ × ℕ)
  refuse_raise s j budget = elim (nat_lt j (length (all_forms c))) [
    | false ↦ Some (22, 0)
    | true ↦ elim (budget == 0) [
      | true ↦ Some (23, 0)
      | false ↦ elim s.opened [
        | None ↦ cond (level_of c s j == length c.rows) (Some (25, 0)) None
        | Some i ↦ cond (i == j) None (Some (24, i))
      ]
    ]
  ]

  -- What a look answers.
  abbrev pub ledger : Standing → LedgerFigures
  ledger s = record { bound = bound c s; best = best c s; lines = line_count c s; forms = length (all_forms c); opened = s.opened; levels = s.levels; ranks = map (λ (j : GeneratorForm). j.rank) (all_forms c); reads = reading c s }

  -- The search after a call: an accepted raise moves it, and nothing else does.
  unfoldable pub after : SearchState → SearchCall → SearchState
  after x (raise j budget) = elim (refuse_raise x.standing j budget) [
    | Some r ↦ x
    | None ↦ record { standing = raise_standing x.standing j budget; slots = x.slots; roll = raise_roll x j budget }
  ]
  after x look = x
  after x (ask w) = x

  -- What a call answers.
  unfoldable pub answer : SearchState → SearchCall → SearchAnswer
  answer x (raise j budget) = elim (refuse_raise x.standing j budget) [
    | Some r ↦ refused r.0 r.1
    | None ↦ raised j (level_of c x.standing j + 1) (length (coming x.standing j budget)) (made_in x.standing + length (coming x.standing j budget) == length (next_level c x.standing j))
  ]
  answer x look = looked (ledger x.standing)
  answer x (ask w) = cond (nat_le w (c.n * c.weight.top)) (told (spectrum c x.standing w)) (refused 31 0)

  -- The words of a call's visits whose lines it counts.
  abbrev pub counts : SearchState → SearchCall → List (List ℕ)
  counts x (raise j budget) = elim (refuse_raise x.standing j budget) [
    | Some r ↦ []
    | None ↦ newly x.standing j budget
  ]
  counts x look = []
  counts x (ask w) = []

  -- The words counted by all the calls of a list, in order.
  abbrev pub history : SearchState → List SearchCall → List (List ℕ)
  history x [] = []
  history x (k ∷ ks) = counts x k ++ history (after x k) ks

  -- The search after the making: no level finished, none open, and an empty roll.
  abbrev pub start : ℕ → SearchState
  start slots = record { standing = record { levels = replicate (length (all_forms c)) 0; opened = None; made = 0 }; slots = slots; roll = [] }

  -- The search after a list of calls.
  abbrev pub run : SearchState → List SearchCall → SearchState
  run x [] = x
  run x (k ∷ ks) = run (after x k) ks

  -- After every list of calls, whatever the slots of the roll, the promise holds.
  abbrev pub SoundRuns : Type 0
  SoundRuns = (slots : ℕ) (ks : List SearchCall) → Sound c (run (start slots) ks)

  -- Over a run the line of each nonzero codeword was counted once if the codeword is counted, and else never.
  abbrev pub CountsWhatItVisits : Type 0
  CountsWhatItVisits = (slots : ℕ) (ks : List SearchCall) (u : List ℕ) → Codeword c u → T (not (is_zero u)) → count_by (on_line c.field u) (history (start slots) ks) ≡ cond (counted c (run (start slots) ks).standing u) 1 0
