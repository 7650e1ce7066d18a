-- How far a search has come, and what it then answers, as facts about the code.
use Rattle.std.specs.Prelude.{ℕ, ◌+◌, ◌-◌, Bool, true, false, cond, not, ◌||◌, eqb, List, [], ◌∷◌, map, length, take, Some, None, count_by, filter, Option, ◌==◌, nat_le, nat_lt, slice_index, slice_index_or}
use Rattle.theory.specs.Meanings.{FieldMeaning, WeightMeaning}
use Rattle.theory.specs.Codes.{any, on_line, codewords, is_zero, leads, weigh, line_weight, least}
use Rattle.theory.specs.Forms.{GeneratorForm, forms}
use Rattle.theory.specs.Visits.{visits}

-- The code under search: its field and symbol weight, the length n of its words, and the rows that generate it.
pub record LinearCode : Type 0 where
  pub field : FieldMeaning
  pub weight : WeightMeaning
  pub n : ℕ
  pub rows : List (List ℕ)

-- The level last finished in each form, the form with an open level, and the visits made in that.
pub record Standing : Type 0 where
  pub levels : List ℕ
  pub opened : Option ℕ
  pub made : ℕ

-- The message weight of a word in a form: the number of its nonzero symbols at the form's positions.
abbrev pub message_weight : GeneratorForm → List ℕ → ℕ
message_weight form u = count_by (λ p. not (slice_index u p == 0)) form.positions

-- The word's message weight in some form is at most that form's level; lists of unequal length are cut at the shorter.
abbrev pub finished : List GeneratorForm → List ℕ → List ℕ → Bool
finished [] ts u = false
finished (j ∷ js) [] u = false
finished (j ∷ js) (t ∷ ts) u = cond (nat_le (message_weight j u) t) true (finished js ts u)

-- What stands for a form where there is none.
abbrev pub no_form : GeneratorForm
no_form = record { positions = []; rank = 0; rows = [] }

-- The forms of the code.
abbrev pub all_forms : LinearCode → List GeneratorForm
all_forms c = forms c.field c.n c.rows

-- The level last finished in form j.
abbrev pub level_of : LinearCode → Standing → ℕ → ℕ
level_of c s j = slice_index s.levels j

-- The words that form j visits at its next level.
abbrev pub next_level : LinearCode → Standing → ℕ → List (List ℕ)
next_level c s j = visits c.field c.n (slice_index_or (all_forms c) j no_form).rows (level_of c s j + 1)

-- The visits made in the open level.
abbrev pub open_visits : LinearCode → Standing → List (List ℕ)
open_visits c s = elim s.opened [
  | None ↦ []
  | Some j ↦ take s.made (next_level c s j)
]

-- A codeword is counted if it is 0, its message weight in some form is at most that form's level, or its line was visited in the open level.
unfoldable pub counted : LinearCode → Standing → List ℕ → Bool
counted c s u = is_zero u || (finished (all_forms c) s.levels u || any (on_line c.field u) (open_visits c s))

-- The codewords counted, each as often as the list of codewords has it.
abbrev pub counted_words : LinearCode → Standing → List (List ℕ)
counted_words c s = filter (counted c s) (codewords c.field c.n c.rows)

-- The leaders among the words counted: one of each line counted.
abbrev pub counted_leaders : LinearCode → Standing → List (List ℕ)
counted_leaders c s = filter leads (counted_words c s)

-- The number of counted words of a weight.
unfoldable pub spectrum : LinearCode → Standing → ℕ → ℕ
spectrum c s v = count_by (λ u. eqb (weigh c.weight u) v) (counted_words c s)

-- The least number of a list, or none where the list is empty.
abbrev pub best_of : List ℕ → Option ℕ
best_of xs = elim xs [ [] ↦ None | y ∷ ys ↦ Some (least ys y) ]

-- The least weight of a counted line, or none where no line is counted.
unfoldable pub best : LinearCode → Standing → Option ℕ
best c s = best_of (map (line_weight c.field c.weight) (counted_leaders c s))

-- The number of counted lines of best weight.
unfoldable pub line_count : LinearCode → Standing → ℕ
line_count c s = elim (best c s) [ None ↦ 0 | Some b ↦ count_by (λ u. eqb (line_weight c.field c.weight u) b) (counted_leaders c s) ]

-- The sum over the forms of max(0, t + 1 + r - k), with t the form's level and r its rank; lists of unequal length are cut at the shorter.
abbrev pub bound_over : ℕ → List GeneratorForm → List ℕ → ℕ
bound_over k [] ts = 0
bound_over k (j ∷ js) [] = 0
bound_over k (j ∷ js) (t ∷ ts) = ((t + 1 + j.rank) - k) + bound_over k js ts

-- The lower bound: every codeword that is not counted weighs at least as much.
unfoldable pub bound : LinearCode → Standing → ℕ
bound c s = bound_over (length c.rows) (all_forms c) s.levels

-- Some form has finished its last level.
abbrev pub reads_full : LinearCode → Standing → Bool
reads_full c s = any (λ t. eqb t (length c.rows)) s.levels

-- What may be told of the best: nothing yet, that it is the distance, or that its lines are all counted too.
pub data LedgerReading : Type 0 where
  still_open known complete : LedgerReading

-- What the ledger reads: complete if some level is k or the best is below the bound, else known if the best is at most the bound, else open.
abbrev pub reading : LinearCode → Standing → LedgerReading
reading c s = elim (reads_full c s) [
  | true ↦ complete
  | false ↦ elim (best c s) [ None ↦ still_open | Some b ↦ cond (nat_lt b (bound c s)) complete (cond (nat_le b (bound c s)) known still_open) ]
]
