-- What else holds of fields, codes and forms, as the functions of `src/lib.rt` carry it.
use Rattle.std.specs.Prelude.{◌≡◌, ℕ, ◌-◌, ◌*◌, ◌^◌, ◌<◌, ◌≤◌, Bool, false, cond, not, T, ◌↔◌, List, [], length, take, None, count_by, ◌==◌, slice_index_or}
use Rattle.std.specs.List.{AllByRecursion}
use Rattle.theory.specs.Meanings.{FieldMeaning, FieldLaws, WeightMeaning, WeightLaws}
use Rattle.theory.specs.Codes.{same, Exactly, any, codewords, multiples, on_line, is_zero, leads}
use Rattle.theory.specs.Forms.{GeneratorForm}
use Rattle.theory.specs.Visits.{binomial, visits}
use Rattle.theory.specs.Standings.{LinearCode, message_weight, all_forms}
use Rattle.theory.specs.Promises.{Below, Codeword, SearchState}
use Rattle.theory.specs.Facts.{Matrix, Independent, Systematic, Ranked, NewPositions}
use Rattle.theory.specs.Calls.{SearchCall, answer, raise_standing}

-- The list of codewords has codewords only, and each exactly once.
abbrev pub CodewordsOnce : LinearCode → Type 0
CodewordsOnce c = Exactly (Codeword c) (codewords c.field c.n c.rows)

-- Each form is a generator of the code in systematic form, and its rank counts its new positions.
abbrev pub SystematicForms : LinearCode → Type 0
SystematicForms c = AllByRecursion (Systematic c) (all_forms c) × Ranked [] (all_forms c)

-- The new positions of a code's forms: what each rank counts, and no position is new in two forms.
abbrev pub NewPositionsDisjoint : LinearCode → Type 0
NewPositionsDisjoint c = NewPositions (all_forms c)

-- Level t of a form: how many visits it has; that each visits a codeword of message weight t; and that it meets the line of a codeword exactly once if the message weight is t, and else never.
pub record LevelMeets (c : LinearCode) (j : GeneratorForm) (t : ℕ) : Type 0 where
  pub size : length (visits c.field c.n j.rows t) ≡ binomial (length c.rows) t * (c.field.order - 1) ^ (t - 1)
  pub words : AllByRecursion (λ v. Codeword c v × (message_weight j v ≡ t)) (visits c.field c.n j.rows t)
  pub once : (u : List ℕ) → Codeword c u → count_by (on_line c.field u) (visits c.field c.n j.rows t) ≡ cond (message_weight j u == t) 1 0

-- Every level of every form meets each line of its message weight exactly once.
abbrev pub LevelsMeetOnce : LinearCode → Type 0
LevelsMeetOnce c = (t : ℕ) → 1 ≤ t → AllByRecursion (λ j. LevelMeets c j t) (all_forms c)

-- Row i is a sum of multiples of the rows before it: the first row if it is 0.
abbrev pub dependent : FieldMeaning → ℕ → List (List ℕ) → ℕ → Bool
dependent f n rows i = any (same (slice_index_or rows i [])) (codewords f n (take i rows))

-- Rows are independent exactly if none is a sum of multiples of the rows before it.
abbrev pub IndependentRows : FieldMeaning → Type 0
IndependentRows f = (n : ℕ) (rows : List (List ℕ)) → Matrix f n rows → Independent f n rows ↔ ((i : ℕ) → i < length rows → dependent f n rows i ≡ false)

-- Of the nonzero multiples of a word that is not 0, exactly one is a leader.
abbrev pub OneLeads : FieldMeaning → Type 0
OneLeads f = (u : List ℕ) → Below f.order u → T (not (is_zero u)) → count_by leads (multiples f u) ≡ 1

-- Searches of equal codes at equal levels, none open, answer every call alike, and a raise leaves equal standings.
abbrev pub AnswersAlike : Type 0
AnswersAlike = (c d : LinearCode) → c ≡ d → (x y : SearchState) → x.standing.levels ≡ y.standing.levels → x.standing.opened ≡ None → y.standing.opened ≡ None → ((call : SearchCall) → answer c x call ≡ answer d y call) × ((j budget : ℕ) → raise_standing c x.standing j budget ≡ raise_standing d y.standing j budget)

-- Fields that agree below the order are equal.
abbrev pub EqualFields : Type 0
EqualFields = (f g : FieldMeaning) (n i m j : ℕ → ℕ) → FieldLaws f n i → FieldLaws g m j → f.order ≡ g.order → ((a b : ℕ) → a < f.order → b < f.order → f.sum a b ≡ g.sum a b) → ((a b : ℕ) → a < f.order → b < f.order → f.product a b ≡ g.product a b) → f ≡ g

-- Symbol weights that agree below the order are equal.
abbrev pub EqualWeights : Type 0
EqualWeights = (v w : WeightMeaning) → WeightLaws v → WeightLaws w → v.order ≡ w.order → v.top ≡ w.top → ((a : ℕ) → a < v.order → v.of a ≡ w.of a) → v ≡ w
