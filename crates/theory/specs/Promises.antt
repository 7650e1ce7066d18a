-- What holds of a search at every moment of its life, whatever calls it met.
use Rattle.std.specs.Prelude.{◌≡◌, ℕ, ◌<◌, ◌≤◌, not, ◌&&◌, T, ◌≢◌, List, [], length, Some, count_by, ◌==◌, nat_eq, slice_index, slice_index_or}
use Rattle.theory.specs.Codes.{combination, codewords, is_zero, leads, weigh, line_weight}
use Rattle.theory.specs.Standings.{LinearCode, Standing, counted, spectrum, best, line_count, bound, reading, still_open, complete}

-- Each symbol of the word is below q.
abbrev pub Below : ℕ → List ℕ → Type 0
Below q u = (i : ℕ) → i < length u → slice_index u i < q

-- A codeword: a sum of multiples of the rows.
abbrev pub Codeword : LinearCode → List ℕ → Type 0
Codeword c u = ∥ ((cs : List ℕ) × (length cs ≡ length c.rows) × Below c.field.order cs × (u ≡ combination c.field c.n cs c.rows)) ∥₁

-- The number of codewords of weight w.
abbrev pub weight_distribution : LinearCode → ℕ → ℕ
weight_distribution c w = count_by (λ u. nat_eq (weigh c.weight u) w) (codewords c.field c.n c.rows)

-- A record of the roll: a leader, with the weight of its line.
pub record LeaderRecord : Type 0 where
  pub word : List ℕ
  pub weight : ℕ

-- What stands for a record where there is none.
abbrev pub no_leader : LeaderRecord
no_leader = record { word = []; weight = 0 }

-- Record i of a roll.
abbrev pub record_at : List LeaderRecord → ℕ → LeaderRecord
record_at roll i = slice_index_or roll i no_leader

-- A search: its standing, and the roll it fills, with its number of slots.
pub record SearchState : Type 0 where
  pub standing : Standing
  pub slots : ℕ
  pub roll : List LeaderRecord

-- The ledger reads known, or complete.
abbrev pub Known : LinearCode → Standing → Type 0
Known c s = reading c s ≢ still_open

-- The ledger reads complete.
abbrev pub Complete : LinearCode → Standing → Type 0
Complete c s = reading c s ≡ complete

-- The least distance of the code is d: some nonzero codeword weighs d, and each weighs at least d.
abbrev pub Distance : LinearCode → ℕ → Type 0
Distance c d = (∥ ((u : List ℕ) × Codeword c u × T (not (is_zero u)) × (weigh c.weight u ≡ d)) ∥₁) × ((u : List ℕ) → Codeword c u → T (not (is_zero u)) → d ≤ weigh c.weight u)

-- The number of lines of weight b that the code has.
abbrev pub lines_of : LinearCode → ℕ → ℕ
lines_of c b = count_by (λ u. leads u && line_weight c.field c.weight u == b) (codewords c.field c.n c.rows)

-- The roll has each leader of a line of weight b once, and nothing else.
pub record ExactlyTheLines (c : LinearCode) (b : ℕ) (roll : List LeaderRecord) : Type 0 where
  pub each : (u : List ℕ) → Codeword c u → T (leads u) → line_weight c.field c.weight u ≡ b → ∥ ((i : ℕ) × (i < length roll) × (record_at roll i ≡ record { word = u; weight = b })) ∥₁
  pub only : (i : ℕ) → i < length roll → (Codeword c (record_at roll i).word) × T (leads (record_at roll i).word) × (line_weight c.field c.weight (record_at roll i).word ≡ b) × ((record_at roll i).weight ≡ b)
  pub once : (i j : ℕ) → i < length roll → j < length roll → record_at roll i ≡ record_at roll j → i ≡ j

-- Every codeword that is not counted weighs at least m.
abbrev pub BoundsRest : LinearCode → Standing → ℕ → Type 0
BoundsRest c s m = (u : List ℕ) → Codeword c u → T (not (counted c s u)) → m ≤ weigh c.weight u

-- The promise: each codeword not counted weighs at least the bound (`strong`);
-- below the bound the spectrum is the weight distribution (`exact`), and nowhere is it more (`never_more`);
-- once known, the best is the least distance (`known`); and once complete, the line count is the number of lines of that weight, and a roll with slots enough has exactly their leaders (`complete`).
pub record Sound (c : LinearCode) (x : SearchState) : Type 0 where
  pub strong : BoundsRest c x.standing (bound c x.standing)
  pub exact : (w : ℕ) → w < bound c x.standing → spectrum c x.standing w ≡ weight_distribution c w
  pub never_more : (w : ℕ) → spectrum c x.standing w ≤ weight_distribution c w
  pub known : Known c x.standing → ∥ ((d : ℕ) × (best c x.standing ≡ Some d) × Distance c d) ∥₁
  pub complete : Complete c x.standing → ∥ ((b : ℕ) × (best c x.standing ≡ Some b) × (line_count c x.standing ≡ lines_of c b) × (line_count c x.standing ≤ x.slots → ExactlyTheLines c b x.roll)) ∥₁
