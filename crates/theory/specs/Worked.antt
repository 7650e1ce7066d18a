-- Worked figures: two small codes, and what the definitions answer on them.
use Rattle.std.specs.Prelude.{◌≡◌, ℕ, true, false, [], ◌∷◌, Some, slice_index_or}
use Rattle.theory.specs.Usual.{prime, hamming, lee}
use Rattle.theory.specs.Forms.{GeneratorForm}
use Rattle.theory.specs.Visits.{choices}
use Rattle.theory.specs.Standings.{LinearCode, no_form, all_forms, spectrum, best, line_count, bound, known, complete, reading}
use Rattle.theory.specs.Promises.{SearchState}
use Rattle.theory.specs.Calls.{raise, refused, raised, answer, after, run, start}

-- The binary [7, 4] code with rows 1000011, 0100101, 0010110, 0001111, under the Hamming weight.
abbrev pub code74 : LinearCode
code74 = record { field = prime 2; weight = hamming 2; n = 7; rows = (1 ∷ 0 ∷ 0 ∷ 0 ∷ 0 ∷ 1 ∷ 1 ∷ []) ∷ (0 ∷ 1 ∷ 0 ∷ 0 ∷ 1 ∷ 0 ∷ 1 ∷ []) ∷ (0 ∷ 0 ∷ 1 ∷ 0 ∷ 1 ∷ 1 ∷ 0 ∷ []) ∷ (0 ∷ 0 ∷ 0 ∷ 1 ∷ 1 ∷ 1 ∷ 1 ∷ []) ∷ [] }

-- The [2, 1] code over GF(5) with row 12, under the Lee weight.
abbrev pub code21 : LinearCode
code21 = record { field = prime 5; weight = lee 5; n = 2; rows = (1 ∷ 2 ∷ []) ∷ [] }

-- Form i of the [7, 4] code.
abbrev pub form74 : ℕ → GeneratorForm
form74 i = slice_index_or (all_forms code74) i no_form

-- The search of the [7, 4] code after the making.
abbrev pub made74 : SearchState
made74 = start code74 4

-- It after a raise of form 0 with budget 3.
abbrev pub third74 : SearchState
third74 = after code74 made74 (raise 0 3)

-- It after a further raise of form 0 with budget 10.
abbrev pub fourth74 : SearchState
fourth74 = after code74 third74 (raise 0 10)

-- It after a further raise of form 1 with budget 1,000.
abbrev pub known74 : SearchState
known74 = after code74 fourth74 (raise 1 1000)

-- It after a further raise of form 0 with budget 1,000.
abbrev pub complete74 : SearchState
complete74 = after code74 known74 (raise 0 1000)

-- The search of the [2, 1] code with both its forms raised fully.
abbrev pub full21 : SearchState
full21 = run code21 (start code21 4) (raise 0 1000 ∷ raise 1 1000 ∷ [])

-- The figures, each as the definitions compute it.
pub record WorkedFigures : Type 0 where
  -- R(4, 2) is 01, 12, 02, 23, 13, 03
  pub order : choices 4 2 ≡ (0 ∷ 1 ∷ []) ∷ (1 ∷ 2 ∷ []) ∷ (0 ∷ 2 ∷ []) ∷ (2 ∷ 3 ∷ []) ∷ (1 ∷ 3 ∷ []) ∷ (0 ∷ 3 ∷ []) ∷ []
  -- form 0 has positions 0, 1, 2, 3 and rank 4, form 1 has 4, 5, 6, 0 and rank 3
  pub positions_0 : (form74 0).positions ≡ 0 ∷ 1 ∷ 2 ∷ 3 ∷ []
  pub rank_0 : (form74 0).rank ≡ 4
  pub positions_1 : (form74 1).positions ≡ 4 ∷ 5 ∷ 6 ∷ 0 ∷ []
  pub rank_1 : (form74 1).rank ≡ 3
  -- bound 1 after the making
  pub bound_made : bound code74 made74.standing ≡ 1
  -- form 0 with budget 3: 3 visits, still open, best 3, and form 1 is then refused with 24 at 0
  pub three_visits : answer code74 made74 (raise 0 3) ≡ raised 0 1 3 false
  pub best_third : best code74 third74.standing ≡ Some 3
  pub refused_other : answer code74 third74 (raise 1 1000) ≡ refused 24 0
  -- budget 10: 1 visit, ended, bound 2
  pub one_visit : answer code74 third74 (raise 0 10) ≡ raised 0 1 1 true
  pub bound_fourth : bound code74 fourth74.standing ≡ 2
  -- form 1 with 1,000: 4 visits, bound 3, known, spectrum 6 at weight 3 and 2 at weight 4
  pub four_visits : answer code74 fourth74 (raise 1 1000) ≡ raised 1 1 4 true
  pub bound_known : bound code74 known74.standing ≡ 3
  pub reads_known : reading code74 known74.standing ≡ known
  pub spectrum_3 : spectrum code74 known74.standing 3 ≡ 6
  pub spectrum_4 : spectrum code74 known74.standing 4 ≡ 2
  -- form 0 with 1,000: 6 visits, bound 4, complete, 7 lines
  pub six_visits : answer code74 known74 (raise 0 1000) ≡ raised 0 2 6 true
  pub bound_complete : bound code74 complete74.standing ≡ 4
  pub reads_complete : reading code74 complete74.standing ≡ complete
  pub lines_complete : line_count code74 complete74.standing ≡ 7
  -- the [2, 1] code over GF(5), raised fully: spectrum 4 at weight 3
  pub spectrum_lee : spectrum code21 full21.standing 3 ≡ 4
