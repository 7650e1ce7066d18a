-- The visits of a level as pairs of rows and coefficients.
use Rattle.std.specs.Prelude.{ℕ, Bool, ◌&&◌, List, [], map, length, nat_lt, slice_index_or}
use Rattle.std.specs.List.{flat_map}
use Rattle.theory.specs.Codes.{same}
use Rattle.theory.specs.Visits.{choices, coefficients}

-- The visits of level t of k rows over q codes, in order: each choice of rows with each list of coefficients.
abbrev pub level_visits : ℕ → ℕ → ℕ → List (List ℕ × List ℕ)
level_visits k t q = flat_map (λ c. map (λ cs. (c, cs)) (coefficients q t)) (choices k t)

-- Visit i of the level has these rows and coefficients, as a test.
abbrev pub is_visit : ℕ → ℕ → ℕ → ℕ → List ℕ → List ℕ → Bool
is_visit k t q i c cs = nat_lt i (length (level_visits k t q)) && (same (slice_index_or (level_visits k t q) i ([], [])).0 c && same (slice_index_or (level_visits k t q) i ([], [])).1 cs)
