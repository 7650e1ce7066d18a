-- Reading a trail, one record after the other.
use Rattle.std.proofs.Common.{◌≡◌, ℕ, ◌+◌, ◌*◌, ◌/◌, ◌%◌, ◌<◌, ◌≤◌, zero, suc, true, false, not, cond, eqb, List, [], ◌∷◌, map, length, Some, refl, sym, ap, ◌∙◌, arith}
use Rattle.std.specs.List.{position, position_from}
use Rattle.std.specs.Simd.{first_chunks}
use Rattle.std.proofs.lemmas.Bool.{cond-true, eq-eqb}
use Rattle.std.proofs.lemmas.Iterator.Adapters.{position_from-zero}
use Rattle.records.specs.declared.trail.TrailRecord.{TrailRecord}
use Rattle.records.specs.Trails.{in_range, record_of, record_at, records_in, first_outside, trail_fault, read_fault}

outside_from : (i : ℕ) (rs : List TrailRecord) → position_from (λ r. not (in_range r)) i rs ≡ first_outside i rs
outside_from i [] = refl
outside_from i (r ∷ rs) =
    let more = outside_from (i + 1) rs in
    elim (in_range r) as (λ b. cond (not b) (Some i) (position_from (λ q. not (in_range q)) (i + 1) rs) ≡ cond b (first_outside (i + 1) rs) (Some i)) [ true ↦ more | false ↦ refl ]

-- the first record out of range is the first at which the test fails
pub position-outside : (rs : List TrailRecord) → position (λ r. not (in_range r)) rs ≡ first_outside 0 rs
position-outside rs = position_from-zero (λ r. not (in_range r)) rs ∙ outside_from 0 rs

records_of_parts : (k : ℕ) (bytes : List ℕ) → 6 * k ≤ length bytes → length bytes < 6 * k + 6 → map record_at (first_chunks 6 k bytes) ≡ records_in bytes
records_of_parts zero [] low high = refl
records_of_parts zero (a ∷ []) low high = refl
records_of_parts zero (a ∷ b ∷ []) low high = refl
records_of_parts zero (a ∷ b ∷ c ∷ []) low high = refl
records_of_parts zero (a ∷ b ∷ c ∷ d ∷ []) low high = refl
records_of_parts zero (a ∷ b ∷ c ∷ d ∷ e ∷ []) low high = refl
records_of_parts zero (a ∷ b ∷ c ∷ d ∷ e ∷ f ∷ rest) low high = absurd (omega arith)
records_of_parts (suc k) [] low high = absurd (omega arith)
records_of_parts (suc k) (a ∷ []) low high = absurd (omega arith)
records_of_parts (suc k) (a ∷ b ∷ []) low high = absurd (omega arith)
records_of_parts (suc k) (a ∷ b ∷ c ∷ []) low high = absurd (omega arith)
records_of_parts (suc k) (a ∷ b ∷ c ∷ d ∷ []) low high = absurd (omega arith)
records_of_parts (suc k) (a ∷ b ∷ c ∷ d ∷ e ∷ []) low high = absurd (omega arith)
records_of_parts (suc k) (a ∷ b ∷ c ∷ d ∷ e ∷ f ∷ rest) low high =
    ap (λ (rs : List TrailRecord). record_of a b c d e f ∷ rs) (records_of_parts k rest (omega arith) (omega arith))

-- the records of the whole parts of six bytes are those of the bytes
pub parts_as_records : (bytes : List ℕ) → map record_at (first_chunks 6 (length bytes / 6) bytes) ≡ records_in bytes
parts_as_records bytes = records_of_parts (length bytes / 6) bytes (omega arith) (omega arith)

-- where no byte is left over, only a record can be at fault
pub fault_of_whole : (slots : ℕ) (bytes : List ℕ) → length bytes % 6 ≡ 0 → trail_fault slots 0 (map record_at (first_chunks 6 (length bytes / 6) bytes)) ≡ read_fault slots bytes
fault_of_whole slots bytes whole =
    ap (trail_fault slots 0) (parts_as_records bytes) ∙ sym (cond-true (eqb (length bytes % 6) 0) _ _ (eq-eqb _ _ whole))
