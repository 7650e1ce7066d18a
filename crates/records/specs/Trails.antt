-- Trails: the bytes of records, and what writing and reading them refuse.
use Rattle.std.specs.Prelude.{ℕ, ◌+◌, ◌*◌, ◌/◌, ◌%◌, Bool, cond, ◌&&◌, List, [], ◌∷◌, ◌++◌, length, drop, Some, None, Option, ◌==◌, nat_le, nat_lt, slice_index}
use Rattle.std.specs.List.{flat_map}
use Rattle.records.specs.declared.refusal.TrailRefusal.{TrailRefusal}
use Rattle.records.specs.declared.refusal.TrailRefusal.TheVariants.{BufferShort, PartialRecord, FieldOutside, RollFull}
use Rattle.records.specs.declared.trail.TrailRecord.{TrailRecord}

-- A record in range: a form from 0 to 7, at least one visit, a level from 0 to 32.
abbrev pub in_range : TrailRecord → Bool
in_range r = nat_lt r.form 8 && (nat_le 1 r.visits && nat_le r.level 32)

-- The six bytes of a record: form, visits with the low byte first, level.
abbrev pub record_bytes : TrailRecord → List ℕ
record_bytes r = r.form ∷ r.visits % 256 ∷ r.visits / 256 % 256 ∷ r.visits / 65536 % 256 ∷ r.visits / 16777216 ∷ r.level ∷ []

-- The trail of records: their bytes in order.
abbrev pub trail : List TrailRecord → List ℕ
trail rs = flat_map record_bytes rs

-- The record of six bytes.
abbrev pub record_of : ℕ → ℕ → ℕ → ℕ → ℕ → ℕ → TrailRecord
record_of a b c d e f = record { form = a; visits = b + 256 * c + 65536 * (d + 256 * e); level = f }

-- The record of six bytes that stand in a list.
abbrev pub record_at : List ℕ → TrailRecord
record_at bytes = record_of (slice_index bytes 0) (slice_index bytes 1) (slice_index bytes 2) (slice_index bytes 3) (slice_index bytes 4) (slice_index bytes 5)

-- The records of bytes, six at a time; what is left at the end is no record.
abbrev pub records_in : List ℕ → List TrailRecord
records_in [] = []
records_in (a ∷ []) = []
records_in (a ∷ b ∷ []) = []
records_in (a ∷ b ∷ c ∷ []) = []
records_in (a ∷ b ∷ c ∷ d ∷ []) = []
records_in (a ∷ b ∷ c ∷ d ∷ e ∷ []) = []
records_in (a ∷ b ∷ c ∷ d ∷ e ∷ f ∷ rest) = record_of a b c d e f ∷ records_in rest

-- The first record out of range, the records counted on from i.
abbrev pub first_outside : ℕ → List TrailRecord → Option ℕ
first_outside i [] = None
first_outside i (r ∷ rs) = cond (in_range r) (first_outside (i + 1) rs) (Some i)

-- What writing records into a buffer of so many bytes refuses: a record out of range, then a buffer too short.
abbrev pub write_fault : List TrailRecord → ℕ → Option TrailRefusal
write_fault rs size = elim (first_outside 0 rs) [ Some i ↦ Some (FieldOutside i) | None ↦ cond (nat_lt size (6 * length rs)) (Some BufferShort) None ]

-- The buffer after writing: the trail and behind it what was there, or as it was after a refusal.
abbrev pub bytes_after : Option TrailRefusal → List TrailRecord → List ℕ → List ℕ
bytes_after None rs buffer = trail rs ++ drop (6 * length rs) buffer
bytes_after (Some f) rs buffer = buffer

-- What reading records into a roll of so many slots refuses, record by record from number i on: a field out of range, then no slot.
abbrev pub trail_fault : ℕ → ℕ → List TrailRecord → Option TrailRefusal
trail_fault slots i [] = None
trail_fault slots i (r ∷ rs) = cond (in_range r) (cond (nat_lt i slots) (trail_fault slots (i + 1) rs) (Some (RollFull i))) (Some (FieldOutside i))

-- What reading bytes into a roll refuses: a length that is no multiple of six, then the first record at fault.
abbrev pub read_fault : ℕ → List ℕ → Option TrailRefusal
read_fault slots bytes = cond (length bytes % 6 == 0) (trail_fault slots 0 (records_in bytes)) (Some PartialRecord)

-- The records after reading: those of the bytes, or none after a refusal.
abbrev pub records_after : Option TrailRefusal → List ℕ → List TrailRecord
records_after None bytes = records_in bytes
records_after (Some f) bytes = []

-- The first of two faults.
abbrev pub first_fault : Option TrailRefusal → Option TrailRefusal → Option TrailRefusal
first_fault (Some f) later = Some f
first_fault None later = later

-- A buffer of so many bytes is too short for a trail of so many.
abbrev pub short_fault : ℕ → ℕ → Option TrailRefusal
short_fault bytes size = cond (nat_lt size bytes) (Some BufferShort) None
