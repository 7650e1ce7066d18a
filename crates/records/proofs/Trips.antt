-- There and back: the records of a trail, and the trail of its records.
use Rattle.std.proofs.Common.{◌≡◌, ℕ, ◌+◌, ◌*◌, ◌/◌, ◌%◌, ◌<◌, cond, eqb, ltb, List, [], ◌∷◌, ◌++◌, length, take, drop, OnOk, Some, None, Ok, Err, Option, Result, sym, refl, ap, ◌∙◌, ⊎_elim, arith, MatchResult}
use Rattle.std.specs.Result.{result_err}
use Rattle.std.specs.List.{AllByRecursion as All}
use Rattle.std.proofs.lemmas.List.{take_at}
use Rattle.std.proofs.lemmas.Bool.{cases_Bool, cond-true, cond-false, eq-eqb}
use Rattle.records.specs.declared.refusal.TrailRefusal.{TrailRefusal}
use Rattle.records.specs.declared.refusal.TrailRefusal.TheVariants.{BufferShort, PartialRecord, FieldOutside, RollFull}
use Rattle.records.specs.declared.trail.TrailRecord.{TrailRecord}
use Rattle.records.specs.Trails.{in_range, trail, records_in, first_outside, write_fault, bytes_after, trail_fault, read_fault, records_after, first_fault, short_fault}

-- the number of four bytes
pub visits-back : (v : ℕ) → v % 256 + 256 * (v / 256 % 256) + 65536 * (v / 65536 % 256 + 256 * (v / 16777216)) ≡ v
visits-back v = omega arith

pub bytes_back : (b c d e : ℕ) → b < 256 → c < 256 → d < 256 → e < 256 → ((b + 256 * c + 65536 * (d + 256 * e)) % 256 ≡ b) × ((b + 256 * c + 65536 * (d + 256 * e)) / 256 % 256 ≡ c) × ((b + 256 * c + 65536 * (d + 256 * e)) / 65536 % 256 ≡ d) × ((b + 256 * c + 65536 * (d + 256 * e)) / 16777216 ≡ e)
bytes_back b c d e hb hc hd he = (omega arith, omega arith, omega arith, omega arith)

-- a written trail reads back as its records
pub records-back : (rs : List TrailRecord) → records_in (trail rs) ≡ rs
records-back [] = refl
records-back (r ∷ rs) =
    ap (λ (v : ℕ). record { form = r.form; visits = v; level = r.level } ∷ records_in (trail rs)) (visits-back r.visits) ∙ ap (λ (us : List TrailRecord). r ∷ us) (records-back rs)

-- six bytes a record
pub length-trail : (rs : List TrailRecord) → length (trail rs) ≡ 6 * length rs
length-trail [] = refl
length-trail (r ∷ rs) = omega (arith, length-trail rs)

-- a trail writes back as the same bytes
pub bytes_back_all : (bytes : List ℕ) → length bytes % 6 ≡ 0 → All (λ b. b < 256) bytes → trail (records_in bytes) ≡ bytes
bytes_back_all [] h all = refl
bytes_back_all (a ∷ []) h all = absurd (omega arith)
bytes_back_all (a ∷ b ∷ []) h all = absurd (omega arith)
bytes_back_all (a ∷ b ∷ c ∷ []) h all = absurd (omega arith)
bytes_back_all (a ∷ b ∷ c ∷ d ∷ []) h all = absurd (omega arith)
bytes_back_all (a ∷ b ∷ c ∷ d ∷ e ∷ []) h all = absurd (omega arith)
bytes_back_all (a ∷ b ∷ c ∷ d ∷ e ∷ f ∷ rest) h all =
    let low = bytes_back b c d e all.1.0 all.1.1.0 all.1.1.1.0 all.1.1.1.1.0 in
    let more = bytes_back_all rest (omega arith) all.1.1.1.1.1.1 in
    let first : (b + 256 * c + 65536 * (d + 256 * e)) % 256 ≡ b = low.0 in
    let second : (b + 256 * c + 65536 * (d + 256 * e)) / 256 % 256 ≡ c = low.1 in
    let third : (b + 256 * c + 65536 * (d + 256 * e)) / 65536 % 256 ≡ d = low.2 in
    let fourth : (b + 256 * c + 65536 * (d + 256 * e)) / 16777216 ≡ e = low.3 in
    cc

never : {A B : Type 0} (x : B) → Some x ≡ None → A
never x e = cc

-- what is read without a fault is in range
pub read-in_range : (slots i : ℕ) (rs : List TrailRecord) → trail_fault slots i rs ≡ None → first_outside i rs ≡ None
read-in_range slots i [] e = refl
read-in_range slots i (r ∷ rs) e =
    ⊎_elim
    (λ t. let inner = sym (cond-true (in_range r) _ _ t) ∙ e in
    ⊎_elim
    (λ u. cond-true (in_range r) _ _ t ∙ read-in_range slots (i + 1) rs (sym (cond-true (ltb i slots) _ _ u) ∙ inner))
    (λ u. never (RollFull i) (sym (cond-false (ltb i slots) _ _ u) ∙ inner))
    (cases_Bool (ltb i slots)))
    (λ t. never (FieldOutside i) (sym (cond-false (in_range r) _ _ t) ∙ e))
    (cases_Bool (in_range r))

-- the fault of writing, once the ranges are known
abbrev write_choice : List TrailRecord → ℕ → Option ℕ → Option TrailRefusal
write_choice rs size o = elim o [ Some i ↦ Some (FieldOutside i) | None ↦ cond (ltb size (6 * length rs)) (Some BufferShort) None ]

read-well : (slots : ℕ) (bytes : List ℕ) → None ≡ read_fault slots bytes → trail_fault slots 0 (records_in bytes) ≡ None
read-well slots bytes e =
    ⊎_elim
    (λ t. sym (e ∙ cond-true (eqb (length bytes % 6) 0) _ _ t))
    (λ t. never PartialRecord (sym (e ∙ cond-false (eqb (length bytes % 6) 0) _ _ t)))
    (cases_Bool (eqb (length bytes % 6) 0))

-- what reading a written trail refuses is what its records are refused for
pub read_fault-trail : (slots : ℕ) (rs : List TrailRecord) → read_fault slots (trail rs) ≡ trail_fault slots 0 rs
read_fault-trail slots rs =
    cond-true (eqb (length (trail rs) % 6) 0) _ _ (eq-eqb _ _ (omega (arith, length-trail rs))) ∙ ap (trail_fault slots 0) (records-back rs)

-- what writing a trail that was read refuses is a buffer too short for it
pub write_fault-read : (slots size : ℕ) (bytes : List ℕ) (rs : List TrailRecord) → None ≡ read_fault slots bytes → rs ≡ records_in bytes → trail rs ≡ bytes → write_fault rs size ≡ short_fault (length bytes) size
write_fault-read slots size bytes rs e is back =
    let good : first_outside 0 rs ≡ None = ap (first_outside 0) is ∙ read-in_range slots 0 (records_in bytes) (read-well slots bytes e) in
    ap (write_choice rs size) good ∙ ap (λ (m : ℕ). short_fault m size) (sym (length-trail rs) ∙ ap length back)

-- the front of a buffer that a trail was written to
written_front : (rs : List TrailRecord) (buffer now : List ℕ) (n : ℕ) → now ≡ trail rs ++ drop (6 * length rs) buffer → n ≡ length rs → take (6 * n) now ≡ trail rs
written_front rs buffer now n is long =
    ap (take (6 * n)) is ∙ take_at (trail rs) (drop (6 * length rs) buffer) (6 * n) (omega (arith, length-trail rs))

-- what reading the front of the buffer refuses
pub trip_fault : (slots : ℕ) (rs : List TrailRecord) (buffer now : List ℕ) (n size : ℕ) → None ≡ write_fault rs size → now ≡ trail rs ++ drop (6 * length rs) buffer → n ≡ length rs → read_fault slots (take (6 * n) now) ≡ first_fault (write_fault rs size) (trail_fault slots 0 rs)
trip_fault slots rs buffer now n size good is long =
    ap (read_fault slots) (written_front rs buffer now n is long) ∙ read_fault-trail slots rs ∙ ap (λ (o : Option TrailRefusal). first_fault o (trail_fault slots 0 rs)) good

-- the records that reading it leaves
pub trip_records : (r : Result (Unit {0}) TrailRefusal) (xs rs : List TrailRecord) (buffer now : List ℕ) (n : ℕ) → xs ≡ records_after (result_err r) (take (6 * n) now) → now ≡ trail rs ++ drop (6 * length rs) buffer → n ≡ length rs → OnOk r (xs ≡ rs)
trip_records (Ok u) xs rs buffer now n after is long = after ∙ ap records_in (written_front rs buffer now n is long) ∙ records-back rs
trip_records (Err e) xs rs buffer now n after is long = tt

-- the buffer that writing a trail that was read leaves
pub trip_bytes : (rs : List TrailRecord) (r : Result (Unit {0}) TrailRefusal) (now buffer bytes : List ℕ) → trail rs ≡ bytes → now ≡ bytes_after (result_err r) rs buffer → MatchResult r (λ _. now ≡ bytes ++ drop (length bytes) buffer) (λ _. now ≡ buffer)
trip_bytes rs (Ok u) now buffer bytes back after =
    after ∙ ap (λ (front : List ℕ). front ++ drop (6 * length rs) buffer) back ∙ ap (λ (m : ℕ). bytes ++ drop m buffer) (sym (length-trail rs) ∙ ap length back)
trip_bytes rs (Err e) now buffer bytes back after = after

-- what writing it refuses, after the fault of reading that there is none of
pub trip_short : (slots size : ℕ) (bytes : List ℕ) (rs : List TrailRecord) → None ≡ read_fault slots bytes → rs ≡ records_in bytes → trail rs ≡ bytes → write_fault rs size ≡ first_fault (read_fault slots bytes) (short_fault (length bytes) size)
trip_short slots size bytes rs good is back =
    write_fault-read slots size bytes rs good is back ∙ ap (λ (o : Option TrailRefusal). first_fault o (short_fault (length bytes) size)) good
