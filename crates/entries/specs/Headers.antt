-- What a header line says, or its first fault.
use Rattle.std.specs.Prelude.{ℕ, ◌+◌, ◌*◌, Bool, true, cond, ◌&&◌, List, [], ◌∷◌, length, take, Some, None, Ok, Err, codes, sum_by, Option, Result, ◌==◌, nat_le, nat_lt, slice_index_or}
use Rattle.std.specs.Str.{bytes_eq}
use Rattle.entries.specs.declared.header.Header.{Header}
use Rattle.entries.specs.declared.refusal.TextRefusal.{TextRefusal}
use Rattle.entries.specs.declared.refusal.TextRefusal.TheVariants.{HeaderShape, BadNumber, UnknownField, UnknownWeight, OutsideLimits}
use Rattle.entries.specs.Lines.{words}
use Rattle.entries.specs.Names.{top, field_named, weight_named}
use Rattle.entries.specs.Numbers.{number_of}

-- None of the words is empty.
abbrev pub none_empty : List (List ℕ) → Bool
none_empty [] = true
none_empty (w ∷ ws) = nat_lt 0 (length w) && none_empty ws

-- The words of a header: six, none empty, the first `code`.
abbrev pub header_shaped : List (List ℕ) → Bool
header_shaped ws = length ws == 6 && (none_empty ws && bytes_eq (slice_index_or ws 0 []) (codes "code"))

-- The column at which word i begins, words being parted by one byte.
abbrev pub word_column : List (List ℕ) → ℕ → ℕ
word_column ws i = 1 + sum_by (λ w. length w + 1) (take i ws)

-- The limits of an entry: 1 ≤ k ≤ 32, k ≤ n ≤ 64, and no claim above the weight that n symbols can have.
unfoldable pub within_limits : Header → Bool
within_limits h =
    nat_le 1 h.k && (nat_le h.k 32 && (nat_le h.k h.n && (nat_le h.n 64 && nat_le h.claim (h.n * top h.weight h.field))))

-- Goes on with a value, or refuses where there is none.
abbrev pub given : {A : Type 0} → Option A → TextRefusal → (A → Result Header TextRefusal) → Result Header TextRefusal
given None fault go = Err fault
given (Some x) fault go = go x

-- What the words of a header in line i say, in the order of their faults: three numbers, a field, a weight beside it, and the limits.
abbrev pub values_of : List (List ℕ) → ℕ → Result Header TextRefusal
values_of ws i =
    given (number_of (slice_index_or ws 1 [])) (BadNumber i (word_column ws 1)) (λ n.
    given (number_of (slice_index_or ws 2 [])) (BadNumber i (word_column ws 2)) (λ k.
    given (number_of (slice_index_or ws 3 [])) (BadNumber i (word_column ws 3)) (λ claim.
    given (field_named (slice_index_or ws 4 [])) (UnknownField i (word_column ws 4)) (λ field.
    given (weight_named (slice_index_or ws 5 []) field) (UnknownWeight i (word_column ws 5)) (λ weight.
    let h : Header = record { n = n; k = k; claim = claim; field = field; weight = weight } in
    cond (within_limits h) (Ok h) (Err (OutsideLimits i)))))))

-- What a header in line i says.
unfoldable pub header_reading : List ℕ → ℕ → Result Header TextRefusal
header_reading l i = cond (header_shaped (words l)) (values_of (words l) i) (Err (HeaderShape i))
