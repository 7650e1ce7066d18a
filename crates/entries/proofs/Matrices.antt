-- The codes of an entry, row after row in one list.
use Rattle.std.proofs.Common.{◌≡◌, ℕ, ◌+◌, ◌*◌, ◌<◌, ◌≤◌, List, [], ◌∷◌, ◌++◌, map, length, get_or, take, drop, sym, refl, ap, ◌∙◌, add-mul, mul-le-mul_left, one-mul, arith}
use borrow.Rule.Slice.PartMut.{put_mid, post_of}
use Rattle.std.specs.List.{flat_map}
use Rattle.std.proofs.lemmas.List.{flat_map_more, take_more}
use Rattle.std.proofs.lemmas.Slice.{take-put_mid}
use Rattle.entries.specs.Rows.{row_codes}

-- a row lies within the most codes that an entry can have
pub row_within : (row k n : ℕ) → row < k → k ≤ 32 → n ≤ 64 → row * n + n ≤ 2048
row_within row k n below few short = omega (arith, mul-le-mul_left row short)

-- one row more
pub rows_more : (codes ys : List ℕ) (ls : List (List ℕ)) (row n m : ℕ) → row < length ls → length ys ≡ n → row * n ≤ length codes → ys ≡ row_codes (get_or ls row []) → take (row * n) codes ≡ flat_map row_codes (take row ls) → take ((row + 1) * n) (put_mid (row * n) m codes ys) ≡ flat_map row_codes (take (row + 1) ls)
rows_more codes ys ls row n m below long within is so_far =
    take-put_mid (row * n) m codes ys ((row + 1) * n) (omega (arith, add-mul row 1 n, one-mul n)) within
    ∙ ap (λ (front : List ℕ). front ++ ys) so_far
    ∙ ap (λ (back : List ℕ). flat_map row_codes (take row ls) ++ back) is
    ∙ flat_map_more row_codes [] (take row ls) (get_or ls row [])
    ∙ ap (flat_map row_codes) (sym (take_more ls row [] below))

-- the codes of all rows
pub size-within : (k n : ℕ) → k ≤ 32 → n ≤ 64 → k * n ≤ 2048
size-within k n few short = omega (arith, mul-le-mul_left k short)

-- codes copied to the front of a place
pub copied_front : (part place codes all : List ℕ) (size : ℕ) → part ≡ take size codes → take size codes ≡ all → part ++ post_of 0 size place ≡ all ++ drop size place
copied_front part place codes all size is whole = ap (λ (front : List ℕ). front ++ post_of 0 size place) (is ∙ whole)

-- rows of codes joined, and the rows' lines joined by their codes
pub joined-codes : (ls : List (List ℕ)) → flat_map row_codes ls ≡ flat_map (λ row. row) (map row_codes ls)
joined-codes [] = refl
joined-codes (l ∷ ls) = ap (λ (back : List ℕ). row_codes l ++ back) (joined-codes ls)
