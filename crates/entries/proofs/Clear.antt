-- Words hold no space, and lines no break: their bytes are above those.
use Rattle.std.proofs.Common.{◌≡◌, ℕ, zero, suc, ◌+◌, ◌<◌, Bool, true, ◌&&◌, ltb, leb, List, [], ◌∷◌, codes, decimal, refl, ⊎_elim, le_of_suc-le-suc, not-suc-le-zero, arith}
use Rattle.std.specs.List.{join_with_byte, AllByRecursion}
use Rattle.std.specs.Char.{is_ascii_digit}
use Rattle.std.specs.Str.{all_ascii_digits}
use Rattle.std.proofs.ByRecursion.{All-append, All-weaker}
use Rattle.std.proofs.lemmas.Bool.{and_parts, leb-true, cases_Bool, cond-true, cond-false}
use Rattle.entries.specs.declared.names.FieldName.{FieldName}
use Rattle.entries.specs.declared.names.FieldName.TheVariants.{Gf2, Gf3, Gf4, Gf5, Gf7, Gf11, Gf13}
use Rattle.entries.specs.declared.names.WeightName.{WeightName}
use Rattle.entries.specs.declared.names.WeightName.TheVariants.{Hamming, Lee}
use Rattle.entries.specs.Names.{field_word, weight_word}
use Rattle.entries.specs.Written.{row_line}
use Rattle.entries.proofs.Numerals.{decimal_digits}
use Rattle.entries.proofs.Pieces.{Free}

-- every byte is above m
abbrev pub Above : ℕ → List ℕ → Type 0
Above m s = AllByRecursion (λ b. m < b) s

pub above-free : (m : ℕ) (s : List ℕ) → Above m s → Free m s
above-free m [] all i h e = not-suc-le-zero h
above-free m (b ∷ s) all zero h e = omega (arith, all.0)
above-free m (b ∷ s) all (suc i) h e = above-free m s all.1 i (le_of_suc-le-suc h) e

-- a test of it, for words that are written out
abbrev all_above : ℕ → List ℕ → Bool
all_above m [] = true
all_above m (b ∷ s) = leb (suc m) b && all_above m s

tested : (m : ℕ) (s : List ℕ) → all_above m s ≡ true → Above m s
tested m [] e = tt
tested m (b ∷ s) e = let parts = and_parts (leb (suc m) b) (all_above m s) e in (leb-true (suc m) b parts.0, tested m s parts.1)

pub above_code : Above 32 (codes "code")
above_code = tested 32 (codes "code") refl

pub above-field : (f : FieldName) → Above 32 (field_word f)
above-field Gf2 = tested 32 (field_word Gf2) refl
above-field Gf3 = tested 32 (field_word Gf3) refl
above-field Gf4 = tested 32 (field_word Gf4) refl
above-field Gf5 = tested 32 (field_word Gf5) refl
above-field Gf7 = tested 32 (field_word Gf7) refl
above-field Gf11 = tested 32 (field_word Gf11) refl
above-field Gf13 = tested 32 (field_word Gf13) refl

pub above-weight : (w : WeightName) → Above 32 (weight_word w)
above-weight Hamming = tested 32 (weight_word Hamming) refl
above-weight Lee = tested 32 (weight_word Lee) refl

digits_above : (s : List ℕ) → all_ascii_digits s ≡ true → Above 32 s
digits_above [] e = tt
digits_above (b ∷ s) e =
    let parts = and_parts (is_ascii_digit b) (all_ascii_digits s) e in
    let low = leb-true 48 b (and_parts (leb 48 b) (leb b 57) parts.0).0 in
    (omega arith, digits_above s parts.1)

pub above-decimal : (v : ℕ) → v < 1000 → Above 32 (decimal v)
above-decimal v few = digits_above (decimal v) (decimal_digits v few)

-- joining by a byte above m keeps all above m
pub above_rejoined : (m c : ℕ) (ws : List (List ℕ)) → m < c → AllByRecursion (Above m) ws → Above m (join_with_byte c ws)
above_rejoined m c [] h all = tt
above_rejoined m c (w ∷ []) h all = all.0
above_rejoined m c (w ∷ v ∷ ws) h all = All-append (λ b. m < b) w (c ∷ join_with_byte c (v ∷ ws)) all.0 (h, above_rejoined m c (v ∷ ws) h all.1)

pub above_less : (s : List ℕ) → Above 32 s → Above 10 s
above_less s all = All-weaker (λ b. 32 < b) (λ b. 10 < b) (λ b h. omega arith) s all

pub above-row : (row : List ℕ) → Above 10 (row_line row)
above-row [] = tt
above-row (a ∷ row) = (
  ⊎_elim (λ t. let e = cond-true (ltb a 10) (48 + a) (87 + a) t in omega arith) (λ t. let e = cond-false (ltb a 10) (48 + a) (87 + a) t in omega arith) (cases_Bool (ltb a 10)),
  above-row row,
)
