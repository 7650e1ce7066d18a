-- The words for fields and symbol weights.
use Rattle.std.specs.Prelude.{ℕ, ◌/◌, Bool, true, false, cond, List, [], ◌∷◌, Some, None, codes, filter, Option}
use Rattle.std.specs.Str.{bytes_eq}
use Rattle.entries.specs.declared.names.FieldName.{FieldName}
use Rattle.entries.specs.declared.names.FieldName.TheVariants.{Gf2, Gf3, Gf4, Gf5, Gf7, Gf11, Gf13}
use Rattle.entries.specs.declared.names.WeightName.{WeightName}
use Rattle.entries.specs.declared.names.WeightName.TheVariants.{Hamming, Lee}

-- How many elements a field has.
abbrev pub order : FieldName → ℕ
order Gf2 = 2
order Gf3 = 3
order Gf4 = 4
order Gf5 = 5
order Gf7 = 7
order Gf11 = 11
order Gf13 = 13

-- The most that one symbol of the field can weigh.
abbrev pub top : WeightName → FieldName → ℕ
top Hamming f = 1
top Lee f = order f / 2

-- The word for a field.
abbrev pub field_word : FieldName → List ℕ
field_word Gf2 = codes "GF(2)"
field_word Gf3 = codes "GF(3)"
field_word Gf4 = codes "GF(4)"
field_word Gf5 = codes "GF(5)"
field_word Gf7 = codes "GF(7)"
field_word Gf11 = codes "GF(11)"
field_word Gf13 = codes "GF(13)"

-- The word for a symbol weight.
abbrev pub weight_word : WeightName → List ℕ
weight_word Hamming = codes "hamming"
weight_word Lee = codes "lee"

-- The first of a list whose word is the one given.
abbrev pub named : {A : Type 0} → (A → List ℕ) → List ℕ → List A → Option A
named text word [] = None
named text word (x ∷ xs) = cond (bytes_eq word (text x)) (Some x) (named text word xs)

-- The field that a word names.
abbrev pub field_named : List ℕ → Option FieldName
field_named word = named field_word word (Gf2 ∷ Gf3 ∷ Gf4 ∷ Gf5 ∷ Gf7 ∷ Gf11 ∷ Gf13 ∷ [])

-- GF(4) has no lee weight.
abbrev pub has_lee : FieldName → Bool
has_lee Gf2 = true
has_lee Gf3 = true
has_lee Gf4 = false
has_lee Gf5 = true
has_lee Gf7 = true
has_lee Gf11 = true
has_lee Gf13 = true

-- A symbol weight goes with a field.
abbrev pub goes_with : FieldName → WeightName → Bool
goes_with f Hamming = true
goes_with f Lee = has_lee f

-- The symbol weight that a word names beside a field.
abbrev pub weight_named : List ℕ → FieldName → Option WeightName
weight_named word f = named weight_word word (filter (goes_with f) (Hamming ∷ Lee ∷ []))
