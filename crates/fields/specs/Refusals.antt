-- The number and the place of each refusal of a field or a weight.
use Rattle.std.specs.Prelude.{ℕ, List, ◌++◌, codes}
use Rattle.std.specs.Fmt.{decimal}
use Rattle.fields.specs.declared.refusal.FieldRefusal.{FieldRefusal}
use Rattle.fields.specs.declared.refusal.FieldRefusal.TheVariants.{NotAPrime, OrderOutside, ListLength, WeightOutside}

-- The number by which a refusal is known.
abbrev pub number : FieldRefusal → ℕ
number NotAPrime = 1
number OrderOutside = 2
number ListLength = 3
number (WeightOutside a) = 3

-- Its place: the code whose weight is outside, else 0.
abbrev pub place : FieldRefusal → ℕ
place NotAPrime = 0
place OrderOutside = 0
place ListLength = 0
place (WeightOutside a) = a

-- What is printed of a refusal: its number and its place.
abbrev pub text : FieldRefusal → List ℕ
text r = codes "refused " ++ (decimal (number r) ++ (codes " at " ++ decimal (place r)))
