-- The number and the place of each refusal of a roll or a trail.
use Rattle.std.specs.Prelude.{ℕ, List, ◌++◌, codes}
use Rattle.std.specs.Fmt.{decimal}
use Rattle.records.specs.declared.refusal.RollRefusal.{RollRefusal}
use Rattle.records.specs.declared.refusal.RollRefusal.TheVariants.{Full, NoRecord}
use Rattle.records.specs.declared.refusal.TrailRefusal.{TrailRefusal}
use Rattle.records.specs.declared.refusal.TrailRefusal.TheVariants.{BufferShort, PartialRecord, FieldOutside, RollFull}

-- The number of a roll's refusal; its place is 0.
abbrev pub roll_number : RollRefusal → ℕ
roll_number Full = 41
roll_number NoRecord = 42

-- The number of a trail's refusal.
abbrev pub number : TrailRefusal → ℕ
number BufferShort = 50
number PartialRecord = 52
number (FieldOutside i) = 53
number (RollFull i) = 41

-- Its place: the record, else 0.
abbrev pub place : TrailRefusal → ℕ
place BufferShort = 0
place PartialRecord = 0
place (FieldOutside i) = i
place (RollFull i) = i

-- What is printed of a roll's refusal: its number, and the place 0.
abbrev pub roll_text : RollRefusal → List ℕ
roll_text r = codes "refused " ++ (decimal (roll_number r) ++ codes " at 0")

-- What is printed of a trail's refusal: its number and its place.
abbrev pub text : TrailRefusal → List ℕ
text r = codes "refused " ++ (decimal (number r) ++ (codes " at " ++ decimal (place r)))
