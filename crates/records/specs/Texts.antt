-- The text of a record: its three numbers, each written in decimal, with commas between them.
use Rattle.std.specs.Prelude.{ℕ, ◌^◌, ◌<◌, ◌==◌, List, ◌++◌, Option, Some, None, Result, Contains, IfErr, codes}
use Rattle.std.specs.Fmt.{decimal}
use Rattle.std.specs.List.{before_first, after_first}
use Rattle.std.specs.Result.{OkIff}
use Rattle.std.specs.Str.Parse.{IsNumeral, digits_value, without_leading_plus}
use Rattle.records.specs.declared.text.ParseRecordError.{ParseRecordError}
use Rattle.records.specs.declared.text.ParseRecordError.TheVariants.{MissingComma, Number}
use Rattle.records.specs.declared.trail.TrailRecord.{TrailRecord}

-- What is printed of a record.
abbrev pub record_text : TrailRecord → List ℕ
record_text r = decimal r.form ++ (codes "," ++ (decimal r.visits ++ (codes "," ++ decimal r.level)))

-- The byte of a comma.
abbrev pub comma : ℕ
comma = 44

-- What stands before the first comma, and what stands after it.
abbrev pub before : List ℕ → List ℕ
before text = before_first (λ b. b == comma) text

abbrev pub after : List ℕ → List ℕ
after text = after_first (λ b. b == comma) text

-- The number that decimal digits write; a plus sign may lead them.
abbrev pub number_of : List ℕ → ℕ
number_of text = digits_value 10 (without_leading_plus text)

-- Decimal digits of a number of so many bits.
abbrev pub IsUnsigned : ℕ → List ℕ → Type 0
IsUnsigned bits text = IsNumeral 10 (without_leading_plus text) × (number_of text < 2 ^ bits)

-- Three numbers with commas between them, each of which fits its field.
pub record IsRecordText (text : List ℕ) : Type 0 where
  pub first_comma : Contains text comma
  pub second_comma : Contains (after text) comma
  pub form : IsUnsigned 8 (before text)
  pub visits : IsUnsigned 32 (before (after text))
  pub level : IsUnsigned 8 (after (after text))

-- The record that such a text writes.
abbrev pub text_record : List ℕ → TrailRecord
text_record text = record { form = number_of (before text); visits = number_of (before (after text)); level = number_of (after (after text)) }

-- Both commas stand in the text.
abbrev pub HasCommas : List ℕ → Type 0
HasCommas text = Contains text comma × Contains (after text) comma

-- A comma is missing, or both are there and a number is none that fits.
abbrev pub FaultOf : List ℕ → ParseRecordError → Type 0
FaultOf text MissingComma = HasCommas text → ⊥
FaultOf text (Number e) = HasCommas text

-- What reading a text as a record gives: its record, or the fault where it is no such text.
abbrev pub ReadsRecord : List ℕ → Result TrailRecord ParseRecordError → Type 0
ReadsRecord text r = OkIff r (IsRecordText text) (text_record text) × IfErr r (FaultOf text)

-- What is printed of a text that is no record; of a number that is none the library says no words.
abbrev pub fault_text : ParseRecordError → Option (List ℕ)
fault_text MissingComma = Some (codes "a record is written as FORM,VISITS,LEVEL")
fault_text (Number e) = None
