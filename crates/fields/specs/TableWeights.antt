-- What a table of weights holds after it was set.
use Rattle.std.specs.Prelude.{◌≡◌, ℕ, List, ◌∷◌, Ok, Err, Result}
use Rattle.fields.specs.declared.refusal.FieldRefusal.{FieldRefusal}
use Rattle.fields.specs.declared.table.TableWeight.{TableWeight}
use Rattle.fields.specs.Tables.{table_of}
use Rattle.theory.specs.Meanings.{WeightMeaning}

-- The weight that a table means.
abbrev pub told : TableWeight → WeightMeaning
told t = table_of t.q.value t.of

-- Accepted, the table means the weight of order q with these weights of 1 to q - 1, and 0 for 0; refused, it is as it was.
abbrev pub SetTo : {U : Type 0} → Result U FieldRefusal → ℕ → List ℕ → TableWeight → TableWeight → Type 0
SetTo (Ok u) q ws t s = told s ≡ table_of q (0 ∷ ws)
SetTo (Err e) q ws t s = s ≡ t
