-- A form as the record that is handed out.
use Rattle.std.specs.Prelude.{ℕ, ◌-◌, List, ◌++◌, length, replicate}
use Rattle.std.specs.List.{flat_map}
use Rattle.theory.specs.Forms.{GeneratorForm}
use Rattle.forms.specs.declared.form.Form.{Form}

-- A list with zeros behind it, up to m places.
abbrev pub padded : ℕ → List ℕ → List ℕ
padded m xs = xs ++ replicate (m - length xs) 0

-- The record of a form: its positions, its rank, and its rows one after the other.
abbrev pub record_of : GeneratorForm → Form
record_of g = record { positions = padded 32 g.positions; rank = g.rank; rows = padded 2048 (flat_map (λ row. row) g.rows) }
