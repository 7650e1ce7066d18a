-- One row more.
use Rattle.std.proofs.Common.{◌≡◌, ℕ, ◌+◌, ◌-◌, ◌≤◌, List, [], length, get_or, drop, ap, ◌∙◌, add-zero, arith}
use Rattle.std.proofs.lemmas.List.{drop-drop, length-drop, length-take, length-map, get_or-drop}
use Rattle.entries.specs.Rows.{row_codes}
use Rattle.entries.specs.Parts.{rows_due}
use Rattle.entries.specs.Readers.{left}
use Rattle.entries.specs.Entries.{rows_fault}
use Rattle.entries.proofs.Matrices.{row_within, rows_more}
use Rattle.entries.proofs.RowSteps.{row_passed}
use Rattle.entries.proofs.entry_reader.steps.read_rows.Goals as goal

pub decode_row-requires : goal.decode_row-requires
decode_row-requires c =
    let h = c.args.header in
    let row = c.loop-row.row in
    let on = c.in_ok-symbols.ensures.after in
    let read = row_passed c.loop-row.parts c.next_row.new.self h (h.k - 1 - row) c.in_ok-symbols.symbols.now c.in_ok-symbols.ensures.value on.0 on.1 in
    let within = row_within row h.k h.n c.loop-row-test.true c.requires.1 c.requires.2 in
    simp (length-take, length-drop) (omega (arith, read.long, within, c.requires.3, c.loop-row.auto.codes))

pub loop-row-preserved : goal.loop-row-preserved
loop-row-preserved c =
    let h = c.args.header in
    let row = c.loop-row.row in
    let ls = left c.args.parts.now in
    let inv = c.loop-row.invariant in
    let on = c.in_ok-symbols.ensures.after in
    let symbols = c.in_ok-symbols.symbols.now in
    let read = row_passed c.loop-row.parts c.next_row.new.self h (h.k - 1 - row) symbols c.in_ok-symbols.ensures.value on.0 on.1 in
    let before : h.k - row ≡ h.k - 1 - row + 1 = omega (arith, c.loop-row-test.true) in
    let after : h.k - 1 - row ≡ h.k - (row + 1) = omega arith in
    let some : row + 1 ≤ length ls = omega (arith, read.some, ap length inv.2, length-drop row ls) in
    let here : get_or (left c.loop-row.parts) 0 [] ≡ get_or ls row [] = ap (λ (t : List (List ℕ)). get_or t 0 []) inv.2 ∙ get_or-drop row ls 0 [] ∙ ap (λ (j : ℕ). get_or ls j []) (add-zero row) in
    let within = row_within row h.k h.n c.loop-row-test.true c.requires.1 c.requires.2 in
    let long : length c.decode_row.new.codes ≡ h.n = ap length c.decode_row.ensures.after ∙ length-map symbols _ ∙ read.long in (
      c.in_ok-symbols.ensures.text ∙ inv.0,
      on.2 ∙ ap (rows_due h) after,
      on.0 ∙ ap (λ (t : List (List ℕ)). drop 1 t) inv.2 ∙ drop-drop 1 row ls,
      omega (arith, on.1, inv.3),
      some,
      inv.5 ∙ ap (λ (m : ℕ). rows_fault h m (left c.loop-row.parts) (c.loop-row.parts.passed + 1)) before ∙ read.rest ∙ ap (λ (m : ℕ). rows_fault h m (left c.next_row.new.self) (c.next_row.new.self.passed + 1)) after,
      rows_more c.loop-row.codes c.decode_row.new.codes ls row h.n _ (omega (arith, some)) long (omega (arith, within, c.requires.3, c.loop-row.auto.codes)) (c.decode_row.ensures.after ∙ ap row_codes (read.same ∙ here)) inv.6,
    )
