-- A line ends with the next break, or with the text.
use Rattle.std.proofs.Common.{ℕ, ◌<◌, ◌∷◌, length, drop, sym, ap, ◌∙◌, arith, length-drop}
use Rattle.std.proofs.lemmas.Bool.{eqb-true, eqb-false}
use Rattle.entries.specs.Lines.{lines}
use Rattle.entries.proofs.Pieces.{the-rest, lines_next, lines_none}
use Rattle.entries.proofs.reader.PartReader.next_line.Goals as goal

pub returns-then-is_empty : goal.returns-then-is_empty
returns-then-is_empty c =
    let r = c.args.self.now in
    record { value = lines_none r.text.now r.at (omega (arith, length-drop r.at r.text.now, eqb-true _ _ (sym c.if-is_empty.ensures))) }

pub returns : goal.returns
returns c =
    let r = c.args.self.now in
    let s = r.text.now in
    let line = c.bytes_before-bytes.ensures in
    let rest = the-rest s r.at in
    let more : r.at < length s = omega (arith, length-drop r.at s, eqb-false _ _ (sym c.if-is_empty.ensures)) in
    let bytes = c.bytes_before-bytes.result.now in
    let next = lines_next s r.at bytes more (rw rest at line.part.1) (rw rest at line.before) (rw rest at line.found) in
    record { value = (omega (arith, more, c.min.ensures), omega (arith, c.min.ensures), next ∙ ap (λ (j : ℕ). bytes ∷ lines (drop j s)) (sym c.min.ensures)) }
