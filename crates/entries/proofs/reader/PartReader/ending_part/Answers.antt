-- The end of the text, an empty line, or a fault.
use Rattle.std.proofs.Common.{length, sym, arith}
use Rattle.std.proofs.lemmas.Bool.{eqb-true, eqb-false}
use Rattle.entries.proofs.NextParts.{ending_none, ending_bad, ending_gap}
use Rattle.entries.proofs.reader.PartReader.ending_part.Goals as goal

pub returns-in_default-clause-value : goal.returns-in_default-clause-value
returns-in_default-clause-value c = ending_none _ _ c.in_default.ensures.value

pub returns-then-not-is_empty-clause-value : goal.returns-then-not-is_empty-clause-value
returns-then-not-is_empty-clause-value c =
    let l = c.in-Some.found.bytes.now in
    ending_bad _ _ l c.in-Some.ensures.value.2 (omega (arith, eqb-false (length l) 0 (sym c.if-not-is_empty.ensures)))

pub returns-clause-value : goal.returns-clause-value
returns-clause-value c =
    let l = c.in-Some.found.bytes.now in
    ending_gap _ _ l c.in-Some.ensures.value.2 (eqb-true (length l) 0 (sym c.if-not-is_empty.ensures))
