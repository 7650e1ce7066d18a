-- The end of the text, an empty line, or a fault.
use Rattle.std.proofs.Common.{◌+◌}
use Rattle.entries.specs.Readers.{left}
use Rattle.entries.proofs.EntrySteps.{end_none}
use Rattle.entries.proofs.entry_reader.steps.read_end.Goals as goal

pub returns-clause-value : goal.returns-clause-value
returns-clause-value c =
    let r = c.args.parts.now in
    end_none (left r) (r.passed + 1) c.in_ok-ending_part.field-0 c.in_ok-ending_part.ensures.value
