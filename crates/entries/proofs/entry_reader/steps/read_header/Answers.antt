-- The header, the end of the text, or the first fault.
use Rattle.std.proofs.Common.{rules}
use Rattle.entries.proofs.EntrySteps.{header_found}
use Rattle.entries.proofs.entry_reader.steps.read_header.Goals as goal

pub returns : goal.returns
returns c =
    let part = c.in_ok-next_part.ensures in
    let header = header_found c.args.parts.now c.next_part.new.self c.requires _ c.in_ok-next_part.field-0 c.and_then.result part.value part.after c.and_then.ensures (λ p k. search rules) in
    record { value = header.0; after = header.1; text = part.text }
