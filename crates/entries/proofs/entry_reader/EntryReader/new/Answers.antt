-- At the start no entry is read, and the lines are the text's.
use Rattle.std.proofs.Common.{sym, subst}
use Rattle.entries.specs.Written.{Lined}
use Rattle.entries.proofs.LineWords.{lined}
use Rattle.entries.proofs.entry_reader.EntryReader.new.Goals as goal

pub returns-clause-lined : goal.returns-clause-lined
returns-clause-lined c = let text = c.args.text.now in subst (Lined text) (sym c.new.ensures.lines) (lined text)
