-- The law, as its proof gives it.
use Rattle.entries.proofs.EntryTexts.{written_text}
use Rattle.entries.proofs.laws.written_text_reads_back.Goals as goal

pub returns : goal.returns
returns c = written_text
