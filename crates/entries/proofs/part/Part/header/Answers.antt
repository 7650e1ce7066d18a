-- A header's words and values are its content.
use Rattle.std.proofs.Common.{ap}
use Rattle.entries.specs.HeaderWords.{word_list}
use Rattle.entries.specs.Parts.{content}
use Rattle.entries.proofs.part.Part.header.Goals as goal

pub returns-in-Header : goal.returns-in-Header
returns-in-Header c = record { value = (word_list c.in-Header.words, ap content c.in-Header.is) }
