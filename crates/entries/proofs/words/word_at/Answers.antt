-- The word ends where the next byte between words stands, or with the line.
use Rattle.entries.proofs.Pieces.{the-rest, words_next}
use Rattle.entries.proofs.words.word_at.Goals as goal

pub returns-clause-cut : goal.returns-clause-cut
returns-clause-cut c =
    let line = c.args.line.now in
    let from = c.args.from in
    let word = c.bytes_before.ensures in
    let rest = the-rest line from in
    words_next line from c.bytes_before.result.now c.requires (rw rest at word.part.1) (rw rest at word.before) (rw rest at word.found)
