-- Each part that is due, at its place.
use Rattle.std.proofs.Common.{arith}
use Rattle.entries.specs.declared.part.Due.{Due}
use Rattle.entries.proofs.Places.{part_given}
use Rattle.entries.proofs.reader.PartReader.next_part.Goals as goal

pub returns-in-Header : goal.returns-in-Header
returns-in-Header c =
    let part = c.header_part.ensures in
    let given = part_given c.args.self.now Due.Header c.header_part.result (omega arith) c.in-Header.is part.value part.place in
    record { value = given.0; after = part.after; place = given.1; text = part.text }

pub returns-in-Row : goal.returns-in-Row
returns-in-Row c =
    let part = c.row_part.ensures in
    let given = part_given c.args.self.now (Due.Row c.in-Row.header c.in-Row.after) c.row_part.result (omega arith) c.in-Row.is part.value part.place in
    record { value = given.0; after = part.after; place = given.1; text = part.text }

pub returns-in-Ending : goal.returns-in-Ending
returns-in-Ending c =
    let part = c.ending_part.ensures in
    let given = part_given c.args.self.now Due.Ending c.ending_part.result (omega arith) c.in-Ending.is part.value part.place in
    record { value = given.0; after = part.after; place = given.1; text = part.text }
