-- The weight and the limits, once the words before them are read.
use Rattle.std.proofs.Common.{rules}
use Rattle.entries.specs.HeaderWords.{word_list}
use Rattle.entries.proofs.HeaderValues.{values-weighed, values-read}
use Rattle.entries.proofs.header.header_values.Goals as goal

pub returns-in_err-weight : goal.returns-in_err-weight
returns-in_err-weight c =
    let weighed = values-weighed (word_list c.args.words.now) c.args.line _ _ _ _ _ _ _ _ c.in_ok-n.ensures.value c.in_ok-k.ensures.value c.in_ok-claim.ensures.value c.in_ok-field.ensures.value in
    record { value = search (rules, weighed) }

pub returns : goal.returns
returns c =
    let read = values-read (word_list c.args.words.now) c.args.line _ _ _ _ _ _ _ _ c.in_ok-n.ensures.value c.in_ok-k.ensures.value c.in_ok-claim.ensures.value c.in_ok-field.ensures.value _ _ c.in_ok-weight.ensures.value in
    record { value = search (rules, read) }
