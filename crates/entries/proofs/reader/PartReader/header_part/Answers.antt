-- The header's faults in their order, and the header.
use Rattle.std.proofs.Common.{◌≡◌, ◌+◌, Err, ap, ◌∙◌}
use Rattle.entries.specs.declared.refusal.TextRefusal.TheVariants.{HeaderShape}
use Rattle.entries.specs.HeaderWords.{word_list}
use Rattle.entries.proofs.Exits.{same_error}
use Rattle.entries.proofs.NextParts.{fault-of, header-none, header_unshaped, header_read}
use Rattle.entries.proofs.reader.PartReader.header_part.Goals as goal

pub returns-in_default-clause-value : goal.returns-in_default-clause-value
returns-in_default-clause-value c = header-none _ _ c.in_default.ensures.value

pub returns-in_err-words-clause-value : goal.returns-in_err-words-clause-value
returns-in_err-words-clause-value c =
    let none = c.in_err-words.ensures.ok_part in
    let fault : c.in_err-words.field-0.0 ≡ HeaderShape (c.args.self.now.passed + 1) = fault-of _ _ _ none c.in_err-words.ensures.value in
    let unshaped = rw none at c.header_words.ensures.value in
    rw (same_error _ _ c.from_residual.ensures.1) (ap Err fault ∙ header_unshaped _ _ c.in-Some.ensures.value.2 unshaped)

pub returns-in_err-values-clause-value : goal.returns-in_err-values-clause-value
returns-in_err-values-clause-value c =
    let shaped = rw c.in_ok-words.ensures.ok_part at c.header_words.ensures.value in
    rw (same_error _ _ c.from_residual-in_err-values.ensures.1) (header_read _ _ (word_list c.in_ok-words.words) _ c.in-Some.ensures.value.2 shaped.0 shaped.1 c.in_err-values.ensures.value)

pub returns-clause-value : goal.returns-clause-value
returns-clause-value c =
    let shaped = rw c.in_ok-words.ensures.ok_part at c.header_words.ensures.value in
    header_read _ _ (word_list c.in_ok-words.words) _ c.in-Some.ensures.value.2 shaped.0 shaped.1 c.in_ok-values.ensures.value
