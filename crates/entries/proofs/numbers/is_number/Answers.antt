-- The last test goes over the bytes.
use Rattle.std.proofs.Common.{◌≡◌, ◌∙◌, rules}
use Rattle.std.specs.Char.{is_ascii_digit}
use Rattle.std.specs.Str.{all_ascii_digits}
use Rattle.std.proofs.lemmas.Iterator.{YieldsList-from_slice}
use Rattle.std.proofs.lemmas.Iterator.Search.{all_from_yields_List}
use borrow.Author.Tests.{tests}
use Rattle.entries.proofs.Numerals.{digits_listed}
use Rattle.entries.proofs.numbers.is_number.Goals as goal

pub returns-then-word-ne48 : goal.returns-then-word-ne48
returns-then-word-ne48 c =
    let w = c.args.word.now in
    let all : c.all.result ≡ all_ascii_digits w = all_from_yields_List is_ascii_digit _ _ c.all.result c.all.ensures.ran (YieldsList-from_slice w cc) (λ x b q k. search (rules, tests)) ∙ digits_listed w in
    record { value = search (rules, all) }
