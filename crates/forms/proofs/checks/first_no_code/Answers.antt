-- The place found is the first, and with none found there is none.
use Rattle.std.proofs.Common.{◌≡◌, ℕ, leb, List, length, get_or, position, Option, Some, None, sym}
use Rattle.std.proofs.lemmas.List.Quantifiers.{position-Some}
use Rattle.forms.specs.Refusals.{first_no_code}
use Rattle.forms.proofs.FirstBelow.{first-none, first_found}
use Rattle.forms.proofs.Ranges.{fails-all}
use Rattle.forms.proofs.checks.first_no_code.Goals as goal

first-position : (q : ℕ) (codes : List ℕ) (r : Option ℕ) → r ≡ position (leb q) codes → r ≡ first_no_code q codes
first-position q codes None e = sym (first-none (λ i. leb q (get_or codes i 0)) (length codes) (fails-all (leb q) codes 0 e))
first-position q codes (Some i) e = let found = position-Some (leb q) codes i 0 (sym e) in sym (first_found (λ i. leb q (get_or codes i 0)) (length codes) i found.0 found.1 found.2)

pub returns : goal.returns
returns c = record { value = first-position c.args.q c.args.codes.now c.first_from.result c.first_from.ensures.value }
