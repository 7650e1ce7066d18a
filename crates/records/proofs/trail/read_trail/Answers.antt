-- The records write back as the bytes that they were read from.
use Rattle.std.proofs.Common.{◌≡◌, ◌%◌, ◌<◌, length, ap, ◌∙◌, rules}
use Rattle.std.proofs.lemmas.Result.{on_ok_weaker}
use Rattle.std.proofs.ByRecursion.{All-from_get_or}
use Rattle.records.specs.Trails.{trail}
use Rattle.records.proofs.TrailSteps.{parts_as_records}
use Rattle.records.proofs.Trips.{bytes_back_all}
use Rattle.records.proofs.trail.read_trail.Goals as goal

pub returns-else-is_err-clause-trail : goal.returns-else-is_err-clause-trail
returns-else-is_err-clause-trail c =
    let bytes = c.args.bytes.now in
    let whole : length bytes % 6 ≡ 0 = search rules in
    let back = bytes_back_all bytes whole (All-from_get_or (λ b. b < 256) bytes 0 (λ j h. (c.type_inv.bytes j).fits)) in
    on_ok_weaker c.add_records-read.result (λ added. ap trail (search (rules, parts_as_records)) ∙ back) c.add_records-read.ensures.added
