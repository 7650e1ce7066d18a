-- The first record at which the test fails, counted from 0.
use Rattle.std.proofs.Common.{not, ◌∙◌, rules, tests}
use Rattle.std.proofs.lemmas.Iterator.{YieldsList-from_slice}
use Rattle.std.proofs.lemmas.Iterator.Search.{position_from_yields_List}
use Rattle.records.specs.Trails.{in_range}
use Rattle.records.proofs.TrailSteps.{position-outside}
use Rattle.records.proofs.trail.first_outside.Goals as goal

pub returns : goal.returns
returns c =
    let rs = c.args.items.now in
    record {
      value = position_from_yields_List (λ r. not (in_range r)) _ _ _ c.position.ensures.ran (YieldsList-from_slice rs cc) (λ x b q k. search (rules, tests)) ∙ position-outside rs;
    }
