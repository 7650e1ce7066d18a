-- The first weight outside is the first fault.
use Rattle.std.proofs.Common.{◌+◌, sym, ap, ◌∙◌}
use Rattle.std.specs.Option.{option_map}
use Rattle.fields.specs.declared.refusal.FieldRefusal.TheVariants.{WeightOutside}
use Rattle.fields.proofs.WeightLists.{fault_at_first}
use Rattle.fields.proofs.table.steps.check_weights.Goals as goal

pub returns-in-Some : goal.returns-in-Some
returns-in-Some c = record { value = fault_at_first 1 c.args.weights.now ∙ ap (option_map (λ j. WeightOutside (j + 1))) (sym c.first_outside.ensures.value ∙ c.in-Some.is) }

pub returns-in-None : goal.returns-in-None
returns-in-None c = record { value = fault_at_first 1 c.args.weights.now ∙ ap (option_map (λ j. WeightOutside (j + 1))) (sym c.first_outside.ensures.value ∙ c.in-None.is) }
