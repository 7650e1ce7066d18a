-- One factor more.
use Rattle.std.proofs.Common.{ℕ, ◌*◌, ◌%◌, ap, ◌∙◌, pow-suc, add-one}
use Rattle.fields.specs.Modular.{mod_product}
use Rattle.fields.proofs.prime.PrimeFieldField.inverse.Goals as goal

pub loop-preserved : goal.loop-preserved
loop-preserved c =
    (rw (add-one, pow-suc) (c.remainder-power.ensures.value ∙ ap (λ (y : ℕ). (y * c.read_code-x.result) % c.args.self.now.p.value) c.loop.invariant.0 ∙ mod_product _ _ _), c.remainder-power.ensures.below)
