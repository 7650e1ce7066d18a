-- The table keeps Pascal's rule.
use Rattle.std.proofs.Common.{sym, ◌∙◌, arith}
use Rattle.theory.proofs.Order.Choices.{binomial-none}
use Rattle.choices.proofs.Pascal.{triangle-is, tells_choices}
use Rattle.choices.proofs.binomials.binomial.Goals as goal

pub returns-then-t-k : goal.returns-then-t-k
returns-then-t-k c = record { value = tells_choices c.args.k c.args.t 0 c.if-k-gt32.false (sym (binomial-none c.args.k c.args.t c.if-t-k.true)) }

pub returns : goal.returns
returns c =
    let k = c.args.k in
    let t = c.args.t in
    record { value = tells_choices k t c.table_entry.result c.if-k-gt32.false (c.table_entry.ensures.value ∙ triangle-is k t (omega (arith, c.if-k-gt32.false)) (omega (arith, c.if-k-gt32.false, c.if-t-k.false))) }
