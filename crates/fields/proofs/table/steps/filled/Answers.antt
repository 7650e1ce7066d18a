-- A list without a fault makes a lawful table.
use Rattle.std.proofs.Common.{◌≡◌, ℕ, ◌-◌, ◌<◌, ◌≤◌, length, get_or, ap, ◌∙◌, ⊎_elim, arith}
use Rattle.std.proofs.lemmas.Bool.{cases_eq}
use Rattle.fields.proofs.WeightLists.{no_table_fault}
use Rattle.fields.proofs.table.steps.filled.Goals as goal

pub invariant_of-result : goal.invariant_of-result
invariant_of-result c =
    let ws = c.args.weights.now in
    let of = c.shifted-of.result in
    let good = no_table_fault c.args.q.value ws c.requires in
    let at : (a : ℕ) → 1 ≤ a → a < c.args.q.value → (1 ≤ get_or of a 0) × (get_or of a 0 ≤ 8) = λ a some below.
    let inside : a - 1 < length ws = omega (arith, good.long) in
    let is : get_or of a 0 ≡ get_or ws (a - 1) 0 = ap (λ (k : ℕ). get_or of k 0) (omega arith) ∙ c.shifted-of.ensures.rest (a - 1) inside in
    let w = good.weights (a - 1) inside in
    (omega arith, omega arith) in record {
      zero = c.shifted-of.ensures.zero;
      positive = λ a some below. (at a some below).0;
      bounded = λ a below. ⊎_elim (λ none. omega (arith, ap (λ (k : ℕ). get_or of k 0) none, c.shifted-of.ensures.zero)) (λ some. (at a (omega arith) below).1) (cases_eq a 0);
    }
