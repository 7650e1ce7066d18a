-- A level without choices has no visits; else the product is the size.
use Rattle.std.proofs.Common.{◌≡◌, ◌-◌, ◌*◌, ◌^◌, min, ap, ◌∙◌, ap₂, ⊎_elim, arith}
use Rattle.choices.specs.Sizes.{level_size}
use Rattle.choices.proofs.Levels.{tells_visits, tells_exactly, counts_visits, level_zero, level_none, level_product, choices_told, tells_size}
use Rattle.choices.proofs.level.Level.size.Goals as goal

pub returns-then-t-eq0 : goal.returns-then-t-eq0
returns-then-t-eq0 c =
    let k = c.args.self.k in
    let t = c.args.self.t in
    let q = c.args.self.q in
    let none : level_size k t q ≡ 0 = ⊎_elim (λ e. level_zero k t q e) (λ h. level_none k t q h.1) c.then-t-eq0.either in
    let size : 0 ≡ min (level_size k t q) (2 ^ 64 - 1) = omega (arith, none) in
    record { value = tells_size k t q 0 (choices_told k t c.in_ok-choices.choices c.in_ok-choices.ensures.value).0 size; visits = tells_visits k t q 0 size; exact = tells_exactly k t q 0 size; counts = counts_visits k t q }

pub returns : goal.returns
returns c =
    let k = c.args.self.k in
    let t = c.args.self.t in
    let q = c.args.self.q in
    let choices = choices_told k t c.in_ok-choices.choices c.in_ok-choices.ensures.value in
    let lists : c.saturating_pow-lists.result ≡ min ((q - 1) ^ (t - 1)) (2 ^ 64 - 1) = c.saturating_pow-lists.ensures ∙ ap (λ x. min (x ^ (t - 1)) (2 ^ 64 - 1)) (c.from.ensures ∙ c.saturating_sub.ensures) in
    let size : c.saturating_mul.result ≡ min (level_size k t q) (2 ^ 64 - 1) = c.saturating_mul.ensures ∙ ap₂ (λ x y. min (x * y) (2 ^ 64 - 1)) choices.1 lists ∙ level_product k t q (omega (arith, c.if-t-eq0.false)) in
    record { value = tells_size k t q c.saturating_mul.result choices.0 size; visits = tells_visits k t q c.saturating_mul.result size; exact = tells_exactly k t q c.saturating_mul.result size; counts = counts_visits k t q }

pub returns-in_err-choices-clause-counts : goal.returns-in_err-choices-clause-counts
returns-in_err-choices-clause-counts c = counts_visits _ _ _
