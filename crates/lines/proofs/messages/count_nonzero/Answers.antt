-- One position more, and all positions.
use Rattle.std.proofs.Common.{◌≡◌, ℕ, Bool, not, eqb, get_or, count_by, ap, ◌∙◌, arith}
use Rattle.std.proofs.lemmas.List.{take_all, get_or_past}
use Rattle.std.proofs.lemmas.List.Sums.{count_by_more_yes, count_by_more_no}
use Rattle.std.proofs.lemmas.Bool.{eq-eqb, ne_eqb, not_from_true, not_from_false}
use Rattle.lines.proofs.messages.count_nonzero.Goals as goal
use Rattle.lines.proofs.messages.count_nonzero.Goals.{then-at-word+then-word-at-ne0, else-at-word, else-at-word-via-then-at-word+else-word-at-ne0, else-at-word-via-else-at-word}

pub loop-p-preserved : goal.loop-p-preserved
loop-p-preserved c =
    let word = c.args.word.now in
    let positions = c.args.positions.now in
    let i = c.loop-p.p-index in
    let p = get_or positions i 0 in
    let test : ℕ → Bool = λ at. not (eqb (get_or word at 0) 0) in
    let at : c.from-at.result ≡ p = c.from-at.ensures in
    let held : get_or word c.from-at.result 0 ≡ get_or word p 0 = ap (λ k. get_or word k 0) at in
    elim c.if-at-word.branch [
      | then-at-word+then-word-at-ne0 w ↦
          let more = count_by_more_yes test positions i 0 c.loop-p-test.true (not_from_false _ (ne_eqb (get_or word p 0) 0 (λ e. w.if-word-at-ne0.true (held ∙ e)))) in
          (omega (arith, more, w.count-is, c.loop-p.invariant.0), omega (arith, w.count-is, c.loop-p.invariant.1))
      | else-at-word w ↦
          let zero : get_or word c.from-at.result 0 ≡ 0 = elim w.else-at-word.branch [
            | else-at-word-via-then-at-word+else-word-at-ne0 v ↦ v.if-word-at-ne0.false
            | else-at-word-via-else-at-word v ↦ get_or_past word c.from-at.result 0 v.if-at-word.false
          ] in
          let more = count_by_more_no test positions i 0 c.loop-p-test.true (not_from_true _ (eq-eqb (get_or word p 0) 0 (omega (arith, held, zero)))) in
          (omega (arith, more, w.count-is, c.loop-p.invariant.0), omega (arith, w.count-is, c.loop-p.invariant.1))
    ]

pub returns : goal.returns
returns c =
    let word = c.args.word.now in
    let test : ℕ → Bool = λ at. not (eqb (get_or word at 0) 0) in
    record { value = c.loop-p.invariant.0 ∙ ap (count_by test) (take_all c.loop-p.p-index c.args.positions.now c.loop-p-test.false) }
