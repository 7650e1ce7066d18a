-- One code more.
use Rattle.std.proofs.Common.{◌≡◌, ◌<◌, length, get_or, unwrap_or, ap, ◌∙◌, arith}
use Rattle.std.proofs.lemmas.List.{get_or_default}
use Rattle.std.proofs.lemmas.List.Edits.{map_over_more}
use Rattle.entries.specs.Symbols.{code_of}
use Rattle.entries.proofs.rows.decode_row.Goals as goal

pub loop-code-preserved : goal.loop-code-preserved
loop-code-preserved c =
    let s = c.args.symbols.now in
    let codes = c.loop-code.codes in
    let i = c.loop-code.code-index in
    let old = get_or codes i 0 in
    let new : c.unwrap_or.result ≡ unwrap_or (code_of old) 0 = c.unwrap_or.ensures ∙ ap (λ o. unwrap_or o 0) c.symbol_code.ensures.value in
    let within : i < length s = omega (arith, c.loop-code-test.true, ap length c.copy_from_slice.ensures.after) in
    rw new (map_over_more (λ b. unwrap_or (code_of b) 0) s codes i old within c.loop-code.invariant (get_or_default codes i 0 old (omega (arith, c.loop-code-test.true, c.loop-code.auto.codes))))
