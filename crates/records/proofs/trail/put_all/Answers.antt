-- One record more, and the buffer behind it.
use Rattle.std.proofs.Common.{◌≡◌, ℕ, ◌+◌, ◌*◌, ◌≤◌, List, [], ◌++◌, length, get_or, take, drop, sym, ap, ◌∙◌, arith}
use Rattle.std.proofs.lemmas.List.{take_more, flat_map_more, drop-drop}
use Rattle.std.proofs.lemmas.Slice.{take-put_mid, drop-put_mid}
use Rattle.records.specs.Trails.{record_bytes, trail}
use Rattle.records.proofs.trail.put_all.Goals as goal

pub loop-i-preserved : goal.loop-i-preserved
loop-i-preserved c =
    let items = c.args.items.now in
    let i = c.loop-i.i in
    let buffer = c.loop-i.buffer in
    let item = get_or items i (record { form = 0; visits = 0; level = 0 }) in
    let written : c.copy_from_slice.new.self ≡ record_bytes item = c.copy_from_slice.ensures.after ∙ c.from-bytes.ensures in
    let long : length c.copy_from_slice.new.self ≡ 6 = ap length written in
    let within : 6 * i + 6 ≤ length buffer = omega (arith, c.requires.1, c.loop-i-test.true, c.loop-i.auto.buffer) in (
      take-put_mid (6 * i) _ buffer c.copy_from_slice.new.self (6 * (i + 1)) (omega arith) (omega arith)
          ∙ ap (λ (front : List ℕ). front ++ c.copy_from_slice.new.self) c.loop-i.invariant.0
          ∙ ap (λ (back : List ℕ). trail (take i items) ++ back) written
          ∙ flat_map_more record_bytes [] (take i items) item
          ∙ ap trail (sym (take_more items i (record { form = 0; visits = 0; level = 0 }) c.loop-i-test.true)),
      drop-put_mid (6 * i) _ buffer c.copy_from_slice.new.self (6 * (i + 1)) (omega arith) (omega arith) (omega arith)
          ∙ ap (λ (m : ℕ). drop m buffer) (omega arith) ∙ sym (drop-drop 6 (6 * i) buffer) ∙ ap (λ (t : List ℕ). drop 6 t) c.loop-i.invariant.1 ∙ drop-drop 6 (6 * i) c.args.buffer.now ∙ ap (λ (m : ℕ). drop m c.args.buffer.now) (omega arith),
    )
