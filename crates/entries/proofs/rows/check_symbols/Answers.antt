-- The first symbol that is no element is the fault.
use Rattle.std.proofs.Common.{◌≡◌, ℕ, zero, suc, ◌+◌, ◌<◌, true, false, not, List, [], ◌∷◌, length, get_or, Some, None, sym, refl, ap, ◌∙◌, suc-le-suc, zero-le, le_of_suc-le-suc, not-suc-le-zero, arith, rules}
use Rattle.std.proofs.lemmas.Bool.{cond-true, cond-false, not-true, not-false}
use Rattle.std.proofs.lemmas.Iterator.{YieldsList-from_slice}
use Rattle.std.proofs.lemmas.Iterator.Search.{position_from_yields_List}
use Rattle.std.proofs.lemmas.List.Quantifiers.{position-Some}
use borrow.Author.Tests.{tests}
use Rattle.entries.specs.declared.refusal.TextRefusal.TheVariants.{BadSymbol}
use Rattle.entries.specs.Rows.{is_element, symbol_fault}
use Rattle.entries.proofs.rows.check_symbols.Goals as goal

fault-at : (q l c : ℕ) (s : List ℕ) (i : ℕ) → i < length s → ((k : ℕ) → k < i → is_element q (get_or s k 0) ≡ true) → is_element q (get_or s i 0) ≡ false → Some (BadSymbol l (i + c)) ≡ symbol_fault q l c s
fault-at q l c [] i h good bad = absurd (not-suc-le-zero h)
fault-at q l c (b ∷ s) zero h good bad =
    ap (λ (n : ℕ). Some (BadSymbol l n)) (omega arith) ∙ sym (cond-false (is_element q b) _ _ bad)
fault-at q l c (b ∷ s) (suc i) h good bad =
    ap (λ (n : ℕ). Some (BadSymbol l n)) (omega arith) ∙ fault-at q l (c + 1) s i (le_of_suc-le-suc h) (λ k low. good (suc k) (suc-le-suc low)) bad
    ∙ sym (cond-true (is_element q b) _ _ (good 0 (suc-le-suc zero-le)))

fault_none : (q l c : ℕ) (s : List ℕ) → ((k : ℕ) → k < length s → is_element q (get_or s k 0) ≡ true) → None ≡ symbol_fault q l c s
fault_none q l c [] good = refl
fault_none q l c (b ∷ s) good =
    fault_none q l (c + 1) s (λ k low. good (suc k) (suc-le-suc low)) ∙ sym (cond-true (is_element q b) _ _ (good 0 (suc-le-suc zero-le)))

pub returns-in-Some : goal.returns-in-Some
returns-in-Some c =
    let s = c.args.symbols.now in
    let q = c.args.order in
    let first = position_from_yields_List (λ b. not (is_element q b)) _ _ c.position-wrong.result c.position-wrong.ensures.ran (YieldsList-from_slice s cc) (λ x b f k. search (rules, tests)) in
    let at = position-Some (λ b. not (is_element q b)) s c.in-Some.i 0 (sym first ∙ c.in-Some.is) in
    record { value = fault-at q c.args.line 1 s c.in-Some.i at.0 (λ k low. not-false _ (at.2 k low)) (not-true _ at.1) }

pub returns-in-None : goal.returns-in-None
returns-in-None c = record { value = fault_none c.args.order c.args.line 1 c.args.symbols.now (λ k low. search rules) }
