-- A word is empty where it has no byte.
use Rattle.std.proofs.Common.{◌≡◌, ℕ, zero, suc, Bool, not, ◌&&◌, ◌||◌, eqb, ltb, List, [], ◌∷◌, map, length, refl, ap, ◌∙◌, suc-le-suc, zero-le, arith, rules}
use Rattle.std.proofs.lemmas.Bool.{lt-ltb, ne_eqb}
use Rattle.std.specs.List.{list_any}
use Rattle.std.proofs.lemmas.Iterator.{YieldsList-from_slice}
use Rattle.std.proofs.lemmas.Iterator.Search.{any_from_yields_List}
use borrow.Author.Tests.{tests}
use Rattle.entries.specs.declared.words.Word.{Word}
use Rattle.entries.specs.Headers.{none_empty}
use Rattle.entries.proofs.header.HeaderWords.has_empty.Goals as goal

one_empty : (n : ℕ) (b : Bool) → not (eqb n 0 || b) ≡ (ltb 0 n && not b)
one_empty zero b = refl
one_empty (suc n) b = rw (lt-ltb 0 (suc n) (suc-le-suc zero-le), ne_eqb (suc n) 0 (λ e. omega arith)) refl

any_empty : (ws : List Word) → not (list_any (λ (x : Word). eqb (length x.bytes.now) 0) ws) ≡ none_empty (map (λ (x : Word). x.bytes.now) ws)
any_empty [] = refl
any_empty (w ∷ ws) = one_empty (length w.bytes.now) _ ∙ ap (λ t. ltb 0 (length w.bytes.now) && t) (any_empty ws)

pub returns : goal.returns
returns c =
    let w = c.args.self.now in
    let words : List Word = w.code ∷ w.n ∷ w.k ∷ w.claim ∷ w.field ∷ w.weight ∷ [] in
    let any = any_from_yields_List (λ (x : Word). eqb (length x.bytes.now) 0) _ _ c.any.result c.any.ensures.ran (YieldsList-from_slice words cc) (λ x b q k. search (rules, tests)) in
    record { value = ap not any ∙ any_empty words }
