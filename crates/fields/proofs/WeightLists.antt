-- Lists of weights without a fault, and the weight of a short word.
use Rattle.std.proofs.Common.{refl, ◌≡◌, ℕ, zero, suc, ◌+◌, ◌*◌, ◌<◌, ◌≤◌, Bool, not, cond, ◌&&◌, eqb, leb, List, [], ◌∷◌, length, get_or, position, Some, None, sym, ap, ◌∙◌, ⊎_elim, le_of_suc-le-suc, not-suc-le-zero, arith}
use Rattle.std.specs.List.{position_from}
use Rattle.std.specs.Option.{option_map}
use Rattle.std.proofs.lemmas.Iterator.Adapters.{position_from-zero}
use Rattle.std.proofs.ByRecursion.{All-from_get_or, sum_by_le}
use Rattle.std.proofs.lemmas.Bool.{cases_Bool, cases_lt, and_parts, leb-true, cond-true, cond-false, eqb-true}
use Rattle.fields.specs.declared.refusal.FieldRefusal.{FieldRefusal}
use Rattle.fields.specs.declared.refusal.FieldRefusal.TheVariants.{WeightOutside, ListLength, OrderOutside}
use Rattle.fields.specs.Tables.{weight_fault, in_range, table_fault}
use Rattle.theory.specs.Meanings.{WeightMeaning, WeightLaws}
use Rattle.theory.specs.Codes.{weigh}

no_fault_at : (a w : ℕ) (ws : List ℕ) → 1 ≤ w → w ≤ 8 → ((i : ℕ) → i < length ws → (1 ≤ get_or ws i 0) × (get_or ws i 0 ≤ 8)) → (i : ℕ) → i < length (w ∷ ws) → (1 ≤ get_or (w ∷ ws) i 0) × (get_or (w ∷ ws) i 0 ≤ 8)
no_fault_at a w ws low high more zero h = (low, high)
no_fault_at a w ws low high more (suc i) h = more i (le_of_suc-le-suc h)

-- without a fault each weight is from 1 to 8
pub no_fault : (a : ℕ) (ws : List ℕ) → weight_fault a ws ≡ None → (i : ℕ) → i < length ws → (1 ≤ get_or ws i 0) × (get_or ws i 0 ≤ 8)
no_fault a [] e i h = absurd (not-suc-le-zero h)
no_fault a (w ∷ ws) e i h =
    ⊎_elim
    (λ t. let here = and_parts (leb 1 w) (leb w 8) t in
    no_fault_at a w ws (leb-true 1 w here.0) (leb-true w 8 here.1) (no_fault (a + 1) ws (sym (cond-true (leb 1 w && leb w 8) _ _ t) ∙ e)) i h)
    (λ t. let bad : Some (WeightOutside a) ≡ None = sym (cond-false (leb 1 w && leb w 8) _ _ t) ∙ e in let z : ◌≡◌ {A = ℕ} 0 1 = cc in absurd (omega arith))
    (cases_Bool (leb 1 w && leb w 8))

-- no symbol weighs more than 8
pub most : (m : WeightMeaning) → WeightLaws m → (a : ℕ) → m.of a ≤ 8
most m laws a = ⊎_elim (λ lt. omega (arith, laws.bounded a lt, laws.few)) (λ ge. omega (arith, laws.beyond a ge)) (cases_lt a m.order)

-- a word weighs at most eight times its length
pub word_most : (m : WeightMeaning) → WeightLaws m → (word : List ℕ) → weigh m word ≤ length word * 8
word_most m laws word = sum_by_le m.of 8 word (All-from_get_or (λ a. m.of a ≤ 8) word 0 (λ i h. most m laws (get_or word i 0)))

-- an order and a list without a fault
pub record NoFault (q : ℕ) (ws : List ℕ) : Type 0 where
  pub low : 2 ≤ q
  pub high : q ≤ 16
  pub long : length ws + 1 ≡ q
  pub weights : (i : ℕ) → i < length ws → (1 ≤ get_or ws i 0) × (get_or ws i 0 ≤ 8)

never_some : {A : Type 0} (x : FieldRefusal) → Some x ≡ None → A
never_some x e = let z : ◌≡◌ {A = ℕ} 0 1 = cc in absurd (omega arith)

pub no_table_fault : (q : ℕ) (ws : List ℕ) → table_fault q ws ≡ None → NoFault q ws
no_table_fault q ws e =
    ⊎_elim
    (λ t. let range = and_parts (leb 2 q) (leb q 16) t in
    let inner : cond (eqb (length ws + 1) q) (weight_fault 1 ws) (Some ListLength) ≡ None = sym (cond-true (in_range q) _ _ t) ∙ e in
    ⊎_elim
    (λ u. record { low = leb-true 2 q range.0; high = leb-true q 16 range.1; long = eqb-true (length ws + 1) q u; weights = no_fault 1 ws (sym (cond-true (eqb (length ws + 1) q) _ _ u) ∙ inner) })
    (λ u. never_some ListLength (sym (cond-false (eqb (length ws + 1) q) _ _ u) ∙ inner))
    (cases_Bool (eqb (length ws + 1) q)))
    (λ t. never_some OrderOutside (sym (cond-false (in_range q) _ _ t) ∙ e))
    (cases_Bool (in_range q))

-- a weight outside 1 to 8
abbrev pub outside : ℕ → Bool
outside w = not (leb 1 w && leb w 8)

-- the first fault of a list of weights is at the first weight outside 1 to 8
fault_from : (a i : ℕ) (ws : List ℕ) → weight_fault (i + a) ws ≡ option_map (λ j. WeightOutside (j + a)) (position_from outside i ws)
fault_from a i [] = refl
fault_from a i (w ∷ ws) =
    ⊎_elim
    (λ t. rw (t) (ap (λ (n : ℕ). weight_fault n ws) (omega arith) ∙ fault_from a (i + 1) ws))
    (λ t. rw (t) refl)
    (cases_Bool (leb 1 w && leb w 8))

pub fault_at_first : (a : ℕ) (ws : List ℕ) → weight_fault a ws ≡ option_map (λ j. WeightOutside (j + a)) (position outside ws)
fault_at_first a ws = ap (λ (n : ℕ). weight_fault n ws) (omega arith) ∙ fault_from a 0 ws ∙ ap (option_map (λ j. WeightOutside (j + a))) (sym (position_from-zero outside ws))
