-- The answers after each visit of a raise, from those after the visit before.
use Rattle.std.proofs.Common.{◌≡◌, ℕ, zero, suc, ◌+◌, ◌-◌, ◌<◌, ◌≤◌, min, true, false, cond, not, ◌&&◌, ◌||◌, eqb, leb, List, [], ◌∷◌, ◌++◌, length, get_or, take, drop, sum_by, count_by, filter, Option, sym, refl, ap, ◌∙◌, ap₂, inr, arith}
use lib.Dec.{eqb-zero-suc, eqb-suc-zero, eqb-suc-suc}
use Rattle.std.specs.List.{range_with_len}
use Rattle.std.proofs.lemmas.List.{length-take, length-drop}
use Rattle.std.proofs.lemmas.List.Sums.{sum_by-cons}
use Rattle.theory.specs.Codes.{any, multiples, weigh, line_weight}
use Rattle.theory.specs.Forms.{GeneratorForm}
use Rattle.theory.specs.Standings.{LinearCode, Standing, no_form, message_weight, finished, counted_words, spectrum, best, line_count, bound_over, bound, all_forms, next_level}
use Rattle.theory.specs.Promises.{SearchState}
use Rattle.theory.specs.Facts.{Accepted}
use Rattle.theory.specs.Calls.{made_in, coming, elsewhere, lightest, unchanged, raise_standing, raise_roll}
use Rattle.theory.specs.Steps.{GoesOn, Valid, ended, lesser, next_count, stood}
use Rattle.theory.proofs.Equations.{bound-is}
use Rattle.theory.proofs.Lists.Truths.{or_swap}
use Rattle.theory.proofs.Lists.Countings.{any_counting, sum_by_counting}
use Rattle.theory.proofs.Lists.Cuts.{take_taken}
use Rattle.theory.proofs.Lines.Answers.{same-spectrum, same-best, same-line_count, spectrum-visited, best-visited, line_count-visited}
use Rattle.theory.proofs.Lines.Raises.{counted_words-stood, counted_words-raised}

-- A raise makes as many visits as its budget and the level allow, and a budget of just those comes to the same.
module _ (c : LinearCode) (s : Standing) (j budget : ℕ) where
  pub raised-length : length (coming c s j budget) ≡ min budget (length (next_level c s j) - made_in c s)
  raised-length = length-take budget (drop (made_in c s) (next_level c s j)) ∙ ap (min budget) (length-drop (made_in c s) (next_level c s j))

  coming_just : coming c s j budget ≡ coming c s j (min budget (length (next_level c s j) - made_in c s))
  coming_just = sym (take_taken budget (drop (made_in c s) (next_level c s j))) ∙ ap (coming c s j) raised-length

  pub raised-standing : raise_standing c s j budget ≡ raise_standing c s j (min budget (length (next_level c s j) - made_in c s))
  unfolding raise_standing
  raised-standing = ap (λ (us : List (List ℕ)). elim (eqb (made_in c s + length us) (length (next_level c s j))) as (λ b. Standing) [ true ↦ ended c s j | false ↦ stood s j (made_in c s + length us) ]) coming_just

pub raised-roll : (c : LinearCode) (x : SearchState) (j budget : ℕ) → raise_roll c x j budget ≡ raise_roll c x j (min budget (length (next_level c x.standing j) - made_in c x.standing))
unfolding raise_roll
raised-roll c x j budget = ap₂ (λ (t : Standing) (us : List (List ℕ)). take x.slots (cond (unchanged c (best c x.standing) (best c t)) x.roll [] ++ lightest c (best c t) (filter (λ u. not (elsewhere c x.standing j u)) us)))
    (raised-standing c x.standing j budget) (coming_just c x.standing j budget)

module _ (c : LinearCode) {negative inverse : ℕ → ℕ} (accepted : Accepted c negative inverse) (s : Standing) (valid : Valid c s) (j : ℕ) (form : j < length (all_forms c)) where
  level : j < length s.levels
  level = omega (arith, form, valid.sizes)

  -- The words counted after m visits of the raise.
  words-made : (m : ℕ) → made_in c s + m ≤ length (next_level c s j) → counted_words c (raise_standing c s j m) ≡ counted_words c (stood s j (made_in c s + m))
  words-made m h = counted_words-raised c accepted s j form level m ∙ ap (λ (n : ℕ). counted_words c (stood s j n)) (let z : made_in c s + length (coming c s j m) ≡ made_in c s + m = omega (arith, raised-length c s j m) in z)

  -- Before the first visit the answers are as they were.
  module _ (goes : GoesOn s j) (within : made_in c s ≤ length (next_level c s j)) where
    words_begun : counted_words c (raise_standing c s j 0) ≡ counted_words c s
    words_begun = words-made 0 (omega arith) ∙ ap (λ (n : ℕ). counted_words c (stood s j n)) (let z : made_in c s + 0 ≡ made_in c s = omega arith in z) ∙ sym (counted_words-stood c s j goes)

    pub spectrum_begun : (w : ℕ) → spectrum c (raise_standing c s j 0) w ≡ spectrum c s w
    spectrum_begun = same-spectrum c (raise_standing c s j 0) s words_begun

    pub best_begun : best c (raise_standing c s j 0) ≡ best c s
    best_begun = same-best c (raise_standing c s j 0) s words_begun

    pub line_count_begun : line_count c (raise_standing c s j 0) ≡ line_count c s
    line_count_begun = same-line_count c (raise_standing c s j 0) s words_begun

  -- One more visit, of the word v: if v is finished in another form nothing changes, and else its line is counted.
  module _ (m : ℕ) (more : made_in c s + m < length (next_level c s j)) where
    abbrev v : List ℕ
    v = get_or (next_level c s j) (made_in c s + m) []

    abbrev here : Standing
    here = stood s j (made_in c s + m)

    abbrev there : Standing
    there = stood s j (made_in c s + m + 1)

    before : counted_words c (raise_standing c s j m) ≡ counted_words c here
    before = words-made m (omega arith)

    after : counted_words c (raise_standing c s j (m + 1)) ≡ counted_words c there
    after = words-made (m + 1) (omega arith) ∙ ap (λ (n : ℕ). counted_words c (stood s j n)) (let z : made_in c s + (m + 1) ≡ made_in c s + m + 1 = omega arith in z)

    pub spectrum-more : (w : ℕ) → spectrum c (raise_standing c s j (m + 1)) w ≡ spectrum c (raise_standing c s j m) w + cond (elsewhere c s j (get_or (next_level c s j) (made_in c s + m) [])) 0 (count_by (λ u. eqb (weigh c.weight u) w) (multiples c.field (get_or (next_level c s j) (made_in c s + m) [])))
    spectrum-more w = same-spectrum c (raise_standing c s j (m + 1)) there after w ∙ spectrum-visited c accepted here j form level (inr refl) more w
        ∙ ap (λ (n : ℕ). n + cond (elsewhere c s j v) 0 (count_by (λ u. eqb (weigh c.weight u) w) (multiples c.field v))) (sym (same-spectrum c (raise_standing c s j m) here before w))

    pub best-more : best c (raise_standing c s j (m + 1)) ≡ cond (elsewhere c s j (get_or (next_level c s j) (made_in c s + m) [])) (best c (raise_standing c s j m)) (lesser (best c (raise_standing c s j m)) (line_weight c.field c.weight (get_or (next_level c s j) (made_in c s + m) [])))
    best-more = same-best c (raise_standing c s j (m + 1)) there after ∙ best-visited c accepted here j form level (inr refl) more
        ∙ ap (λ (o : Option ℕ). cond (elsewhere c s j v) o (lesser o (line_weight c.field c.weight v))) (sym (same-best c (raise_standing c s j m) here before))

    pub line_count-more : line_count c (raise_standing c s j (m + 1)) ≡ cond (elsewhere c s j (get_or (next_level c s j) (made_in c s + m) [])) (line_count c (raise_standing c s j m)) (next_count (best c (raise_standing c s j m)) (line_count c (raise_standing c s j m)) (line_weight c.field c.weight (get_or (next_level c s j) (made_in c s + m) [])))
    line_count-more = same-line_count c (raise_standing c s j (m + 1)) there after ∙ line_count-visited c accepted here j form level (inr refl) more
        ∙ ap₂ (λ (o : Option ℕ) (n : ℕ). cond (elsewhere c s j v) n (next_count o n (line_weight c.field c.weight v))) (sym (same-best c (raise_standing c s j m) here before)) (sym (same-line_count c (raise_standing c s j m) here before))

-- A word is finished if it is so in the form of some number.
finished-any : (js : List GeneratorForm) (ts : List ℕ) (u : List ℕ) → length ts ≡ length js → finished js ts u ≡ any (λ i. leb (message_weight (get_or js i no_form) u) (get_or ts i 0)) (range_with_len 0 (length js))
finished-any [] ts u e = refl
finished-any (f ∷ js) [] u e = absurd (omega arith)
finished-any (f ∷ js) (t ∷ ts) u e = ap (cond (leb (message_weight f u) t) true) (finished-any js ts u (omega arith) ∙ sym (any_counting (λ i. leb (message_weight (get_or (f ∷ js) i no_form) u) (get_or (t ∷ ts) i 0)) 0 (length js)))

others-any : (js : List GeneratorForm) (ts : List ℕ) (j : ℕ) (u : List ℕ) → length ts ≡ length js → j < length js
    → (finished (take j js) (take j ts) u || finished (drop (suc j) js) (drop (suc j) ts) u) ≡ any (λ i. not (eqb i j) && leb (message_weight (get_or js i no_form) u) (get_or ts i 0)) (range_with_len 0 (length js))
others-any [] ts j u e h = absurd (omega arith)
others-any (f ∷ js) [] j u e h = absurd (omega arith)
others-any (f ∷ js) (t ∷ ts) zero u e h = finished-any js ts u (omega arith) ∙ sym (any_counting (λ i. not (eqb i 0) && leb (message_weight (get_or (f ∷ js) i no_form) u) (get_or (t ∷ ts) i 0)) 0 (length js) ∙ simp eqb-suc-zero)
others-any (f ∷ js) (t ∷ ts) (suc j) u e h = sym (or_swap (leb (message_weight f u) t) (finished (take j js) (take j ts) u) (finished (drop (suc j) js) (drop (suc j) ts) u))
    ∙ simp eqb-zero-suc (ap (cond (leb (message_weight f u) t) true) (others-any js ts j u (omega arith) (omega arith) ∙ sym (any_counting (λ i. not (eqb i (suc j)) && leb (message_weight (get_or (f ∷ js) i no_form) u) (get_or (t ∷ ts) i 0)) 0 (length js) ∙ simp eqb-suc-suc)))

bound_over_counting : (k : ℕ) (js : List GeneratorForm) (ts : List ℕ) → length ts ≡ length js → bound_over k js ts ≡ sum_by (λ i. (get_or ts i 0 + 1 + (get_or js i no_form).rank) - k) (range_with_len 0 (length js))
bound_over_counting k [] ts e = refl
bound_over_counting k (f ∷ js) [] e = absurd (omega arith)
bound_over_counting k (f ∷ js) (t ∷ ts) e = ap (λ (n : ℕ). ((t + 1 + f.rank) - k) + n) (bound_over_counting k js ts (omega arith) ∙ sym (sum_by_counting part 0 (length js))) ∙ sym (sum_by-cons part 0 (range_with_len 1 (length js)))
  where
    part : ℕ → ℕ
    part i = (get_or (t ∷ ts) i 0 + 1 + (get_or (f ∷ js) i no_form).rank) - k

module _ (c : LinearCode) (s : Standing) (sizes : length s.levels ≡ length (all_forms c)) where
  -- A word is finished elsewhere if it is so in the form of some other number.
  pub elsewhere-any : (j : ℕ) → j < length (all_forms c) → (u : List ℕ) → elsewhere c s j u ≡ any (λ i. not (eqb i j) && leb (message_weight (get_or (all_forms c) i no_form) u) (get_or s.levels i 0)) (range_with_len 0 (length (all_forms c)))
  elsewhere-any j form u = others-any (all_forms c) s.levels j u sizes form

  -- The bound as a sum over the numbers of the forms.
  pub bound_counting : bound c s ≡ sum_by (λ i. (get_or s.levels i 0 + 1 + (get_or (all_forms c) i no_form).rank) - length c.rows) (range_with_len 0 (length (all_forms c)))
  bound_counting = bound-is c s ∙ bound_over_counting (length c.rows) (all_forms c) s.levels sizes
