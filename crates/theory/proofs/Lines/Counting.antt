-- What one more visit, and the end of a level, add to the counted words.
use Rattle.std.proofs.Common.{◌≡◌, ℕ, suc, ◌+◌, ◌<◌, ◌≤◌, Bool, true, false, cond, ◌||◌, eqb, leb, ◌⊎◌, List, [], ◌∷◌, length, get_or, take, drop, set, Some, None, count_by, Option, sym, refl, ap, ◌∙◌, ap₂, inl, inr, arith}
use Rattle.std.proofs.lemmas.List.{take_more, take_all}
use Rattle.std.proofs.lemmas.List.Sums.{count_by_more_yes, sum_by-take-le}
use Rattle.std.proofs.ByRecursion.{All-get_or}
use Rattle.std.proofs.lemmas.Bool.{lt-leb, eq-eqb}
use Rattle.theory.specs.Codes.{any, is_zero, on_line}
use Rattle.theory.specs.Forms.{GeneratorForm}
use Rattle.theory.specs.Visits.{visits}
use Rattle.theory.specs.Standings.{LinearCode, Standing, no_form, message_weight, finished, open_visits, counted, all_forms, level_of, next_level}
use Rattle.theory.specs.Promises.{Codeword}
use Rattle.theory.specs.Facts.{Accepted, Systematic}
use Rattle.theory.specs.Calls.{made_in, elsewhere}
use Rattle.theory.specs.Steps.{GoesOn, all_made, coming_word, ended, visited}
use Rattle.theory.proofs.Lists.Truths.{leb-more, or_assoc, or_false, or_one}
use Rattle.theory.proofs.Lists.Tests.{any_append}
use Rattle.theory.proofs.Lists.Counts.{any-count, none_any}
use Rattle.theory.proofs.Algebra.Multiples.{CodesOf}
use Rattle.theory.proofs.Algebra.Series.{form-is_systematic}
use Rattle.theory.proofs.Lines.Lines.{Line}
use Rattle.theory.proofs.Lines.LineWeights.{codeword-codes, codeword-line}
use Rattle.theory.proofs.Lines.CountedLines.{finished-line}
use Rattle.theory.proofs.Lines.LineTests.{decides_line, line_nonzero, line_message}
use Rattle.theory.proofs.Lines.Finished.{finished-at, finished-set, nonzero_message}
use Rattle.theory.proofs.Lines.Meetings.{level_words, level_meets}

pub open_is : (c : LinearCode) (s : Standing) (i : ℕ) → GoesOn s i → open_visits c s ≡ take (made_in c s) (next_level c s i)
open_is c s i h = go h
  where
    seen : Option ℕ → List (List ℕ)
    seen o = elim o [ None ↦ [] | Some j ↦ take s.made (visits c.field c.n (get_or (all_forms c) j no_form).rows (get_or s.levels j 0 + 1)) ]

    count : Option ℕ → ℕ
    count o = elim o [ None ↦ 0 | Some j ↦ s.made ]

    go : (s.opened ≡ None) ⊎ (s.opened ≡ Some i) → seen s.opened ≡ take (count s.opened) (next_level c s i)
    go (inl e) = ap seen e ∙ sym (ap (λ (o : Option ℕ). take (count o) (next_level c s i)) e)
    go (inr e) = ap seen e ∙ sym (ap (λ (o : Option ℕ). take (count o) (next_level c s i)) e)

-- Raising a form's level by one finishes the words of that message weight.
pub finished-more : (js : List GeneratorForm) (ts : List ℕ) (i : ℕ) (u : List ℕ) → i < length js → i < length ts
    → finished js (set ts i (get_or ts i 0 + 1)) u ≡ (finished js ts u || eqb (message_weight (get_or js i no_form) u) (get_or ts i 0 + 1))
finished-more js ts i u h k =
    let others : Bool = finished (take i js) (take i ts) u || finished (drop (suc i) js) (drop (suc i) ts) u in
    let m : ℕ = message_weight (get_or js i no_form) u in
    finished-set js ts i (get_or ts i 0 + 1) u h k ∙ ap (λ (b : Bool). others || b) (leb-more m (get_or ts i 0))
    ∙ or_one others (leb m (get_or ts i 0)) (eqb m (get_or ts i 0 + 1)) ∙ ap (λ (b : Bool). b || eqb m (get_or ts i 0 + 1)) (sym (finished-at js ts i u h k))

module _ (c : LinearCode) {negative inverse : ℕ → ℕ} (accepted : Accepted c negative inverse) (s : Standing) (i : ℕ)
    (form : i < length (all_forms c)) (level : i < length s.levels) where
  sys : Systematic c (get_or (all_forms c) i no_form)
  sys = form-is_systematic c accepted i form

  -- A level meets just the codewords of its message weight.
  pub level_any : (u : List ℕ) → Codeword c u → any (on_line c.field u) (next_level c s i) ≡ eqb (message_weight (get_or (all_forms c) i no_form) u) (level_of c s i + 1)
  level_any u w = go (any (on_line c.field u) (next_level c s i)) (eqb (message_weight (get_or (all_forms c) i no_form) u) (level_of c s i + 1)) (level_meets c accepted (get_or (all_forms c) i no_form) sys (level_of c s i + 1) u w (omega arith)) (any-count (on_line c.field u) (next_level c s i))
    where
      bit : (b : Bool) → cond b 1 0 ≤ 1
      bit true = omega arith
      bit false = omega arith

      go : (a b : Bool) → count_by (on_line c.field u) (next_level c s i) ≡ cond b 1 0 → (count_by (on_line c.field u) (next_level c s i) ≤ 1 → cond a 1 0 ≡ count_by (on_line c.field u) (next_level c s i)) → a ≡ b
      go true true e h = refl
      go false false e h = refl
      go true false e h = absurd (omega (arith, h (omega arith)))
      go false true e h = absurd (omega (arith, h (omega arith)))

  -- With the level finished the same codewords are counted as with all its visits made.
  pub counted-ended : (u : List ℕ) → Codeword c u → counted c (ended c s i) u ≡ counted c (all_made c s i) u
  unfolding counted
  counted-ended u w = ap (λ (r : Bool). is_zero u || r) (or_false (finished (all_forms c) (set s.levels i (level_of c s i + 1)) u) ∙ finished-more (all_forms c) s.levels i u form level
      ∙ sym (ap (λ (r : Bool). finished (all_forms c) s.levels u || r) (ap (any (on_line c.field u)) (take_all (length (next_level c s i)) (next_level c s i) (omega arith)) ∙ level_any u w)))

  module _ (goes : GoesOn s i) (more : made_in c s < length (next_level c s i)) where
    pub counted-visited : (u : List ℕ) → counted c (visited c s i) u ≡ (counted c s u || on_line c.field u (coming_word c s i))
    unfolding counted
    counted-visited u =
        ap (λ (xs : List (List ℕ)). is_zero u || (finished (all_forms c) s.levels u || any (on_line c.field u) xs)) (take_more (next_level c s i) (made_in c s) [] more)
        ∙ ap (λ (b : Bool). is_zero u || (finished (all_forms c) s.levels u || b)) (any_append (on_line c.field u) (take (made_in c s) (next_level c s i)) (coming_word c s i ∷ []) ∙ ap (λ (b : Bool). any (on_line c.field u) (take (made_in c s) (next_level c s i)) || b) (single (on_line c.field u (coming_word c s i))))
        ∙ or_assoc (is_zero u) (finished (all_forms c) s.levels u) (any (on_line c.field u) (take (made_in c s) (next_level c s i))) (on_line c.field u (coming_word c s i))
        ∙ ap (λ (xs : List (List ℕ)). (is_zero u || (finished (all_forms c) s.levels u || any (on_line c.field u) xs)) || on_line c.field u (coming_word c s i)) (sym (open_is c s i goes))
      where
        single : (b : Bool) → cond b true false ≡ b
        single true = refl
        single false = refl

    coming-is : Codeword c (coming_word c s i) × (message_weight (get_or (all_forms c) i no_form) (coming_word c s i) ≡ level_of c s i + 1)
    coming-is = All-get_or _ (next_level c s i) (made_in c s) [] more (level_words c accepted (get_or (all_forms c) i no_form) sys (level_of c s i + 1))

    pub coming-codeword : Codeword c (coming_word c s i)
    coming-codeword = coming-is.0

    pub coming-weight : message_weight (get_or (all_forms c) i no_form) (coming_word c s i) ≡ level_of c s i + 1
    coming-weight = coming-is.1

    pub coming_nonzero : is_zero (coming_word c s i) ≡ false
    coming_nonzero = nonzero_message (get_or (all_forms c) i no_form) (coming_word c s i) (omega (arith, coming-weight))

    -- The words of the line that comes were counted before exactly if the line is finished elsewhere.
    pub counted-before : (u : List ℕ) → on_line c.field u (coming_word c s i) ≡ true → counted c s u ≡ elsewhere c s i (coming_word c s i)
    unfolding counted
    counted-before u on = ap₂ (λ (z x : Bool). z || x) (line_nonzero accepted.field_laws u (coming_word c s i) low on ∙ coming_nonzero) (ap₂ (λ (x y : Bool). x || y) levels-done (ap (any (on_line c.field u)) (open_is c s i goes) ∙ not_yet) ∙ or_false (elsewhere c s i (coming_word c s i)))
      where
        low : CodesOf c.field (coming_word c s i)
        low = codeword-codes c accepted.field_laws (coming_word c s i) coming-codeword

        line : Line c.field (coming_word c s i) u
        line = (decides_line accepted.field_laws u (coming_word c s i)).0 on

        weight : message_weight (get_or (all_forms c) i no_form) u ≡ level_of c s i + 1
        weight = line_message accepted.field_laws (get_or (all_forms c) i no_form) u (coming_word c s i) low on ∙ coming-weight

        codeword : Codeword c u
        codeword = codeword-line c accepted.field_laws (coming_word c s i) u coming-codeword line

        levels-done : finished (all_forms c) s.levels u ≡ elsewhere c s i (coming_word c s i)
        levels-done = finished-at (all_forms c) s.levels i u form level
            ∙ ap (λ (b : Bool). elsewhere c s i u || b) (lt-leb (message_weight (get_or (all_forms c) i no_form) u) (level_of c s i) (omega (arith, weight))) ∙ or_false (elsewhere c s i u)
            ∙ ap₂ (λ (x y : Bool). x || y) (finished-line accepted.field_laws (take i (all_forms c)) (take i s.levels) (coming_word c s i) u low line) (finished-line accepted.field_laws (drop (suc i) (all_forms c)) (drop (suc i) s.levels) (coming_word c s i) u low line)

        once : count_by (on_line c.field u) (next_level c s i) ≡ 1
        once = level_meets c accepted (get_or (all_forms c) i no_form) sys (level_of c s i + 1) u codeword (omega arith) ∙ ap (λ (b : Bool). cond b 1 0) (eq-eqb (message_weight (get_or (all_forms c) i no_form) u) (level_of c s i + 1) weight)

        not_yet : any (on_line c.field u) (take (made_in c s) (next_level c s i)) ≡ false
        not_yet = none_any (on_line c.field u) (take (made_in c s) (next_level c s i))
            (omega (arith, once, count_by_more_yes (on_line c.field u) (next_level c s i) (made_in c s) [] more on, sum_by-take-le (λ v. cond (on_line c.field u v) 1 0) (next_level c s i) (made_in c s + 1)))
