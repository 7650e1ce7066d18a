-- What a raise of several visits counts.
use Rattle.std.proofs.Common.{◌≡◌, ℕ, zero, suc, ◌+◌, ◌-◌, ◌<◌, ◌≤◌, Bool, true, false, cond, not, ◌&&◌, ◌||◌, eqb, List, [], ◌++◌, map, length, get_or, take, drop, sum_by, count_by, sym, refl, ap, ◌∙◌, ap₂, inr, add_assoc, arith}
use Rattle.std.specs.List.{AllByRecursion}
use Rattle.std.proofs.lemmas.List.{length-take, length-drop, get_or-drop}
use Rattle.std.proofs.lemmas.List.Sums.{sum_by_more, sum_by-append}
use Rattle.std.proofs.ByRecursion.{All-take, All-drop, All-weaker}
use Rattle.std.proofs.lemmas.Bool.{eqb-true, eqb-false}
use Rattle.theory.specs.Codes.{same, any, multiples, codewords, is_zero, weigh, leads, line_weight, on_line}
use Rattle.theory.specs.Forms.{GeneratorForm}
use Rattle.theory.specs.Standings.{LinearCode, Standing, no_form, finished, counted, counted_words, counted_leaders, spectrum, best, line_count, all_forms, level_of, next_level}
use Rattle.theory.specs.Promises.{Codeword}
use Rattle.theory.specs.Facts.{Accepted}
use Rattle.theory.specs.Calls.{made_in, coming, raise_standing, elsewhere, unchanged, newly}
use Rattle.theory.specs.Steps.{GoesOn, at_best, lesser_all, stood}
use Rattle.theory.proofs.Lists.Truths.{cond-not}
use Rattle.theory.proofs.Lists.Sums.{all_of, sum_by_kept, sum_by_ext, sum_by-same, sum_by-map}
use Rattle.theory.proofs.Lists.Counts.{count_by_kept, count_by-same, count_by-none}
use Rattle.theory.proofs.Lists.Tests.{decides_same}
use Rattle.theory.proofs.Lists.Cuts.{kept_by_all, take_taken}
use Rattle.theory.proofs.Algebra.Codewords.{codewords_are}
use Rattle.theory.proofs.Algebra.Series.{form-is_systematic}
use Rattle.theory.proofs.Lines.LineWeights.{codeword-codes}
use Rattle.theory.proofs.Lines.LineTests.{multiples-once, one_leads_weighing}
use Rattle.theory.proofs.Lines.Finished.{nonzero_message}
use Rattle.theory.proofs.Lines.Meetings.{level_words}
use Rattle.theory.proofs.Lines.Bests.{best-same, best-append, count_of, Lowest, low-counts, least-of, at_best-more}
use Rattle.theory.proofs.Equations.{raise_ends, raise-stays}
use Rattle.theory.proofs.Lines.Counting.{open_is}
use Rattle.theory.proofs.Lines.Answers.{weights, lines, weights-count, counted_words-ended, count-visited}

pub counted_words-stood : (c : LinearCode) (s : Standing) (i : ℕ) → GoesOn s i → counted_words c s ≡ counted_words c (stood s i (made_in c s))
unfolding counted
counted_words-stood c s i goes = kept_by_all _ _ (codewords c.field c.n c.rows) (all_of (λ u. ap (λ (vs : List (List ℕ)). is_zero u || (finished (all_forms c) s.levels u || any (on_line c.field u) vs)) (open_is c s i goes)) (codewords c.field c.n c.rows))

-- A raise counts the words that its visits count, whether or not they end the level.
pub counted_words-raised : (c : LinearCode) {negative inverse : ℕ → ℕ} → Accepted c negative inverse → (s : Standing) (i : ℕ) → i < length (all_forms c) → i < length s.levels → (budget : ℕ)
    → counted_words c (raise_standing c s i budget) ≡ counted_words c (stood s i (made_in c s + length (coming c s i budget)))
counted_words-raised c accepted s i form level budget = go (eqb (made_in c s + length (coming c s i budget)) (length (next_level c s i))) refl
  where
    go : (b : Bool) → eqb (made_in c s + length (coming c s i budget)) (length (next_level c s i)) ≡ b → counted_words c (raise_standing c s i budget) ≡ counted_words c (stood s i (made_in c s + length (coming c s i budget)))
    go true e = ap (counted_words c) (raise_ends c s i budget (eqb-true _ _ e)) ∙ counted_words-ended c accepted s i form level ∙ ap (λ (n : ℕ). counted_words c (stood s i n)) (sym (eqb-true _ _ e))
    go false e = ap (counted_words c) (raise-stays c s i budget (eqb-false _ _ e))

module _ (c : LinearCode) {negative inverse : ℕ → ℕ} (accepted : Accepted c negative inverse)
    (s : Standing) (i : ℕ) (form : i < length (all_forms c)) (level : i < length s.levels) (w : List ℕ → Bool) where
  -- What a visit adds to the count of those that pass.
  abbrev pub adds : List ℕ → ℕ
  adds v = cond (elsewhere c s i v) 0 (count_by w (multiples c.field v))

  pub count-stood : (m k : ℕ) → m + k ≤ length (next_level c s i) → count_by w (counted_words c (stood s i (m + k))) ≡ count_by w (counted_words c (stood s i m)) + sum_by adds (take k (drop m (next_level c s i)))
  count-stood m zero h = ap (λ (n : ℕ). count_by w (counted_words c (stood s i n))) (let z : m + 0 ≡ m = omega arith in z) ∙ omega arith
  count-stood m (suc k) h =
      ap (λ (n : ℕ). count_by w (counted_words c (stood s i n))) (let z : m + suc k ≡ m + k + 1 = omega arith in z)
      ∙ count-visited c accepted (stood s i (m + k)) i form level (inr refl) (omega arith) w
      ∙ ap₂ ◌+◌ (count-stood m k (omega arith)) (ap adds (sym (get_or-drop m (next_level c s i) k [])))
      ∙ add_assoc (count_by w (counted_words c (stood s i m))) (sum_by adds (take k (drop m (next_level c s i)))) (adds (get_or (drop m (next_level c s i)) k []))
      ∙ ap (λ (n : ℕ). count_by w (counted_words c (stood s i m)) + n) (sym (sum_by_more adds (drop m (next_level c s i)) k [] (omega (arith, length-drop m (next_level c s i)))) ∙ ap (λ (n : ℕ). sum_by adds (take n (drop m (next_level c s i)))) (let z : k + 1 ≡ suc k = omega arith in z))

  -- A raise adds what its visits add, each by itself.
  pub count-raised : (budget : ℕ) → GoesOn s i → made_in c s ≤ length (next_level c s i) → count_by w (counted_words c (raise_standing c s i budget)) ≡ count_by w (counted_words c s) + sum_by adds (coming c s i budget)
  count-raised budget goes h = ap (count_by w) (counted_words-raised c accepted s i form level budget) ∙ made
    where
      short : length (coming c s i budget) ≤ length (next_level c s i) - made_in c s
      short = omega (arith, length-take budget (drop (made_in c s) (next_level c s i)), length-drop (made_in c s) (next_level c s i))

      made : count_by w (counted_words c (stood s i (made_in c s + length (coming c s i budget)))) ≡ count_by w (counted_words c s) + sum_by adds (coming c s i budget)
      made = count-stood (made_in c s) (length (coming c s i budget)) (omega (arith, short))
          ∙ ap₂ (λ (us vs : List (List ℕ)). count_by w us + sum_by adds vs) (sym (counted_words-stood c s i goes)) (take_taken budget (drop (made_in c s) (next_level c s i)))

-- A codeword stands once among the counted words if it is counted, and else never.
pub counted-once : (c : LinearCode) {negative inverse : ℕ → ℕ} → Accepted c negative inverse → (s : Standing) (u : List ℕ) → Codeword c u → count_by (same u) (counted_words c s) ≡ cond (counted c s u) 1 0
counted-once c accepted s u h = count_by_kept (counted c s) (same u) words ∙ count_by-same _ (λ v. counted c s u && same u v) words (λ v m. at v (same u v) refl) ∙ go (counted c s u)
  where
    words : List (List ℕ)
    words = codewords c.field c.n c.rows

    none : (a b : Bool) → (a && false) ≡ (b && false)
    none true true = refl
    none true false = refl
    none false true = refl
    none false false = refl

    at : (v : List ℕ) (b : Bool) → same u v ≡ b → (counted c s v && same u v) ≡ (counted c s u && same u v)
    at v true e = ap (λ (z : List ℕ). counted c s z && same u v) (sym ((decides_same u v).0 e))
    at v false e = ap (λ (b : Bool). counted c s v && b) e ∙ none (counted c s v) (counted c s u) ∙ sym (ap (λ (b : Bool). counted c s u && b) e)

    go : (b : Bool) → count_by (λ v. b && same u v) words ≡ cond b 1 0
    go true = (codewords_are c accepted).once u h
    go false = count_by-none _ words (λ v. refl)

module _ (c : LinearCode) {negative inverse : ℕ → ℕ} (accepted : Accepted c negative inverse)
    (s : Standing) (i : ℕ) (form : i < length (all_forms c)) (level : i < length s.levels)
    (budget : ℕ) (goes : GoesOn s i) (within : made_in c s ≤ length (next_level c s i)) where
  pub spectrum-raised : (w : ℕ) → spectrum c (raise_standing c s i budget) w ≡ spectrum c s w + sum_by (λ v. count_by (λ u. eqb (weigh c.weight u) w) (multiples c.field v)) (newly c s i budget)
  unfolding spectrum
  spectrum-raised w = count-raised c accepted s i form level (λ u. eqb (weigh c.weight u) w) budget goes within
      ∙ ap (λ (m : ℕ). spectrum c s w + m) (sym (sum_by_kept (λ v. not (elsewhere c s i v)) (λ v. count_by (λ u. eqb (weigh c.weight u) w) (multiples c.field v)) (coming c s i budget)
      ∙ sum_by_ext _ _ (λ v. cond-not (elsewhere c s i v) (count_by (λ u. eqb (weigh c.weight u) w) (multiples c.field v))) (coming c s i budget)))

  -- Where one test counts as many of a line's words as another says of the line, a raise adds the new lines that pass the other.
  newly_adds : (w p : List ℕ → Bool) → ((v : List ℕ) → Codeword c v → is_zero v ≡ false → count_by w (multiples c.field v) ≡ cond (p v) 1 0) → sum_by (adds c accepted s i form level w) (coming c s i budget) ≡ count_by p (newly c s i budget)
  newly_adds w p each = sum_by-same _ (λ v. cond (not (elsewhere c s i v)) (cond (p v) 1 0) 0) (coming c s i budget) new ∙ sym (sum_by_kept (λ v. not (elsewhere c s i v)) (λ v. cond (p v) 1 0) (coming c s i budget))
    where
      j : GeneratorForm
      j = get_or (all_forms c) i no_form

      new : AllByRecursion (λ v. cond (elsewhere c s i v) 0 (count_by w (multiples c.field v)) ≡ cond (not (elsewhere c s i v)) (cond (p v) 1 0) 0) (coming c s i budget)
      new = All-take _ budget (drop (made_in c s) (next_level c s i)) (All-drop _ (made_in c s) (next_level c s i) (All-weaker _ _ (λ v h.
          ap (λ (m : ℕ). cond (elsewhere c s i v) 0 m) (each v h.0 (nonzero_message j v (omega (arith, h.1)))) ∙ sym (cond-not (elsewhere c s i v) (cond (p v) 1 0)))
          (next_level c s i) (level_words c accepted j (form-is_systematic c accepted i form) (level_of c s i + 1))))

  -- How many counted lines have a weight, after a raise.
  pub lines-raised : (b : ℕ) → count_by (λ u. eqb (line_weight c.field c.weight u) b) (counted_leaders c (raise_standing c s i budget))
      ≡ count_by (λ u. eqb (line_weight c.field c.weight u) b) (counted_leaders c s) + count_by (λ u. eqb (line_weight c.field c.weight u) b) (newly c s i budget)
  lines-raised b = count_by_kept leads weighs (counted_words c (raise_standing c s i budget))
      ∙ count-raised c accepted s i form level (λ u. leads u && weighs u) budget goes within
      ∙ ap₂ ◌+◌ (sym (count_by_kept leads weighs (counted_words c s))) (newly_adds (λ u. leads u && weighs u) weighs (λ v h some. one_leads_weighing accepted.field_laws c.weight v b (codeword-codes c accepted.field_laws v h) some))
    where
      weighs : List ℕ → Bool
      weighs u = eqb (line_weight c.field c.weight u) b

  -- A raise visits the line of a codeword as a new one once if it comes to be counted, and else never.
  pub counted-raised : (u : List ℕ) → Codeword c u → cond (counted c (raise_standing c s i budget) u) 1 0 ≡ cond (counted c s u) 1 0 + count_by (on_line c.field u) (newly c s i budget)
  counted-raised u h = sym (counted-once c accepted (raise_standing c s i budget) u h)
      ∙ count-raised c accepted s i form level (same u) budget goes within
      ∙ ap₂ ◌+◌ (counted-once c accepted s u h) (newly_adds (same u) (on_line c.field u) (λ v k some. multiples-once accepted.field_laws u v (codeword-codes c accepted.field_laws v k) some))

  -- The best after a raise: the best before, lessened by the weight of each line newly counted.
  pub best-raised : best c (raise_standing c s i budget) ≡ lesser_all (best c s) (map (line_weight c.field c.weight) (newly c s i budget))
  unfolding best
  best-raised = best-same (weights c (raise_standing c s i budget)) (weights c s ++ map (line_weight c.field c.weight) (newly c s i budget)) counts ∙ best-append (weights c s) (map (line_weight c.field c.weight) (newly c s i budget))
    where
      counts : (a : ℕ) → count_of a (weights c (raise_standing c s i budget)) ≡ count_of a (weights c s ++ map (line_weight c.field c.weight) (newly c s i budget))
      counts a = weights-count c (raise_standing c s i budget) a ∙ lines-raised a
          ∙ sym (sum_by-append (λ x. cond (eqb x a) 1 0) (weights c s) (map (line_weight c.field c.weight) (newly c s i budget)) ∙ ap₂ ◌+◌ (weights-count c s a) (sum_by-map (λ x. cond (eqb x a) 1 0) (line_weight c.field c.weight) (newly c s i budget)))

  -- The line count after a raise: that before, unless the best has changed, and the lines newly counted that have the best weight.
  pub line_count-raised : line_count c (raise_standing c s i budget) ≡ cond (unchanged c (best c s) (best c (raise_standing c s i budget))) (line_count c s) 0 + at_best (best c (raise_standing c s i budget)) (λ b. count_by (λ u. eqb (line_weight c.field c.weight u) b) (newly c s i budget))
  unfolding line_count best
  line_count-raised = at_best-more c (best c s) (best c (raise_standing c s i budget)) (lines c s) (λ b. count_by (λ u. eqb (line_weight c.field c.weight u) b) (newly c s i budget)) (lines c (raise_standing c s i budget)) (low s) (low (raise_standing c s i budget)) lines-raised
    where
      low : (s : Standing) → Lowest (best c s) (lines c s)
      low s = low-counts (best c s) (weights c s) (lines c s) (weights-count c s) (least-of (weights c s))
