-- What one more visit, and the end of a level, change in the spectrum, the best and the line count.
use Rattle.std.proofs.Common.{◌≡◌, ℕ, ◌+◌, ◌-◌, ◌<◌, ◌≤◌, Bool, true, false, cond, ◌&&◌, eqb, List, map, length, count_by, filter, sym, ap, ◌∙◌, ap₂, arith}
use Rattle.std.specs.List.{range_with_len}
use Rattle.std.proofs.ByRecursion.{All-map, All-weaker}
use Rattle.theory.specs.Codes.{times, multiples, codewords, is_zero, leads, weigh, line_weight, on_line}
use Rattle.theory.specs.Standings.{LinearCode, Standing, counted, counted_words, counted_leaders, spectrum, best, line_count, all_forms, next_level, best_of}
use Rattle.theory.specs.Promises.{Codeword}
use Rattle.theory.specs.Facts.{Accepted}
use Rattle.theory.specs.Calls.{made_in, elsewhere}
use Rattle.theory.specs.Steps.{GoesOn, all_made, at_best, coming_word, ended, lesser, next_count, visited}
use Rattle.theory.proofs.Lists.Countings.{all_counting}
use Rattle.theory.proofs.Lists.Sums.{all_of, sum_by-map}
use Rattle.theory.proofs.Lists.Counts.{count_by_kept, count_by_joining}
use Rattle.theory.proofs.Lists.Once.{count_by-listed}
use Rattle.theory.proofs.Lists.Cuts.{kept_by_all}
use Rattle.theory.proofs.Algebra.Multiples.{CodesOf}
use Rattle.theory.proofs.Algebra.Codewords.{codeword-times, codewords_are}
use Rattle.theory.proofs.Lines.LineWeights.{codeword-codes}
use Rattle.theory.proofs.Lines.LineTests.{multiples-once, one_leads_weighing}
use Rattle.theory.proofs.Lines.Bests.{count_of, best_joining, count_joining}
use Rattle.theory.proofs.Lines.Counting.{counted-ended, counted-visited, coming-codeword, coming_nonzero, counted-before}

-- The weights of the counted lines, and how many have a weight.
abbrev pub weights : LinearCode → Standing → List ℕ
weights c s = map (line_weight c.field c.weight) (counted_leaders c s)

abbrev pub lines : LinearCode → Standing → ℕ → ℕ
lines c s b = count_by (λ u. eqb (line_weight c.field c.weight u) b) (counted_leaders c s)

pub weights-count : (c : LinearCode) (s : Standing) (a : ℕ) → count_of a (weights c s) ≡ lines c s a
weights-count c s a = sum_by-map (λ x. cond (eqb x a) 1 0) (line_weight c.field c.weight) (counted_leaders c s)

-- The counted words settle the answers.
module _ (c : LinearCode) (s t : Standing) (words : counted_words c s ≡ counted_words c t) where
  leaders : counted_leaders c s ≡ counted_leaders c t
  leaders = ap (filter leads) words

  pub same-spectrum : (w : ℕ) → spectrum c s w ≡ spectrum c t w
  unfolding spectrum
  same-spectrum w = ap (λ (us : List (List ℕ)). count_by (λ u. eqb (weigh c.weight u) w) us) words

  pub same-best : best c s ≡ best c t
  unfolding best
  same-best = ap (λ (us : List (List ℕ)). best_of (map (line_weight c.field c.weight) us)) leaders

  pub same-line_count : line_count c s ≡ line_count c t
  unfolding line_count best
  same-line_count = ap (λ (us : List (List ℕ)). at_best (best_of (map (line_weight c.field c.weight) us)) (λ b. count_by (λ u. eqb (line_weight c.field c.weight u) b) us)) leaders

module _ (c : LinearCode) {negative inverse : ℕ → ℕ} (accepted : Accepted c negative inverse) where
  -- The codewords that pass a test and stand on a line are counted among the line's words.
  pub count_by-line : (w : List ℕ → Bool) (v : List ℕ) → Codeword c v → is_zero v ≡ false → count_by (λ u. w u && on_line c.field u v) (codewords c.field c.n c.rows) ≡ count_by w (multiples c.field v)
  count_by-line w v codeword some = count_by-listed w (multiples c.field v) (codewords c.field c.n c.rows)
      (All-map _ (λ b. times c.field b v) (range_with_len 1 (c.field.order - 1)) (all_counting _ 1 (c.field.order - 1) (λ b l g. (codewords_are c accepted).once (times c.field b v) (codeword-times c accepted b (omega arith) codeword))))
      (λ u. at (on_line c.field u v) (multiples-once accepted.field_laws u v (codeword-codes c accepted.field_laws v codeword) some))
    where
      at : {m : ℕ} (b : Bool) → m ≡ cond b 1 0 → m ≤ 1
      at true e = omega arith
      at false e = omega arith

  module _ (s : Standing) (i : ℕ) (form : i < length (all_forms c)) (level : i < length s.levels) where
    pub counted_words-ended : counted_words c (ended c s i) ≡ counted_words c (all_made c s i)
    counted_words-ended = kept_by_all _ _ (codewords c.field c.n c.rows) (All-weaker (Codeword c) _ (counted-ended c accepted s i form level) (codewords c.field c.n c.rows) (codewords_are c accepted).only)

    pub spectrum-ended : (w : ℕ) → spectrum c (ended c s i) w ≡ spectrum c (all_made c s i) w
    spectrum-ended = same-spectrum c (ended c s i) (all_made c s i) counted_words-ended

    pub best-ended : best c (ended c s i) ≡ best c (all_made c s i)
    best-ended = same-best c (ended c s i) (all_made c s i) counted_words-ended

    pub line_count-ended : line_count c (ended c s i) ≡ line_count c (all_made c s i)
    line_count-ended = same-line_count c (ended c s i) (all_made c s i) counted_words-ended

    module _ (goes : GoesOn s i) (more : made_in c s < length (next_level c s i)) where
      codeword : Codeword c (coming_word c s i)
      codeword = coming-codeword c accepted s i form level goes more

      some : is_zero (coming_word c s i) ≡ false
      some = coming_nonzero c accepted s i form level goes more

      low : CodesOf c.field (coming_word c s i)
      low = codeword-codes c accepted.field_laws (coming_word c s i) codeword

      -- How many of the counted words pass a test, with one more visit made.
      pub count-visited : (w : List ℕ → Bool) → count_by w (counted_words c (visited c s i)) ≡ count_by w (counted_words c s) + cond (elsewhere c s i (coming_word c s i)) 0 (count_by w (multiples c.field (coming_word c s i)))
      count-visited w = count_by_kept (counted c (visited c s i)) w (codewords c.field c.n c.rows)
          ∙ count_by_joining (counted c (visited c s i)) (counted c s) (λ u. on_line c.field u (coming_word c s i)) w (elsewhere c s i (coming_word c s i)) (codewords c.field c.n c.rows)
          (all_of (λ u. (counted-visited c accepted s i form level goes more u, counted-before c accepted s i form level goes more u)) (codewords c.field c.n c.rows))
          ∙ ap₂ (λ (m n : ℕ). m + cond (elsewhere c s i (coming_word c s i)) 0 n) (sym (count_by_kept (counted c s) w (codewords c.field c.n c.rows))) (count_by-line w (coming_word c s i) codeword some)

      pub spectrum-visited : (w : ℕ) → spectrum c (visited c s i) w ≡ spectrum c s w + cond (elsewhere c s i (coming_word c s i)) 0 (count_by (λ u. eqb (weigh c.weight u) w) (multiples c.field (coming_word c s i)))
      unfolding spectrum
      spectrum-visited w = count-visited (λ u. eqb (weigh c.weight u) w)

      -- How many counted lines have a weight, with one more visit made.
      pub lines-visited : (b : ℕ) → count_by (λ u. eqb (line_weight c.field c.weight u) b) (counted_leaders c (visited c s i))
          ≡ count_by (λ u. eqb (line_weight c.field c.weight u) b) (counted_leaders c s) + cond (elsewhere c s i (coming_word c s i)) 0 (cond (eqb (line_weight c.field c.weight (coming_word c s i)) b) 1 0)
      lines-visited b = count_by_kept leads weighs (counted_words c (visited c s i)) ∙ count-visited (λ u. leads u && weighs u)
          ∙ ap₂ (λ (m n : ℕ). m + cond (elsewhere c s i (coming_word c s i)) 0 n) (sym (count_by_kept leads weighs (counted_words c s))) (one_leads_weighing accepted.field_laws c.weight (coming_word c s i) b low some)
        where
          weighs : List ℕ → Bool
          weighs u = eqb (line_weight c.field c.weight u) b

      pub best-visited : best c (visited c s i) ≡ cond (elsewhere c s i (coming_word c s i)) (best c s) (lesser (best c s) (line_weight c.field c.weight (coming_word c s i)))
      unfolding best
      best-visited = best_joining (line_weight c.field c.weight (coming_word c s i)) (weights c s) (weights c (visited c s i)) (elsewhere c s i (coming_word c s i))
          (λ a. weights-count c (visited c s i) a ∙ lines-visited a ∙ ap (λ (m : ℕ). m + cond (elsewhere c s i (coming_word c s i)) 0 (cond (eqb (line_weight c.field c.weight (coming_word c s i)) a) 1 0)) (sym (weights-count c s a)))

      pub line_count-visited : line_count c (visited c s i) ≡ cond (elsewhere c s i (coming_word c s i)) (line_count c s) (next_count (best c s) (line_count c s) (line_weight c.field c.weight (coming_word c s i)))
      unfolding line_count best
      line_count-visited = count_joining (line_weight c.field c.weight (coming_word c s i)) (weights c s) (weights c (visited c s i)) (lines c s) (lines c (visited c s i)) (weights-count c s) (weights-count c (visited c s i)) (elsewhere c s i (coming_word c s i)) lines-visited
