-- The whole theory in one place: what holds of a code that a making accepts, and of every run of calls on it.
use Rattle.std.proofs.Common.{◌≡◌, ℕ, ◌+◌, ◌-◌, ◌*◌, ◌^◌, ◌<◌, cond, eqb, map, length, get_or, None, sum_by, count_by, refl, ap, ◌∙◌, arith}
use Rattle.std.proofs.ByRecursion.{All-get_or, All-weaker}
use Rattle.theory.specs.Meanings.{FieldMeaning, FieldLaws}
use Rattle.theory.specs.Codes.{multiples, is_zero, weigh, line_weight}
use Rattle.theory.specs.Standings.{LinearCode, Standing, no_form, spectrum, best, line_count, all_forms, level_of, next_level}
use Rattle.theory.specs.Facts.{Accepted, Systematic}
use Rattle.theory.specs.Calls.{SearchCall, raise, look, ask, answer, made_in, elsewhere, unchanged, refuse_raise, raise_standing, SoundRuns, newly}
use Rattle.theory.specs.Theorems.{CodewordsOnce, SystematicForms, NewPositionsDisjoint, LevelMeets, LevelsMeetOnce, OneLeads, AnswersAlike}
use Rattle.theory.specs.Visits.{binomial}
use Rattle.theory.specs.Steps.{GoesOn, Valid, all_made, at_best, coming_word, ended, lesser, lesser_all, next_count, visited}
use Rattle.theory.proofs.Lists.Truths.{T_false}
use Rattle.theory.proofs.Order.Visits.{length-visits}
use Rattle.theory.proofs.Algebra.Words.{word-from, word-codes}
use Rattle.theory.proofs.Algebra.Codewords.{codewords_are}
use Rattle.theory.proofs.Algebra.Series.{forms_systematic, forms_ranked}
use Rattle.theory.proofs.Algebra.NewPositions.{ranked_new_positions}
use Rattle.theory.proofs.Promise.Valid.{raise_goes_on, raise-fits}
use Rattle.theory.proofs.Promise.Determined.{same-look, same-ask, same-raise, same-raised}
use Rattle.theory.proofs.Promise.Runs.{sound_runs}
use Rattle.theory.proofs.Lines.LineTests as tests
use Rattle.theory.proofs.Lines.Answers as answers
use Rattle.theory.proofs.Lines.Raises as raises
use Rattle.theory.proofs.Lines.Meetings.{level_words, level_meets}

-- Every run of calls on an accepted code is sound.
pub promise : (c : LinearCode) (negative inverse : ℕ → ℕ) → Accepted c negative inverse → SoundRuns c
promise c negative inverse accepted = sound_runs c accepted

module _ (c : LinearCode) (negative inverse : ℕ → ℕ) (accepted : Accepted c negative inverse) where
  pub codewords-once : CodewordsOnce c
  codewords-once = codewords_are c accepted

  pub systematic_forms : SystematicForms c
  systematic_forms = (forms_systematic c accepted, forms_ranked c.field c.n c.rows)

  pub new_positions-disjoint : NewPositionsDisjoint c
  new_positions-disjoint = ranked_new_positions (all_forms c) (forms_ranked c.field c.n c.rows)

  pub levels_meet_once : LevelsMeetOnce c
  levels_meet_once t some = All-weaker (Systematic c) (λ j. LevelMeets c j t) (λ j sys. record {
    size = length-visits c.field c.n j.rows t some ∙ ap (λ (k : ℕ). binomial k t * (c.field.order - 1) ^ (t - 1)) sys.row_count;
    words = level_words c accepted j sys t;
    once = λ u codeword. level_meets c accepted j sys t u codeword some;
  }) (all_forms c) systematic_forms.0

  pub systematic_at : (j : ℕ) → j < length (all_forms c) → Systematic c (get_or (all_forms c) j no_form)
  systematic_at j h = All-get_or (Systematic c) (all_forms c) j no_form h systematic_forms.0

  -- Level t + 1 of a form has as many visits as there are choices of t + 1 rows, times the coefficients that begin with 1.
  pub level_length : (s : Standing) (j : ℕ) → j < length (all_forms c) → length (next_level c s j) ≡ binomial (length c.rows) (level_of c s j + 1) * (c.field.order - 1) ^ (level_of c s j + 1 - 1)
  level_length s j h = length-visits c.field c.n (get_or (all_forms c) j no_form).rows (level_of c s j + 1) (omega arith) ∙ ap (λ (k : ℕ). binomial k (level_of c s j + 1) * (c.field.order - 1) ^ (level_of c s j + 1 - 1)) (systematic_at j h).row_count

  module _ (s : Standing) (valid : Valid c s) (j : ℕ) (form : j < length (all_forms c)) where
    level : j < length s.levels
    level = omega (arith, form, valid.sizes)

    -- A finished level answers as the level with all its visits made.
    pub spectrum-ended : (w : ℕ) → spectrum c (ended c s j) w ≡ spectrum c (all_made c s j) w
    spectrum-ended = answers.spectrum-ended c accepted s j form level

    pub best-ended : best c (ended c s j) ≡ best c (all_made c s j)
    best-ended = answers.best-ended c accepted s j form level

    pub line_count-ended : line_count c (ended c s j) ≡ line_count c (all_made c s j)
    line_count-ended = answers.line_count-ended c accepted s j form level

    -- One more visit, of the word v: if v is finished in another form nothing changes, and else its line is counted.
    module _ (goes : GoesOn s j) (more : made_in c s < length (next_level c s j)) where
      pub spectrum-visited : (w : ℕ) → spectrum c (visited c s j) w ≡ spectrum c s w + cond (elsewhere c s j (coming_word c s j)) 0 (count_by (λ u. eqb (weigh c.weight u) w) (multiples c.field (coming_word c s j)))
      spectrum-visited = answers.spectrum-visited c accepted s j form level goes more

      pub best-visited : best c (visited c s j) ≡ cond (elsewhere c s j (coming_word c s j)) (best c s) (lesser (best c s) (line_weight c.field c.weight (coming_word c s j)))
      best-visited = answers.best-visited c accepted s j form level goes more

      pub line_count-visited : line_count c (visited c s j) ≡ cond (elsewhere c s j (coming_word c s j)) (line_count c s) (next_count (best c s) (line_count c s) (line_weight c.field c.weight (coming_word c s j)))
      line_count-visited = answers.line_count-visited c accepted s j form level goes more

  -- A raise that is not refused.
  module _ (s : Standing) (valid : Valid c s) (j budget : ℕ) (accepts : refuse_raise c s j budget ≡ None) where
    form_in : j < length (all_forms c)
    form_in = (raise-fits c s j budget valid accepts).0

    level_in : j < length s.levels
    level_in = omega (arith, form_in, valid.sizes)

    pub spectrum-raised : (w : ℕ) → spectrum c (raise_standing c s j budget) w ≡ spectrum c s w + sum_by (λ v. count_by (λ u. eqb (weigh c.weight u) w) (multiples c.field v)) (newly c s j budget)
    spectrum-raised = raises.spectrum-raised c accepted s j form_in level_in budget (raise_goes_on c s j budget accepts) (raise-fits c s j budget valid accepts).2

    pub best-raised : best c (raise_standing c s j budget) ≡ lesser_all (best c s) (map (line_weight c.field c.weight) (newly c s j budget))
    best-raised = raises.best-raised c accepted s j form_in level_in budget (raise_goes_on c s j budget accepts) (raise-fits c s j budget valid accepts).2

    pub line_count-raised : line_count c (raise_standing c s j budget) ≡ cond (unchanged c (best c s) (best c (raise_standing c s j budget))) (line_count c s) 0 + at_best (best c (raise_standing c s j budget)) (λ b. count_by (λ u. eqb (line_weight c.field c.weight u) b) (newly c s j budget))
    line_count-raised = raises.line_count-raised c accepted s j form_in level_in budget (raise_goes_on c s j budget accepts) (raise-fits c s j budget valid accepts).2

pub told_alike : AnswersAlike
told_alike c d codes x y levels x-none y-none = (alike, same-raised c d codes x y levels x-none y-none)
  where
    alike : (call : SearchCall) → answer c x call ≡ answer d y call
    alike (raise j budget) = same-raise c d codes x y levels x-none y-none j budget
    alike look = same-look c d codes x y levels x-none y-none
    alike (ask w) = same-ask c d codes x y levels x-none y-none w

pub one_leads : (f : FieldMeaning) (negative inverse : ℕ → ℕ) → FieldLaws f negative inverse → OneLeads f
one_leads f negative inverse laws u codes some = tests.one_leads laws u (word-codes (word-from f.order (length u) u refl codes)) (T_false (is_zero u) some)
