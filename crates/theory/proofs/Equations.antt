-- The definitions that stay shut, as equations: a proof above this crate cites these and the laws, and need not open a definition.
use Rattle.std.proofs.Common.{◌≡◌, ℕ, ◌+◌, ◌*◌, Bool, true, false, cond, ◌||◌, eqb, leb, List, [], ◌++◌, map, length, take, Some, None, count_by, Option, refl, ap}
use Rattle.std.specs.List.{flat_map}
use Rattle.std.proofs.lemmas.Bool.{eq-eqb, ne_eqb}
use Rattle.theory.specs.Meanings.{FieldMeaning}
use Rattle.theory.specs.Codes.{tuples, combination, codewords, any, on_line, is_zero, weigh, line_weight}
use Rattle.theory.specs.Forms.{forms_from, forms}
use Rattle.theory.specs.Visits.{choices, coefficients, picked, visits}
use Rattle.theory.specs.Standings.{LinearCode, Standing, all_forms, finished, open_visits, counted, counted_words, counted_leaders, spectrum, best, line_count, bound_over, bound, level_of, next_level, best_of}
use Rattle.theory.specs.Promises.{SearchState}
use Rattle.theory.specs.Calls.{SearchAnswer, raise, look, ask, refused, raised, looked, told, made_in, coming, newly, lightest, unchanged, refuse_raise, raise_standing, raise_roll, ledger, after, answer, counts}
use Rattle.theory.specs.Steps.{stood, ended, at_best}

pub codewords-is : (f : FieldMeaning) (n : ℕ) (rows : List (List ℕ)) → codewords f n rows ≡ map (λ cs. combination f n cs rows) (tuples f.order (length rows))
unfolding codewords
codewords-is f n rows = refl

pub forms-is : (f : FieldMeaning) (n : ℕ) (rows : List (List ℕ)) → forms f n rows ≡ forms_from f n rows 8 []
unfolding forms
forms-is f n rows = refl

pub visits-is : (f : FieldMeaning) (n : ℕ) (rows : List (List ℕ)) (t : ℕ) → visits f n rows t ≡ flat_map (λ choice. map (λ cs. combination f n cs (picked rows choice)) (coefficients f.order t)) (choices (length rows) t)
unfolding visits
visits-is f n rows t = refl

module _ (c : LinearCode) (s : Standing) where
  pub counted_is : (u : List ℕ) → counted c s u ≡ (is_zero u || (finished (all_forms c) s.levels u || any (on_line c.field u) (open_visits c s)))
  unfolding counted
  counted_is u = refl

  pub spectrum-is : (w : ℕ) → spectrum c s w ≡ count_by (λ u. eqb (weigh c.weight u) w) (counted_words c s)
  unfolding spectrum
  spectrum-is w = refl

  pub best-is : best c s ≡ best_of (map (line_weight c.field c.weight) (counted_leaders c s))
  unfolding best
  best-is = refl

  pub line_count-is : line_count c s ≡ at_best (best c s) (λ b. count_by (λ u. eqb (line_weight c.field c.weight u) b) (counted_leaders c s))
  unfolding line_count
  line_count-is = refl

  pub bound-is : bound c s ≡ bound_over (length c.rows) (all_forms c) s.levels
  unfolding bound
  bound-is = refl

  module _ (j budget : ℕ) where
    -- With the level's last visit the level is finished, and else it stays open.
    abbrev standing_by : Bool → Standing
    standing_by b = elim b [ true ↦ ended c s j | false ↦ stood s j (made_in c s + length (coming c s j budget)) ]

    pub raise_ends : made_in c s + length (coming c s j budget) ≡ length (next_level c s j) → raise_standing c s j budget ≡ ended c s j
    unfolding raise_standing
    raise_ends e = ap standing_by (eq-eqb _ _ e)

    pub raise-stays : (made_in c s + length (coming c s j budget) ≡ length (next_level c s j) → ⊥) → raise_standing c s j budget ≡ stood s j (made_in c s + length (coming c s j budget))
    unfolding raise_standing
    raise-stays e = ap standing_by (ne_eqb _ _ e)

module _ (c : LinearCode) (x : SearchState) where
  pub raise_roll-is : (j budget : ℕ) → raise_roll c x j budget ≡ take x.slots (cond (unchanged c (best c x.standing) (best c (raise_standing c x.standing j budget))) x.roll [] ++ lightest c (best c (raise_standing c x.standing j budget)) (newly c x.standing j budget))
  unfolding raise_roll
  raise_roll-is j budget = refl

  pub after_look : after c x look ≡ x
  unfolding after
  after_look = refl

  pub after-ask : (w : ℕ) → after c x (ask w) ≡ x
  unfolding after
  after-ask w = refl

  pub answer-look : answer c x look ≡ looked (ledger c x.standing)
  unfolding answer
  answer-look = refl

  pub answer-ask : (w : ℕ) → answer c x (ask w) ≡ cond (leb w (c.n * c.weight.top)) (told (spectrum c x.standing w)) (refused 31 0)
  unfolding answer
  answer-ask w = refl

  module _ (j budget : ℕ) where
    abbrev after_by : Option (ℕ × ℕ) → SearchState
    after_by o = elim o [ Some r ↦ x | None ↦ record { standing = raise_standing c x.standing j budget; slots = x.slots; roll = raise_roll c x j budget } ]

    abbrev answer_by : Option (ℕ × ℕ) → SearchAnswer
    answer_by o = elim o [
      | Some r ↦ refused r.0 r.1
      | None ↦ raised j (level_of c x.standing j + 1) (length (coming c x.standing j budget)) (eqb (made_in c x.standing + length (coming c x.standing j budget)) (length (next_level c x.standing j)))
    ]

    abbrev counts_by : Option (ℕ × ℕ) → List (List ℕ)
    counts_by o = elim o [ Some r ↦ [] | None ↦ newly c x.standing j budget ]

    -- A raise that is refused changes nothing, answers number and place, and counts nothing.
    module _ (number place : ℕ) (refuses : refuse_raise c x.standing j budget ≡ Some (number, place)) where
      pub after-refused : after c x (raise j budget) ≡ x
      unfolding after
      after-refused = ap after_by refuses

      pub answer-refused : answer c x (raise j budget) ≡ refused number place
      unfolding answer
      answer-refused = ap answer_by refuses

      pub counts-refused : counts c x (raise j budget) ≡ []
      counts-refused = ap counts_by refuses

    -- One that is accepted moves the standing and the roll, answers form, level, visits made and whether the level ended, and counts the new lines.
    module _ (accepts : refuse_raise c x.standing j budget ≡ None) where
      pub after-raised : after c x (raise j budget) ≡ record { standing = raise_standing c x.standing j budget; slots = x.slots; roll = raise_roll c x j budget }
      unfolding after
      after-raised = ap after_by accepts

      pub answer-raised : answer c x (raise j budget) ≡ raised j (level_of c x.standing j + 1) (length (coming c x.standing j budget)) (eqb (made_in c x.standing + length (coming c x.standing j budget)) (length (next_level c x.standing j)))
      unfolding answer
      answer-raised = ap answer_by accepts

      pub counts-raised : counts c x (raise j budget) ≡ newly c x.standing j budget
      counts-raised = ap counts_by accepts
