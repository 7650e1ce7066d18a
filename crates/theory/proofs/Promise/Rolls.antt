-- What a roll holds of the lines of best weight, and that a raise keeps it so.
use Rattle.std.proofs.Common.{◌≡◌, ℕ, ◌+◌, Bool, true, false, cond, eqb, ◌⊎◌, List, [], ◌++◌, map, length, get_or, take, Some, None, filter, Option, sym, refl, ap, ◌∙◌, subst, ⊎_elim, arith}
use mathlib.Core.List.{map-map}
use lib.Seq.{take-nil}
use Rattle.std.proofs.lemmas.List.{map-append}
use Rattle.std.proofs.lemmas.Bool.{eqb-true, eqb-false, eq-eqb}
use Rattle.theory.specs.Meanings.{FieldLaws}
use Rattle.theory.specs.Codes.{combination, multiples, leads, line_weight}
use Rattle.theory.specs.Visits.{visits, choices, picked, coefficients}
use Rattle.theory.specs.Standings.{LinearCode, Standing, no_form, best, all_forms, level_of, next_level}
use Rattle.theory.specs.Promises.{LeaderRecord, SearchState}
use Rattle.theory.specs.Calls.{coming, leader, lightest, unchanged, raise_standing, raise_roll, made_in, newly}
use Rattle.theory.proofs.Lists.Members.{In, of-append, in_append_left, in_append_right, of_kept, in_kept, of_map, of-joined, of-take, of-drop, first_or}
use Rattle.theory.proofs.Lists.Distinct.{Distinct, distinct_kept, distinct_append}
use Rattle.theory.proofs.Lists.Cuts.{take_again, kept_by_same, kept_by_map}
use Rattle.theory.proofs.Algebra.Multiples.{CodesOf, combination-codes}
use Rattle.theory.proofs.Lines.Lines.{multiples-in}
use Rattle.theory.proofs.Lines.LineWeights.{line_weight-same}
use Rattle.theory.proofs.Promise.CountedLeaders.{CountedLeader, best-at, best_under, best_none}

abbrev pub entry : ℕ → List ℕ → LeaderRecord
entry b u = record { word = u; weight = b }

-- Each leader of a counted line of weight b once, and nothing else.
pub record LeadersOf (c : LinearCode) (s : Standing) (b : ℕ) (us : List (List ℕ)) : Type 0 where
  pub distinct : Distinct us
  pub counts : (u : List ℕ) → In u us → CountedLeader c s u × (line_weight c.field c.weight u ≡ b)
  pub every : (u : List ℕ) → CountedLeader c s u → line_weight c.field c.weight u ≡ b → In u us

abbrev pub HoldsAt : LinearCode → Standing → ℕ → List LeaderRecord → Option ℕ → Type 0
HoldsAt c s slots roll None = roll ≡ []
HoldsAt c s slots roll (Some b) = (us : List (List ℕ)) × LeadersOf c s b us × (roll ≡ take slots (map (entry b) us))

-- The roll is the first of a list of the leaders of the counted lines of best weight.
abbrev pub Holds : LinearCode → Standing → ℕ → List LeaderRecord → Type 0
Holds c s slots roll = HoldsAt c s slots roll (best c s)

-- From the standing s to t the lines of the words us come to be counted, each once.
pub record Gains (c : LinearCode) (s t : Standing) (us : List (List ℕ)) : Type 0 where
  pub distinct : Distinct (map (leader c) us)
  pub fresh : (u : List ℕ) → In u (map (leader c) us) → CountedLeader c s u → ⊥
  pub comes : (u : List ℕ) → In u (map (leader c) us) → CountedLeader c t u
  pub stays : (u : List ℕ) → CountedLeader c s u → CountedLeader c t u
  pub only : (u : List ℕ) → CountedLeader c t u → CountedLeader c s u ⊎ In u (map (leader c) us)

module _ (c : LinearCode) {negative inverse : ℕ → ℕ} (laws : FieldLaws c.field negative inverse) where
  pub visits-codes : (rows : List (List ℕ)) (t : ℕ) (u : List ℕ) → In u (visits c.field c.n rows t) → CodesOf c.field u
  unfolding visits
  visits-codes rows t u i =
      let r = of-joined (λ choice. map (λ cs. combination c.field c.n cs (picked rows choice)) (coefficients c.field.order t)) u (choices (length rows) t) i in
      let m = of_map (λ cs. combination c.field c.n cs (picked rows r.0)) u (coefficients c.field.order t) r.2 in
      subst (CodesOf c.field) m.2 (combination-codes laws c.n m.0 (picked rows r.0))

  pub newly-codes : (s : Standing) (j budget : ℕ) (u : List ℕ) → In u (newly c s j budget) → CodesOf c.field u
  newly-codes s j budget u i = visits-codes (get_or (all_forms c) j no_form).rows (level_of c s j + 1) u (of-drop u (made_in c s) (next_level c s j) (of-take u budget _ (of_kept _ u (coming c s j budget) i).0))

  leader-weight : (u : List ℕ) → CodesOf c.field u → line_weight c.field c.weight (leader c u) ≡ line_weight c.field c.weight u
  leader-weight u h = ⊎_elim (λ e. ap (line_weight c.field c.weight) e) (λ i. sym (line_weight-same laws c.weight u (leader c u) h (multiples-in laws u (leader c u) (of_kept leads (leader c u) (multiples c.field u) i).0))) (first_or u (filter leads (multiples c.field u)))

  -- The leaders that a raise puts on the roll are the new ones of weight b.
  lightest-is : (b : ℕ) (us : List (List ℕ)) → ((u : List ℕ) → In u us → CodesOf c.field u) → lightest c (Some b) us ≡ map (entry b) (filter (λ u. eqb (line_weight c.field c.weight u) b) (map (leader c) us))
  lightest-is b us low =
      sym (ap (map (entry b)) (kept_by_map (leader c) (λ u. eqb (line_weight c.field c.weight u) b) us) ∙ map-map (entry b) (leader c) _
      ∙ ap (map (λ u. entry b (leader c u))) (kept_by_same _ _ us (λ u i. ap (λ n. eqb n b) (leader-weight u (low u i)))))

  module _ (s t : Standing) (us : List (List ℕ)) (low : (u : List ℕ) → In u us → CodesOf c.field u) (gains : Gains c s t us) where
    -- The new lines alone, where no line counted before has their weight.
    leaders_new : (b : ℕ) → ((u : List ℕ) → CountedLeader c s u → line_weight c.field c.weight u ≡ b → ⊥) → LeadersOf c t b (filter (λ u. eqb (line_weight c.field c.weight u) b) (map (leader c) us))
    leaders_new b none = record {
      distinct = distinct_kept _ (map (leader c) us) gains.distinct;
      counts = λ u i. (let k = of_kept _ u (map (leader c) us) i in (gains.comes u k.0, eqb-true _ b k.1));
      every = λ u l e. ⊎_elim (λ old. absurd (none u old e)) (λ i. in_kept _ u (map (leader c) us) i (eq-eqb _ b e)) (gains.only u l);
    }

    -- The lines before and then the new ones.
    leaders_more : (b : ℕ) (vs : List (List ℕ)) → LeadersOf c s b vs → LeadersOf c t b (vs ++ filter (λ u. eqb (line_weight c.field c.weight u) b) (map (leader c) us))
    leaders_more b vs h =
        let ns : List (List ℕ) = filter (λ u. eqb (line_weight c.field c.weight u) b) (map (leader c) us) in
        record {
          distinct = distinct_append vs ns h.distinct (distinct_kept _ (map (leader c) us) gains.distinct) (λ u i k. gains.fresh u (of_kept _ u (map (leader c) us) k).0 (h.counts u i).0);
          counts = λ u i. ⊎_elim (λ k. (gains.stays u (h.counts u k).0, (h.counts u k).1)) (λ k. (let r = of_kept _ u (map (leader c) us) k in (gains.comes u r.0, eqb-true _ b r.1))) (of-append u vs ns i);
          every = λ u l e. ⊎_elim (λ old. in_append_left u vs ns (h.every u old e)) (λ i. in_append_right u vs ns (in_kept _ u (map (leader c) us) i (eq-eqb _ b e))) (gains.only u l);
        }

    holds_new : (slots b : ℕ) → ((u : List ℕ) → CountedLeader c s u → line_weight c.field c.weight u ≡ b → ⊥) → HoldsAt c t slots (take slots (lightest c (Some b) us)) (Some b)
    holds_new slots b none = (_, leaders_new b none, ap (take slots) (lightest-is b us low))

    holds_more : (slots : ℕ) (roll : List LeaderRecord) (o p : Option ℕ) → best c s ≡ o → best c t ≡ p → HoldsAt c s slots roll o → HoldsAt c t slots (take slots (cond (unchanged c o p) roll [] ++ lightest c p us)) p
    holds_more slots roll None None e g h = ap (λ l. take slots (l ++ [])) h ∙ take-nil slots
    holds_more slots roll None (Some b) e g h = holds_new slots b (λ u l q. best_none c s e u l)
    holds_more slots roll (Some a) None e g h = take-nil slots
    holds_more slots roll (Some a) (Some b) e g h = go (eqb a b) refl
      where
        same : eqb a b ≡ true → HoldsAt c t slots (take slots (roll ++ lightest c (Some b) us)) (Some b)
        same q =
            let k : HoldsAt c s slots roll (Some b) = subst (λ n. HoldsAt c s slots roll (Some n)) (eqb-true a b q) h in
            (_, leaders_more b k.0 k.1, ap (λ l. take slots (l ++ lightest c (Some b) us)) k.2 ∙ take_again slots (map (entry b) k.0) (lightest c (Some b) us) ∙ ap (take slots) (ap (λ l. map (entry b) k.0 ++ l) (lightest-is b us low) ∙ sym (map-append (entry b) k.0 _)))

        equal : (u : List ℕ) → CountedLeader c s u → line_weight c.field c.weight u ≡ b → a ≡ b
        equal u l w = let r = best-at c s a e in omega (arith, best_under c s a e u l, best_under c t b g r.0 (gains.stays r.0 r.1), r.2)

        go : (d : Bool) → eqb a b ≡ d → HoldsAt c t slots (take slots (cond d roll [] ++ lightest c (Some b) us)) (Some b)
        go true q = same q
        go false q = holds_new slots b (λ u l w. eqb-false a b q (equal u l w))

  -- A raise keeps what the roll holds.
  pub raise-holds : (x : SearchState) (j budget : ℕ) → Gains c x.standing (raise_standing c x.standing j budget) (newly c x.standing j budget) → Holds c x.standing x.slots x.roll → Holds c (raise_standing c x.standing j budget) x.slots (raise_roll c x j budget)
  unfolding raise_roll
  raise-holds x j budget gains h = holds_more x.standing (raise_standing c x.standing j budget) (newly c x.standing j budget) (newly-codes x.standing j budget) gains x.slots x.roll (best c x.standing) (best c (raise_standing c x.standing j budget)) refl refl h
