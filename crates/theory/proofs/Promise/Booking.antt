-- The roll in a raise, visit by visit.
use Rattle.std.proofs.Common.{◌≡◌, ℕ, ◌+◌, ◌<◌, ◌≤◌, min, Bool, true, false, cond, not, eqb, ltb, ◌⊎◌, List, [], ◌∷◌, ◌++◌, map, length, get_or, take, drop, Some, None, filter, Option, sym, refl, ap, ◌∙◌, ap₂, inl, inr, append_assoc, append-nil, arith}
use Rattle.std.specs.List.{AllByRecursion}
use Rattle.std.proofs.lemmas.List.{take_more, get_or-drop, map-append, length-drop}
use Rattle.std.proofs.lemmas.List.Elements.{filter-append}
use Rattle.std.proofs.lemmas.Bool.{cases_order, eq-eqb, ne_eqb, lt-ltb, le-ltb}
use Rattle.theory.specs.Codes.{line_weight}
use Rattle.theory.specs.Standings.{LinearCode, Standing, best, all_forms, next_level}
use Rattle.theory.specs.Promises.{LeaderRecord, SearchState}
use Rattle.theory.specs.Facts.{Accepted}
use Rattle.theory.specs.Calls.{made_in, coming, elsewhere, leader, lightest, unchanged, raise_standing, raise_roll, newly}
use Rattle.theory.specs.Steps.{GoesOn, lesser, lesser_all}
use Rattle.theory.proofs.Lists.Truths.{some-none}
use Rattle.theory.proofs.Lists.Cuts.{take_again, kept_by_none}
use Rattle.theory.proofs.Lines.Raises.{best-raised}
use Rattle.theory.proofs.Promise.Rolls.{entry}

abbrev Under : Option ℕ → ℕ → Type 0
Under None b = Unit {0}
Under (Some a) b = b ≤ a

lesser_under : (o : Option ℕ) (x b : ℕ) → Under (lesser o x) b → Under o b × (b ≤ x)
lesser_under None x b h = (tt, h)
lesser_under (Some a) x b h = (omega arith, omega arith)

-- The least is at most where it began and at most each of the list.
least_under : (o : Option ℕ) (xs : List ℕ) (b : ℕ) → lesser_all o xs ≡ Some b → Under o b × AllByRecursion (λ x. b ≤ x) xs
least_under None [] b e = (tt, tt)
least_under (Some a) [] b e = (let q : a ≡ b = cc in omega arith, tt)
least_under o (x ∷ xs) b e = let r = least_under (lesser o x) xs b e in let h = lesser_under o x b r.0 in (h.0, (h.1, r.1))

least-none : (o : Option ℕ) (xs : List ℕ) → lesser_all o xs ≡ None → (o ≡ None) × (xs ≡ [])
least-none o [] e = (e, refl)
least-none None (x ∷ xs) e = absurd (some-none x (least-none (Some x) xs e).0)
least-none (Some a) (x ∷ xs) e = absurd (some-none (min a x) (least-none (Some (min a x)) xs e).0)

least_push : (o : Option ℕ) (xs : List ℕ) (x : ℕ) → lesser_all o (xs ++ (x ∷ [])) ≡ lesser (lesser_all o xs) x
least_push o [] x = refl
least_push o (y ∷ xs) x = least_push (lesser o y) xs x

module _ (c : LinearCode) where
  abbrev weight-of : List ℕ → ℕ
  weight-of u = line_weight c.field c.weight u

  -- What a visit of a newly counted line does to the roll: it begins anew at a lighter line, and takes in an equal one.
  abbrev pub booked : ℕ → Option ℕ → List LeaderRecord → List ℕ → List LeaderRecord
  booked slots None roll v = take slots (entry (weight-of v) (leader c v) ∷ [])
  booked slots (Some b) roll v = cond (ltb (weight-of v) b) (take slots (entry (weight-of v) (leader c v) ∷ [])) (cond (eqb (weight-of v) b) (take slots (roll ++ (entry b (leader c v) ∷ []))) roll)

  -- The roll that held `roll` at the best o, once the lines of us are counted.
  abbrev rolled : ℕ → Option ℕ → List LeaderRecord → List (List ℕ) → Option ℕ → List LeaderRecord
  rolled slots o roll us after = take slots (cond (unchanged c o after) roll [] ++ lightest c after us)

  lightest_push : (b : ℕ) (us : List (List ℕ)) (v : List ℕ) → lightest c (Some b) (us ++ (v ∷ [])) ≡ lightest c (Some b) us ++ cond (eqb (weight-of v) b) (entry b (leader c v) ∷ []) []
  lightest_push b us v = ap (map (λ u. entry b (leader c u))) (filter-append (λ u. eqb (weight-of u) b) us (v ∷ [])) ∙ map-append (λ u. entry b (leader c u)) (filter (λ u. eqb (weight-of u) b) us) (filter (λ u. eqb (weight-of u) b) (v ∷ [])) ∙ ap (λ (l : List LeaderRecord). lightest c (Some b) us ++ l) (one (eqb (weight-of v) b))
    where
      one : (t : Bool) → map (λ u. entry b (leader c u)) (cond t (v ∷ []) []) ≡ cond t (entry b (leader c v) ∷ []) []
      one true = refl
      one false = refl

  -- A lighter line leaves none of the lines before.
  lightest-none : (b w : ℕ) (us : List (List ℕ)) → w < b → AllByRecursion (λ x. b ≤ x) (map weight-of us) → lightest c (Some w) us ≡ []
  lightest-none b w us l h = ap (map (λ u. entry w (leader c u))) (kept_by_none (λ u. eqb (weight-of u) w) us (go us h))
    where
      go : (us : List (List ℕ)) → AllByRecursion (λ x. b ≤ x) (map weight-of us) → AllByRecursion (λ u. eqb (weight-of u) w ≡ false) us
      go [] h = tt
      go (u ∷ us) h = (ne_eqb (weight-of u) w (λ e. omega (arith, h.0, e, l)), go us h.1)

  changed : (o : Option ℕ) (b w : ℕ) → w < b → Under o b → unchanged c o (Some w) ≡ false
  changed None b w l h = refl
  changed (Some a) b w l h = ne_eqb a w (λ e. omega arith)

  rolled_push : (slots : ℕ) (o : Option ℕ) (roll : List LeaderRecord) (us : List (List ℕ)) (v : List ℕ) (p : Option ℕ) → lesser_all o (map weight-of us) ≡ p
      → rolled slots o roll (us ++ (v ∷ [])) (lesser p (weight-of v)) ≡ booked slots p (rolled slots o roll us p) v
  rolled_push slots o roll [] v None e = ap (λ (q : Option ℕ). rolled slots q roll (v ∷ []) (Some (weight-of v))) e ∙ ap (take slots) (lightest_push (weight-of v) [] v ∙ ap (λ (t : Bool). cond t (entry (weight-of v) (leader c v) ∷ []) []) (eq-eqb (weight-of v) (weight-of v) refl))
  rolled_push slots o roll (u ∷ us) v None e = absurd (let r = (least-none o (map weight-of (u ∷ us)) e).1 in let z : ◌≡◌ {A = ℕ} (length (map weight-of (u ∷ us))) 0 = ap length r in omega arith)
  rolled_push slots o roll us v (Some b) e = go (cases_order (weight-of v) b)
    where
      under : Under o b × AllByRecursion (λ x. b ≤ x) (map weight-of us)
      under = least_under o (map weight-of us) b e

      go : (weight-of v ≡ b) ⊎ ((weight-of v < b) ⊎ (b < weight-of v)) → rolled slots o roll (us ++ (v ∷ [])) (Some (min b (weight-of v))) ≡ booked slots (Some b) (rolled slots o roll us (Some b)) v
      go (inl q) = ap (λ (m : ℕ). rolled slots o roll (us ++ (v ∷ [])) (Some m)) (let z : min b (weight-of v) ≡ b = omega arith in z)
          ∙ ap (λ (l : List LeaderRecord). take slots (cond (unchanged c o (Some b)) roll [] ++ l)) (lightest_push b us v ∙ ap (λ (t : Bool). lightest c (Some b) us ++ cond t (entry b (leader c v) ∷ []) []) (eq-eqb (weight-of v) b q))
          ∙ ap (take slots) (sym (append_assoc (cond (unchanged c o (Some b)) roll []) (lightest c (Some b) us) (entry b (leader c v) ∷ [])))
          ∙ sym (take_again slots (cond (unchanged c o (Some b)) roll [] ++ lightest c (Some b) us) (entry b (leader c v) ∷ []))
          ∙ sym (ap₂ (λ (s t : Bool). cond s (take slots (entry (weight-of v) (leader c v) ∷ [])) (cond t (take slots (rolled slots o roll us (Some b) ++ (entry b (leader c v) ∷ []))) (rolled slots o roll us (Some b)))) (le-ltb (weight-of v) b (omega arith)) (eq-eqb (weight-of v) b q))
      go (inr (inl l)) = ap (λ (m : ℕ). rolled slots o roll (us ++ (v ∷ [])) (Some m)) (let z : min b (weight-of v) ≡ weight-of v = omega arith in z)
          ∙ ap₂ (λ (t : Bool) (k : List LeaderRecord). take slots (cond t roll [] ++ k)) (changed o b (weight-of v) l under.0)
          (lightest_push (weight-of v) us v ∙ ap₂ (λ (k : List LeaderRecord) (t : Bool). k ++ cond t (entry (weight-of v) (leader c v) ∷ []) []) (lightest-none b (weight-of v) us l under.1) (eq-eqb (weight-of v) (weight-of v) refl))
          ∙ sym (ap (λ (s : Bool). cond s (take slots (entry (weight-of v) (leader c v) ∷ [])) (cond (eqb (weight-of v) b) (take slots (rolled slots o roll us (Some b) ++ (entry b (leader c v) ∷ []))) (rolled slots o roll us (Some b)))) (lt-ltb (weight-of v) b l))
      go (inr (inr l)) = ap (λ (m : ℕ). rolled slots o roll (us ++ (v ∷ [])) (Some m)) (let z : min b (weight-of v) ≡ b = omega arith in z)
          ∙ ap (λ (k : List LeaderRecord). take slots (cond (unchanged c o (Some b)) roll [] ++ k)) (lightest_push b us v ∙ ap (λ (t : Bool). lightest c (Some b) us ++ cond t (entry b (leader c v) ∷ []) []) (ne_eqb (weight-of v) b (λ q. omega arith)) ∙ append-nil (lightest c (Some b) us))
          ∙ sym (ap₂ (λ (s t : Bool). cond s (take slots (entry (weight-of v) (leader c v) ∷ [])) (cond t (take slots (rolled slots o roll us (Some b) ++ (entry b (leader c v) ∷ []))) (rolled slots o roll us (Some b)))) (le-ltb (weight-of v) b (omega arith)) (ne_eqb (weight-of v) b (λ q. omega arith)))

  newly-more : (s : Standing) (j m : ℕ) → made_in c s + m < length (next_level c s j) → newly c s j (m + 1) ≡ newly c s j m ++ cond (elsewhere c s j (get_or (next_level c s j) (made_in c s + m) [])) [] (get_or (next_level c s j) (made_in c s + m) [] ∷ [])
  newly-more s j m h =
      ap (filter (λ v. not (elsewhere c s j v))) (take_more (drop (made_in c s) (next_level c s j)) m [] (omega (arith, length-drop (made_in c s) (next_level c s j))) ∙ ap (λ (v : List ℕ). coming c s j m ++ (v ∷ [])) (get_or-drop (made_in c s) (next_level c s j) m []))
      ∙ filter-append (λ v. not (elsewhere c s j v)) (coming c s j m) (get_or (next_level c s j) (made_in c s + m) [] ∷ [])
      ∙ ap (λ (l : List (List ℕ)). newly c s j m ++ l) (one (get_or (next_level c s j) (made_in c s + m) []) (elsewhere c s j (get_or (next_level c s j) (made_in c s + m) [])))
    where
      one : (v : List ℕ) (t : Bool) → cond (not t) (v ∷ []) [] ≡ cond t [] (v ∷ [])
      one v true = refl
      one v false = refl

  module _ {negative inverse : ℕ → ℕ} (accepted : Accepted c negative inverse) (x : SearchState) (j : ℕ) (form : j < length (all_forms c)) (level : j < length x.standing.levels) (goes : GoesOn x.standing j) where
    after_is : (m : ℕ) → made_in c x.standing ≤ length (next_level c x.standing j) → best c (raise_standing c x.standing j m) ≡ lesser_all (best c x.standing) (map weight-of (newly c x.standing j m))
    after_is m h = best-raised c accepted x.standing j form level m goes h

    -- Before the first visit the roll is as it was.
    pub roll_begun : made_in c x.standing ≤ length (next_level c x.standing j) → raise_roll c x j 0 ≡ take x.slots x.roll
    unfolding raise_roll
    roll_begun h = ap (λ (p : Option ℕ). rolled x.slots (best c x.standing) x.roll [] p) (after_is 0 h) ∙ go (best c x.standing)
      where
        go : (o : Option ℕ) → rolled x.slots o x.roll [] o ≡ take x.slots x.roll
        go None = ap (take x.slots) (append-nil x.roll)
        go (Some b) = ap (λ (t : Bool). take x.slots (cond t x.roll [] ++ [])) (eq-eqb b b refl) ∙ ap (take x.slots) (append-nil x.roll)

    -- One more visit: nothing where its line is finished elsewhere, and else it is booked.
    pub roll-visited : (m : ℕ) → made_in c x.standing + m < length (next_level c x.standing j)
        → raise_roll c x j (m + 1) ≡ cond (elsewhere c x.standing j (get_or (next_level c x.standing j) (made_in c x.standing + m) [])) (raise_roll c x j m) (booked x.slots (best c (raise_standing c x.standing j m)) (raise_roll c x j m) (get_or (next_level c x.standing j) (made_in c x.standing + m) []))
    unfolding raise_roll
    roll-visited m h = go (elsewhere c x.standing j (get_or (next_level c x.standing j) (made_in c x.standing + m) [])) refl
      where
        more : newly c x.standing j (m + 1) ≡ newly c x.standing j m ++ cond (elsewhere c x.standing j (get_or (next_level c x.standing j) (made_in c x.standing + m) [])) [] (get_or (next_level c x.standing j) (made_in c x.standing + m) [] ∷ [])
        more = newly-more x.standing j m h

        within : made_in c x.standing ≤ length (next_level c x.standing j)
        within = omega arith

        at : List (List ℕ) → List LeaderRecord
        at us = rolled x.slots (best c x.standing) x.roll us (lesser_all (best c x.standing) (map weight-of us))

        is_at : (n : ℕ) → raise_roll c x j n ≡ at (newly c x.standing j n)
        is_at n = ap (λ (p : Option ℕ). rolled x.slots (best c x.standing) x.roll (newly c x.standing j n) p) (after_is n within)

        at_push : (us : List (List ℕ)) (v : List ℕ) → at (us ++ (v ∷ [])) ≡ booked x.slots (lesser_all (best c x.standing) (map weight-of us)) (at us) v
        at_push us v = ap (λ (p : Option ℕ). rolled x.slots (best c x.standing) x.roll (us ++ (v ∷ [])) p) (ap (lesser_all (best c x.standing)) (map-append weight-of us (v ∷ [])) ∙ least_push (best c x.standing) (map weight-of us) (weight-of v))
            ∙ rolled_push x.slots (best c x.standing) x.roll us v (lesser_all (best c x.standing) (map weight-of us)) refl

        go : (t : Bool) → elsewhere c x.standing j (get_or (next_level c x.standing j) (made_in c x.standing + m) []) ≡ t → raise_roll c x j (m + 1) ≡ cond t (raise_roll c x j m) (booked x.slots (best c (raise_standing c x.standing j m)) (raise_roll c x j m) (get_or (next_level c x.standing j) (made_in c x.standing + m) []))
        go true e = is_at (m + 1) ∙ ap at (more ∙ ap (λ (t : Bool). newly c x.standing j m ++ cond t [] (get_or (next_level c x.standing j) (made_in c x.standing + m) [] ∷ [])) e ∙ append-nil (newly c x.standing j m)) ∙ sym (is_at m)
        go false e = is_at (m + 1) ∙ ap at (more ∙ ap (λ (t : Bool). newly c x.standing j m ++ cond t [] (get_or (next_level c x.standing j) (made_in c x.standing + m) [] ∷ [])) e) ∙ at_push (newly c x.standing j m) (get_or (next_level c x.standing j) (made_in c x.standing + m) [])
            ∙ ap₂ (λ (p : Option ℕ) (r : List LeaderRecord). booked x.slots p r (get_or (next_level c x.standing j) (made_in c x.standing + m) [])) (sym (after_is m within)) (sym (is_at m))
