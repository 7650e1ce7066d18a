-- A roll with room for all the lines of best weight has exactly those of the code, once these are all counted.
use Rattle.std.proofs.Common.{◌≡◌, ℕ, ◌≤◌, true, T, eqb, List, [], map, length, get_or, Some, sym, refl, ap, ◌∙◌, subst, arith}
use Rattle.std.proofs.lemmas.List.{take_all, length-map}
use Rattle.std.proofs.lemmas.Bool.{eq-eqb}
use Rattle.theory.specs.Codes.{same, leads, line_weight}
use Rattle.theory.specs.Standings.{LinearCode, Standing, counted, counted_leaders, best, line_count}
use Rattle.theory.specs.Promises.{Codeword, LeaderRecord, ExactlyTheLines}
use Rattle.theory.proofs.Lists.Truths.{T_true, true_T}
use Rattle.theory.proofs.Lists.Members.{In, in_map, of_map, in-get_or, place_of}
use Rattle.theory.proofs.Lists.Distinct.{distinct-map, distinct_places}
use Rattle.theory.proofs.Lists.Counts.{same_compares, length-le-count_by}
use Rattle.theory.proofs.Promise.CountedLeaders.{leader-in, line_count-at}
use Rattle.theory.proofs.Promise.Rolls.{entry, LeadersOf, HoldsAt, Holds}

abbrev nobody : LeaderRecord
nobody = record { word = []; weight = 0 }

module _ (c : LinearCode) (s : Standing) (b : ℕ) where
  pub leaders_length : best c s ≡ Some b → (us : List (List ℕ)) → LeadersOf c s b us → length us ≤ line_count c s
  leaders_length e us h = omega (arith, line_count-at c s b e, length-le-count_by same same_compares us (λ u. eqb (line_weight c.field c.weight u) b) (counted_leaders c s) h.distinct (λ u i. (leader-in c s u (h.counts u i).0, eq-eqb _ b (h.counts u i).1)))

  pub exactly : ((u : List ℕ) → Codeword c u → line_weight c.field c.weight u ≡ b → counted c s u ≡ true) → (us : List (List ℕ)) → LeadersOf c s b us → ExactlyTheLines c b (map (entry b) us)
  exactly all us h = record {
    each = λ u w t e. ∣ place_of (entry b u) (map (entry b) us) nobody (in_map (entry b) u us (h.every u (record { codeword = w; leading = T_true (leads u) t; counts = all u w e }) e)) ∣₁;
    only = λ i l. only_at (get_or (map (entry b) us) i nobody) (of_map (entry b) _ us (in-get_or (map (entry b) us) i nobody l));
    once = λ i j li lj e. distinct_places (map (entry b) us) (distinct-map (entry b) us h.distinct (λ u v i j q. ap (λ (l : LeaderRecord). l.word) q)) i j nobody li lj e;
  }
    where
      only_at : (l : LeaderRecord) → ((u : List ℕ) × In u us × (entry b u ≡ l)) → Codeword c l.word × T (leads l.word) × (line_weight c.field c.weight l.word ≡ b) × (l.weight ≡ b)
      only_at l r =
          let k = h.counts r.0 r.1 in
          subst (λ (m : LeaderRecord). Codeword c m.word × T (leads m.word) × (line_weight c.field c.weight m.word ≡ b) × (m.weight ≡ b)) r.2 (k.0.codeword, true_T (leads r.0) k.0.leading, k.1, refl)

  pub holds_exactly : (slots : ℕ) (roll : List LeaderRecord) → best c s ≡ Some b → ((u : List ℕ) → Codeword c u → line_weight c.field c.weight u ≡ b → counted c s u ≡ true) → line_count c s ≤ slots → Holds c s slots roll → ExactlyTheLines c b roll
  holds_exactly slots roll e all room h =
      let k : HoldsAt c s slots roll (Some b) = subst (HoldsAt c s slots roll) e h in
      subst (ExactlyTheLines c b) (sym (k.2 ∙ take_all slots (map (entry b) k.0) (omega (arith, length-map k.0 (entry b), leaders_length e k.0 k.1)))) (exactly all k.0 k.1)
