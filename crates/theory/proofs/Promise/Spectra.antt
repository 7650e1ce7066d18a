-- What a search has counted of each weight, against what the code has.
use Rattle.std.proofs.Common.{◌≡◌, ℕ, ◌<◌, ◌≤◌, Bool, true, false, ◌&&◌, eqb, List, [], count_by, refl, arith}
use Rattle.std.specs.List.{AllByRecursion}
use Rattle.std.proofs.lemmas.Bool.{and_parts, eqb-true}
use Rattle.theory.specs.Codes.{codewords, weigh}
use Rattle.theory.specs.Standings.{LinearCode, Standing, counted, spectrum, bound, all_forms}
use Rattle.theory.specs.Facts.{Systematic, Ranked, Accepted}
use Rattle.theory.proofs.Lists.Members.{In}
use Rattle.theory.proofs.Lists.Counts.{count_by_weaker, count_by_kept, count_by_kept_all}
use Rattle.theory.proofs.Algebra.Codewords.{in-codeword}
use Rattle.theory.proofs.Promise.Bounds.{strong_by}

pub never_more : (c : LinearCode) (s : Standing) (w : ℕ) → spectrum c s w ≤ count_by (λ u. eqb (weigh c.weight u) w) (codewords c.field c.n c.rows)
unfolding spectrum
never_more c s w =
    let p : List ℕ → Bool = λ u. eqb (weigh c.weight u) w in
    let words : List (List ℕ) = codewords c.field c.n c.rows in
    omega (arith, count_by_kept (counted c s) p words, count_by_weaker (λ u. counted c s u && p u) p words (λ u i e. (and_parts (counted c s u) (p u) e).1))

module _ (c : LinearCode) {negative inverse : ℕ → ℕ} (accepted : Accepted c negative inverse) (systematic : AllByRecursion (Systematic c) (all_forms c)) (ranked : Ranked [] (all_forms c)) where
  -- What weighs less than the bound is counted.
  pub light_counted : (s : Standing) (u : List ℕ) → In u (codewords c.field c.n c.rows) → weigh c.weight u < bound c s → counted c s u ≡ true
  light_counted s u i light = go (counted c s u) refl
    where
      go : (b : Bool) → counted c s u ≡ b → b ≡ true
      go true e = refl
      go false e = absurd (omega (arith, strong_by c accepted systematic ranked s u (in-codeword c i) e))

  pub exact : (s : Standing) (w : ℕ) → w < bound c s → spectrum c s w ≡ count_by (λ u. eqb (weigh c.weight u) w) (codewords c.field c.n c.rows)
  unfolding spectrum
  exact s w low = count_by_kept_all (λ u. eqb (weigh c.weight u) w) (counted c s) (codewords c.field c.n c.rows) (λ u i e. light_counted s u i (omega (arith, eqb-true (weigh c.weight u) w e)))
