-- After the making only the zero word is counted: the spectrum, the best, the line count and the roll are those of an empty search.
use Rattle.std.proofs.Common.{◌≡◌, ℕ, zero, suc, ◌≤◌, Bool, true, false, cond, not, ◌&&◌, eqb, leb, List, [], ◌∷◌, map, length, get_or, replicate, Some, None, count_by, Option, sym, refl, ap, ◌∙◌, subst, ⊎_elim, arith}
use lib.ListN.{length-map}
use Rattle.std.specs.List.{AllByRecursion}
use Rattle.std.proofs.ByRecursion.{All-weaker}
use Rattle.std.proofs.lemmas.List.Sums.{sum_by-cons}
use Rattle.std.proofs.lemmas.Bool.{both_ways, or_cases, or_left, leb-true, eqb-true, not-false}
use Rattle.theory.specs.Meanings.{FieldLaws}
use Rattle.theory.specs.Codes.{same, combination, codewords, is_zero, weigh, line_weight}
use Rattle.theory.specs.Forms.{GeneratorForm}
use Rattle.theory.specs.Standings.{LinearCode, message_weight, finished, counted, counted_leaders, spectrum, best, line_count, all_forms}
use Rattle.theory.specs.Promises.{Codeword}
use Rattle.theory.specs.Facts.{Systematic, Accepted}
use Rattle.theory.specs.Calls.{start}
use Rattle.theory.proofs.Lists.Truths.{same_truth, eqb_comm}
use Rattle.theory.proofs.Lists.Tests.{decides_same}
use Rattle.theory.proofs.Lists.Zeros.{is_zero-replicate, is_zero_decides, zeros_from}
use Rattle.theory.proofs.Lists.Counts.{count_by-zero, count_by_kept, count_by_all, count_by-none}
use Rattle.theory.proofs.Algebra.Combinations.{rows_from, combination-zero}
use Rattle.theory.proofs.Algebra.Codewords.{codeword-zero, codewords_are}
use Rattle.theory.proofs.Algebra.Series.{forms_systematic}
use Rattle.theory.proofs.Lines.Lines.{leads_nonzero}
use Rattle.theory.proofs.Promise.CountedLeaders.{CountedLeader, best-at, codeword-length}
use Rattle.theory.proofs.Promise.Rolls.{HoldsAt, Holds}

module _ (c : LinearCode) {negative inverse : ℕ → ℕ} (laws : FieldLaws c.field negative inverse) where
  -- A codeword of message weight 0 in some form is 0.
  light_zero : (j : GeneratorForm) → Systematic c j → (u : List ℕ) → Codeword c u → message_weight j u ≤ 0 → is_zero u ≡ true
  light_zero j sys u w e = ap is_zero (sys.generates u w ∙ ap (λ m. combination c.field c.n m j.rows) (zeros_from _ none ∙ ap (λ k. replicate k 0) long) ∙ combination-zero laws (rows_from c.field c.n j.rows sys.row_matrix)) ∙ is_zero-replicate c.n
    where
      none : AllByRecursion (λ a. a ≡ 0) (map (λ p. get_or u p 0) j.positions)
      none = count_by-zero (λ p. not (eqb (get_or u p 0) 0)) (λ p. get_or u p 0) 0 j.positions (λ p q. eqb-true _ 0 (not-false _ q)) e

      long : length (map (λ p. get_or u p 0) j.positions) ≡ length j.rows
      long = length-map j.positions (λ p. get_or u p 0) ∙ sys.size ∙ sym sys.row_count

  unstarted : (js : List GeneratorForm) → AllByRecursion (Systematic c) js → (u : List ℕ) → Codeword c u → finished js (replicate (length js) 0) u ≡ true → is_zero u ≡ true
  unstarted [] sys u w e = absurd (both_ways false refl e)
  unstarted (j ∷ js) sys u w e = go (unstarted js sys.1 u w) (leb (message_weight j u) 0) refl e
    where
      go : (finished js (replicate (length js) 0) u ≡ true → is_zero u ≡ true) → (b : Bool) → leb (message_weight j u) 0 ≡ b → cond b true (finished js (replicate (length js) 0) u) ≡ true → is_zero u ≡ true
      go rec true q e = light_zero j sys.0 u w (leb-true _ 0 q)
      go rec false q e = rec e

  module _ (systematic : AllByRecursion (Systematic c) (all_forms c)) (slots : ℕ) where
    pub start-zero : (u : List ℕ) → Codeword c u → counted c (start c slots).standing u ≡ true → is_zero u ≡ true
    unfolding counted
    start-zero u w e = ⊎_elim (λ z. z) (λ r. ⊎_elim (unstarted (all_forms c) systematic u w) (λ e. absurd (both_ways false refl e)) (or_cases (finished (all_forms c) (replicate (length (all_forms c)) 0) u) false r)) (or_cases (is_zero u) _ e)

    start_none : (u : List ℕ) → CountedLeader c (start c slots).standing u → ⊥
    start_none u l = both_ways (is_zero u) (leads_nonzero u l.leading) (start-zero u l.codeword l.counts)

    pub start-holds : Holds c (start c slots).standing slots []
    start-holds = go (best c (start c slots).standing) refl
      where
        go : (o : Option ℕ) → best c (start c slots).standing ≡ o → HoldsAt c (start c slots).standing slots [] o
        go None e = refl
        go (Some b) e = let r = best-at c (start c slots).standing b e in absurd (start_none r.0 r.1)

module _ (c : LinearCode) {negative inverse : ℕ → ℕ} (accepted : Accepted c negative inverse) (slots : ℕ) where
  -- After the making there is no best, and no line is counted.
  pub best-start : best c (start c slots).standing ≡ None
  best-start = go (best c (start c slots).standing) refl
    where
      go : (o : Option ℕ) → best c (start c slots).standing ≡ o → best c (start c slots).standing ≡ None
      go None e = e
      go (Some b) e = let r = best-at c (start c slots).standing b e in absurd (both_ways (is_zero r.0) (leads_nonzero r.0 r.1.leading) (start-zero c accepted.field_laws (forms_systematic c accepted) slots r.0 r.1.codeword r.1.counts))

  pub line_count-start : line_count c (start c slots).standing ≡ 0
  unfolding line_count
  line_count-start = ap (λ (o : Option ℕ). elim o [ None ↦ 0 | Some b ↦ count_by (λ u. eqb (line_weight c.field c.weight u) b) (counted_leaders c (start c slots).standing) ]) best-start

  -- The counted words are the zero word alone.
  counted-zero : (u : List ℕ) → Codeword c u → counted c (start c slots).standing u ≡ same (replicate c.n 0) u
  unfolding counted
  counted-zero u w = same_truth _ _
      (λ e. (decides_same (replicate c.n 0) u).1 (sym ((is_zero_decides u).0 (start-zero c accepted.field_laws (forms_systematic c accepted) slots u w e) ∙ ap (λ (m : ℕ). replicate m 0) (codeword-length c accepted u w))))
      (λ e. or_left (is_zero u) _ (subst (λ (v : List ℕ). is_zero v ≡ true) ((decides_same (replicate c.n 0) u).0 e) (is_zero-replicate c.n)))

  weigh_zeros : (n : ℕ) → weigh c.weight (replicate n 0) ≡ 0
  weigh_zeros zero = refl
  weigh_zeros (suc n) = sum_by-cons c.weight.of 0 (replicate n 0) ∙ omega (arith, accepted.weight_laws.zero, weigh_zeros n)

  -- After the making the spectrum is 1 at weight 0, for the zero word, and 0 elsewhere.
  pub spectrum-start : (w : ℕ) → spectrum c (start c slots).standing w ≡ cond (eqb w 0) 1 0
  unfolding spectrum
  spectrum-start w = count_by_kept (counted c (start c slots).standing) (λ u. eqb (weigh c.weight u) w) words
      ∙ count_by_all _ (λ u. eqb w 0 && same (replicate c.n 0) u) words (All-weaker (Codeword c) _ (λ u h. at u h) words (codewords_are c accepted).only)
      ∙ go (eqb w 0)
    where
      words : List (List ℕ)
      words = codewords c.field c.n c.rows

      none : (a b : Bool) → (false && a) ≡ (b && false)
      none a true = refl
      none a false = refl

      both : (a : Bool) → (true && a) ≡ (a && true)
      both true = refl
      both false = refl

      by : (u : List ℕ) (b : Bool) → same (replicate c.n 0) u ≡ b → (b && eqb (weigh c.weight u) w) ≡ (eqb w 0 && b)
      by u true e = both (eqb (weigh c.weight u) w) ∙ ap (λ (m : ℕ). eqb m w && true) (ap (weigh c.weight) (sym ((decides_same (replicate c.n 0) u).0 e)) ∙ weigh_zeros c.n) ∙ ap (λ (b : Bool). b && true) (eqb_comm 0 w)
      by u false e = none (eqb (weigh c.weight u) w) (eqb w 0)

      at : (u : List ℕ) → Codeword c u → (counted c (start c slots).standing u && eqb (weigh c.weight u) w) ≡ (eqb w 0 && same (replicate c.n 0) u)
      at u h = ap (λ (b : Bool). b && eqb (weigh c.weight u) w) (counted-zero u h) ∙ by u (same (replicate c.n 0) u) refl

      go : (b : Bool) → count_by (λ u. b && same (replicate c.n 0) u) words ≡ cond b 1 0
      go true = (codewords_are c accepted).once (replicate c.n 0) (codeword-zero c accepted)
      go false = count_by-none _ words (λ u. refl)
