-- What a raise does to the counted lines: the leaders of the lines newly counted join them, each once; from how often it visits a line as a new one.
use Rattle.std.proofs.Common.{◌≡◌, ℕ, ◌+◌, ◌<◌, Bool, true, false, cond, List, [], map, length, get_or, None, count_by, sym, ap, ◌∙◌, subst, inl, inr, ⊎_elim, arith}
use lib.ListN.{length-map}
use Rattle.std.proofs.lemmas.List.{get_or-map}
use Rattle.std.proofs.lemmas.Bool.{cases_Bool}
use Rattle.theory.specs.Codes.{on_line, is_zero, leads}
use Rattle.theory.specs.Forms.{GeneratorForm}
use Rattle.theory.specs.Standings.{LinearCode, Standing, no_form, all_forms, counted, level_of, next_level}
use Rattle.theory.specs.Promises.{Codeword}
use Rattle.theory.specs.Facts.{Accepted}
use Rattle.theory.specs.Calls.{made_in, coming, raise_standing, newly, leader, refuse_raise}
use Rattle.theory.specs.Steps.{Valid}
use Rattle.theory.proofs.Lists.Truths.{bit_few, bit_some}
use Rattle.theory.proofs.Lists.Members.{In, in-get_or, in_map, of_map, of_kept, of-take, of-drop, all_in}
use Rattle.theory.proofs.Lists.Distinct.{Distinct, distinct-from_places}
use Rattle.theory.proofs.Lists.Counts.{count_by-some, some-count_by}
use Rattle.theory.proofs.Lists.Once.{one_place}
use Rattle.theory.proofs.Algebra.Series.{form-is_systematic}
use Rattle.theory.proofs.Lines.Lines.{Line, line-sym, line_trans, line-codes, one_leader}
use Rattle.theory.proofs.Lines.LineWeights.{codeword-codes, codeword-line, leader-is}
use Rattle.theory.proofs.Lines.LineTests.{decides_line}
use Rattle.theory.proofs.Lines.Finished.{nonzero_message}
use Rattle.theory.proofs.Lines.Meetings.{level_words}
use Rattle.theory.proofs.Lines.Raises.{counted-raised}
use Rattle.theory.proofs.Promise.CountedLeaders.{CountedLeader}
use Rattle.theory.proofs.Promise.Rolls.{Gains}
use Rattle.theory.proofs.Promise.Valid.{raise-fits, raise_goes_on}

module _ (c : LinearCode) {negative inverse : ℕ → ℕ} (accepted : Accepted c negative inverse) (s : Standing) (j budget : ℕ) (valid : Valid c s) (accepts : refuse_raise c s j budget ≡ None) where
  abbrev raised : Standing
  raised = raise_standing c s j budget

  abbrev new : List (List ℕ)
  new = newly c s j budget

  abbrev raised-form : GeneratorForm
  raised-form = get_or (all_forms c) j no_form

  in-forms : j < length (all_forms c)
  in-forms = (raise-fits c s j budget valid accepts).0

  -- How often the line of a codeword is visited as a new one.
  tally : (u : List ℕ) → Codeword c u → cond (counted c raised u) 1 0 ≡ cond (counted c s u) 1 0 + count_by (on_line c.field u) new
  tally u w = counted-raised c accepted s j in-forms (omega (arith, in-forms, valid.sizes)) budget (raise_goes_on c s j budget accepts) (raise-fits c s j budget valid accepts).2 u w

  new_codeword : (v : List ℕ) → In v new → Codeword c v × (is_zero v ≡ false)
  new_codeword v i =
      let r = all_in _ (next_level c s j) (level_words c accepted raised-form (form-is_systematic c accepted j in-forms) (level_of c s j + 1)) v (of-drop v (made_in c s) (next_level c s j) (of-take v budget _ (of_kept _ v (coming c s j budget) i).0)) in
      (r.0, nonzero_message raised-form v (omega (arith, r.1)))

  new_leader : (v : List ℕ) → In v new → Line c.field v (leader c v) × (leads (leader c v) ≡ true)
  new_leader v i = leader-is c accepted.field_laws v (codeword-codes c accepted.field_laws v (new_codeword v i).0) (new_codeword v i).1

  leader-codeword : (v : List ℕ) → In v new → Codeword c (leader c v)
  leader-codeword v i = codeword-line c accepted.field_laws v (leader c v) (new_codeword v i).0 (new_leader v i).0

  on_leader : (v : List ℕ) → In v new → on_line c.field (leader c v) v ≡ true
  on_leader v i = (decides_line accepted.field_laws (leader c v) v).1 (new_leader v i).0

  -- The leader on the line of a new word is that word's leader.
  leader-of : (v u : List ℕ) → In v new → on_line c.field u v ≡ true → leads u ≡ true → leader c v ≡ u
  leader-of v u i on e =
      let laws = accepted.field_laws in
      let r = new_leader v i in
      let l : Line c.field v u = (decides_line laws u v).0 on in
      one_leader laws (leader c v) u (line-codes laws v (leader c v) r.0) (line_trans laws (leader c v) v u (line-sym laws v (leader c v) (codeword-codes c laws v (new_codeword v i).0) r.0) l) r.1 e

  -- A new leader is of a codeword, and its line is visited as a new one.
  new_parts : (u : List ℕ) → In u (map (leader c) new) → Codeword c u × (leads u ≡ true) × (0 < count_by (on_line c.field u) new)
  new_parts u i =
      let r = of_map (leader c) u new i in
      subst (λ (w : List ℕ). Codeword c w × (leads w ≡ true) × (0 < count_by (on_line c.field w) new)) r.2
      (leader-codeword r.0 r.1, (new_leader r.0 r.1).1, count_by-some (on_line c.field (leader c r.0)) r.0 new r.1 (on_leader r.0 r.1))

  counts_one : (x : Standing) (u : List ℕ) → CountedLeader c x u → ◌≡◌ {A = ℕ} (cond (counted c x u) 1 0) 1
  counts_one x u l = ap {B = ℕ} (λ (b : Bool). cond b 1 0) l.counts

  -- Two new words with one leader stand at one place, since the line is visited once.
  leaders_once : Distinct (map (leader c) new)
  leaders_once = distinct-from_places (map (leader c) new) [] (λ a b la lb e.
      let ia : a < length new = subst (λ (n : ℕ). a < n) (length-map new (leader c)) la in
      let ib : b < length new = subst (λ (n : ℕ). b < n) (length-map new (leader c)) lb in
      let va : In (get_or new a []) new = in-get_or new a [] ia in
      let vb : In (get_or new b []) new = in-get_or new b [] ib in
      let u : List ℕ = leader c (get_or new a []) in
      let q : leader c (get_or new b []) ≡ u = sym (get_or-map (leader c) new b [] [] ib) ∙ sym e ∙ get_or-map (leader c) new a [] [] ia in
      let some : 0 < count_by (on_line c.field u) new = count_by-some (on_line c.field u) (get_or new a []) new va (on_leader (get_or new a []) va) in
      let one : count_by (on_line c.field u) new ≡ 1 = omega (arith, some, tally u (leader-codeword (get_or new a []) va), bit_few (counted c raised u)) in
      let p = one_place (on_line c.field u) [] new one in
      p.1.2 a ia (on_leader (get_or new a []) va) ∙ sym (p.1.2 b ib (subst (λ (w : List ℕ). on_line c.field w (get_or new b []) ≡ true) q (on_leader (get_or new b []) vb))))

  new_joins : (u : List ℕ) → CountedLeader c raised u → counted c s u ≡ false → In u (map (leader c) new)
  new_joins u l e =
      let r = some-count_by (on_line c.field u) new (omega (arith, tally u l.codeword, counts_one raised u l, ap {B = ℕ} (λ (b : Bool). cond b 1 0) e)) in
      subst (λ (w : List ℕ). In w (map (leader c) new)) (leader-of r.0 u r.1 r.2 l.leading) (in_map (leader c) r.0 new r.1)

  pub raise_gains : Gains c s raised new
  raise_gains = record {
    distinct = leaders_once;
    fresh = λ u i l. omega (arith, (new_parts u i).2, tally u l.codeword, counts_one s u l, bit_few (counted c raised u));
    comes = λ u i. (let n = new_parts u i in record { codeword = n.0; leading = n.1; counts = bit_some (counted c raised u) (omega (arith, n.2, tally u n.0)) });
    stays = λ u l. record { codeword = l.codeword; leading = l.leading; counts = bit_some (counted c raised u) (omega (arith, tally u l.codeword, counts_one s u l)) };
    only = λ u l. ⊎_elim (λ e. inl (record { codeword = l.codeword; leading = l.leading; counts = e })) (λ e. inr (new_joins u l e)) (cases_Bool (counted c s u));
  }
