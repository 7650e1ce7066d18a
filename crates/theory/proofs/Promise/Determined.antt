-- What settles an answer: the code and the levels; and what settles a field: its values below the order.
use Rattle.std.proofs.Common.{◌≡◌, ℕ, ◌*◌, ◌<◌, cond, ltb, leb, List, [], None, Option, sym, ap, ◌∙◌, ap₂, ⊎_elim, arith}
use mathlib.Core.Path.{fun_ext}
use Rattle.std.proofs.lemmas.Bool.{cases_lt}
use Rattle.theory.specs.Meanings.{FieldMeaning, FieldLaws, read, WeightMeaning, WeightLaws}
use Rattle.theory.specs.Standings.{LinearCode, Standing, spectrum, best, bound, counted, line_count}
use Rattle.theory.specs.Promises.{SearchState}
use Rattle.theory.specs.Calls.{raise, look, ask, answer, ledger, looked, told, refused, raise_standing}
use Rattle.theory.proofs.Algebra.Scalars.{read_low}

-- The standing with these levels and none open.
abbrev pub settled : List ℕ → Standing
settled levels = record { levels = levels; opened = None; made = 0 }

-- With no level open, the visits made do not matter.
pub ledger_settled : (c : LinearCode) (s : Standing) → s.opened ≡ None → ledger c s ≡ ledger c (settled s.levels)
unfolding bound line_count best counted
ledger_settled c s e = ap (λ (o : Option ℕ). ledger c (record { levels = s.levels; opened = o; made = s.made })) e

pub spectrum_settled : (c : LinearCode) (s : Standing) (w : ℕ) → s.opened ≡ None → spectrum c s w ≡ spectrum c (settled s.levels) w
unfolding spectrum counted
spectrum_settled c s w e = ap (λ (o : Option ℕ). spectrum c (record { levels = s.levels; opened = o; made = s.made }) w) e

-- The search with a standing, and no roll.
abbrev unrolled : Standing → SearchState
unrolled s = record { standing = s; slots = 0; roll = [] }

raise_settled : (c : LinearCode) (s : Standing) (j budget : ℕ) → s.opened ≡ None → answer c (unrolled s) (raise j budget) ≡ answer c (unrolled (settled s.levels)) (raise j budget)
unfolding answer
raise_settled c s j budget e = ap (λ (o : Option ℕ). answer c (unrolled (record { levels = s.levels; opened = o; made = s.made })) (raise j budget)) e

standing_settled : (c : LinearCode) (s : Standing) (j budget : ℕ) → s.opened ≡ None → raise_standing c s j budget ≡ raise_standing c (settled s.levels) j budget
unfolding raise_standing
standing_settled c s j budget e = ap (λ (o : Option ℕ). raise_standing c (record { levels = s.levels; opened = o; made = s.made }) j budget) e

module _ (c d : LinearCode) (codes : c ≡ d) (x y : SearchState) (levels : x.standing.levels ≡ y.standing.levels) (x-none : x.standing.opened ≡ None) (y-none : y.standing.opened ≡ None) where
  -- Equal codes at equal levels, none open, are told alike.
  pub same-look : answer c x look ≡ answer d y look
  unfolding answer
  same-look = ap looked (ledger_settled c x.standing x-none ∙ ap₂ (λ (e : LinearCode) (ts : List ℕ). ledger e (settled ts)) codes levels ∙ sym (ledger_settled d y.standing y-none))

  pub same-ask : (w : ℕ) → answer c x (ask w) ≡ answer d y (ask w)
  unfolding answer
  same-ask w = ap₂ (λ (e : LinearCode) (n : ℕ). cond (leb w (e.n * e.weight.top)) (told n) (refused 31 0)) codes (spectrum_settled c x.standing w x-none ∙ ap₂ (λ (e : LinearCode) (ts : List ℕ). spectrum e (settled ts) w) codes levels ∙ sym (spectrum_settled d y.standing w y-none))

  -- So is a raise, and it leaves equal standings.
  pub same-raise : (j budget : ℕ) → answer c x (raise j budget) ≡ answer d y (raise j budget)
  unfolding answer
  same-raise j budget = raise_settled c x.standing j budget x-none ∙ ap₂ (λ (e : LinearCode) (ts : List ℕ). answer e (unrolled (settled ts)) (raise j budget)) codes levels ∙ sym (raise_settled d y.standing j budget y-none)

  pub same-raised : (j budget : ℕ) → raise_standing c x.standing j budget ≡ raise_standing d y.standing j budget
  same-raised j budget = standing_settled c x.standing j budget x-none ∙ ap₂ (λ (e : LinearCode) (ts : List ℕ). raise_standing e (settled ts) j budget) codes levels ∙ sym (standing_settled d y.standing j budget y-none)

module _ (f g : FieldMeaning) (n i m j : ℕ → ℕ) (f-laws : FieldLaws f n i) (g-laws : FieldLaws g m j) (orders : f.order ≡ g.order) where
  same_read : (a : ℕ) → read f a ≡ read g a
  same_read a = ap (λ q. cond (ltb a q) a 0) orders

  -- Fields that agree below the order are equal.
  pub same-field : ((a b : ℕ) → a < f.order → b < f.order → f.sum a b ≡ g.sum a b) → ((a b : ℕ) → a < f.order → b < f.order → f.product a b ≡ g.product a b) → f ≡ g
  same-field sums products = λ k. record { order = orders k; sum = same_sum k; product = same-product k }
    where
      same_sum : f.sum ≡ g.sum
      same_sum = fun_ext (λ a. fun_ext (λ b. f-laws.sum_reads a b ∙ sums (read f a) (read f b) (read_low f-laws a) (read_low f-laws b) ∙ ap₂ g.sum (same_read a) (same_read b) ∙ sym (g-laws.sum_reads a b)))

      same-product : f.product ≡ g.product
      same-product = fun_ext (λ a. fun_ext (λ b. f-laws.product_reads a b ∙ products (read f a) (read f b) (read_low f-laws a) (read_low f-laws b) ∙ ap₂ g.product (same_read a) (same_read b) ∙ sym (g-laws.product_reads a b)))

-- Symbol weights that agree below the order are equal.
pub same-weight : (v w : WeightMeaning) → WeightLaws v → WeightLaws w → v.order ≡ w.order → v.top ≡ w.top → ((a : ℕ) → a < v.order → v.of a ≡ w.of a) → v ≡ w
same-weight v w v-laws w-laws orders tops h = λ k. record { order = orders k; top = tops k; of = same_of k }
  where
    same_of : v.of ≡ w.of
    same_of = fun_ext (λ a. ⊎_elim (h a) (λ past. v-laws.beyond a past ∙ sym (w-laws.beyond a (omega arith))) (cases_lt a v.order))

pub same_code : (c d : LinearCode) → c.field ≡ d.field → c.weight ≡ d.weight → c.n ≡ d.n → c.rows ≡ d.rows → c ≡ d
same_code c d f w n r = λ k. record { field = f k; weight = w k; n = n k; rows = r k }
