-- The multiple by the inverse of the first nonzero symbol is the leader.
use Rattle.std.proofs.Common.{◌≡◌, ℕ, ◌<◌, Bool, true, false, cond, not, ◌&&◌, T, eqb, List, [], ◌∷◌, sym, refl, ap, ◌∙◌, subst, arith}
use Rattle.std.proofs.ByRecursion.{All-from_get_or}
use Rattle.std.proofs.lemmas.Bool.{both_ways, eqb-false, eq-eqb}
use Rattle.theory.specs.Meanings.{FieldMeaning, FieldLaws}
use Rattle.theory.specs.Codes.{times, is_zero, leads}
use Rattle.theory.specs.Standings.{LinearCode}
use Rattle.theory.specs.Promises.{Below}
use Rattle.theory.specs.Calls.{leader}
use Rattle.theory.proofs.Lists.Truths.{T_false}
use Rattle.theory.proofs.Algebra.Scalars.{product-zero_test, inverse_nonzero, inverse_left}
use Rattle.theory.proofs.Algebra.Multiples.{CodesOf}
use Rattle.theory.proofs.Lines.Lines.{Line, line-sym, line_trans, line-codes, one_leader}
use Rattle.theory.proofs.Lines.LineWeights.{leader-is}
use Rattle.lines.specs.FirstSymbols.{first_nonzero}

module _ {f : FieldMeaning} {negative inverse : ℕ → ℕ} (laws : FieldLaws f negative inverse) where
  -- the first nonzero symbol of a nonzero word is a nonzero code
  pub first-unit : (u : List ℕ) → CodesOf f u → is_zero u ≡ false → (0 < first_nonzero u) × (first_nonzero u < f.order)
  first-unit [] h z = absurd (both_ways true z refl)
  first-unit (a ∷ u) h z = go (first-unit u h.1) (eqb a 0) refl z
    where
      go : (is_zero u ≡ false → (0 < first_nonzero u) × (first_nonzero u < f.order)) → (b : Bool) → eqb a 0 ≡ b → (b && is_zero u) ≡ false → (0 < cond b (first_nonzero u) a) × (cond b (first_nonzero u) a < f.order)
      go rec true q z = rec z
      go rec false q z = (omega (arith, eqb-false a 0 q), h.0)

  -- a multiple leads where it takes the first nonzero symbol to 1
  times-leads : (c : ℕ) (u : List ℕ) → 0 < c → c < f.order → CodesOf f u → is_zero u ≡ false → f.product c (first_nonzero u) ≡ 1 → leads (times f c u) ≡ true
  times-leads c [] p k h z e = absurd (both_ways true z refl)
  times-leads c (a ∷ u) p k h z e = go (times-leads c u p k h.1) (eqb a 0) z e (eqb (f.product c a) 0) (product-zero_test laws c a p k h.0)
    where
      go : (is_zero u ≡ false → f.product c (first_nonzero u) ≡ 1 → leads (times f c u) ≡ true) → (b : Bool) → (b && is_zero u) ≡ false → f.product c (cond b (first_nonzero u) a) ≡ 1 → (d : Bool) → d ≡ b → cond d (leads (times f c u)) (eqb (f.product c a) 1) ≡ true
      go rec true z e true q = rec z e
      go rec true z e false q = absurd (both_ways true (sym q) refl)
      go rec false z e true q = absurd (both_ways false refl (sym q))
      go rec false z e false q = eq-eqb (f.product c a) 1 e

  -- the word divided by its first nonzero symbol stands on its line and leads
  pub divided_leads : (u : List ℕ) → CodesOf f u → is_zero u ≡ false → Line f u (times f (inverse (first_nonzero u)) u) × (leads (times f (inverse (first_nonzero u)) u) ≡ true)
  divided_leads u h z =
      let a = first_nonzero u in
      let unit = first-unit u h z in
      let some = inverse_nonzero laws a unit.0 unit.1 in
      let code = laws.inverse_below a unit.1 in
      ((inverse a, some, code, refl), times-leads (inverse a) u some code h z (inverse_left laws a unit.0 unit.1))

-- so it is the leader that a call names
called_leader : (c : LinearCode) {negative inverse : ℕ → ℕ} (laws : FieldLaws c.field negative inverse) (u : List ℕ) → CodesOf c.field u → is_zero u ≡ false → times c.field (inverse (first_nonzero u)) u ≡ leader c u
called_leader c {negative} {inverse} laws u h z =
    let v = times c.field (inverse (first_nonzero u)) u in
    let divided = divided_leads laws u h z in
    let called = leader-is c laws u h z in
    one_leader laws v (leader c u) (line-codes laws u v divided.0) (line_trans laws v u (leader c u) (line-sym laws u v h divided.0) called.0) divided.1 called.1

-- the same of every code over the field
pub divided_leader : {f : FieldMeaning} {negative inverse : ℕ → ℕ} (laws : FieldLaws f negative inverse) (u v : List ℕ) → v ≡ times f (inverse (first_nonzero u)) u → (c : LinearCode) → c.field ≡ f → Below c.field.order u → T (not (is_zero u)) → v ≡ leader c u
divided_leader {f} {negative} {inverse} laws u v is c e codes some =
    is ∙ ap (λ (m : FieldMeaning). times m (inverse (first_nonzero u)) u) (sym e)
    ∙ called_leader c (subst (λ (m : FieldMeaning). FieldLaws m negative inverse) (sym e) laws) u (All-from_get_or (λ a. a < c.field.order) u 0 codes) (T_false (is_zero u) some)
