-- Whether a word is counted is a matter of its line, and at a full level each word is.
use Rattle.std.proofs.Common.{◌≡◌, ℕ, ◌≤◌, Bool, true, false, cond, not, ◌||◌, eqb, leb, List, [], ◌∷◌, length, get_or, sym, refl, ap, subst, ap₂, arith}
use Rattle.std.specs.List.{AllByRecursion}
use Rattle.std.proofs.lemmas.List.Sums.{count_by-le-length}
use Rattle.std.proofs.lemmas.Bool.{both_ways, eqb-true, le-leb, or_left, or_right}
use Rattle.theory.specs.Meanings.{FieldMeaning, FieldLaws}
use Rattle.theory.specs.Codes.{any, same, is_zero, multiples, on_line}
use Rattle.theory.specs.Forms.{GeneratorForm}
use Rattle.theory.specs.Standings.{LinearCode, Standing, message_weight, finished, open_visits, counted, reads_full, all_forms}
use Rattle.theory.specs.Facts.{Systematic}
use Rattle.theory.proofs.Lists.Truths.{same_truth}
use Rattle.theory.proofs.Algebra.Multiples.{CodesOf}
use Rattle.theory.proofs.Lists.Members.{In}
use Rattle.theory.proofs.Lists.Tests.{of-any, any-in}
use Rattle.theory.proofs.Lists.Counts.{same_compares, count_by-same}
use Rattle.theory.proofs.Lines.Lines.{Line, line-sym, line_trans, line-is_zero, line_symbol, in-multiples, multiples-in}

module _ {f : FieldMeaning} {negative inverse : ℕ → ℕ} (laws : FieldLaws f negative inverse) where
  pub message_weight-line : (j : GeneratorForm) (u v : List ℕ) → CodesOf f u → Line f u v → message_weight j v ≡ message_weight j u
  message_weight-line j u v h l = count_by-same _ _ j.positions (λ p i. ap not (line_symbol laws u v p h l))

  pub finished-line : (js : List GeneratorForm) (ts : List ℕ) (u v : List ℕ) → CodesOf f u → Line f u v → finished js ts v ≡ finished js ts u
  finished-line [] ts u v h l = refl
  finished-line (j ∷ js) [] u v h l = refl
  finished-line (j ∷ js) (t ∷ ts) u v h l = ap₂ (λ m r. cond (leb m t) true r) (message_weight-line j u v h l) (finished-line js ts u v h l)

  -- u stands on the line of some word of the list.
  pub on_lines : (u : List ℕ) (vs : List (List ℕ)) → any (on_line f u) vs ≡ true → (v : List ℕ) × In v vs × Line f v u
  on_lines u vs e =
      let r = of-any (on_line f u) vs e in
      let m = of-any (same u) (multiples f r.0) r.2 in
      (r.0, r.1, subst (Line f r.0) (sym (same_compares.equal u m.0 m.2)) (multiples-in laws r.0 m.0 m.1))

  pub lines_on : (u v : List ℕ) (vs : List (List ℕ)) → In v vs → Line f v u → any (on_line f u) vs ≡ true
  lines_on u v vs i l = any-in (on_line f u) v vs i (any-in (same u) u (multiples f v) (in-multiples laws v u l) (same_compares.same u))

  on_lines-line : (u v : List ℕ) (vs : List (List ℕ)) → Line f u v → any (on_line f u) vs ≡ true → any (on_line f v) vs ≡ true
  on_lines-line u v vs l e = let r = on_lines u vs e in lines_on v r.0 vs r.1 (line_trans laws r.0 u v r.2 l)

module _ (c : LinearCode) {negative inverse : ℕ → ℕ} (laws : FieldLaws c.field negative inverse) where
  pub counted-line : (s : Standing) (u v : List ℕ) → CodesOf c.field u → Line c.field u v → counted c s u ≡ counted c s v
  unfolding counted
  counted-line s u v h l =
      sym (ap₂ ◌||◌ (line-is_zero laws u v h l) (ap₂ ◌||◌ (finished-line laws (all_forms c) s.levels u v h l) (same_truth _ _
      (on_lines-line laws v u (open_visits c s) (line-sym laws u v h l))
      (on_lines-line laws u v (open_visits c s) l))))

module _ (c : LinearCode) where
  full_finished : (u : List ℕ) (js : List GeneratorForm) (ts : List ℕ) → AllByRecursion (Systematic c) js → length ts ≡ length js → any (λ t. eqb t (length c.rows)) ts ≡ true → finished js ts u ≡ true
  full_finished u [] [] sys e full = absurd (both_ways false refl full)
  full_finished u [] (t ∷ ts) sys e full = absurd (omega arith)
  full_finished u (j ∷ js) [] sys e full = absurd (omega arith)
  full_finished u (j ∷ js) (t ∷ ts) sys e full = go (full_finished u js ts sys.1 (omega arith)) (eqb t (length c.rows)) refl full
    where
      light : message_weight j u ≤ length c.rows
      light = omega (arith, count_by-le-length (λ p. not (eqb (get_or u p 0) 0)) j.positions, sys.0.size)

      skip : (b r : Bool) → r ≡ true → cond b true r ≡ true
      skip true r e = refl
      skip false r e = e

      go : (any (λ t. eqb t (length c.rows)) ts ≡ true → finished js ts u ≡ true) → (b : Bool) → eqb t (length c.rows) ≡ b → cond b true (any (λ t. eqb t (length c.rows)) ts) ≡ true → cond (leb (message_weight j u) t) true (finished js ts u) ≡ true
      go rec true q full = ap (λ b. cond b true (finished js ts u)) (le-leb (message_weight j u) t (omega (arith, light, eqb-true t (length c.rows) q)))
      go rec false q full = skip (leb (message_weight j u) t) (finished js ts u) (rec full)

  -- At a full level every word is counted.
  pub full_counted : AllByRecursion (Systematic c) (all_forms c) → (s : Standing) → length s.levels ≡ length (all_forms c) → reads_full c s ≡ true → (u : List ℕ) → counted c s u ≡ true
  unfolding counted
  full_counted sys s sizes full u = or_right (is_zero u) _ (or_left (finished (all_forms c) s.levels u) _ (full_finished u (all_forms c) s.levels sys sizes full))
