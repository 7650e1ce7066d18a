-- The row found in scratch is the first dependent row, and what lies behind the part used is as it was.
use Rattle.std.proofs.Common.{◌≡◌, ◌*◌, ◌≤◌, ◌++◌, false, true, List, ℕ, length, drop, subst, arith, rules, length-append, length-drop}
use Rattle.std.proofs.lemmas.Slice.{drop-append-drop}
use Rattle.std.proofs.lemmas.Bool.{false≢true}
use Rattle.forms.specs.Matrices.{rows_of}
use Rattle.forms.specs.Elimination.{FirstDependentOr}
use Rattle.forms.proofs.TestedMatrix.{first-dependent-is}
use Rattle.forms.proofs.generator.CodeMatrix.dependent_row.Goals as goal

pub returns-clause-value : goal.returns-clause-value
returns-clause-value g c =
    let m = c.args.self.now.matrix in
    let f = g.F.Field.meaning c.args.self.now.field.now in
    let r = c.first_dependent.result in
    first-dependent-is f m.k m.n m.codes.now r (subst (λ codes. FirstDependentOr f m.n (rows_of m.k m.n codes) r) c.copy_from_slice.ensures.after c.first_dependent.ensures.value)

pub returns-clause-scratch : goal.returns-clause-scratch
returns-clause-scratch g c = scratch-kept _ _ _ (search rules) (search rules)
  where
    scratch-kept : (size : ℕ) (scratch next : List ℕ) → 2 * size ≤ length scratch → length next ≡ size → (length (next ++ drop size scratch) ≡ length scratch) × (drop (2 * size) (next ++ drop size scratch) ≡ drop (2 * size) scratch) × (false ≡ true → next ++ drop size scratch ≡ scratch)
    scratch-kept size scratch next enough long = (
      omega (arith, length-append next (drop size scratch), length-drop size scratch),
      drop-append-drop size scratch next (2 * size) (omega arith) long,
      λ e. absurd (false≢true e),
    )
