-- Some column of the range is open.
use Rattle.std.proofs.Common.{◌≡◌, Bool, List, [], ◌∷◌, cond, true, false, ◌||◌, refl, ap, ◌∙◌, rules, arith}
use Rattle.std.specs.List.{list_any}
use Rattle.std.proofs.lemmas.Iterator.{YieldsList-from_range}
use Rattle.std.proofs.lemmas.Iterator.Search.{any_from_yields_List}
use Rattle.theory.specs.Codes.{any}
use Rattle.forms.specs.Matrices.{rows_of}
use Rattle.forms.proofs.Marks.{open_at}
use Rattle.forms.proofs.columns.has_open_column.Goals as goal

or_is : (a b : Bool) → (a || b) ≡ cond a true b
or_is true b = refl
or_is false b = refl

any_is : {X : Type 0} (p : X → Bool) (xs : List X) → list_any p xs ≡ any p xs
any_is p [] = refl
any_is p (x ∷ xs) = or_is (p x) (list_any p xs) ∙ ap (cond (p x) true) (any_is p xs)

pub returns : goal.returns
returns c =
    let m = c.args.matrix.now in
    let test = open_at (rows_of m.k m.n m.codes.now) c.args.marks.now in
    record { value = any_from_yields_List test _ _ c.any.result c.any.ensures.ran (YieldsList-from_range 0 m.n m.n refl (omega arith)) (λ x b q k. search rules) ∙ any_is test _ }
