-- One column more, and the end of the columns.
use Rattle.std.proofs.Common.{◌≡◌, ℕ, ◌+◌, ◌*◌, ◌<◌, Bool, true, false, List, [], ◌∷◌, ◌++◌, length, get_or, take, drop, set, sym, refl, ap, ◌∙◌, subst, ap₂, subst₂, arith}
use Rattle.std.proofs.lemmas.List.{length-take-le, take_more_set, drop_more, drop_all, drop-drop, drop-set-lt}
use Rattle.std.proofs.lemmas.Bool.{eq-eqb, cond-true}
use Rattle.theory.specs.Meanings.{FieldMeaning, FieldLaws}
use Rattle.theory.proofs.Algebra.Combinations.{Rows, rows_from}
use Rattle.theory.proofs.Algebra.RowSteps.{exchanged, rows_exchanged, same_code-refl}
use Rattle.forms.specs.declared.matrix.MatrixMut.{MatrixMut}
use Rattle.forms.specs.Shapes.{SameShape}
use Rattle.forms.specs.Matrices.{rows_of, symbol_at}
use Rattle.forms.specs.RowSteps.{Takes}
use Rattle.forms.proofs.SameShapes.{with_shape, same_shape-then}
use Rattle.forms.proofs.Flat.{has_row}
use Rattle.forms.proofs.Picking.{Picking, picking_start, picking_passes, picking_stops, picking_takes, picking_ends}
use Rattle.forms.proofs.RowLists.{length-rows, symbol_rows, exchanged_rows, pivoted_gained, pivoted_clear, eliminated}
use Rattle.forms.proofs.matrix.MatrixMut.take_columns.Goals as goal
use Rattle.forms.proofs.matrix.MatrixMut.take_columns.Goals.{then-done-self+then-take_column, else-done-self, else-done-self-via-then-done-self+else-take_column, else-done-self-via-else-done-self}

-- A place is written, and those after it are as they were.
written : (before after : List ℕ) (i x : ℕ) → drop i after ≡ drop i before → drop (i + 1) (set after i x) ≡ drop (i + 1) before
written before after i x e = drop-set-lt (i + 1) after i x (omega arith) ∙ sym (drop-drop 1 i after) ∙ ap (drop 1) e ∙ drop-drop 1 i before

-- What a column that is asked for becomes, by the answer.
module _ {f : FieldMeaning} {negative inverse : ℕ → ℕ} (laws : FieldLaws f negative inverse) (k n : ℕ) (codes : List ℕ) (R : Rows f.order n (length (rows_of k n codes)) (rows_of k n codes))
    (order now ps : List ℕ) (c : ℕ) (rest after : List ℕ) (t : Picking f n (rows_of k n codes) order (rows_of k n now) ps (c ∷ rest)) where
  passed : Takes f negative inverse k n (length ps) c false now after → Picking f n (rows_of k n codes) order (rows_of k n after) ps rest
  passed T = subst (λ x. Picking f n (rows_of k n codes) order (rows_of k n x) ps rest) (sym T.0)
      (picking_passes laws R t (λ i l h. let m : i < k = omega (arith, length-rows k n codes) in symbol_rows k n now i c m ∙ T.1 i l m))

  taken : length now ≡ k * n → length ps < k → Takes f negative inverse k n (length ps) c true now after → Picking f n (rows_of k n codes) order (rows_of k n after) (ps ++ c ∷ []) rest
  taken e h T =
      let r : ℕ = length ps in
      let p : ℕ = T.0 in
      let middle : List ℕ = T.1 in
      let here : r < length (rows_of k n now) = omega (arith, length-rows k n now) in
      let there : p < length (rows_of k n now) = omega (arith, length-rows k n now, T.2.1) in
      let exchange : rows_of k n middle ≡ exchanged (rows_of k n now) r p = exchanged_rows k n now r p middle e h T.2.1 T.3 in
      let words : Rows f.order n (length (rows_of k n middle)) (rows_of k n middle) = subst (λ x. Rows f.order n (length x) x) (sym exchange) (rows_exchanged laws t.words r p here there) in
      let first : symbol_at n middle r c ≡ symbol_at n now p c = ap (λ u. get_or u c 0) (T.3.1 r (has_row n k now r e h) ∙ cond-true _ _ _ (eq-eqb r r refl)) in
      picking_takes laws R t p T.2.0 (omega (arith, length-rows k n codes, T.2.1)) (omega (arith, symbol_rows k n now p c T.2.1, T.2.2)) exchange refl (pivoted_gained laws k n middle r c after h T.4)
      (λ i l ne. pivoted_clear laws k n middle r c after h T.4 words (omega (arith, first, T.2.2)) i (omega (arith, length-rows k n codes)) ne)

pub loop-c-init : goal.loop-c-init
loop-c-init g c =
    let field = c.args.field.now in
    let f = g.F.Field.meaning field in
    let rows : List (List ℕ) = rows_of c.args.self.now.k c.args.self.now.n c.args.self.now.codes.now in
    let R = rows_from f c.args.self.now.n rows c.requires.matrix in
    (omega arith, c.told-positions, refl {a = drop 0 c.args.positions.now}, picking_start (g.met.F.Field.lawful field) R R (same_code-refl f c.args.self.now.n rows) c.args.order.now, (refl, refl, refl))

pub loop-c-preserved : goal.loop-c-preserved
loop-c-preserved g c =
    let field = c.args.field.now in
    let f = g.F.Field.meaning field in
    let negative = g.F.Field.negation field in
    let inverse = g.F.Field.inversion field in
    let laws = g.met.F.Field.lawful field in
    let k = c.args.self.now.k in
    let n = c.args.self.now.n in
    let codes = c.args.self.now.codes.now in
    let rows : List (List ℕ) = rows_of k n codes in
    let R = rows_from f n rows c.requires.matrix in
    let order = c.args.order.now in
    let now = c.loop-c.self.codes.now in
    let done = c.loop-c.done in
    let positions = c.loop-c.positions in
    let ps : List ℕ = take done positions in
    let count : length ps ≡ done = length-take-le done positions (omega (arith, c.loop-c.invariant.0, c.loop-c.invariant.1, c.requires.shape.1)) in
    let column : ℕ = get_or order c.loop-c.c-index 0 in
    let rest : List ℕ = drop (c.loop-c.c-index + 1) order in
    let t : Picking f n rows order (rows_of k n now) ps (column ∷ rest) = subst (Picking f n rows order (rows_of k n now) ps) (drop_more order c.loop-c.c-index 0 c.loop-c-test.true) c.loop-c.invariant.3 in
    let long : length now ≡ k * n = c.loop-c.self.whole ∙ ap₂ (λ a b. a * b) c.loop-c.invariant.4.0 c.loop-c.invariant.4.1 in
    let turn : List ℕ → List ℕ → Type 0 = λ x qs. Picking f n rows order (rows_of k n x) qs rest in
    let asked : Bool → List ℕ → ℕ → ℕ → Type 0 = λ b after d x. Takes f negative inverse k n d x b now after in
    let shaped : (b : Bool) (after : List ℕ) (d x : ℕ) → Takes f negative inverse c.loop-c.self.k c.loop-c.self.n d x b now after → asked b after d x =
    λ b after d x told. with_shape c.args.self.now c.loop-c.self (λ i j. Takes f negative inverse i j d x b now after) c.loop-c.invariant.4 told in
    let s = c.loop-c.invariant.4 in
    let kept : MatrixMut → Type 0 = SameShape c.args.self.now in
    elim c.if-done-self.branch [
      | then-done-self+then-take_column w ↦
          let after = w.take_column.new.self.codes.now in
          let T = subst₂ (asked true after) (sym count) w.from.ensures (shaped true after done w.from.result w.if-take_column.ensures.value) in
          let few : length ps < k = omega (arith, w.if-done-self.true) in
          let room : done < length positions = omega (arith, w.if-done-self.true, c.loop-c.invariant.1, c.requires.shape.1) in (
            omega (arith, w.done-is, w.if-done-self.true),
            c.if-done-self.array_long,
            ap₂ drop w.done-is w.positions-is ∙ written c.args.positions.now positions done column c.loop-c.invariant.2 ∙ ap (λ d. drop d c.args.positions.now) (sym w.done-is),
            subst₂ turn (ap (λ x. x.codes.now) (sym w.self-is)) (sym (ap₂ take w.done-is w.positions-is ∙ take_more_set positions done column room)) (taken laws k n codes R order now ps column rest after t long few T),
            subst kept (sym w.self-is) (same_shape-then c.args.self.now c.loop-c.self w.take_column.new.self s w.if-take_column.ensures.same),
          )
      | else-done-self w ↦ (
        omega (arith, w.done-is, c.loop-c.invariant.0),
        c.if-done-self.array_long,
        ap₂ drop w.done-is w.positions-is ∙ c.loop-c.invariant.2 ∙ ap (λ d. drop d c.args.positions.now) (sym w.done-is),
        subst₂ turn (ap (λ x. x.codes.now) (sym w.self-is)) (sym (ap₂ take w.done-is w.positions-is)) (elim w.else-done-self.branch [
          | else-done-self-via-then-done-self+else-take_column v ↦
              let after = v.take_column.new.self.codes.now in
              subst (λ x. turn x.codes.now ps) (sym v.self-is) (passed laws k n codes R order now ps column rest after t (subst₂ (asked false after) (sym count) v.from.ensures (shaped false after done v.from.result v.if-take_column.ensures.value)))
          | else-done-self-via-else-done-self v ↦ subst (λ x. turn x.codes.now ps) (sym v.self-is) (picking_stops laws R t (omega (arith, length-rows k n codes, v.if-done-self.false)))
        ]),
        subst kept (sym w.self-is) (elim w.else-done-self.branch [
          | else-done-self-via-then-done-self+else-take_column v ↦ subst kept (sym v.self-is) (same_shape-then c.args.self.now c.loop-c.self v.take_column.new.self s v.if-take_column.ensures.same)
          | else-done-self-via-else-done-self v ↦ subst kept (sym v.self-is) s
        ]),
      )
    ]

pub returns : goal.returns
returns g c =
    let field = c.args.field.now in
    let f = g.F.Field.meaning field in
    let rows : List (List ℕ) = rows_of c.args.self.now.k c.args.self.now.n c.args.self.now.codes.now in
    let order = c.args.order.now in
    let gens : List (List ℕ) = rows_of c.args.self.now.k c.args.self.now.n c.loop-c.self.codes.now in
    let ps : List ℕ = take c.loop-c.done c.loop-c.positions in
    let t : Picking f c.args.self.now.n rows order gens ps [] = subst (Picking f c.args.self.now.n rows order gens ps) (drop_all c.loop-c.c-index order c.loop-c-test.false) c.loop-c.invariant.3 in
    record { taken = (c.loop-c.invariant.0, picking_ends (g.met.F.Field.lawful field) (rows_from f c.args.self.now.n rows c.requires.matrix) t); rest = c.loop-c.invariant.2; rows = eliminated t; same = c.loop-c.invariant.4 }
