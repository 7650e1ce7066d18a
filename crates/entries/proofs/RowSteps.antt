-- What a row that is due brings: a row and what the rows after it bring, or the first fault of them all.
use Rattle.std.proofs.Common.{◌≡◌, ℕ, ◌+◌, ◌<◌, eqb, List, [], ◌∷◌, length, get_or, drop, Some, None, Ok, Err, Option, sym, refl, ap, ◌∙◌, ⊎_elim, suc-le-suc, zero-le, add-one, arith}
use Rattle.std.proofs.lemmas.Bool.{eqb-true, cases_Bool, cond-false}
use Rattle.entries.specs.declared.header.Header.{Header}
use Rattle.entries.specs.declared.part.Due.{Due}
use Rattle.entries.specs.declared.reader.PartReader.{PartReader}
use Rattle.entries.specs.declared.refusal.TextRefusal.{TextRefusal}
use Rattle.entries.specs.declared.refusal.TextRefusal.TheVariants.{RowLength}
use Rattle.entries.specs.Rows.{row_fault}
use Rattle.entries.specs.Parts.{Content, row_part, row_answer, next_part}
use Rattle.entries.specs.Readers.{left}
use Rattle.entries.specs.Entries.{rows_fault}

-- a row without a fault has the length of the code
pub row-length : (h : Header) (l : List ℕ) (i : ℕ) → row_fault h l i ≡ None → length l ≡ h.n
unfolding row_fault
row-length h l i e =
    ⊎_elim (λ t. eqb-true _ _ t)
    (λ t. let at : Some (RowLength i) ≡ None = sym (cond-false (eqb (length l) h.n) _ _ t) ∙ e in let z : ◌≡◌ {A = ℕ} 0 1 = cc in absurd (omega arith))
    (cases_Bool (eqb (length l) h.n))

-- which row it is
pub record RowRead (h : Header) (m : ℕ) (ls : List (List ℕ)) (i : ℕ) (x : Content) : Type 0 where
  pub some : 0 < length ls
  pub row : x ≡ row_part (get_or ls 0 [])
  pub long : length (get_or ls 0 []) ≡ h.n
  pub rest : rows_fault h (m + 1) ls i ≡ rows_fault h m (drop 1 ls) (i + 1)

row-comes-at : (h : Header) (m : ℕ) (l : List ℕ) (ls : List (List ℕ)) (i : ℕ) (x : Content) (f : Option TextRefusal) → row_fault h l i ≡ f → Ok (Some x) ≡ row_answer l f → RowRead h m (l ∷ ls) i x
unfolding rows_fault
row-comes-at h m l ls i x None at e =
    record { some = suc-le-suc zero-le; row = cc; long = row-length h l i at; rest = rw (add-one m, at) }
row-comes-at h m l ls i x (Some f) at e = absurd (let z : ◌≡◌ {A = ℕ} 0 1 = cc in omega arith)

pub row-comes : (h : Header) (m : ℕ) (ls : List (List ℕ)) (i : ℕ) (x : Content) → Ok (Some x) ≡ next_part (Due.Row h m) ls i → RowRead h m ls i x
unfolding next_part
row-comes h m [] i x e = absurd (let z : ◌≡◌ {A = ℕ} 0 1 = cc in omega arith)
row-comes h m (l ∷ ls) i x e = row-comes-at h m l ls i x (row_fault h l i) refl e

row_fails_at : (h : Header) (m : ℕ) (l : List ℕ) (ls : List (List ℕ)) (i : ℕ) (f : TextRefusal) (g : Option TextRefusal) → row_fault h l i ≡ g → Err f ≡ row_answer l g → rows_fault h (m + 1) (l ∷ ls) i ≡ Some f
unfolding rows_fault
row_fails_at h m l ls i f None at e = absurd (let z : ◌≡◌ {A = ℕ} 0 1 = cc in omega arith)
row_fails_at h m l ls i f (Some g) at e = rw (add-one, at) (cc)

pub row_fails : (h : Header) (m : ℕ) (ls : List (List ℕ)) (i : ℕ) (f : TextRefusal) → Err f ≡ next_part (Due.Row h m) ls i → rows_fault h (m + 1) ls i ≡ Some f
unfolding next_part rows_fault
row_fails h m [] i f e = rw add-one (cc)
row_fails h m (l ∷ ls) i f e = row_fails_at h m l ls i f (row_fault h l i) refl e

-- past a row, the rows after it decide
pub record RowPassed (r s : PartReader) (h : Header) (m : ℕ) (symbols : List ℕ) : Type 0 where
  pub some : 0 < length (left r)
  pub same : symbols ≡ get_or (left r) 0 []
  pub long : length symbols ≡ h.n
  pub rest : rows_fault h (m + 1) (left r) (r.passed + 1) ≡ rows_fault h m (left s) (s.passed + 1)

pub row_passed : (r s : PartReader) (h : Header) (m : ℕ) (symbols : List ℕ) → Ok (Some (row_part symbols)) ≡ next_part (Due.Row h m) (left r) (r.passed + 1) → left s ≡ drop 1 (left r) → s.passed ≡ r.passed + 1 → RowPassed r s h m symbols
row_passed r s h m symbols value lines number =
    let read = row-comes h m (left r) (r.passed + 1) (row_part symbols) value in
    let row : row_part symbols ≡ row_part (get_or (left r) 0 []) = read.row in
    let same : symbols ≡ get_or (left r) 0 [] = cc in
    record {
      some = read.some;
      same = same;
      long = ap length same ∙ read.long;
      rest = read.rest ∙ ap (λ (ls : List (List ℕ)). rows_fault h m ls (r.passed + 1 + 1)) (sym lines) ∙ ap (λ (i : ℕ). rows_fault h m (left s) (i + 1)) (sym number);
    }
