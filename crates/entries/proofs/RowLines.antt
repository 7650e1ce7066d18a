-- A row's line and its codes determine each other.
use Rattle.std.proofs.Common.{◌≡◌, ℕ, zero, suc, ◌+◌, ◌-◌, ◌<◌, ◌≤◌, true, false, cond, ◌&&◌, eqb, ltb, leb, List, [], ◌∷◌, ◌++◌, map, length, take, drop, Some, None, Option, unwrap_or, sym, refl, ap, ◌∙◌, inl, inr, ⊎_elim, suc-le-suc, zero-le, arith}
use Rattle.std.specs.List.{AllByRecursion}
use Rattle.std.proofs.lemmas.List.{length-map}
use Rattle.std.proofs.lemmas.Bool.{cases_Bool, cases_lt, and_parts, and_from, and_right, leb-true, le-leb, lt-leb, ltb-true, lt-ltb, le-ltb, eq-eqb, cond-true, cond-false}
use Rattle.entries.specs.declared.header.Header.{Header}
use Rattle.entries.specs.declared.refusal.TextRefusal.{TextRefusal}
use Rattle.entries.specs.declared.refusal.TextRefusal.TheVariants.{BadSymbol}
use Rattle.entries.specs.Names.{order}
use Rattle.entries.specs.Symbols.{code_of, symbol_of}
use Rattle.entries.specs.Rows.{is_element, symbol_fault, row_fault, row_codes}
use Rattle.entries.specs.Entries.{first_fault, end_fault, rows_fault}
use Rattle.entries.specs.Written.{row_line, Ends}
use Rattle.entries.proofs.NameWords.{order_most}
use Rattle.entries.proofs.RowSteps.{row-length}

-- a symbol's code has that symbol
code_symbol : (b a : ℕ) → code_of b ≡ Some a → symbol_of a ≡ b
code_symbol b a e =
    ⊎_elim
    (λ t. let in-digits = and_parts (leb 48 b) (leb b 57) t in
    let is : Some (b - 48) ≡ Some a = sym (cond-true (leb 48 b && leb b 57) _ _ t) ∙ e in
    let same : b - 48 ≡ a = cc in
    let low = leb-true 48 b in-digits.0 in
    let high = leb-true b 57 in-digits.1 in
    cond-true (ltb a 10) (48 + a) (87 + a) (lt-ltb a 10 (omega arith)) ∙ omega arith)
    (λ t. let rest : cond (leb 97 b && leb b 99) (Some (b - 87)) None ≡ Some a = sym (cond-false (leb 48 b && leb b 57) _ _ t) ∙ e in
    ⊎_elim
    (λ u. let in_letters = and_parts (leb 97 b) (leb b 99) u in
    let is : Some (b - 87) ≡ Some a = sym (cond-true (leb 97 b && leb b 99) _ _ u) ∙ rest in
    let same : b - 87 ≡ a = cc in
    let low = leb-true 97 b in_letters.0 in
    cond-false (ltb a 10) (48 + a) (87 + a) (le-ltb a 10 (omega arith)) ∙ omega arith)
    (λ u. let none : None ≡ Some a = sym (cond-false (leb 97 b && leb b 99) _ _ u) ∙ rest in let z : ◌≡◌ {A = ℕ} 0 1 = cc in absurd (omega arith))
    (cases_Bool (leb 97 b && leb b 99)))
    (cases_Bool (leb 48 b && leb b 57))

-- the symbol of a code below 13 has that code
symbol_code : (a : ℕ) → a < 13 → code_of (symbol_of a) ≡ Some a
symbol_code a below =
    ⊎_elim
    (λ lt. ap code_of (cond-true (ltb a 10) (48 + a) (87 + a) (lt-ltb a 10 lt))
    ∙ cond-true (leb 48 (48 + a) && leb (48 + a) 57) _ _ (and_from (leb 48 (48 + a)) (leb (48 + a) 57) (le-leb 48 (48 + a) (omega arith)) (le-leb (48 + a) 57 (omega arith)))
    ∙ ap Some (omega arith))
    (λ ge. ap code_of (cond-false (ltb a 10) (48 + a) (87 + a) (le-ltb a 10 ge))
    ∙ cond-false (leb 48 (87 + a) && leb (87 + a) 57) _ _ (and_right (leb 48 (87 + a)) (leb (87 + a) 57) (lt-leb (87 + a) 57 (omega arith)))
    ∙ cond-true (leb 97 (87 + a) && leb (87 + a) 99) _ _ (and_from (leb 97 (87 + a)) (leb (87 + a) 99) (le-leb 97 (87 + a) (omega arith)) (le-leb (87 + a) 99 (omega arith)))
    ∙ ap Some (omega arith))
    (cases_lt a 10)

-- an element's byte, with its code
element_code : (q b : ℕ) (o : Option ℕ) → code_of b ≡ o → is_element q b ≡ true → (unwrap_or o 0 < q) × (symbol_of (unwrap_or o 0) ≡ b)
element_code q b None at e = absurd (let out : is_element q b ≡ false = ap (λ (o : Option ℕ). elim o [ None ↦ false | Some a ↦ ltb a q ]) at in let z : ◌≡◌ {A = ℕ} 0 1 = cc in omega arith)
element_code q b (Some a) at e =
    let in_field : ltb a q ≡ true = sym (ap (λ (o : Option ℕ). elim o [ None ↦ false | Some x ↦ ltb x q ]) at) ∙ e in
    (ltb-true a q in_field, code_symbol b a at)

-- symbols without a fault
symbols_good : (q i c : ℕ) (l : List ℕ) → symbol_fault q i c l ≡ None → (row_line (row_codes l) ≡ l) × AllByRecursion (λ a. a < q) (row_codes l)
symbols_good q i c [] e = (refl, tt)
symbols_good q i c (b ∷ l) e =
    ⊎_elim
    (λ t. let here = element_code q b (code_of b) refl t in
    let more = symbols_good q i (c + 1) l (sym (cond-true (is_element q b) _ _ t) ∙ e) in
    (ap (λ (a : ℕ). a ∷ row_line (row_codes l)) here.1 ∙ ap (λ (u : List ℕ). b ∷ u) more.0, (here.0, more.1)))
    (λ t. let bad : Some (BadSymbol i c) ≡ None = sym (cond-false (is_element q b) _ _ t) ∙ e in let z : ◌≡◌ {A = ℕ} 0 1 = cc in absurd (omega arith))
    (cases_Bool (is_element q b))

-- a row without a fault
pub row_good : (h : Header) (l : List ℕ) (i : ℕ) → row_fault h l i ≡ None → (length (row_codes l) ≡ h.n) × (row_line (row_codes l) ≡ l) × AllByRecursion (λ a. a < order h.field) (row_codes l)
unfolding row_fault
row_good h l i e =
    let long = row-length h l i e in
    let symbols = symbols_good (order h.field) i 1 l (sym (cond-true (eqb (length l) h.n) _ _ (eq-eqb _ _ long)) ∙ e) in
    (length-map l (λ b. unwrap_or (code_of b) 0) ∙ long, symbols.0, symbols.1)

-- the symbols of elements are without a fault
symbols_written : (q i c : ℕ) (row : List ℕ) → q ≤ 13 → AllByRecursion (λ a. a < q) row → (symbol_fault q i c (row_line row) ≡ None) × (row_codes (row_line row) ≡ row)
symbols_written q i c [] most all = (refl, refl)
symbols_written q i c (a ∷ row) most all =
    let below : a < q = all.0 in
    let code = symbol_code a (omega arith) in
    let element : is_element q (symbol_of a) ≡ true = ap (λ (o : Option ℕ). elim o [ None ↦ false | Some x ↦ ltb x q ]) code ∙ lt-ltb a q below in
    let more = symbols_written q i (c + 1) row most all.1 in
    (cond-true (is_element q (symbol_of a)) _ _ element ∙ more.0, ap (λ (x : ℕ). x ∷ row_codes (row_line row)) (ap (λ (o : Option ℕ). unwrap_or o 0) code) ∙ ap (λ (u : List ℕ). a ∷ u) more.1)

pub row_written : (h : Header) (row : List ℕ) (i : ℕ) → length row ≡ h.n → AllByRecursion (λ a. a < order h.field) row → (row_fault h (row_line row) i ≡ None) × (row_codes (row_line row) ≡ row)
unfolding row_fault
row_written h row i long all =
    let symbols = symbols_written (order h.field) i 1 row (order_most h.field) all in
    (cond-true (eqb (length (row_line row)) h.n) _ _ (eq-eqb _ _ (length-map row symbol_of ∙ long)) ∙ symbols.0, symbols.1)

ends : (ls : List (List ℕ)) (i : ℕ) → end_fault ls i ≡ None → Ends ls
ends [] i e = inl refl
ends ([] ∷ ls) i e = inr refl
ends ((b ∷ l) ∷ ls) i e = absurd (let z : ◌≡◌ {A = ℕ} 0 1 = cc in omega arith)

ends_well : (ls : List (List ℕ)) (i : ℕ) → Ends ls → end_fault ls i ≡ None
ends_well ls i e = ⊎_elim (λ none. ap (λ (t : List (List ℕ)). end_fault t i) none) (λ gap. ap (λ (t : List (List ℕ)). end_fault t i) gap) e

-- m rows without a fault, and the end after them
pub record RowsGood (h : Header) (m : ℕ) (ls : List (List ℕ)) : Type 0 where
  pub enough : m ≤ length ls
  pub lines : map row_line (map row_codes (take m ls)) ≡ take m ls
  pub lengths : AllByRecursion (λ row. length row ≡ h.n) (map row_codes (take m ls))
  pub codes : AllByRecursion (AllByRecursion (λ a. a < order h.field)) (map row_codes (take m ls))
  pub end : Ends (drop m ls)

rows_good_on : (h : Header) (m : ℕ) (l : List ℕ) (ls : List (List ℕ)) (i : ℕ) → row_fault h l i ≡ None → RowsGood h m ls → RowsGood h (suc m) (l ∷ ls)
rows_good_on h m l ls i good more =
    let row = row_good h l i good in
    record {
      enough = suc-le-suc more.enough;
      lines = ap (λ (u : List ℕ). u ∷ map row_line (map row_codes (take m ls))) row.1 ∙ ap (λ (us : List (List ℕ)). l ∷ us) more.lines;
      lengths = (row.0, more.lengths);
      codes = (row.2, more.codes);
      end = more.end;
    }

none_first : (a b : Option TextRefusal) → first_fault a b ≡ None → (a ≡ None) × (b ≡ None)
none_first None b e = (refl, e)
none_first (Some f) b e = absurd (let z : ◌≡◌ {A = ℕ} 0 1 = cc in omega arith)

pub rows_good : (h : Header) (m : ℕ) (ls : List (List ℕ)) (i : ℕ) → rows_fault h m ls i ≡ None → RowsGood h m ls
unfolding rows_fault
rows_good h zero ls i e = record { enough = zero-le; lines = refl; lengths = tt; codes = tt; end = ends ls i e }
rows_good h (suc m) [] i e = absurd (let z : ◌≡◌ {A = ℕ} 0 1 = cc in omega arith)
rows_good h (suc m) (l ∷ ls) i e =
    let parts = none_first (row_fault h l i) (rows_fault h m ls (i + 1)) e in
    rows_good_on h m l ls i parts.0 (rows_good h m ls (i + 1) parts.1)

-- the lines of lawful rows are without a fault, and give the rows back
pub rows_written : (h : Header) (rows : List (List ℕ)) (rest : List (List ℕ)) (i : ℕ) → AllByRecursion (λ row. length row ≡ h.n) rows → AllByRecursion (AllByRecursion (λ a. a < order h.field)) rows → Ends rest → (rows_fault h (length rows) (map row_line rows ++ rest) i ≡ None) × (map row_codes (take (length rows) (map row_line rows ++ rest)) ≡ rows)
unfolding rows_fault
rows_written h [] rest i lengths codes end = (ends_well rest i end, refl)
rows_written h (row ∷ rows) rest i lengths codes end =
    let here = row_written h row i lengths.0 codes.0 in
    let more = rows_written h rows rest (i + 1) lengths.1 codes.1 end in (
      ap (λ (o : Option TextRefusal). first_fault o (rows_fault h (length rows) (map row_line rows ++ rest) (i + 1))) here.0 ∙ more.0,
      ap (λ (u : List ℕ). u ∷ map row_codes (take (length rows) (map row_line rows ++ rest))) here.1 ∙ ap (λ (us : List (List ℕ)). row ∷ us) more.1,
    )
