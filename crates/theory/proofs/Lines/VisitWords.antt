-- The word that a visit makes from a choice of rows and coefficients: its symbols at the form's positions, its message weight.
use Rattle.std.proofs.Common.{◌≡◌, ℕ, suc, ◌+◌, ◌-◌, ◌<◌, Bool, true, false, cond, List, [], ◌∷◌, length, get_or, count_by, sym, refl, ap, ◌∙◌, subst, ap₂, arith}
use Rattle.std.proofs.lemmas.List.{get_or-map}
use Rattle.std.proofs.ByRecursion.{All-weaker}
use Rattle.theory.specs.Meanings.{FieldMeaning, FieldLaws}
use Rattle.theory.specs.Codes.{plus, times, combination}
use Rattle.theory.specs.Forms.{GeneratorForm}
use Rattle.theory.specs.Visits.{picked, Rising}
use Rattle.theory.specs.Standings.{LinearCode, message_weight}
use Rattle.theory.specs.Promises.{Codeword}
use Rattle.theory.specs.Facts.{Accepted, Systematic}
use Rattle.theory.proofs.Lists.Listed.{listed-from, more, none}
use Rattle.theory.proofs.Lists.Sums.{sum_by-map}
use Rattle.theory.proofs.Order.Rising.{rising_below}
use Rattle.theory.proofs.Order.Nonzeros.{Nonzero}
use Rattle.theory.proofs.Order.Visits as order
use Rattle.theory.proofs.Algebra.Scalars.{zero-below}
use Rattle.theory.proofs.Algebra.Words.{Word, word_all, zero-times, zero-plus}
use Rattle.theory.proofs.Algebra.Combinations.{Rows, rows_from, combination-word}
use Rattle.theory.proofs.Algebra.Columns.{symbols}
use Rattle.theory.proofs.Algebra.Codewords.{Made, made-combination, made-from-codeword, codeword-from-made, code_rows}
use Rattle.theory.proofs.Algebra.Reduced.{Reduced, reduced_symbols}
use Rattle.theory.proofs.Lines.Supports.{nonzero, support, values, spread, zero_nonzero, spread_parts, length_spread, all_spread, length_support, spread_chosen, spread_other}

-- The symbols at a form's positions.
abbrev pub message : GeneratorForm → List ℕ → List ℕ
message j u = symbols j.positions u

-- The word that a visit makes.
abbrev pub visit : LinearCode → GeneratorForm → List ℕ → List ℕ → List ℕ
visit c j ch cs = order.word c.field c.n j.rows ch cs

-- The first nonzero symbol of the message, and the nonzero symbols divided by it.
abbrev pub factor : GeneratorForm → List ℕ → ℕ
factor j u = get_or (values (message j u)) 0 0

abbrev pub normal : LinearCode → (ℕ → ℕ) → GeneratorForm → List ℕ → List ℕ
normal c inverse j u = times c.field (inverse (factor j u)) (values (message j u))

pub message_weight-is : (j : GeneratorForm) (u : List ℕ) → message_weight j u ≡ count_by nonzero (message j u)
message_weight-is j u = sym (sum_by-map (λ a. cond (nonzero a) 1 0) (λ p. get_or u p 0) j.positions)

pub get_or_message : (j : GeneratorForm) (u : List ℕ) (a : ℕ) → a < length j.positions → get_or (message j u) a 0 ≡ get_or u (get_or j.positions a 0) 0
get_or_message j u a h = get_or-map (λ p. get_or u p 0) j.positions a 0 0 h

-- A sum needs only the rows whose coefficients are not 0. The rows of `rows` stand in `all` from i on.
pub combination_values : {f : FieldMeaning} {negative inverse : ℕ → ℕ} (laws : FieldLaws f negative inverse) {n : ℕ} (all : List (List ℕ)) (i : ℕ) {k : ℕ} {m : List ℕ} {rows : List (List ℕ)} → Word f.order k m → Rows f.order n k rows
    → ((l : ℕ) → l < k → get_or all (i + l) [] ≡ get_or rows l []) → combination f n (values m) (picked all (support i m)) ≡ combination f n m rows
combination_values laws all i none none s = refl
combination_values {f} laws {n} all i (more {n = k} {x = x} {xs = m} h w) (more {x = r} {xs = rows} p y) s =
    go (nonzero x) refl (combination_values laws all (suc i) w y (λ l g. ap (λ (z : ℕ). get_or all z []) (omega arith) ∙ s (suc l) (omega arith)))
  where
    go : (t : Bool) → nonzero x ≡ t → combination f n (values m) (picked all (support (suc i) m)) ≡ combination f n m rows
        → combination f n (cond t (x ∷ values m) (values m)) (picked all (cond t (i ∷ support (suc i) m) (support (suc i) m))) ≡ combination f n (x ∷ m) (r ∷ rows)
    go true t ih = ap₂ (λ (a b : List ℕ). plus f (times f x a) b) (ap (λ (z : ℕ). get_or all z []) (omega arith) ∙ s 0 (omega arith)) ih
    go false t ih = ih ∙ sym (zero-plus laws (combination-word laws w y)) ∙ ap (λ (u : List ℕ). plus f u (combination f n m rows)) (sym (zero-times laws p) ∙ ap (λ (z : ℕ). times f z r) (sym (zero_nonzero x t)))

module _ (c : LinearCode) {negative inverse : ℕ → ℕ} (accepted : Accepted c negative inverse) (j : GeneratorForm) (sys : Systematic c j) where
  pub form-rows : Rows c.field.order c.n (length j.rows) j.rows
  form-rows = rows_from c.field c.n j.rows sys.row_matrix

  pub form-reduced : Reduced j.rows j.positions
  form-reduced i a h k = sys.unit i a (omega (arith, sys.row_count)) (omega (arith, sys.size))

  pub message_combination : {m : List ℕ} → Word c.field.order (length j.rows) m → message j (combination c.field c.n m j.rows) ≡ m
  message_combination w = reduced_symbols accepted.field_laws form-rows j.positions form-reduced (sys.size ∙ sym sys.row_count) w

  module _ (ch cs : List ℕ) (rise : Rising 0 (length j.rows) ch) (long : length cs ≡ length ch) (units : Nonzero c.field.order cs) where
    spread_word : Word c.field.order (length j.rows) (spread 0 (length j.rows) ch cs)
    spread_word = word_all c.field.order (length j.rows) (spread 0 (length j.rows) ch cs) (length_spread 0 (length j.rows) ch cs) (all_spread (λ a. a < c.field.order) (zero-below accepted.field_laws) 0 (length j.rows) ch cs (All-weaker _ (λ a. a < c.field.order) (λ a z. z.1) cs units))

    parts : (support 0 (spread 0 (length j.rows) ch cs) ≡ ch) × (values (spread 0 (length j.rows) ch cs) ≡ cs)
    parts = spread_parts 0 (length j.rows) (length j.rows) ch cs (omega arith) rise long (All-weaker _ (λ a. 0 < a) (λ a z. z.0) cs units)

    -- The rows that are not chosen may stand in the sum with coefficient 0.
    pub visit_spread : visit c j ch cs ≡ combination c.field c.n (spread 0 (length j.rows) ch cs) j.rows
    visit_spread = sym (ap₂ (λ (a b : List ℕ). combination c.field c.n a (picked j.rows b)) parts.1 parts.0)
        ∙ combination_values accepted.field_laws j.rows 0 spread_word form-rows (λ i b. ap (λ (z : ℕ). get_or j.rows z []) (omega arith))

    -- The symbol of a visit's word at the position of a row is the row's coefficient, or 0 where the row is not chosen.
    pub visit_message : message j (visit c j ch cs) ≡ spread 0 (length j.rows) ch cs
    visit_message = ap (message j) visit_spread ∙ message_combination spread_word

    pub visit_parts : (support 0 (message j (visit c j ch cs)) ≡ ch) × (values (message j (visit c j ch cs)) ≡ cs)
    visit_parts = (ap (support 0) visit_message ∙ parts.0, ap values visit_message ∙ parts.1)

    pub visit_weight : message_weight j (visit c j ch cs) ≡ length ch
    visit_weight = message_weight-is j (visit c j ch cs) ∙ sym (length_support 0 (message j (visit c j ch cs))) ∙ ap length visit_parts.0

    pub visit_codeword : Codeword c (visit c j ch cs)
    visit_codeword = subst (Codeword c) (sym visit_spread) (codeword-from-made c (made-combination accepted.field_laws (code_rows c accepted) spread_word
        (listed-from {P = Made c.field c.n c.rows} [] (length j.rows) j.rows refl (λ i h. made-from-codeword c (sys.row_codeword i (omega (arith, sys.row_count)))))))

    symbol_at : (a : ℕ) → a < length j.rows → get_or (visit c j ch cs) (get_or j.positions a 0) 0 ≡ get_or (spread 0 (length j.rows) ch cs) a 0
    symbol_at a h = sym (get_or_message j (visit c j ch cs) a (omega (arith, sys.size, sys.row_count))) ∙ ap (λ (m : List ℕ). get_or m a 0) visit_message

    pub symbol_chosen : (l : ℕ) → l < length ch → get_or (visit c j ch cs) (get_or j.positions (get_or ch l 0) 0) 0 ≡ get_or cs l 0
    symbol_chosen l h = symbol_at (get_or ch l 0) (rising_below 0 (length j.rows) ch l rise h).1 ∙ ap (λ (p : ℕ). get_or (spread 0 (length j.rows) ch cs) p 0) (let z : get_or ch l 0 ≡ get_or ch l 0 - 0 = omega arith in z)
        ∙ spread_chosen 0 (length j.rows) (length j.rows) ch cs l (omega arith) rise long h

    pub symbol_other : (a : ℕ) → a < length j.rows → ((l : ℕ) → l < length ch → get_or ch l 0 ≡ a → ⊥) → get_or (visit c j ch cs) (get_or j.positions a 0) 0 ≡ 0
    symbol_other a h free = symbol_at a h ∙ spread_other 0 (length j.rows) ch cs a (λ l g e. free l g (omega arith))
