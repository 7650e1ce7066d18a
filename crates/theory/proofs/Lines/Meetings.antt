-- Each line of message weight t is met by exactly one visit of level t, and by none of another level.
use Rattle.std.proofs.Common.{◌≡◌, ℕ, ◌<◌, Bool, true, false, cond, ◌&&◌, eqb, List, [], map, length, get_or, count_by, sym, refl, ap, ◌∙◌, subst, ap₂, arith}
use lib.ListN.{length-map}
use Rattle.std.specs.List.{AllByRecursion}
use Rattle.std.proofs.lemmas.List.Sums.{length-filter}
use Rattle.std.proofs.ByRecursion.{All-weaker, All-map, All-get_or}
use Rattle.std.proofs.lemmas.Bool.{eqb-true, eqb-false}
use Rattle.std.proofs.lemmas.Bool.Decides.{same_from_decides, Decides-and}
use Rattle.theory.specs.Meanings.{FieldMeaning, FieldLaws}
use Rattle.theory.specs.Codes.{same, times, on_line}
use Rattle.theory.specs.Forms.{GeneratorForm}
use Rattle.theory.specs.Visits.{choices, coefficients, picked, visits, Choice, Rising}
use Rattle.theory.specs.Standings.{LinearCode, message_weight}
use Rattle.theory.specs.Promises.{Codeword}
use Rattle.theory.specs.Facts.{Accepted, Systematic}
use Rattle.theory.proofs.Lists.Listed.{listed-length}
use Rattle.theory.proofs.Lists.Tests.{decides_same}
use Rattle.theory.proofs.Lists.Sums.{sum_by-map, sum_by-joined, sum_by-same, sum_by-zero, all_joined}
use Rattle.theory.proofs.Lists.Counts.{count_by_all}
use Rattle.theory.proofs.Order.Nonzeros.{Nonzero}
use Rattle.theory.proofs.Order.Exactly.{Coefficients, choices_are, coefficients_are}
use Rattle.theory.proofs.Algebra.Scalars.{product-low, product_nonzero, inverse_nonzero, inverse_left, product_comm_all}
use Rattle.theory.proofs.Algebra.Multiples.{CodesOf, times-combination, times-back, times_forth, get_or-times}
use Rattle.theory.proofs.Algebra.Words.{Word, word-codes}
use Rattle.theory.proofs.Algebra.Columns.{symbols_word}
use Rattle.theory.proofs.Algebra.Codewords.{codeword-word}
use Rattle.theory.proofs.Lines.LineTests.{decides_line, line_message}
use Rattle.theory.proofs.Lines.Supports.{nonzero, support, values, length_support, rising_support, all_values}
use Rattle.theory.proofs.Lines.VisitWords.{message, visit, factor, normal, message_weight-is, combination_values, form-rows, visit_parts, visit_weight, visit_codeword}

nonzero_times : {f : FieldMeaning} {negative inverse : ℕ → ℕ} (laws : FieldLaws f negative inverse) (b : ℕ) → 0 < b → b < f.order → (cs : List ℕ) → Nonzero f.order cs → Nonzero f.order (times f b cs)
nonzero_times {f} laws b p l cs h = All-map _ (λ a. f.product b a) cs (All-weaker _ _ (λ a k. (product_nonzero laws b a p l k.0 k.1, product-low laws b a)) cs h)

nonzero_codes : (f : FieldMeaning) (cs : List ℕ) → Nonzero f.order cs → CodesOf f cs
nonzero_codes f cs h = All-weaker _ (λ a. a < f.order) (λ a z. z.1) cs h

module _ (c : LinearCode) {negative inverse : ℕ → ℕ} (accepted : Accepted c negative inverse) (j : GeneratorForm) (sys : Systematic c j) where
  -- A multiple of a visit's word is the sum with multiplied coefficients.
  visit_times : (b : ℕ) (ch cs : List ℕ) → times c.field b (visit c j ch cs) ≡ visit c j ch (times c.field b cs)
  visit_times b ch cs = times-combination accepted.field_laws b c.n cs (picked j.rows ch)

  module _ (u : List ℕ) (codeword : Codeword c u) (some : 0 < message_weight j u) where
    message_word : Word c.field.order (length j.rows) (message j u)
    message_word = subst (λ (k : ℕ). Word c.field.order k (message j u)) (sys.size ∙ sym sys.row_count) (symbols_word accepted.field_laws j.positions (codeword-word c accepted codeword))

    pub met_rise : Rising 0 (length j.rows) (support 0 (message j u))
    met_rise = rising_support 0 (length j.rows) (message j u) (omega (arith, listed-length message_word))

    units : Nonzero c.field.order (values (message j u))
    units = all_values (λ a. a < c.field.order) (message j u) (word-codes message_word)

    length_values : length (values (message j u)) ≡ message_weight j u
    length_values = length-filter nonzero (message j u) ∙ sym (message_weight-is j u)

    pub length_met : length (support 0 (message j u)) ≡ message_weight j u
    length_met = length_support 0 (message j u) ∙ sym (message_weight-is j u)

    pub factor_unit : (0 < factor j u) × (factor j u < c.field.order)
    factor_unit = All-get_or (λ a. (0 < a) × (a < c.field.order)) (values (message j u)) 0 0 (omega (arith, length_values)) units

    inverse_unit : (0 < inverse (factor j u)) × (inverse (factor j u) < c.field.order)
    inverse_unit = (inverse_nonzero accepted.field_laws (factor j u) factor_unit.0 factor_unit.1, accepted.field_laws.inverse_below (factor j u) factor_unit.1)

    -- The rows met, with the normal coefficients, are a choice and coefficients of the level of u's message weight.
    pub met_choice : Choice (length j.rows) (message_weight j u) (support 0 (message j u))
    met_choice = (length_met, met_rise)

    pub met_coefficients : Coefficients c.field.order (message_weight j u) (normal c inverse j u)
    met_coefficients = (
      length-map (values (message j u)) _ ∙ length_values,
      get_or-times accepted.field_laws (inverse (factor j u)) (values (message j u)) 0 ∙ inverse_left accepted.field_laws (factor j u) factor_unit.0 factor_unit.1,
      nonzero_times accepted.field_laws (inverse (factor j u)) inverse_unit.0 inverse_unit.1 (values (message j u)) units,
    )

    -- u is the multiple of that visit's word by the symbol at the lowest chosen row's position.
    pub met : u ≡ times c.field (factor j u) (visit c j (support 0 (message j u)) (normal c inverse j u))
    met = sys.generates u codeword ∙ sym (combination_values accepted.field_laws j.rows 0 message_word (form-rows c accepted j sys) (λ i b. ap (λ (z : ℕ). get_or j.rows z []) (omega arith)))
        ∙ ap (visit c j (support 0 (message j u))) (sym (times_forth accepted.field_laws (factor j u) (values (message j u)) factor_unit.0 factor_unit.1 (nonzero_codes c.field (values (message j u)) units)))
        ∙ sym (visit_times (factor j u) (support 0 (message j u)) (normal c inverse j u))

    -- Any visit whose line u is on is that one.
    pub met_only : (t : ℕ) (ch cs : List ℕ) → Choice (length j.rows) t ch → Coefficients c.field.order t cs → on_line c.field u (visit c j ch cs) ≡ true → (support 0 (message j u) ≡ ch) × (normal c inverse j u ≡ cs)
    met_only t ch cs d k on =
        let h = (decides_line accepted.field_laws u (visit c j ch cs)).0 on in
        let b : ℕ = h.0 in
        let l : length cs ≡ length ch = k.0 ∙ sym d.0 in
        let e : u ≡ visit c j ch (times c.field b cs) = h.3 ∙ visit_times b ch cs in
        let p = visit_parts c accepted j sys ch (times c.field b cs) d.1 (length-map cs (λ a. c.field.product b a) ∙ l) (nonzero_times accepted.field_laws b h.1 h.2 cs k.2) in
        let v : values (message j u) ≡ times c.field b cs = ap (λ (x : List ℕ). values (message j x)) e ∙ p.1 in
        let a : factor j u ≡ b = ap (λ (x : List ℕ). get_or x 0 0) v ∙ get_or-times accepted.field_laws b cs 0 ∙ ap (λ (x : ℕ). c.field.product b x) k.1 ∙ product_comm_all accepted.field_laws b 1 ∙ accepted.field_laws.product_one b h.2 in (
          ap (λ (x : List ℕ). support 0 (message j x)) e ∙ p.0,
          ap₂ (λ (x : ℕ) (y : List ℕ). times c.field (inverse x) y) a v ∙ times-back accepted.field_laws b cs h.1 h.2 (nonzero_codes c.field cs k.2),
        )

    met_test : (t : ℕ) (ch cs : List ℕ) → Choice (length j.rows) t ch → Coefficients c.field.order t cs → on_line c.field u (visit c j ch cs) ≡ (same (support 0 (message j u)) ch && same (normal c inverse j u) cs)
    met_test t ch cs d k = same_from_decides {P = (support 0 (message j u) ≡ ch) × (normal c inverse j u ≡ cs)} _ _
        (λ on. met_only t ch cs d k on, λ e. (decides_line accepted.field_laws u (visit c j ch cs)).1 (factor j u, factor_unit.0, factor_unit.1, met ∙ ap (times c.field (factor j u)) (ap₂ (visit c j) e.0 e.1)))
        (Decides-and (same (support 0 (message j u)) ch) (same (normal c inverse j u) cs) (decides_same (support 0 (message j u)) ch) (decides_same (normal c inverse j u) cs))

    -- The level of u's message weight meets u's line exactly once.
    pub met_once : count_by (on_line c.field u) (visits c.field c.n j.rows (message_weight j u)) ≡ 1
    unfolding visits
    met_once = sum_by-joined (λ v. cond (on_line c.field u v) 1 0) (λ ch. map (visit c j ch) cs) chs
        ∙ sum_by-same _ (λ ch. cond (same (support 0 (message j u)) ch) 1 0) chs (All-weaker (Choice (length j.rows) t) _ (λ ch d. at ch d) chs (choices_are (length j.rows) t).only)
        ∙ (choices_are (length j.rows) t).once (support 0 (message j u)) met_choice
      where
        t : ℕ
        t = message_weight j u

        chs : List (List ℕ)
        chs = choices (length j.rows) t

        cs : List (List ℕ)
        cs = coefficients c.field.order t

        all : (b : Bool) → count_by (λ x. b && same (normal c inverse j u) x) cs ≡ cond b 1 0
        all true = (coefficients_are c.field.order accepted.field_laws.low t).once (normal c inverse j u) met_coefficients
        all false = sum_by-zero cs

        at : (ch : List ℕ) → Choice (length j.rows) t ch → count_by (on_line c.field u) (map (visit c j ch) cs) ≡ cond (same (support 0 (message j u)) ch) 1 0
        at ch d = sum_by-map (λ v. cond (on_line c.field u v) 1 0) (visit c j ch) cs
            ∙ count_by_all _ _ cs (All-weaker (Coefficients c.field.order t) _ (λ x k. met_test t ch x d k) cs (coefficients_are c.field.order accepted.field_laws.low t).only)
            ∙ all (same (support 0 (message j u)) ch)

  -- The words of a level are codewords of its message weight.
  pub level_words : (t : ℕ) → AllByRecursion (λ v. Codeword c v × (message_weight j v ≡ t)) (visits c.field c.n j.rows t)
  unfolding visits
  level_words t = all_joined _ (λ ch. map (visit c j ch) cs) chs (All-weaker (Choice (length j.rows) t) _ (λ ch d. All-map _ (visit c j ch) cs (All-weaker (Coefficients c.field.order t) _ (λ x k. at ch x d k) cs (coefficients_are c.field.order accepted.field_laws.low t).only)) chs (choices_are (length j.rows) t).only)
    where
      chs : List (List ℕ)
      chs = choices (length j.rows) t

      cs : List (List ℕ)
      cs = coefficients c.field.order t

      at : (ch x : List ℕ) → Choice (length j.rows) t ch → Coefficients c.field.order t x → Codeword c (visit c j ch x) × (message_weight j (visit c j ch x) ≡ t)
      at ch x d k = (visit_codeword c accepted j sys ch x d.1 (k.0 ∙ sym d.0) k.2, visit_weight c accepted j sys ch x d.1 (k.0 ∙ sym d.0) k.2 ∙ d.0)

  -- A level meets the line of a codeword once if its message weight is the level, and else never.
  pub level_meets : (t : ℕ) (u : List ℕ) → Codeword c u → 0 < t → count_by (on_line c.field u) (visits c.field c.n j.rows t) ≡ cond (eqb (message_weight j u) t) 1 0
  level_meets t u codeword h = go (eqb (message_weight j u) t) refl
    where
      go : (b : Bool) → eqb (message_weight j u) t ≡ b → count_by (on_line c.field u) (visits c.field c.n j.rows t) ≡ cond b 1 0
      go true e = let q : message_weight j u ≡ t = eqb-true (message_weight j u) t e in
          ap (λ (x : ℕ). count_by (on_line c.field u) (visits c.field c.n j.rows x)) (sym q) ∙ met_once u codeword (omega arith)
      go false e = count_by_all _ (λ v. false) (visits c.field c.n j.rows t) (All-weaker _ _ (λ v w. off v w.0 w.1 (on_line c.field u v) refl) (visits c.field c.n j.rows t) (level_words t)) ∙ sum_by-zero (visits c.field c.n j.rows t)
        where
          off : (v : List ℕ) → Codeword c v → message_weight j v ≡ t → (b : Bool) → on_line c.field u v ≡ b → b ≡ false
          off v w m false s = refl
          off v w m true s = absurd (eqb-false (message_weight j u) t e (line_message accepted.field_laws j u v (word-codes (codeword-word c accepted w)) s ∙ m))
