-- An entry that is read stands in the text as the format writes it, and an entry so written is read.
use Rattle.std.proofs.Common.{◌≡◌, ℕ, ◌+◌, ◌<◌, ◌≤◌, true, cond, eqb, ltb, List, [], ◌∷◌, ◌++◌, map, length, get_or, take, drop, Some, None, Ok, Err, codes, decimal, Option, Result, sym, refl, ap, ◌∙◌, suc-le-suc, mul-le-mul_left, add-one, arith}
use Rattle.std.specs.List.{join_with_byte}
use Rattle.std.proofs.lemmas.Fmt.{decimal_nonempty, length-decimal-le}
use Rattle.std.proofs.lemmas.Slice.Eq.{bytes_eq-Decides}
use Rattle.std.proofs.lemmas.List.{length-map, length-take-le, length-append}
use Rattle.std.proofs.lemmas.Bool.{and_parts, and_from, eqb-true, lt-ltb, cond-true}
use Rattle.entries.specs.declared.header.Header.{Header}
use Rattle.entries.specs.declared.names.FieldName.{FieldName}
use Rattle.entries.specs.declared.names.FieldName.TheVariants.{Gf2, Gf3, Gf4, Gf5, Gf7, Gf11, Gf13}
use Rattle.entries.specs.declared.names.WeightName.{WeightName}
use Rattle.entries.specs.declared.names.WeightName.TheVariants.{Hamming, Lee}
use Rattle.entries.specs.declared.refusal.TextRefusal.{TextRefusal}
use Rattle.entries.specs.declared.refusal.TextRefusal.TheVariants.{HeaderShape}
use Rattle.entries.specs.Lines.{words}
use Rattle.entries.specs.Names.{field_word, weight_word, weight_named, goes_with}
use Rattle.entries.specs.Headers.{none_empty, header_shaped, within_limits, values_of, header_reading}
use Rattle.entries.specs.Rows.{row_codes}
use Rattle.entries.specs.Entries.{rows_fault, unless, entry_after, next_entry}
use Rattle.entries.specs.Written.{WrittenEntry, Lawful, header_line, row_line, entry_lines, entry_in, Ends}
use Rattle.entries.proofs.Numerals.{number_word, word_number}
use Rattle.entries.proofs.NameWords.{word-of-field, field-of-word, word-of-weight, weight-of-word, weight_goes, top_most}
use Rattle.entries.proofs.LineWords.{line_of-words, words-of-line}
use Rattle.entries.proofs.Clear.{Above, above-free, above_code, above-field, above-weight, above-decimal, above_rejoined, above_less}
use Rattle.entries.proofs.HeaderValues.{header_says, Limits, limits_of}
use Rattle.entries.proofs.RowLines.{rows_good, rows_written}

-- a list of six, element by element
six : (ws : List (List ℕ)) → length ws ≡ 6 → ws ≡ get_or ws 0 [] ∷ get_or ws 1 [] ∷ get_or ws 2 [] ∷ get_or ws 3 [] ∷ get_or ws 4 [] ∷ get_or ws 5 [] ∷ []
six [] h = absurd (omega arith)
six (a ∷ []) h = absurd (omega arith)
six (a ∷ b ∷ []) h = absurd (omega arith)
six (a ∷ b ∷ c ∷ []) h = absurd (omega arith)
six (a ∷ b ∷ c ∷ d ∷ []) h = absurd (omega arith)
six (a ∷ b ∷ c ∷ d ∷ e ∷ []) h = absurd (omega arith)
six (a ∷ b ∷ c ∷ d ∷ e ∷ f ∷ []) h = refl
six (a ∷ b ∷ c ∷ d ∷ e ∷ f ∷ g ∷ ws) h = absurd (omega arith)

-- the words of a header
abbrev header-words : Header → List (List ℕ)
header-words h = codes "code" ∷ decimal h.n ∷ decimal h.k ∷ decimal h.claim ∷ field_word h.field ∷ weight_word h.weight ∷ []

-- the line of a header that was read
pub header_stands : (l : List ℕ) (i : ℕ) (h : Header) → header_reading l i ≡ Ok h → (l ≡ header_line h) × (1 ≤ h.claim) × (goes_with h.field h.weight ≡ true)
header_stands l i h e =
    let says = header_says l i h e in
    let ws = words l in
    let shape = and_parts (eqb (length ws) 6) _ says.0 in
    let inner = and_parts (none_empty ws) _ shape.1 in
    let code : get_or ws 0 [] ≡ codes "code" = (bytes_eq-Decides (get_or ws 0 []) (codes "code")).0 inner.1 in
    let n = number_word (get_or ws 1 []) h.n says.1.n_word in
    let k = number_word (get_or ws 2 []) h.k says.1.k_word in
    let claim = number_word (get_or ws 3 []) h.claim says.1.claim_word in
    let field : get_or ws 4 [] ≡ field_word h.field = word-of-field (get_or ws 4 []) h.field says.1.field_word in
    let weight : get_or ws 5 [] ≡ weight_word h.weight = word-of-weight (get_or ws 5 []) h.field h.weight says.1.weight_word in
    let n-is : get_or ws 1 [] ≡ decimal h.n = n.0 in
    let k-is : get_or ws 2 [] ≡ decimal h.k = k.0 in
    let claim-is : get_or ws 3 [] ≡ decimal h.claim = claim.0 in
    let all : ws ≡ header-words h = six ws (eqb-true (length ws) 6 shape.0) ∙ (cc) in (
      sym (line_of-words l) ∙ ap (join_with_byte 32) all,
      claim.1,
      weight_goes h.field h.weight (ap (λ (w : List ℕ). weight_named w h.field) (sym weight) ∙ says.1.weight_word),
    )

some-field : (f : FieldName) → 0 < length (field_word f)
some-field Gf2 = omega arith
some-field Gf3 = omega arith
some-field Gf4 = omega arith
some-field Gf5 = omega arith
some-field Gf7 = omega arith
some-field Gf11 = omega arith
some-field Gf13 = omega arith

some-weight : (w : WeightName) → 0 < length (weight_word w)
some-weight Hamming = omega arith
some-weight Lee = omega arith

short-field : (f : FieldName) → length (field_word f) ≤ 6
short-field Gf2 = omega arith
short-field Gf3 = omega arith
short-field Gf4 = omega arith
short-field Gf5 = omega arith
short-field Gf7 = omega arith
short-field Gf11 = omega arith
short-field Gf13 = omega arith

short-weight : (w : WeightName) → length (weight_word w) ≤ 7
short-weight Hamming = omega arith
short-weight Lee = omega arith

-- the header of a lawful entry is read from its line
module _ (h : Header) (claims : 1 ≤ h.claim) (within : within_limits h ≡ true) (goes : goes_with h.field h.weight ≡ true) where
  limits : Limits h
  limits = limits_of h within

  small_claim : h.claim < 1000
  small_claim = omega (arith, limits.claimed, limits.short, mul-le-mul_left h.n (top_most h.weight h.field))

  read-words : words (header_line h) ≡ header-words h
  read-words =
      words-of-line (codes "code") (decimal h.n ∷ decimal h.k ∷ decimal h.claim ∷ field_word h.field ∷ weight_word h.weight ∷ [])
      (above-free 32 (codes "code") above_code) (
        above-free 32 (decimal h.n) (above-decimal h.n (omega (arith, limits.short))),
        (
          above-free 32 (decimal h.k) (above-decimal h.k (omega (arith, limits.few))),
          (
            above-free 32 (decimal h.claim) (above-decimal h.claim small_claim),
            (above-free 32 (field_word h.field) (above-field h.field), (above-free 32 (weight_word h.weight) (above-weight h.weight), tt)),
          ),
        ),
      )

  shaped : header_shaped (header-words h) ≡ true
  shaped =
      and_from (none_empty (header-words h)) _
      (and_from (ltb 0 (length (decimal h.n))) _ (lt-ltb 0 _ (decimal_nonempty h.n (omega (arith, limits.short))))
      (and_from (ltb 0 (length (decimal h.k))) _ (lt-ltb 0 _ (decimal_nonempty h.k (omega (arith, limits.few))))
      (and_from (ltb 0 (length (decimal h.claim))) _ (lt-ltb 0 _ (decimal_nonempty h.claim (omega (arith, small_claim))))
      (and_from (ltb 0 (length (field_word h.field))) _ (lt-ltb 0 _ (some-field h.field))
      (and_from (ltb 0 (length (weight_word h.weight))) _ (lt-ltb 0 _ (some-weight h.weight)) refl)))))
      refl

  values : (i : ℕ) → values_of (header-words h) i ≡ Ok h
  values i =
      let n = word_number h.n (omega (arith, limits.some, limits.wide)) (omega (arith, limits.short)) in
      let k = word_number h.k limits.some (omega (arith, limits.few)) in
      let claim = word_number h.claim claims small_claim in
      rw (n, k, claim, field-of-word h.field, weight-of-word h.field h.weight goes) (cond-true (within_limits h) (Ok h) _ within)

  pub header-reads : (i : ℕ) → header_reading (header_line h) i ≡ Ok h
  unfolding header_reading
  header-reads i =
      ap (λ (ws : List (List ℕ)). cond (header_shaped ws) (values_of ws i) (Err (HeaderShape i))) read-words ∙ cond-true (header_shaped (header-words h)) _ _ shaped ∙ values i

  -- the line has no break, and is short
  pub header_clear : Above 10 (header_line h)
  header_clear =
      above_rejoined 10 32 (header-words h) (omega arith) (
        above_less (codes "code") above_code,
        (
          above_less (decimal h.n) (above-decimal h.n (omega (arith, limits.short))),
          (
            above_less (decimal h.k) (above-decimal h.k (omega (arith, limits.few))),
            (
              above_less (decimal h.claim) (above-decimal h.claim small_claim),
              (above_less (field_word h.field) (above-field h.field), (above_less (weight_word h.weight) (above-weight h.weight), tt)),
            ),
          ),
        ),
      )

  pub header-short : length (header_line h) ≤ 64
  header-short =
      let n = length-decimal-le 3 h.n (omega arith) (omega (arith, limits.short)) (omega (arith, limits.short)) in
      let k = length-decimal-le 3 h.k (omega arith) (omega (arith, limits.few)) (omega (arith, limits.few)) in
      let claim = length-decimal-le 3 h.claim (omega arith) small_claim (omega (arith, small_claim)) in
      let field = short-field h.field in
      let weight = short-weight h.weight in
      simp length-append (omega arith)

unless_ok : (o : Option TextRefusal) (g h : Header) → unless o g ≡ Ok (Some h) → (o ≡ None) × (g ≡ h)
unless_ok None g h e = (refl, (cc))
unless_ok (Some f) g h e = absurd (let z : ◌≡◌ {A = ℕ} 0 1 = cc in omega arith)

entry_ok : (r : Result Header TextRefusal) (ls : List (List ℕ)) (i : ℕ) (h : Header) → entry_after r ls i ≡ Ok (Some h) → (r ≡ Ok h) × (rows_fault h h.k ls i ≡ None)
entry_ok (Ok g) ls i h e =
    let parts = unless_ok (rows_fault g g.k ls i) g h e in
    (ap Ok parts.1, ap (λ (x : Header). rows_fault x x.k ls i) (sym parts.1) ∙ parts.0)
entry_ok (Err f) ls i h e = absurd (let z : ◌≡◌ {A = ℕ} 0 1 = cc in omega arith)

-- how an entry that is read stands in its lines
pub record EntryStands (ls : List (List ℕ)) (h : Header) : Type 0 where
  pub lawful : Lawful (entry_in h ls)
  pub enough : h.k + 1 ≤ length ls
  pub written : take (h.k + 1) ls ≡ entry_lines (entry_in h ls)
  pub end : Ends (drop (h.k + 1) ls)

pub entry_stands : (ls : List (List ℕ)) (i : ℕ) (h : Header) → next_entry ls i ≡ Ok (Some h) → EntryStands ls h
unfolding next_entry
entry_stands [] i h e = absurd (let z : ◌≡◌ {A = ℕ} 0 1 = cc in omega arith)
entry_stands (l ∷ ls) i h e =
    let parts = entry_ok (header_reading l i) ls (i + 1) h e in
    let head = header_stands l i h parts.0 in
    let rows = rows_good h h.k ls (i + 1) parts.1 in
    record {
      lawful = record {
        claims = head.1;
        limits = (header_says l i h parts.0).1.limits;
        weight = head.2;
        count = length-map (take h.k ls) row_codes ∙ length-take-le h.k ls rows.enough;
        lengths = rows.lengths;
        codes = rows.codes;
      };
      enough = rw (add-one h.k) (suc-le-suc rows.enough);
      written = rw (add-one h.k) (ap (λ (a : List ℕ). a ∷ take h.k ls) head.0 ∙ ap (λ (us : List (List ℕ)). header_line h ∷ us) (sym rows.lines));
      end = rw (add-one h.k) rows.end;
    }

-- an entry that stands in the lines as the format writes it is read
pub written-reads : (e : WrittenEntry) (rest : List (List ℕ)) (i : ℕ) → Lawful e → Ends rest → (next_entry (entry_lines e ++ rest) i ≡ Ok (Some e.header)) × (entry_in e.header (entry_lines e ++ rest) ≡ e)
unfolding next_entry
written-reads e rest i lawful end =
    let h = e.header in
    let head = header-reads h lawful.claims lawful.limits lawful.weight i in
    let rows = rows_written h e.rows rest (i + 1) lawful.lengths lawful.codes end in (
      ap (λ (r : Result Header TextRefusal). entry_after r (map row_line e.rows ++ rest) (i + 1)) head
          ∙ ap (λ (o : Option TextRefusal). unless o h) (ap (λ (m : ℕ). rows_fault h m (map row_line e.rows ++ rest) (i + 1)) (sym lawful.count) ∙ rows.0),
      ap (λ (rs : List (List ℕ)). record { header = h; rows = rs }) (ap (λ (m : ℕ). map row_codes (take m (map row_line e.rows ++ rest))) (sym lawful.count) ∙ rows.1),
    )
