-- The lines of a text and the words of a line, cut off one by one.
use Rattle.std.proofs.Common.{◌≡◌, ℕ, suc, ◌+◌, ◌-◌, ◌<◌, ◌≤◌, min, List, [], ◌∷◌, ◌++◌, length, get_or, take, drop, sym, refl, ap, ◌∙◌, ⊎_elim, suc-le-suc, zero-le, not-suc-le-zero, arith}
use Rattle.std.proofs.lemmas.List.{take-append-drop, drop_more, length-take, length-drop, get_or-take, drop-drop, drop_all, take_all}
use Rattle.std.proofs.lemmas.Bool.{eq-eqb, ne_eqb, le-leb, lt-leb, cases_lt}
use Rattle.entries.specs.Lines.{onto, cut, lines, words}
use Rattle.entries.specs.WordParts.{words_from}

-- the byte c is not in s
abbrev pub Free : ℕ → List ℕ → Type 0
Free c s = (i : ℕ) → i < length s → get_or s i 0 ≡ c → ⊥

module _ (c : ℕ) (none : List (List ℕ)) where
  cut-none : cut c none [] ≡ none
  unfolding cut
  cut-none = refl

  cut_here : (b : ℕ) (s : List ℕ) → b ≡ c → cut c none (b ∷ s) ≡ [] ∷ cut c none s
  unfolding cut
  cut_here b s e = rw (eq-eqb b c e)

  cut_on : (b : ℕ) (s : List ℕ) → (b ≡ c → ⊥) → cut c none (b ∷ s) ≡ onto b (cut c none s)
  unfolding cut
  cut_on b s e = rw (ne_eqb b c e)

  -- the first byte c ends the first piece
  pub cut-first : (p s : List ℕ) → Free c p → cut c none (p ++ c ∷ s) ≡ p ∷ cut c none s
  cut-first [] s free = cut_here c s refl
  cut-first (b ∷ p) s free =
      cut_on b (p ++ c ∷ s) (free 0 (suc-le-suc zero-le)) ∙ ap (onto b) (cut-first p s (λ i h. free (suc i) (suc-le-suc h)))

  -- where there is none, the text is the only piece
  pub cut-last : (b : ℕ) (p : List ℕ) → ((a : ℕ) → onto a none ≡ (a ∷ []) ∷ []) → Free c (b ∷ p) → cut c none (b ∷ p) ≡ (b ∷ p) ∷ []
  cut-last b [] one free = cut_on b [] (free 0 (suc-le-suc zero-le)) ∙ ap (onto b) cut-none ∙ one b
  cut-last b (a ∷ p) one free =
      cut_on b (a ∷ p) (free 0 (suc-le-suc zero-le)) ∙ ap (onto b) (cut-last a p one (λ i h. free (suc i) (suc-le-suc h)))

-- the bytes before e
free-take : {c : ℕ} (s : List ℕ) (e : ℕ) → ((i : ℕ) → i < e → get_or s i 0 ≡ c → ⊥) → Free c (take e s)
free-take s e clear i h eq =
    let low : i < e = omega (arith, length-take e s) in
    clear i low (sym (get_or-take e s i 0 low) ∙ eq)

-- a text cut where the first byte c stands, at e
pub cut_at : (c : ℕ) (none : List (List ℕ)) (s : List ℕ) (e : ℕ) → ((i : ℕ) → i < e → get_or s i 0 ≡ c → ⊥) → e < length s → get_or s e 0 ≡ c → cut c none s ≡ take e s ∷ cut c none (drop (e + 1) s)
cut_at c none s e clear h here =
    let split : s ≡ take e s ++ c ∷ drop (e + 1) s = sym (take-append-drop e s) ∙ ap (λ (t : List ℕ). take e s ++ t) (drop_more s e 0 h ∙ ap (λ (b : ℕ). b ∷ drop (e + 1) s) here) in
    ap (cut c none) split ∙ cut-first c none (take e s) (drop (e + 1) s) (free-take s e clear)

-- a text with no byte c, as lines and as words
pub lines-last : (s : List ℕ) → 0 < length s → Free 10 s → lines s ≡ s ∷ []
lines-last [] h free = absurd (not-suc-le-zero h)
lines-last (b ∷ s) h free = cut-last 10 [] b s (λ a. refl) free

pub words_last : (s : List ℕ) → Free 32 s → words s ≡ s ∷ []
words_last [] free = cut-none 32 ([] ∷ [])
words_last (b ∷ s) free = cut-last 32 ([] ∷ []) b s (λ a. refl) free

-- past the end there is no line
pub lines_none : (s : List ℕ) (from : ℕ) → length s ≤ from → lines (drop from s) ≡ []
lines_none s from h = ap lines (drop_all from s h) ∙ cut-none 10 []

-- a text from a place on, as the slice from there
pub the-rest : (s : List ℕ) (from : ℕ) → take (length s - from) (drop from s) ≡ drop from s
the-rest s from = take_all (length s - from) (drop from s) (omega (arith, length-drop from s))

-- the bytes up to the next c, where they begin at a place of a text
module _ (c : ℕ) (s : List ℕ) (from : ℕ) (b : List ℕ) (part : b ≡ take (length b) (drop from s)) (before : (i : ℕ) → i < length b → get_or (drop from s) i 0 ≡ c → ⊥) where
  rest_one : length (drop from s) ≤ length b → b ≡ drop from s
  rest_one all = part ∙ take_all (length b) (drop from s) all

  rest_free : length (drop from s) ≤ length b → Free c (drop from s)
  rest_free all i h eq = before i (omega arith) eq

  piece_then : (none : List (List ℕ)) (next : ℕ) → length b < length (drop from s) → get_or (drop from s) (length b) 0 ≡ c → next ≡ from + length b + 1 → cut c none (drop from s) ≡ b ∷ cut c none (drop next s)
  piece_then none next more found is =
      cut_at c none (drop from s) (length b) before more found
      ∙ ap (λ (p : List ℕ). p ∷ cut c none (drop (length b + 1) (drop from s))) (sym part)
      ∙ ap (λ (t : List ℕ). b ∷ cut c none t) (drop-drop (length b + 1) from s ∙ ap (λ (j : ℕ). drop j s) (omega arith))

-- the word of a line that begins at a place, and those after it
pub words_next : (line : List ℕ) (from : ℕ) (b : List ℕ) → from ≤ length line → b ≡ take (length b) (drop from line) → ((i : ℕ) → i < length b → get_or (drop from line) i 0 ≡ 32 → ⊥) → (length b < length (drop from line) → get_or (drop from line) (length b) 0 ≡ 32) → words (drop from line) ≡ b ∷ words_from line (from + 1 + length b)
words_next line from b within part before found =
    ⊎_elim
    (λ more. rw (le-leb (from + 1 + length b) (length line) (omega (arith, length-drop from line)))
    (piece_then 32 line from b part before ([] ∷ []) (from + 1 + length b) more (found more) (omega arith)))
    (λ all. rw (lt-leb (from + 1 + length b) (length line) (omega (arith, length-drop from line)))
    (words_last (drop from line) (rest_free 32 line from b part before all) ∙ ap (λ (t : List ℕ). t ∷ []) (sym (rest_one 32 line from b part before all))))
    (cases_lt (length b) (length (drop from line)))

-- the line of a text that begins at a place, and those after it
pub lines_next : (s : List ℕ) (from : ℕ) (b : List ℕ) → from < length s → b ≡ take (length b) (drop from s) → ((i : ℕ) → i < length b → get_or (drop from s) i 0 ≡ 10 → ⊥) → (length b < length (drop from s) → get_or (drop from s) (length b) 0 ≡ 10) → lines (drop from s) ≡ b ∷ lines (drop (min (from + length b + 1) (length s)) s)
lines_next s from b within part before found =
    ⊎_elim
    (λ more. piece_then 10 s from b part before [] (min (from + length b + 1) (length s)) more (found more) (omega (arith, length-drop from s)))
    (λ all. lines-last (drop from s) (omega (arith, length-drop from s)) (rest_free 10 s from b part before all)
    ∙ ap (λ (t : List ℕ). t ∷ []) (sym (rest_one 10 s from b part before all))
    ∙ ap (λ (ls : List (List ℕ)). b ∷ ls) (sym (lines_none s (min (from + length b + 1) (length s)) (omega (arith, length-drop from s)))))
    (cases_lt (length b) (length (drop from s)))
