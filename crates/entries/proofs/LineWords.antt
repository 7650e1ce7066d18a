-- A line is its words joined again by single spaces, and a text its lines each with a break.
use Rattle.std.proofs.Common.{◌≡◌, ℕ, eqb, List, [], ◌∷◌, sym, refl, ap, ◌∙◌, inl, inr, ⊎_elim}
use Rattle.std.specs.List.{join_with_byte, AllByRecursion}
use Rattle.std.proofs.lemmas.List.{append_assoc}
use Rattle.std.proofs.lemmas.Bool.{cases_Bool, eqb-true, cond-true, cond-false}
use Rattle.entries.specs.Lines.{onto, cut, lines, words}
use Rattle.entries.specs.Written.{text_of_lines, Lined}
use Rattle.entries.proofs.Pieces.{Free, cut-first, words_last}

-- one byte more in front
rejoined_onto : (c b : ℕ) (p : List ℕ) (ps : List (List ℕ)) → join_with_byte c (onto b (p ∷ ps)) ≡ b ∷ join_with_byte c (p ∷ ps)
rejoined_onto c b p [] = refl
rejoined_onto c b p (q ∷ ps) = refl

-- words are never none
some_words : (s : List ℕ) → (p : List ℕ) × (ps : List (List ℕ)) × (words s ≡ p ∷ ps)
unfolding cut
some_words [] = ([], [], refl)
some_words (b ∷ s) =
    let more = some_words s in
    ⊎_elim
    (λ t. ([], words s, cond-true (eqb b 32) ([] ∷ words s) (onto b (words s)) t))
    (λ t. (b ∷ more.0, more.1, cond-false (eqb b 32) ([] ∷ words s) (onto b (words s)) t ∙ ap (onto b) more.2))
    (cases_Bool (eqb b 32))

-- a line is its words with single spaces between them
pub line_of-words : (s : List ℕ) → join_with_byte 32 (words s) ≡ s
unfolding cut
line_of-words [] = refl
line_of-words (b ∷ s) =
    let more = some_words s in
    ⊎_elim
    (λ t. ap (join_with_byte 32) (cond-true (eqb b 32) ([] ∷ words s) (onto b (words s)) t ∙ ap (λ (ws : List (List ℕ)). [] ∷ ws) more.2)
    ∙ ap (λ (u : List ℕ). 32 ∷ u) (ap (join_with_byte 32) (sym more.2) ∙ line_of-words s) ∙ ap (λ (a : ℕ). a ∷ s) (sym (eqb-true b 32 t)))
    (λ t. ap (join_with_byte 32) (cond-false (eqb b 32) ([] ∷ words s) (onto b (words s)) t ∙ ap (onto b) more.2)
    ∙ rejoined_onto 32 b more.0 more.1 ∙ ap (λ (u : List ℕ). b ∷ u) (ap (join_with_byte 32) (sym more.2) ∙ line_of-words s))
    (cases_Bool (eqb b 32))

-- words without spaces, joined, are the words of the line
pub words-of-line : (w : List ℕ) (ws : List (List ℕ)) → Free 32 w → AllByRecursion (Free 32) ws → words (join_with_byte 32 (w ∷ ws)) ≡ w ∷ ws
words-of-line w [] free all = words_last w free
words-of-line w (v ∷ ws) free all = cut-first 32 ([] ∷ []) w (join_with_byte 32 (v ∷ ws)) free ∙ ap (λ (us : List (List ℕ)). w ∷ us) (words-of-line v ws all.0 all.1)

-- lines without breaks, each with a break, are the lines of the text
pub lines_of_text : (ls : List (List ℕ)) → AllByRecursion (Free 10) ls → lines (text_of_lines ls) ≡ ls
unfolding cut
lines_of_text [] all = refl
lines_of_text (l ∷ ls) all = ap lines (append_assoc l (10 ∷ []) (text_of_lines ls)) ∙ cut-first 10 [] l (text_of_lines ls) all.0 ∙ ap (λ (us : List (List ℕ)). l ∷ us) (lines_of_text ls all.1)

some-onto : (b : ℕ) (ls : List (List ℕ)) → (p : List ℕ) × (ps : List (List ℕ)) × (onto b ls ≡ p ∷ ps)
some-onto b [] = (b ∷ [], [], refl)
some-onto b (p ∷ ps) = (b ∷ p, ps, refl)

-- a text that is not empty has a line
some-lines : (b : ℕ) (s : List ℕ) → (p : List ℕ) × (ps : List (List ℕ)) × (lines (b ∷ s) ≡ p ∷ ps)
unfolding cut
some-lines b s =
    ⊎_elim
    (λ t. ([], lines s, cond-true (eqb b 10) ([] ∷ lines s) (onto b (lines s)) t))
    (λ t. let more = some-onto b (lines s) in (more.0, more.1, cond-false (eqb b 10) ([] ∷ lines s) (onto b (lines s)) t ∙ more.2))
    (cases_Bool (eqb b 10))

lined_on : (b : ℕ) (s : List ℕ) → Lined s (lines s) → lines (b ∷ s) ≡ onto b (lines s) → Lined (b ∷ s) (lines (b ∷ s))
unfolding cut
lined_on b [] l at = inr (ap text_of_lines at)
lined_on b (a ∷ s) l at =
    let more = some-lines a s in
    let begun : text_of_lines (lines (b ∷ a ∷ s)) ≡ b ∷ text_of_lines (lines (a ∷ s)) = ap text_of_lines (at ∙ ap (onto b) more.2) ∙ ap (λ (ls : List (List ℕ)). b ∷ text_of_lines ls) (sym more.2) in
    ⊎_elim (λ e. inl (begun ∙ ap (λ (u : List ℕ). b ∷ u) e)) (λ e. inr (begun ∙ ap (λ (u : List ℕ). b ∷ u) e)) l

-- a text is its lines, each with a break, but for a last break that it may lack
pub lined : (s : List ℕ) → Lined s (lines s)
unfolding cut
lined [] = inl refl
lined (b ∷ s) =
    ⊎_elim
    (λ t. let at : text_of_lines (lines (b ∷ s)) ≡ b ∷ text_of_lines (lines s) = ap text_of_lines (cond-true (eqb b 10) ([] ∷ lines s) (onto b (lines s)) t) ∙ ap (λ (a : ℕ). a ∷ text_of_lines (lines s)) (sym (eqb-true b 10 t)) in
    ⊎_elim (λ e. inl (at ∙ ap (λ (u : List ℕ). b ∷ u) e)) (λ e. inr (at ∙ ap (λ (u : List ℕ). b ∷ u) e)) (lined s))
    (λ t. lined_on b s (lined s) (cond-false (eqb b 10) ([] ∷ lines s) (onto b (lines s)) t))
    (cases_Bool (eqb b 10))
