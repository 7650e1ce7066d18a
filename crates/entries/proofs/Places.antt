-- A part handed out is what stands in the text at its line and column.
use Rattle.std.proofs.Common.{◌≡◌, ℕ, zero, suc, ◌+◌, ◌-◌, ◌<◌, ◌≤◌, leb, List, [], ◌∷◌, ◌++◌, length, get_or, take, drop, Some, None, Ok, Err, sum_by, Option, Result, sym, refl, ap, ◌∙◌, subst, suc-le-suc, zero-le, le_of_suc-le-suc, not-suc-le-zero, add-zero, arith}
use Rattle.std.specs.List.{join_with_byte}
use Rattle.std.proofs.lemmas.List.{take_at, take_all, drop_at, drop-drop, get_or-drop, length-drop}
use Rattle.std.proofs.lemmas.List.Sums.{sum_by-cons}
use Rattle.std.proofs.lemmas.Bool.{le-leb, cond-true}
use Rattle.entries.specs.declared.header.Header.{Header}
use Rattle.entries.specs.declared.part.Due.{Due}
use Rattle.entries.specs.declared.part.Part.{Part}
use Rattle.entries.specs.declared.reader.PartReader.{PartReader}
use Rattle.entries.specs.declared.refusal.TextRefusal.{TextRefusal}
use Rattle.entries.specs.Lines.{lines, words}
use Rattle.entries.specs.Headers.{word_column, header_reading}
use Rattle.entries.specs.HeaderWords.{word_list}
use Rattle.entries.specs.Rows.{row_fault}
use Rattle.entries.specs.Parts.{Content, header_part, row_part, gap_part, header_answer, row_answer, ending_answer, content, handed, next_part}
use Rattle.entries.specs.Readers.{text_of, left, part_answer, StandsAt, Placed, Numbered}
use Rattle.entries.proofs.LineWords.{line_of-words}

-- a word of joined words stands where its column says
word_at : (ws : List (List ℕ)) (j : ℕ) → j < length ws → take (length (get_or ws j [])) (drop (sum_by (λ w. length w + 1) (take j ws)) (join_with_byte 32 ws)) ≡ get_or ws j []
word_at [] j h = absurd (not-suc-le-zero h)
word_at (w ∷ []) zero h = take_all (length w) w (omega arith)
word_at (w ∷ []) (suc j) h = absurd (not-suc-le-zero (le_of_suc-le-suc h))
word_at (w ∷ v ∷ ws) zero h = take_at w (32 ∷ join_with_byte 32 (v ∷ ws)) (length w) refl
word_at (w ∷ v ∷ ws) (suc j) h =
    ap (λ (m : ℕ). take (length (get_or (v ∷ ws) j [])) (drop m (w ++ 32 ∷ join_with_byte 32 (v ∷ ws)))) (sum_by-cons (λ u. length u + 1) w (take j (v ∷ ws)))
    ∙ ap (take (length (get_or (v ∷ ws) j [])))
    (sym (drop-drop (sum_by (λ u. length u + 1) (take j (v ∷ ws))) (length w + 1) (w ++ 32 ∷ join_with_byte 32 (v ∷ ws)))
    ∙ ap (drop (sum_by (λ u. length u + 1) (take j (v ∷ ws)))) (sym (drop-drop 1 (length w) (w ++ 32 ∷ join_with_byte 32 (v ∷ ws))) ∙ ap (λ (t : List ℕ). drop 1 t) (drop_at w (32 ∷ join_with_byte 32 (v ∷ ws)) (length w) refl)))
    ∙ word_at (v ∷ ws) j (le_of_suc-le-suc h)

-- a word of a line at its column
word_stands : (l : List ℕ) (ws : List (List ℕ)) (j c : ℕ) → words l ≡ ws → j < length ws → c ≡ word_column ws j → take (length (get_or ws j [])) (drop (c - 1) l) ≡ get_or ws j []
word_stands l ws j c is h at =
    let from : c - 1 ≡ sum_by (λ w. length w + 1) (take j ws) = omega arith in
    ap (λ (t : List ℕ). take (length (get_or ws j [])) (drop (c - 1) t)) (sym (line_of-words l) ∙ ap (join_with_byte 32) is)
    ∙ ap (λ (m : ℕ). take (length (get_or ws j [])) (drop m (join_with_byte 32 ws))) from
    ∙ word_at ws j h

-- the first of the lines left, by the content that comes from it
abbrev FirstLine : Content → List ℕ → Type 0
FirstLine (header_part ws h) l = words l ≡ ws
FirstLine (row_part s) l = s ≡ l
FirstLine gap_part l = l ≡ []

from-header : (l : List ℕ) (x : Content) (r : Result Header TextRefusal) → Ok (Some x) ≡ header_answer (words l) r → FirstLine x l
from-header l x (Ok h) e = let is : header_part (words l) h ≡ x = cc in subst (λ (y : Content). FirstLine y l) is refl
from-header l x (Err f) e = absurd (let z : ◌≡◌ {A = ℕ} 0 1 = cc in omega arith)

from_row : (l : List ℕ) (x : Content) (o : Option TextRefusal) → Ok (Some x) ≡ row_answer l o → FirstLine x l
from_row l x None e = let is : row_part l ≡ x = cc in subst (λ (y : Content). FirstLine y l) is refl
from_row l x (Some f) e = absurd (let z : ◌≡◌ {A = ℕ} 0 1 = cc in omega arith)

from_ending : (l : List ℕ) (i : ℕ) (x : Content) → Ok (Some x) ≡ ending_answer l i → FirstLine x l
from_ending [] i x e = let is : gap_part ≡ x = cc in subst (λ (y : Content). FirstLine y []) is refl
from_ending (b ∷ l) i x e = absurd (let z : ◌≡◌ {A = ℕ} 0 1 = cc in omega arith)

first-line : (d : Due) (ls : List (List ℕ)) (i : ℕ) (x : Content) → Ok (Some x) ≡ next_part d ls i → (0 < length ls) × FirstLine x (get_or ls 0 [])
unfolding next_part
first-line Due.Header [] i x e = absurd (let z : ◌≡◌ {A = ℕ} 0 1 = cc in omega arith)
first-line Due.Header (l ∷ ls) i x e = (suc-le-suc zero-le, from-header l x (header_reading l i) e)
first-line (Due.Row h m) [] i x e = absurd (let z : ◌≡◌ {A = ℕ} 0 1 = cc in omega arith)
first-line (Due.Row h m) (l ∷ ls) i x e = (suc-le-suc zero-le, from_row l x (row_fault h l i) e)
first-line Due.Ending [] i x e = absurd (let z : ◌≡◌ {A = ℕ} 0 1 = cc in omega arith)
first-line Due.Ending (l ∷ ls) i x e = (suc-le-suc zero-le, from_ending l i x e)

-- a part with the content of a line and its numbers stands there
part_stands : (ls : List (List ℕ)) (l : List ℕ) (i : ℕ) (p : Part) → i + 1 ≤ length ls → get_or ls i [] ≡ l → FirstLine (content p) l → Numbered (i + 1) (Ok (Some p)) → Placed ls (i + 1) (Ok (Some p))
part_stands ls l i (Part.Header w v n) within here is numbered =
    let line : get_or ls (n - 1) [] ≡ l = ap (λ (j : ℕ). get_or ls j []) (omega (arith, numbered.0)) ∙ here in
    let at : (j c : ℕ) → j < 6 → c ≡ word_column (word_list w) j → StandsAt ls n c (get_or (word_list w) j []) =
    λ j c h col. ap (λ (t : List ℕ). take (length (get_or (word_list w) j [])) (drop (c - 1) t)) line ∙ word_stands l (word_list w) j c is h col in
    let cols = numbered.1 in (
      numbered.0,
      (
        omega (arith, numbered.0),
        cols,
        at 0 w.code.column (omega arith) cols.0,
        at 1 w.n.column (omega arith) cols.1,
        at 2 w.k.column (omega arith) cols.2,
        at 3 w.claim.column (omega arith) cols.3,
        at 4 w.field.column (omega arith) cols.4,
        at 5 w.weight.column (omega arith) cols.5,
      ),
    )
part_stands ls l i (Part.Row s n c) within here is numbered =
    (numbered.0, (omega (arith, numbered.0), numbered.1, ap (λ (j : ℕ). get_or ls j []) (omega (arith, numbered.0)) ∙ here ∙ sym is))
part_stands ls l i (Part.Gap n c) within here is numbered =
    (numbered.0, (omega (arith, numbered.0), numbered.1, ap (λ (j : ℕ). get_or ls j []) (omega (arith, numbered.0)) ∙ here ∙ is))

-- what a reader hands out stands in its text
pub placed : (r : PartReader) (a : Result (Option Part) TextRefusal) → handed a ≡ next_part r.due (left r) (r.passed + 1) → Numbered (r.passed + 1) a → Placed (lines (text_of r)) (r.passed + 1) a
placed r (Ok (Some p)) e numbered =
    let first = first-line r.due (left r) (r.passed + 1) (content p) e in
    let here : get_or (lines (text_of r)) r.passed [] ≡ get_or (left r) 0 [] =
    ap (λ (j : ℕ). get_or (lines (text_of r)) j []) (sym (add-zero r.passed)) ∙ sym (get_or-drop r.passed (lines (text_of r)) 0 []) ∙ ap (λ (us : List (List ℕ)). get_or us 0 []) r.place in
    part_stands (lines (text_of r)) (get_or (left r) 0 []) r.passed p (omega (arith, first.0, ap length r.place, length-drop r.passed (lines (text_of r)))) here first.1 numbered
placed r (Ok None) e numbered = tt
placed r (Err f) e numbered = tt

-- the part that was due, as the answer of a reader of a text that is short enough
pub part_given : (r : PartReader) (d : Due) (a : Result (Option Part) TextRefusal) → length (text_of r) ≤ 60000 → r.due ≡ d → handed a ≡ next_part d (left r) (r.passed + 1) → Numbered (r.passed + 1) a → (handed a ≡ part_answer r) × Placed (lines (text_of r)) (r.passed + 1) a
part_given r d a few due value numbered =
    let given = value ∙ ap (λ (e : Due). next_part e (left r) (r.passed + 1)) (sym due) in
    (given ∙ sym (cond-true (leb (length (text_of r)) 60000) _ _ (le-leb _ _ few)), placed r a given numbered)
