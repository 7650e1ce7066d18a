-- Which part comes next, case by case.
use Rattle.std.proofs.Common.{◌≡◌, ℕ, ◌<◌, true, false, List, [], ◌∷◌, length, Some, None, Ok, Err, Option, Result, sym, refl, ap, ◌∙◌, not-suc-le-zero, arith}
use Rattle.std.specs.Option.{ok_or}
use Rattle.entries.specs.declared.header.Header.{Header}
use Rattle.entries.specs.declared.part.Due.{Due}
use Rattle.entries.specs.declared.refusal.TextRefusal.{TextRefusal}
use Rattle.entries.specs.declared.refusal.TextRefusal.TheVariants.{HeaderShape, MissingRow, NoEntryEnd}
use Rattle.entries.specs.Lines.{words}
use Rattle.entries.specs.Headers.{header_shaped, values_of, header_reading}
use Rattle.entries.specs.Rows.{row_fault}
use Rattle.entries.specs.Parts.{gap_part, header_answer, row_answer, next_part}

-- the fault where a value is missing
pub fault-of : {A : Type 0} (o : Option A) (e f : TextRefusal) → o ≡ None → Err f ≡ ok_or o e → f ≡ e
fault-of None e f none at = cc
fault-of (Some x) e f none at = absurd (let z : ◌≡◌ {A = ℕ} 0 1 = cc in omega arith)

pub header-none : (ls : List (List ℕ)) (i : ℕ) → ls ≡ [] → Ok None ≡ next_part Due.Header ls i
unfolding next_part
header-none ls i e = rw e

header_is : (l : List ℕ) (ls : List (List ℕ)) (i : ℕ) → header_answer (words l) (header_reading l i) ≡ next_part Due.Header (l ∷ ls) i
unfolding next_part
header_is l ls i = refl

pub header_unshaped : (left : List (List ℕ)) (i : ℕ) {l : List ℕ} {ls : List (List ℕ)} → left ≡ l ∷ ls → header_shaped (words l) ≡ false → Err (HeaderShape i) ≡ next_part Due.Header left i
unfolding header_reading
header_unshaped left i {l} {ls} e shape =
    let read : header_reading l i ≡ Err (HeaderShape i) = rw shape in
    sym (ap (header_answer (words l)) read) ∙ header_is l ls i ∙ ap (λ (t : List (List ℕ)). next_part Due.Header t i) (sym e)

header_shaped-reads : (l : List ℕ) (i : ℕ) (ws : List (List ℕ)) → header_shaped (words l) ≡ true → words l ≡ ws → header_reading l i ≡ values_of ws i
unfolding header_reading
header_shaped-reads l i ws shape same = rw shape (ap (λ (v : List (List ℕ)). values_of v i) same)

pub header_read : (left : List (List ℕ)) (i : ℕ) {l : List ℕ} {ls : List (List ℕ)} (ws : List (List ℕ)) (r : Result Header TextRefusal) → left ≡ l ∷ ls → header_shaped (words l) ≡ true → words l ≡ ws → r ≡ values_of ws i → header_answer ws r ≡ next_part Due.Header left i
header_read left i {l} {ls} ws r e shape same is =
    ap (header_answer ws) (is ∙ sym (header_shaped-reads l i ws shape same))
    ∙ ap (λ (v : List (List ℕ)). header_answer v (header_reading l i)) (sym same)
    ∙ header_is l ls i
    ∙ ap (λ (t : List (List ℕ)). next_part Due.Header t i) (sym e)

pub row_missing : (h : Header) (m : ℕ) (ls : List (List ℕ)) (i : ℕ) → ls ≡ [] → Err (MissingRow i) ≡ next_part (Due.Row h m) ls i
unfolding next_part
row_missing h m ls i e = rw e

pub row_read : (h : Header) (m : ℕ) (left : List (List ℕ)) (i : ℕ) {l : List ℕ} {ls : List (List ℕ)} (r : Option TextRefusal) → left ≡ l ∷ ls → r ≡ row_fault h l i → row_answer l r ≡ next_part (Due.Row h m) left i
unfolding next_part
row_read h m left i {l} r e fault = ap (row_answer l) fault ∙ ap (λ (t : List (List ℕ)). next_part (Due.Row h m) t i) (sym e)

pub ending_none : (ls : List (List ℕ)) (i : ℕ) → ls ≡ [] → Ok None ≡ next_part Due.Ending ls i
unfolding next_part
ending_none ls i e = rw e

pub ending_bad : (left : List (List ℕ)) (i : ℕ) (l : List ℕ) {ls : List (List ℕ)} → left ≡ l ∷ ls → 0 < length l → Err (NoEntryEnd i) ≡ next_part Due.Ending left i
unfolding next_part
ending_bad left i [] e some = absurd (not-suc-le-zero some)
ending_bad left i (b ∷ l) e some = rw e

pub ending_gap : (left : List (List ℕ)) (i : ℕ) (l : List ℕ) {ls : List (List ℕ)} → left ≡ l ∷ ls → length l ≡ 0 → Ok (Some gap_part) ≡ next_part Due.Ending left i
unfolding next_part
ending_gap left i [] e none = rw e
ending_gap left i (b ∷ l) e none = absurd (omega arith)
