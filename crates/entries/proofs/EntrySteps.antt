-- What the header and the end of an entry bring: the entry's figures, its end, or its first fault.
use Rattle.std.proofs.Common.{◌≡◌, ℕ, suc, ◌+◌, ◌<◌, ◌≤◌, min, true, leb, ◌⊎◌, List, [], ◌∷◌, length, get_or, drop, Some, None, Ok, Err, Option, Result, sym, refl, ap, ◌∙◌, subst, inl, inr, ⊎_elim, suc-le-suc, zero-le, not-suc-le-zero, add-zero, arith}
use Rattle.std.specs.Option.{MatchOption}
use Rattle.std.proofs.lemmas.Bool.{leb-true, le-leb, cases_Bool, cond-true, cond-false}
use Rattle.entries.specs.declared.header.Header.{Header}
use Rattle.entries.specs.declared.part.Due.{Due}
use Rattle.entries.specs.declared.part.Part.{Part}
use Rattle.entries.specs.declared.reader.PartReader.{PartReader}
use Rattle.entries.specs.declared.refusal.TextRefusal.{TextRefusal}
use Rattle.entries.specs.declared.refusal.TextRefusal.TheVariants.{TooLong}
use Rattle.entries.specs.Lines.{words}
use Rattle.entries.specs.Headers.{header_reading}
use Rattle.entries.specs.Parts.{Content, header_part, gap_part, header_answer, next_part, content, handed, due_after, header_due}
use Rattle.entries.specs.HeaderReads.{HeaderRead, HeaderPassed}
use Rattle.entries.specs.Entries.{end_fault, rows_fault, unless, entry_after, next_entry}
use Rattle.entries.specs.Readers.{text_of, left, part_answer, answer_between, After}

pub is-header_due : (d : Due) → header_due d ≡ true → d ≡ Due.Header
is-header_due Due.Header e = refl
is-header_due (Due.Row h m) e = absurd (let z : ◌≡◌ {A = ℕ} 0 1 = cc in omega arith)
is-header_due Due.Ending e = absurd (let z : ◌≡◌ {A = ℕ} 0 1 = cc in omega arith)

-- the header of the first line, where one comes
abbrev pub HeaderOf : List (List ℕ) → ℕ → Content → Type 0
HeaderOf ls i x = (v : Header) × (0 < length ls) × (x ≡ header_part (words (get_or ls 0 [])) v) × (header_reading (get_or ls 0 []) i ≡ Ok v)

header_at : (l : List ℕ) (ls : List (List ℕ)) (i : ℕ) (x : Content) (r : Result Header TextRefusal) → header_reading l i ≡ r → Ok (Some x) ≡ header_answer (words l) r → HeaderOf (l ∷ ls) i x
header_at l ls i x (Ok v) is e = (v, suc-le-suc zero-le, (cc), is)
header_at l ls i x (Err f) is e = absurd (let z : ◌≡◌ {A = ℕ} 0 1 = cc in omega arith)

header-comes : (ls : List (List ℕ)) (i : ℕ) (x : Content) → Ok (Some x) ≡ next_part Due.Header ls i → HeaderOf ls i x
unfolding next_part
header-comes [] i x e = absurd (let z : ◌≡◌ {A = ℕ} 0 1 = cc in omega arith)
header-comes (l ∷ ls) i x e = header_at l ls i x (header_reading l i) refl e

none-at : (ws : List (List ℕ)) (r : Result Header TextRefusal) → Ok None ≡ header_answer ws r → ⊥
none-at ws (Ok v) e = let z : ◌≡◌ {A = ℕ} 0 1 = cc in omega arith
none-at ws (Err f) e = let z : ◌≡◌ {A = ℕ} 0 1 = cc in omega arith

header_ends : (ls : List (List ℕ)) (i : ℕ) → Ok None ≡ next_part Due.Header ls i → next_entry ls i ≡ Ok None
unfolding next_part next_entry
header_ends [] i e = refl
header_ends (l ∷ ls) i e = absurd (none-at (words l) (header_reading l i) e)

fails_at : (ws : List (List ℕ)) (ls : List (List ℕ)) (i : ℕ) (f : TextRefusal) (r : Result Header TextRefusal) → Err f ≡ header_answer ws r → entry_after r ls i ≡ Err f
fails_at ws ls i f (Ok v) e = absurd (let z : ◌≡◌ {A = ℕ} 0 1 = cc in omega arith)
fails_at ws ls i f (Err g) e = cc

header_fails : (ls : List (List ℕ)) (i : ℕ) (f : TextRefusal) → Err f ≡ next_part Due.Header ls i → next_entry ls i ≡ Err f
unfolding next_part next_entry
header_fails [] i f e = absurd (let z : ◌≡◌ {A = ℕ} 0 1 = cc in omega arith)
header_fails (l ∷ ls) i f e = fails_at (words l) ls (i + 1) f (header_reading l i) e

-- a text is short enough, and the lines left decide, or it is refused as a whole
abbrev Decided : PartReader → Type 0
Decided r = (length (text_of r) ≤ 60000) × (part_answer r ≡ next_part r.due (left r) (r.passed + 1)) × (answer_between r ≡ next_entry (left r) (r.passed + 1))

decided : (r : PartReader) → Decided r ⊎ ((part_answer r ≡ Err TooLong) × (answer_between r ≡ Err TooLong))
decided r =
    ⊎_elim
    (λ t. inl (leb-true (length (text_of r)) 60000 t, cond-true (leb (length (text_of r)) 60000) _ _ t, cond-true (leb (length (text_of r)) 60000) _ _ t))
    (λ t. inr (cond-false (leb (length (text_of r)) 60000) _ _ t, cond-false (leb (length (text_of r)) 60000) _ _ t))
    (cases_Bool (leb (length (text_of r)) 60000))

module _ (r : PartReader) (due : header_due r.due ≡ true) where
  at-header : part_answer r ≡ next_part r.due (left r) (r.passed + 1) → part_answer r ≡ next_part Due.Header (left r) (r.passed + 1)
  at-header e = e ∙ ap (λ (d : Due). next_part d (left r) (r.passed + 1)) (is-header_due r.due due)

  -- a part that comes where a header is due
  pub part_is-header : (o : Option Part) (p : Part) → handed (Ok o) ≡ part_answer r → o ≡ Some p → (length (text_of r) ≤ 60000) × HeaderOf (left r) (r.passed + 1) (content p)
  part_is-header o p value is =
      ⊎_elim
      (λ d. (d.0, header-comes (left r) (r.passed + 1) (content p) (ap (λ (q : Option Part). handed (Ok q)) (sym is) ∙ value ∙ at-header d.1)))
      (λ d. let clash : Ok (Some (content p)) ≡ Err TooLong = ap (λ (q : Option Part). handed (Ok q)) (sym is) ∙ value ∙ d.0 in let z : ◌≡◌ {A = ℕ} 0 1 = cc in absurd (omega arith))
      (decided r)

  pub no_part : Ok None ≡ part_answer r → answer_between r ≡ Ok None
  no_part value =
      ⊎_elim
      (λ d. d.2 ∙ header_ends (left r) (r.passed + 1) (value ∙ at-header d.1))
      (λ d. let clash : Ok None ≡ Err TooLong = value ∙ d.0 in let z : ◌≡◌ {A = ℕ} 0 1 = cc in absurd (omega arith))
      (decided r)

  pub header_refused : (f : TextRefusal) → Err f ≡ part_answer r → answer_between r ≡ Err f
  header_refused f value =
      ⊎_elim (λ d. d.2 ∙ header_fails (left r) (r.passed + 1) f (value ∙ at-header d.1)) (λ d. let clash : Err f ≡ Err TooLong = value ∙ d.0 in let same : f ≡ TooLong = cc in d.1 ∙ ap Err (sym same)) (decided r)

-- the header of a part
abbrev HeaderIn : Part → Option Header → Type 0
HeaderIn p q = MatchOption q ((ws : List (List ℕ)) (h : Header) → content p ≡ header_part ws h → ⊥) (λ h. (ws : List (List ℕ)) × (content p ≡ header_part ws h))

-- the header of the part that comes, or the end
module _ (r s : PartReader) (due : header_due r.due ≡ true) (P : Part → Type 0) where
  pub header_found : (o : Option Part) (q : Option Header) → handed (Ok o) ≡ part_answer r → After r (handed (Ok o)) s → MatchOption o (q ≡ None) P → ((p : Part) → P p → HeaderIn p q) → HeaderRead r (Ok q) × HeaderPassed r (Ok q) s
  header_found None None value after is in_part = (no_part r due value, tt)
  header_found None (Some h) value after is in_part = absurd (let z : ◌≡◌ {A = ℕ} 0 1 = cc in omega arith)
  header_found (Some p) None value after is in_part =
      let got = part_is-header r due (Some p) p value refl in absurd (in_part p is _ _ got.1.2)
  header_found (Some p) (Some h) value after is in_part =
      let got = part_is-header r due (Some p) p value refl in
      let found = in_part p is in
      let same : header_part found.0 h ≡ header_part (words (get_or (left r) 0 [])) got.1.0 = sym found.1 ∙ got.1.2 in
      let says : h ≡ got.1.0 = cc in
      let past = subst (λ (x : Content). After r (Ok (Some x)) s) found.1 after in
      ((got.0, got.1.1, got.1.3 ∙ ap Ok (sym says)), (past.0, past.1, past.2))

-- where the end of an entry is due
pub end-comes : (ls : List (List ℕ)) (i : ℕ) (o : Option Content) → Ok o ≡ next_part Due.Ending ls i → end_fault ls i ≡ None
unfolding next_part
end-comes [] i o e = refl
end-comes ([] ∷ ls) i o e = refl
end-comes ((b ∷ l) ∷ ls) i o e = absurd (let z : ◌≡◌ {A = ℕ} 0 1 = cc in omega arith)

pub end_fails : (ls : List (List ℕ)) (i : ℕ) (f : TextRefusal) → Err f ≡ next_part Due.Ending ls i → end_fault ls i ≡ Some f
unfolding next_part
end_fails [] i f e = absurd (let z : ◌≡◌ {A = ℕ} 0 1 = cc in omega arith)
end_fails ([] ∷ ls) i f e = absurd (let z : ◌≡◌ {A = ℕ} 0 1 = cc in omega arith)
end_fails ((b ∷ l) ∷ ls) i f e = cc

one_less : (n : ℕ) → min 1 (suc n) ≡ 1
one_less n = omega arith

-- past the end of an entry a header is due
abbrev Ended : PartReader → PartReader → Type 0
Ended r s = (left s ≡ drop 1 (left r)) × (s.passed ≡ r.passed + min 1 (length (left r))) × (header_due s.due ≡ true)

ended_some : (r s : PartReader) (x : Content) (ls : List (List ℕ)) (i : ℕ) → left r ≡ ls → Ok (Some x) ≡ next_part Due.Ending ls i → After r (Ok (Some x)) s → Ended r s
unfolding next_part
ended_some r s x [] i is e after = absurd (let z : ◌≡◌ {A = ℕ} 0 1 = cc in omega arith)
ended_some r s x ([] ∷ ls) i is e after =
    let gap : x ≡ gap_part = cc in (
      after.0,
      after.1 ∙ ap (λ (n : ℕ). r.passed + n) (sym (ap (λ (t : List (List ℕ)). min 1 (length t)) is ∙ one_less (length ls))),
      ap header_due (after.2 ∙ ap (due_after r.due) gap),
    )
ended_some r s x ((b ∷ l) ∷ ls) i is e after = absurd (let z : ◌≡◌ {A = ℕ} 0 1 = cc in omega arith)

ended-none : (r s : PartReader) (ls : List (List ℕ)) (i : ℕ) → left r ≡ ls → Ok None ≡ next_part Due.Ending ls i → After r (Ok None) s → Ended r s
unfolding next_part
ended-none r s [] i is e after = (
  after.0 ∙ is ∙ ap (λ (t : List (List ℕ)). drop 1 t) (sym is),
  after.1 ∙ sym (ap (λ (t : List (List ℕ)). r.passed + min 1 (length t)) is ∙ add-zero r.passed),
  ap header_due after.2,
)
ended-none r s ([] ∷ ls) i is e after = absurd (let z : ◌≡◌ {A = ℕ} 0 1 = cc in omega arith)
ended-none r s ((b ∷ l) ∷ ls) i is e after = absurd (let z : ◌≡◌ {A = ℕ} 0 1 = cc in omega arith)

pub ended : (r s : PartReader) (o : Option Part) → handed (Ok o) ≡ next_part Due.Ending (left r) (r.passed + 1) → After r (handed (Ok o)) s → Ended r s
ended r s None e after = ended-none r s (left r) (r.passed + 1) refl e after
ended r s (Some p) e after = ended_some r s (content p) (left r) (r.passed + 1) refl e after

pub end_none : (ls : List (List ℕ)) (i : ℕ) (o : Option Part) → handed (Ok o) ≡ next_part Due.Ending ls i → end_fault ls i ≡ None
end_none ls i None e = end-comes ls i None e
end_none ls i (Some p) e = end-comes ls i (Some (content p)) e

-- an entry whose header was read is decided by the lines after it
pub entry-is : (ls : List (List ℕ)) (i : ℕ) (h : Header) → 0 < length ls → header_reading (get_or ls 0 []) i ≡ Ok h → next_entry ls i ≡ unless (rows_fault h h.k (drop 1 ls) (i + 1)) h
unfolding next_entry
entry-is [] i h some read = absurd (not-suc-le-zero some)
entry-is (l ∷ ls) i h some read = ap (λ (r : Result Header TextRefusal). entry_after r ls (i + 1)) read

-- the same for a reader between entries
pub between_is : (r : PartReader) (h : Header) → length (text_of r) ≤ 60000 → 0 < length (left r) → header_reading (get_or (left r) 0 []) (r.passed + 1) ≡ Ok h → answer_between r ≡ unless (rows_fault h h.k (drop 1 (left r)) (r.passed + 1 + 1)) h
between_is r h few some read = cond-true (leb (length (text_of r)) 60000) _ _ (le-leb _ _ few) ∙ entry-is (left r) (r.passed + 1) h some read
