-- A whole entry from its header, its rows and its end.
use Rattle.std.proofs.Common.{◌≡◌, ℕ, ◌+◌, ◌*◌, ◌≤◌, min, List, [], length, get_or, drop, Some, None, Ok, Err, Option, sym, ap, ◌∙◌, subst, arith}
use Rattle.std.proofs.lemmas.List.{drop-drop, length-drop}
use Rattle.entries.specs.declared.header.Header.{Header}
use Rattle.entries.specs.declared.reader.PartReader.{PartReader}
use Rattle.entries.specs.declared.refusal.TextRefusal.{TextRefusal}
use Rattle.entries.specs.Entries.{end_fault, rows_fault, unless}
use Rattle.entries.specs.Readers.{left, answer_between}
use Rattle.entries.specs.HeaderReads.{HeaderRead, HeaderPassed}
use Rattle.entries.proofs.HeaderValues.{Limits, header-limits}
use Rattle.entries.proofs.Matrices.{size-within}
use Rattle.entries.proofs.EntrySteps.{between_is}

-- the limits of a header that was read
limits_read : (r : PartReader) (h : Header) → HeaderRead r (Ok (Some h)) → Limits h
limits_read r h read = header-limits (get_or (left r) 0 []) (r.passed + 1) h read.2

-- the codes of its rows find room
pub size_read : (r : PartReader) (o : Option Header) (h : Header) → o ≡ Some h → HeaderRead r (Ok o) → h.k * h.n ≤ 2048
size_read r o h is read =
    let limits = limits_read r h (subst (λ (q : Option Header). HeaderRead r (Ok q)) is read) in
    size-within h.k h.n limits.few limits.short

-- a reader r between entries, p past the header that was read there, and its limits
pub record PastHeader (r p : PartReader) (h : Header) : Type 0 where
  pub read : HeaderRead r (Ok (Some h))
  pub passed : HeaderPassed r (Ok (Some h)) p
  pub limits : Limits h

pub past_header : (r p : PartReader) (o : Option Header) (h : Header) → o ≡ Some h → HeaderRead r (Ok o) → HeaderPassed r (Ok o) p → PastHeader r p h
past_header r p o h is read passed =
    let here = subst (λ (q : Option Header). HeaderRead r (Ok q)) is read in
    record { read = here; passed = subst (λ (q : Option Header). HeaderPassed r (Ok q) p) is passed; limits = limits_read r h here }

module _ {r p : PartReader} {h : Header} (past : PastHeader r p h) where
  by_rows : answer_between r ≡ unless (rows_fault h h.k (left p) (p.passed + 1)) h
  by_rows =
      between_is r h past.read.0 past.read.1 past.read.2
      ∙ ap (λ (ls : List (List ℕ)). unless (rows_fault h h.k ls (r.passed + 1 + 1)) h) (sym past.passed.0)
      ∙ ap (λ (i : ℕ). unless (rows_fault h h.k (left p) (i + 1)) h) (sym past.passed.1)

  pub rows_refuse : (f : TextRefusal) → rows_fault h h.k (left p) (p.passed + 1) ≡ Some f → Err f ≡ answer_between r
  rows_refuse f e = sym (by_rows ∙ ap (λ (o : Option TextRefusal). unless o h) e)

  -- and q past the rows
  module _ (q : PartReader) (rows : rows_fault h h.k (left p) (p.passed + 1) ≡ rows_fault h 0 (left q) (q.passed + 1)) where
    at_end : rows_fault h h.k (left p) (p.passed + 1) ≡ end_fault (left q) (q.passed + 1)
    unfolding rows_fault
    at_end = rows

    pub end_refuses : (f : TextRefusal) → end_fault (left q) (q.passed + 1) ≡ Some f → Err f ≡ answer_between r
    end_refuses f e = rows_refuse f (at_end ∙ e)

    pub entry_whole : end_fault (left q) (q.passed + 1) ≡ None → Ok (Some h) ≡ answer_between r
    entry_whole e = sym (by_rows ∙ ap (λ (o : Option TextRefusal). unless o h) (at_end ∙ e))

  -- where the reader stands after the entry
  pub lines_past : (q s : PartReader) → left q ≡ drop h.k (left p) → left s ≡ drop 1 (left q) → left s ≡ drop (h.k + 2) (left r)
  lines_past q s rows end =
      end ∙ ap (λ (ls : List (List ℕ)). drop 1 ls) (rows ∙ ap (drop h.k) past.passed.0 ∙ drop-drop h.k 1 (left r)) ∙ drop-drop 1 (1 + h.k) (left r) ∙ ap (λ (j : ℕ). drop j (left r)) (omega arith)

  pub number_past : (q s : PartReader) → h.k ≤ length (left p) → left q ≡ drop h.k (left p) → q.passed ≡ p.passed + h.k → s.passed ≡ q.passed + min 1 (length (left q)) → s.passed ≡ r.passed + min (h.k + 2) (length (left r))
  number_past q s enough rows far end =
      omega (arith, past.read.1, ap length past.passed.0, length-drop 1 (left r), ap length rows, length-drop h.k (left p), past.passed.1)
