-- The header, the rows and the end of an entry together.
use Rattle.std.proofs.Common.{◌≡◌, ℕ, ◌+◌, ◌*◌, min, List, length, take, drop, Ok, Option, sym, refl, ap, ◌∙◌, subst}
use Rattle.entries.specs.declared.header.Header.{Header}
use Rattle.std.specs.List.{flat_map}
use Rattle.entries.specs.Rows.{row_codes}
use Rattle.entries.specs.Readers.{left}
use Rattle.entries.specs.HeaderReads.{HeaderRead}
use Rattle.entries.proofs.Exits.{same_error}
use Rattle.entries.proofs.Matrices.{copied_front, joined-codes}
use Rattle.entries.proofs.ReadSoFar.{hands_out}
use Rattle.entries.proofs.WholeEntries.{past_header, rows_refuse, end_refuses, entry_whole, lines_past, number_past}
use Rattle.entries.proofs.entry_reader.EntryReader.next_entry.Goals as goal

pub read_rows-requires : goal.read_rows-requires
read_rows-requires c =
    let past = past_header c.args.self.now.parts c.read_header.new.parts _ _ c.in-Some.is c.in_ok-header.ensures.value c.in_ok-header.ensures.after in
    (past.passed.2, past.limits.few, past.limits.short, refl)

pub returns-in_err-read_rows : goal.returns-in_err-read_rows
returns-in_err-read_rows c =
    let past = past_header c.args.self.now.parts c.read_header.new.parts _ _ c.in-Some.is c.in_ok-header.ensures.value c.in_ok-header.ensures.after in
    let value = rows_refuse past _ c.in_err-read_rows.ensures.value in
    rw (same_error _ _ c.from_residual-in_err-read_rows.ensures.1) (record { value = value; after = refl; codes = refl; text = refl; entries = hands_out _ _ _ refl value refl })

pub returns-in_err-read_end : goal.returns-in_err-read_end
returns-in_err-read_end c =
    let past = past_header c.args.self.now.parts c.read_header.new.parts _ _ c.in-Some.is c.in_ok-header.ensures.value c.in_ok-header.ensures.after in
    let value = end_refuses past c.read_rows.new.parts c.in_ok-read_rows.ensures.value.1 _ c.in_err-read_end.ensures.value in
    rw (same_error _ _ c.from_residual-in_err-read_end.ensures.1) (record { value = value; after = refl; codes = refl; text = refl; entries = hands_out _ _ _ refl value refl })

pub returns : goal.returns
returns c =
    let r = c.args.self.now.parts in
    let h = c.in-Some.header in
    let past = past_header r c.read_header.new.parts _ _ c.in-Some.is c.in_ok-header.ensures.value c.in_ok-header.ensures.after in
    let rows = c.in_ok-read_rows.ensures in
    let end = c.in_ok-read_end.ensures in
    let q = c.read_rows.new.parts in
    let s = c.read_end.new.parts in
    let value = entry_whole past q rows.value.1 end.value in
    let after : (left s ≡ drop (h.k + 2) (left r)) × (s.passed ≡ r.passed + min (h.k + 2) (length (left r))) = (lines_past past q s rows.after.0 end.after.0, number_past past q s rows.value.0 rows.after.0 rows.after.1 end.after.1) in
    let text = end.text ∙ rows.text ∙ c.in_ok-header.ensures.text in
    record {
      value = value;
      after = after;
      codes = copied_front c.copy_from_slice.new.self c.args.codes.now c.read_rows.new.codes _ (h.k * h.n) c.copy_from_slice.ensures.after (rows.value.2 ∙ ap (λ (ls : List (List ℕ)). flat_map row_codes (take h.k ls)) past.passed.0 ∙ joined-codes (take h.k (drop 1 (left r))));
      text = text;
      entries = hands_out c.args.self.now _ _ text value after;
    }

pub returns-in_err-header-clause-entries : goal.returns-in_err-header-clause-entries
returns-in_err-header-clause-entries c =
    rw (same_error _ _ c.from_residual.ensures.1) (hands_out _ _ _ refl (sym c.in_err-header.ensures.value) refl)

pub returns-in_default-clause-entries : goal.returns-in_default-clause-entries
returns-in_default-clause-entries c =
    let none = subst (λ (o : Option Header). HeaderRead c.args.self.now.parts (Ok o)) c.in_default.is c.in_ok-header.ensures.value in
    hands_out _ _ _ refl (sym none) refl
