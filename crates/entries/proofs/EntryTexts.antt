-- The text that the format writes for a lawful entry reads back as that entry.
use Rattle.std.proofs.Common.{◌≡◌, ℕ, ◌+◌, ◌≤◌, List, [], ◌∷◌, ◌++◌, map, length, sum_by, sym, refl, ap, ◌∙◌, inl, append-nil, arith}
use Rattle.std.specs.List.{AllByRecursion}
use Rattle.std.proofs.lemmas.List.{length-append, length-map}
use Rattle.std.proofs.lemmas.List.Sums.{sum_by-cons}
use Rattle.std.proofs.ByRecursion.{sum_by_le}
use Rattle.entries.specs.Lines.{lines}
use Rattle.entries.specs.Entries.{next_entry}
use Rattle.entries.specs.Symbols.{symbol_of}
use Rattle.entries.specs.Written.{header_line, row_line, entry_lines, entry_in, text_of_lines, TextsReadBack}
use Rattle.entries.proofs.Pieces.{Free}
use Rattle.entries.proofs.Clear.{above-free, above-row}
use Rattle.entries.proofs.LineWords.{lines_of_text}
use Rattle.entries.proofs.HeaderValues.{limits_of}
use Rattle.entries.proofs.EntryLines.{header_clear, header-short, written-reads}

rows_clear : (rows : List (List ℕ)) → AllByRecursion (Free 10) (map row_line rows)
rows_clear [] = tt
rows_clear (row ∷ rows) = (above-free 10 (row_line row) (above-row row), rows_clear rows)

rows_short : (n : ℕ) (rows : List (List ℕ)) → n ≤ 64 → AllByRecursion (λ row. length row ≡ n) rows → AllByRecursion (λ l. length l + 1 ≤ 65) (map row_line rows)
rows_short n [] few all = tt
rows_short n (row ∷ rows) few all = (omega (arith, length-map row symbol_of, all.0), rows_short n rows few all.1)

length_text : (ls : List (List ℕ)) → length (text_of_lines ls) ≡ sum_by (λ l. length l + 1) ls
length_text [] = refl
length_text (l ∷ ls) = simp length-append (omega (arith, length_text ls, sum_by-cons (λ u. length u + 1) l ls))

pub written_text : TextsReadBack
written_text e lawful =
    let h = e.header in
    let limits = limits_of h lawful.limits in
    let clear : AllByRecursion (Free 10) (entry_lines e) = (above-free 10 (header_line h) (header_clear h lawful.claims lawful.limits lawful.weight), rows_clear e.rows) in
    let cut : lines (text_of_lines (entry_lines e)) ≡ entry_lines e = lines_of_text (entry_lines e) clear in
    let whole : lines (text_of_lines (entry_lines e)) ≡ entry_lines e ++ [] = cut ∙ sym (append-nil (entry_lines e)) in
    let reads = written-reads e [] 1 lawful (inl refl) in
    let short : AllByRecursion (λ l. length l + 1 ≤ 65) (entry_lines e) = (omega (arith, header-short h lawful.claims lawful.limits lawful.weight), rows_short h.n e.rows limits.short lawful.lengths) in
    record {
      cut = cut;
      reads = ap (λ (ls : List (List ℕ)). next_entry ls 1) whole ∙ reads.0;
      entry = ap (entry_in h) whole ∙ reads.1;
      fits = omega (arith, length_text (entry_lines e), sum_by_le (λ l. length l + 1) 65 (entry_lines e) short, length-map e.rows row_line, lawful.count, limits.few);
    }
