-- The entries handed out are the lines read so far.
use Rattle.std.proofs.Common.{◌≡◌, ℕ, zero, suc, ◌+◌, ◌≤◌, min, leb, List, [], ◌∷◌, ◌++◌, length, take, drop, Some, None, Ok, Err, Option, Result, sym, ap, ◌∙◌, subst, inl, inr, ⊎_elim, zero-le, suc-add, zero-add, arith}
use Rattle.std.specs.List.{AllByRecursion}
use Rattle.std.proofs.lemmas.List.{append_assoc, append-nil, flat_map_more, take_all, drop-drop}
use Rattle.std.proofs.lemmas.Bool.{cases_lt, cases_Bool, cond-true, cond-false, le-leb}
use Rattle.entries.specs.declared.entry_reader.EntryReader.{EntryReader}
use Rattle.entries.specs.declared.header.Header.{Header}
use Rattle.entries.specs.declared.refusal.TextRefusal.{TextRefusal}
use Rattle.entries.specs.declared.refusal.TextRefusal.TheVariants.{TooLong}
use Rattle.entries.specs.Lines.{lines}
use Rattle.entries.specs.Entries.{next_entry}
use Rattle.entries.specs.Written.{WrittenEntry, Lawful, entry_lines, entries_lines, entry_in, Ends}
use Rattle.entries.specs.EntryReaders.{text_in, lines_left, lines_read, entry_answer, EntryAfter, entries_of, ReadAs, HandsOut}
use Rattle.entries.proofs.EntryLines.{EntryStands, entry_stands, written-reads}

-- a front of a list, and so much of the rest
take_on : (n m : ℕ) (ls : List (List ℕ)) → take (n + m) ls ≡ take n ls ++ take m (drop n ls)
take_on zero m ls = ap (λ (j : ℕ). take j ls) (zero-add m)
take_on (suc n) m [] = ap (λ (j : ℕ). take j []) (suc-add n m) ∙ sym (take_all m [] zero-le)
take_on (suc n) m (l ∷ ls) = ap (λ (j : ℕ). take j (l ∷ ls)) (suc-add n m) ∙ ap (λ (us : List (List ℕ)). l ∷ us) (take_on n m ls)

take_min : (n : ℕ) (ls : List (List ℕ)) → take (min n (length ls)) ls ≡ take n ls
take_min n ls =
    ⊎_elim
    (λ lt. ap (λ (j : ℕ). take j ls) (omega arith))
    (λ ge. ap (λ (j : ℕ). take j ls) (omega arith) ∙ take_all (length ls) ls (omega arith) ∙ sym (take_all n ls ge))
    (cases_lt n (length ls))

-- one entry more among the entries' lines
entries_more : (es : List WrittenEntry) (e : WrittenEntry) → entries_lines es ++ (entry_lines e ++ [] ∷ []) ≡ entries_lines (es ++ e ∷ [])
entries_more es e = flat_map_more (λ (x : WrittenEntry). entry_lines x ++ [] ∷ []) [] es e

add_assoc_two : (k : ℕ) → k + 2 ≡ k + 1 + 1
add_assoc_two k = omega arith

-- the lines of an entry and of its end
entry-front : (ls : List (List ℕ)) (h : Header) → EntryStands ls h → take (h.k + 2) ls ≡ entry_lines (entry_in h ls) ++ take 1 (drop (h.k + 1) ls)
entry-front ls h e =
    ap (λ (j : ℕ). take j ls) (add_assoc_two h.k) ∙ take_on (h.k + 1) 1 ls ∙ ap (λ (us : List (List ℕ)). us ++ take 1 (drop (h.k + 1) ls)) e.written

module _ (r s : EntryReader) (es : List WrittenEntry) (place : drop (lines_read r) (lines (text_in r)) ≡ lines_left r) (same : text_in s ≡ text_in r) where
  -- an entry read is one entry more
  pub entry_more : (h : Header) (i : ℕ) → next_entry (lines_left r) i ≡ Ok (Some h) → EntryAfter r (Ok (Some h)) s → ReadAs r es → ReadAs s (es ++ entry_in h (lines_left r) ∷ [])
  entry_more h i reads after so_far =
      let ls = lines_left r in
      let e : WrittenEntry = entry_in h ls in
      let stands = entry_stands ls i h reads in
      let front : take (lines_read s) (lines (text_in s)) ≡ take (lines_read r) (lines (text_in r)) ++ (entry_lines e ++ take 1 (drop (h.k + 1) ls)) =
      ap (λ (t : List ℕ). take (lines_read s) (lines t)) same
      ∙ ap (λ (j : ℕ). take j (lines (text_in r))) after.1
      ∙ take_on (lines_read r) (min (h.k + 2) (length ls)) (lines (text_in r))
      ∙ ap (λ (us : List (List ℕ)). take (lines_read r) (lines (text_in r)) ++ take (min (h.k + 2) (length ls)) us) place
      ∙ ap (λ (us : List (List ℕ)). take (lines_read r) (lines (text_in r)) ++ us) (take_min (h.k + 2) ls ∙ entry-front ls h stands) in
      ⊎_elim
      (λ begun.
      ⊎_elim
      (λ none. inr (
        ap (λ (us : List (List ℕ)). us ++ [] ∷ []) (front ∙ ap (λ (us : List (List ℕ)). us ++ (entry_lines e ++ take 1 (drop (h.k + 1) ls))) begun ∙ ap (λ (us : List (List ℕ)). entries_lines es ++ (entry_lines e ++ take 1 us)) none)
            ∙ ap (λ (us : List (List ℕ)). (entries_lines es ++ us) ++ [] ∷ []) (append-nil (entry_lines e))
            ∙ append_assoc (entries_lines es) (entry_lines e) ([] ∷ []) ∙ entries_more es e,
        after.0 ∙ ap (λ (j : ℕ). drop j ls) (add_assoc_two h.k) ∙ sym (drop-drop 1 (h.k + 1) ls) ∙ ap (λ (us : List (List ℕ)). drop 1 us) none,
      ))
      (λ gap. inl
      (front ∙ ap (λ (us : List (List ℕ)). us ++ (entry_lines e ++ take 1 (drop (h.k + 1) ls))) begun ∙ ap (λ (us : List (List ℕ)). entries_lines es ++ (entry_lines e ++ take 1 us)) gap ∙ entries_more es e))
      stands.end)
      (λ over. absurd (omega (arith, stands.enough, ap length over.1)))
      so_far

-- an answer without an entry leaves what was read
pub no_more : (r s : EntryReader) (es : List WrittenEntry) → s ≡ r → ReadAs r es → ReadAs s (es ++ [])
no_more r s es same so_far = subst (λ (t : EntryReader). ReadAs t (es ++ [])) (sym same) (subst (λ (fs : List WrittenEntry). ReadAs r fs) (sym (append-nil es)) so_far)

-- the lines left decide, where the text is not too long
some_decided : (r : EntryReader) (h : Header) → Ok (Some h) ≡ entry_answer r → next_entry (lines_left r) (lines_read r + 1) ≡ Ok (Some h)
some_decided r h e =
    ⊎_elim
    (λ t. sym (cond-true (leb (length (text_in r)) 60000) (next_entry (lines_left r) (lines_read r + 1)) (Err TooLong) t) ∙ sym e)
    (λ t. let clash : Ok (Some h) ≡ Err TooLong = e ∙ cond-false (leb (length (text_in r)) 60000) (next_entry (lines_left r) (lines_read r + 1)) (Err TooLong) t in let z : ◌≡◌ {A = ℕ} 0 1 = cc in absurd (omega arith))
    (cases_Bool (leb (length (text_in r)) 60000))

-- what is handed out is lawful
pub answer-lawful : (r : EntryReader) (a : Result (Option Header) TextRefusal) → a ≡ entry_answer r → AllByRecursion Lawful (entries_of a (lines_left r))
answer-lawful r (Ok (Some h)) e = ((entry_stands (lines_left r) (lines_read r + 1) h (some_decided r h e)).lawful, tt)
answer-lawful r (Ok None) e = tt
answer-lawful r (Err f) e = tt

-- the lines read so far after any answer
pub answer-joined : (r s : EntryReader) (a : Result (Option Header) TextRefusal) (es : List WrittenEntry) → drop (lines_read r) (lines (text_in r)) ≡ lines_left r → text_in s ≡ text_in r → a ≡ entry_answer r → EntryAfter r a s → ReadAs r es → ReadAs s (es ++ entries_of a (lines_left r))
answer-joined r s (Ok (Some h)) es place same e after so_far = entry_more r s es place same h (lines_read r + 1) (some_decided r h e) after so_far
answer-joined r s (Ok None) es place same e after so_far = no_more r s es after so_far
answer-joined r s (Err f) es place same e after so_far = no_more r s es after so_far

-- an entry that stands next in the text is handed out
pub answer_back : (r : EntryReader) (a : Result (Option Header) TextRefusal) (e : WrittenEntry) (rest : List (List ℕ)) → a ≡ entry_answer r → Lawful e → Ends rest → length (text_in r) ≤ 60000 → lines_left r ≡ entry_lines e ++ rest → entries_of a (lines_left r) ≡ e ∷ []
answer_back r a e rest value lawful end few stands =
    let reads = written-reads e rest (lines_read r + 1) lawful end in
    let is : a ≡ Ok (Some e.header) =
    value ∙ cond-true (leb (length (text_in r)) 60000) _ _ (le-leb _ _ few) ∙ ap (λ (ls : List (List ℕ)). next_entry ls (lines_read r + 1)) stands ∙ reads.0 in
    ap (λ (b : Result (Option Header) TextRefusal). entries_of b (lines_left r)) is ∙ ap (λ (ls : List (List ℕ)). entry_in e.header ls ∷ []) stands ∙ ap (λ (x : WrittenEntry). x ∷ []) reads.1

-- what an answer means for the entries read
pub hands_out : (r s : EntryReader) (a : Result (Option Header) TextRefusal) → text_in s ≡ text_in r → a ≡ entry_answer r → EntryAfter r a s → HandsOut r a s
hands_out r s a text value after = record {
  lawful = answer-lawful r a value;
  joined = λ es so_far. answer-joined r s a es r.parts.place text value after so_far;
  back = λ e rest lawful end few stands. answer_back r a e rest value lawful end few stands;
}
