-- The marked columns as the list of columns used.
use Rattle.std.proofs.Common.{ℕ, Bool, List, arith}
use Rattle.std.specs.List.{range_with_len}
use Rattle.theory.proofs.Lists.Truths.{same_truth}
use Rattle.theory.proofs.Lists.Members.{in_kept, of_kept, in_counting}
use Rattle.theory.proofs.Lists.Tests.{among_in}
use Rattle.theory.specs.Forms.{among}
use Rattle.forms.specs.ColumnMarks.{marked, marked_columns, MarksUsed}

pub marks_are_used : (n : ℕ) (marks : List Bool) → MarksUsed n marks (marked_columns n marks)
marks_are_used n marks c h =
    let told = among_in c (marked_columns n marks) in
    same_truth (marked marks c) (among c (marked_columns n marks))
    (λ m. told.1 (in_kept (marked marks) c (range_with_len 0 n) (in_counting c 0 n (omega arith) (omega arith)) m))
    (λ m. (of_kept (marked marks) c (range_with_len 0 n) (told.0 m)).1)
