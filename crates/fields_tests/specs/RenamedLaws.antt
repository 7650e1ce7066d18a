-- The renamed field keeps the laws of a field.
use Rattle.std.specs.Prelude.{◌≡◌, ℕ, ◌+◌, ◌-◌, ◌*◌, ◌%◌, [], ◌∷◌, nat_lt, refl}
use Rattle.std.proofs.Common.{sym, ap, ◌∙◌, ⊎_elim}
use Rattle.std.proofs.lemmas.List.{get_or_past}
use Rattle.std.proofs.lemmas.Bool.{cases_lt, cond-true, cond-false, lt-ltb, le-ltb}
use Rattle.theory.specs.Meanings.{FieldLaws, read_below}
use Rattle.fields.specs.Finite.{field_laws}
use Rattle.fields_tests.specs.Renamed.{rename, renamed_five, renamed_negation, renamed_inversion}

-- A code of 5 or more stands for 0, as 0 does.
reads : (a : ℕ) → rename a ≡ rename (read_below 5 a)
reads a =
    ⊎_elim
    (λ lt. ap rename (sym (cond-true (nat_lt a 5) a 0 (lt-ltb a 5 lt))))
    (λ ge. get_or_past (0 ∷ 1 ∷ 3 ∷ 2 ∷ 4 ∷ []) a 0 ge ∙ ap rename (sym (cond-false (nat_lt a 5) a 0 (le-ltb a 5 ge))))
    (cases_lt a 5)

pub renamed_laws : FieldLaws renamed_five renamed_negation renamed_inversion
renamed_laws = field_laws renamed_five renamed_negation renamed_inversion refl (record {
  sums = λ a b. ap (λ (x : ℕ). rename ((x + rename b) % 5)) (reads a) ∙ ap (λ (y : ℕ). rename ((rename (read_below 5 a) + y) % 5)) (reads b);
  products = λ a b. ap (λ (x : ℕ). rename ((x * rename b) % 5)) (reads a) ∙ ap (λ (y : ℕ). rename ((rename (read_below 5 a) * y) % 5)) (reads b);
  negatives = λ a. ap (λ (x : ℕ). rename ((5 - x) % 5)) (reads a);
  inverses = reads;
})
