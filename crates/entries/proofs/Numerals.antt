-- The numbers of a header: how a word is read, and that a number and its word determine each other.
use Rattle.std.proofs.Common.{◌≡◌, ℕ, zero, suc, ◌^◌, ◌<◌, ◌≤◌, Bool, true, false, cond, not, ◌&&◌, eqb, ltb, leb, List, [], ◌∷◌, length, get_or, Some, None, decimal, sym, refl, ap, ◌∙◌, suc-le-suc, zero-le, arith, rules}
use Rattle.std.proofs.lemmas.Bool.{and_parts, and_from, lt-ltb, le-leb, ltb-true, leb-true, ne_eqb, eqb-false, not-true, not_from_false, cond-true}
use Rattle.std.proofs.lemmas.Str.Parse.{IsNumeralModel, numerals_by_fold, digits_value_short}
use Rattle.std.proofs.lemmas.Fmt.{decimal_digit, decimal-digits_value, digits_value-decimal, digits_decimal, decimal_nonempty, first_decimal, length-decimal-le}
use Rattle.std.specs.List.{list_all}
use Rattle.std.specs.Str.{all_ascii_digits}
use Rattle.std.specs.Char.{is_ascii_digit}
use Rattle.entries.specs.Numbers.{digits_value, is_number, number_of}

-- a word of one to three digits, the first not 0, is a number
pub number-some : (w : List ℕ) → 0 < length w → length w ≤ 3 → (get_or w 0 0 ≡ 48 → ⊥) → all_ascii_digits w ≡ true → Some (digits_value 0 w) ≡ number_of w
number-some w some few first digits =
    sym (cond-true (is_number w) _ _
    (and_from (ltb 0 (length w)) _ (lt-ltb 0 (length w) some)
    (and_from (leb (length w) 3) _ (le-leb (length w) 3 few)
    (and_from (not (eqb (get_or w 0 0) 48)) _ (not_from_false _ (ne_eqb (get_or w 0 0) 48 first)) digits))))

-- the digits of a header's numbers are numerals, as the library has them
own : IsNumeralModel (λ ds. all_ascii_digits ds ≡ true) (digits_value 0)
own = numerals_by_fold _ (search rules) digits_value (search rules)

-- all the bytes of a word are digits
pub digits_listed : (w : List ℕ) → list_all is_ascii_digit w ≡ all_ascii_digits w
digits_listed [] = refl
digits_listed (b ∷ w) = ap (λ t. is_ascii_digit b && t) (digits_listed w)

-- what a number's word is
pub number_parts : (w : List ℕ) → is_number w ≡ true → (0 < length w) × (length w ≤ 3) × (get_or w 0 0 ≡ 48 → ⊥) × (all_ascii_digits w ≡ true)
number_parts w t =
    let a = and_parts (ltb 0 (length w)) _ t in
    let b = and_parts (leb (length w) 3) _ a.1 in
    let c = and_parts (not (eqb (get_or w 0 0) 48)) _ b.1 in
    (ltb-true _ _ a.0, leb-true _ _ b.0, eqb-false (get_or w 0 0) 48 (not-true _ c.0), c.1)

some_test : (b : Bool) (x v : ℕ) → cond b (Some x) None ≡ Some v → b ≡ true
some_test true x v e = refl
some_test false x v e = absurd (let z : ◌≡◌ {A = ℕ} 0 1 = cc in omega arith)

some_value : (b : Bool) (x v : ℕ) → cond b (Some x) None ≡ Some v → x ≡ v
some_value true x v e = cc
some_value false x v e = absurd (let z : ◌≡◌ {A = ℕ} 0 1 = cc in omega arith)

positive : (v : ℕ) (w : List ℕ) → decimal v ≡ w → (get_or w 0 0 ≡ 48 → ⊥) → 1 ≤ v
positive zero w is first = absurd (first (ap (λ (ds : List ℕ). get_or ds 0 0) (sym is ∙ decimal_digit 0 (suc-le-suc zero-le))))
positive (suc v) w is first = suc-le-suc zero-le

-- a number's word is its decimal, and it is at least 1
pub number_word : (w : List ℕ) (v : ℕ) → number_of w ≡ Some v → (w ≡ decimal v) × (1 ≤ v)
number_word w v e =
    let t : is_number w ≡ true = some_test (is_number w) (digits_value 0 w) v e in
    let value : digits_value 0 w ≡ v = some_value (is_number w) (digits_value 0 w) v e in
    let parts = number_parts w t in
    let small : digits_value 0 w < 10 ^ 3 = digits_value_short own w 3 parts.3 parts.1 in
    let is : decimal v ≡ w = ap decimal (sym value) ∙ decimal-digits_value own w parts.3 parts.0 (λ z. absurd (parts.2 z)) (omega arith) in
    (sym is, positive v w is parts.2)

-- a number below 1000 is read from its decimal
pub word_number : (v : ℕ) → 1 ≤ v → v < 1000 → number_of (decimal v) ≡ Some v
word_number v some few =
    let low : v < 2 ^ 64 = omega arith in
    sym (number-some (decimal v) (decimal_nonempty v low) (length-decimal-le 3 v (omega arith) few low) (λ e. omega (arith, first_decimal v some low)) (digits_decimal own v low)) ∙ ap Some (digits_value-decimal own v low)

-- the bytes of a decimal are digits
pub decimal_digits : (v : ℕ) → v < 1000 → all_ascii_digits (decimal v) ≡ true
decimal_digits v few = digits_decimal own v (omega arith)
