-- GF(4) keeps the laws, and its products come from the bits of the codes.
use Rattle.std.specs.Prelude.{◌≡◌, ℕ, ◌+◌, ◌*◌, ◌/◌, ◌<◌, [], ◌∷◌, bit_and, bit_xor, nat_eq, nat_lt, slice_index, refl}
use Rattle.std.proofs.Common.{sym, ◌∙◌, ap, arith}
use Rattle.std.proofs.lemmas.Bool.{eqb-true, ltb-true}
use Rattle.theory.specs.Meanings.{FieldLaws, read_below}
use Rattle.fields.specs.Fours.{four, four_inverse, products}
use Rattle.fields.specs.Finite.{Reads, read_twice, field_laws, pairs_at}

four_reads : Reads four (read_below 4) four_inverse
four_reads = record {
  sums = λ a b. sym (ap (λ (x : ℕ). bit_xor x (read_below 4 (read_below 4 b))) (read_twice 4 a (omega arith)) ∙ ap (λ (y : ℕ). bit_xor (read_below 4 a) y) (read_twice 4 b (omega arith)));
  products = λ a b. sym (ap (λ (x : ℕ). slice_index products (4 * x + read_below 4 (read_below 4 b))) (read_twice 4 a (omega arith)) ∙ ap (λ (y : ℕ). slice_index products (4 * read_below 4 a + y)) (read_twice 4 b (omega arith)));
  negatives = λ a. sym (read_twice 4 a (omega arith));
  inverses = λ a. ap (λ (x : ℕ). slice_index (0 ∷ 1 ∷ 3 ∷ 2 ∷ []) x) (sym (read_twice 4 a (omega arith)));
}

pub four_laws : FieldLaws four (read_below 4) four_inverse
four_laws = field_laws four (read_below 4) four_inverse refl four_reads

-- the two bits of a product
abbrev pub high : ℕ → ℕ → ℕ
high a b = bit_xor (bit_xor (bit_and (a / 2) (b / 2)) (bit_and (bit_and (a / 2) b) 1)) (bit_and (bit_and a 1) (b / 2))

abbrev pub low : ℕ → ℕ → ℕ
low a b = bit_xor (bit_and (a / 2) (b / 2)) (bit_and (bit_and a b) 1)

pub bit_product : (a b : ℕ) → a < 4 → b < 4 → 2 * high a b + low a b ≡ slice_index products (4 * a + b)
bit_product a b ha hb = eqb-true _ _ (pairs_at 4 (λ x y. nat_eq (2 * high x y + low x y) (slice_index products (4 * x + y))) refl a b ha hb)

pub product_small : (a b : ℕ) → a < 4 → b < 4 → slice_index products (4 * a + b) < 4
product_small a b ha hb = ltb-true _ _ (pairs_at 4 (λ x y. nat_lt (slice_index products (4 * x + y)) 4) refl a b ha hb)
