-- What a field and a symbol weight mean, and the laws they keep.
use Rattle.std.specs.Prelude.{◌≡◌, ℕ, ◌<◌, ◌≤◌, cond, nat_lt}

-- A field: its order q, with a sum and a product on the codes 0 to q - 1.
pub record FieldMeaning : Type 0 where
  pub order : ℕ
  pub sum : ℕ → ℕ → ℕ
  pub product : ℕ → ℕ → ℕ

-- A number below q is read as itself, and one of q or more as 0.
abbrev pub read_below : ℕ → ℕ → ℕ
read_below q a = cond (nat_lt a q) a 0

-- What a field reads a number as. So a meaning is settled by its values below q, and two fields of equal meaning have equal records.
abbrev pub read : FieldMeaning → ℕ → ℕ
read f a = read_below f.order a

-- The laws of a field, with what it tells as negatives and inverses.
pub record FieldLaws (f : FieldMeaning) (negative inverse : ℕ → ℕ) : Type 0 where
  pub low : 2 ≤ f.order
  pub high : f.order ≤ 16
  pub sum_reads : (a b : ℕ) → f.sum a b ≡ f.sum (read f a) (read f b)
  pub product_reads : (a b : ℕ) → f.product a b ≡ f.product (read f a) (read f b)
  pub negative_reads : (a : ℕ) → negative a ≡ negative (read f a)
  pub inverse_reads : (a : ℕ) → inverse a ≡ inverse (read f a)
  pub sum_below : (a b : ℕ) → a < f.order → b < f.order → f.sum a b < f.order
  pub product_below : (a b : ℕ) → a < f.order → b < f.order → f.product a b < f.order
  pub negative_below : (a : ℕ) → a < f.order → negative a < f.order
  pub inverse_below : (a : ℕ) → a < f.order → inverse a < f.order
  pub sum_comm : (a b : ℕ) → a < f.order → b < f.order → f.sum a b ≡ f.sum b a
  pub product_comm : (a b : ℕ) → a < f.order → b < f.order → f.product a b ≡ f.product b a
  pub sum_assoc : (a b c : ℕ) → a < f.order → b < f.order → c < f.order → f.sum (f.sum a b) c ≡ f.sum a (f.sum b c)
  pub product_assoc : (a b c : ℕ) → a < f.order → b < f.order → c < f.order → f.product (f.product a b) c ≡ f.product a (f.product b c)
  pub distributes : (a b c : ℕ) → a < f.order → b < f.order → c < f.order → f.product a (f.sum b c) ≡ f.sum (f.product a b) (f.product a c)
  pub sum_zero : (a : ℕ) → a < f.order → f.sum 0 a ≡ a
  pub product_one : (a : ℕ) → a < f.order → f.product 1 a ≡ a
  pub cancels : (a : ℕ) → a < f.order → f.sum a (negative a) ≡ 0
  pub inverse_zero : inverse 0 ≡ 0
  pub inverts : (a : ℕ) → a < f.order → 0 < a → f.product a (inverse a) ≡ 1

-- A symbol weight: its order q, its top, and the weight of each code.
pub record WeightMeaning : Type 0 where
  pub order : ℕ
  pub top : ℕ
  pub of : ℕ → ℕ

-- The laws of a symbol weight: 0 and what is no code weigh 0, each other code at least 1 and at most the top.
pub record WeightLaws (w : WeightMeaning) : Type 0 where
  pub low : 2 ≤ w.order
  pub high : w.order ≤ 16
  pub some : 1 ≤ w.top
  pub few : w.top ≤ 8
  pub zero : w.of 0 ≡ 0
  pub beyond : (a : ℕ) → w.order ≤ a → w.of a ≡ 0
  pub positive : (a : ℕ) → 0 < a → a < w.order → 1 ≤ w.of a
  pub bounded : (a : ℕ) → a < w.order → w.of a ≤ w.top
