-- Fields and weights have the words that name them.
use Rattle.std.proofs.Common.{◌≡◌, ℕ, ◌≤◌, Bool, true, false, List, [], ◌∷◌, Some, None, filter, sym, refl, ap, ◌∙◌, ⊎_elim, arith, lit≤}
use Rattle.std.proofs.lemmas.Slice.Eq.{bytes_eq-Decides}
use Rattle.std.proofs.lemmas.Bool.{cases_Bool, cond-true, cond-false}
use Rattle.std.specs.Str.{bytes_eq}
use Rattle.entries.specs.declared.names.FieldName.{FieldName}
use Rattle.entries.specs.declared.names.FieldName.TheVariants.{Gf2, Gf3, Gf4, Gf5, Gf7, Gf11, Gf13}
use Rattle.entries.specs.declared.names.WeightName.{WeightName}
use Rattle.entries.specs.declared.names.WeightName.TheVariants.{Hamming, Lee}
use Rattle.entries.specs.Names.{order, top, field_word, weight_word, named, field_named, goes_with, weight_named}

module _ {A : Type 0} (text : A → List ℕ) where
  -- what is named has the word
  pub named-word : (word : List ℕ) (x : A) (xs : List A) → named text word xs ≡ Some x → word ≡ text x
  named-word word x [] e = absurd (let z : ◌≡◌ {A = ℕ} 0 1 = cc in omega arith)
  named-word word x (y ∷ ys) e =
      ⊎_elim
      (λ t. let same : Some y ≡ Some x = sym (cond-true (bytes_eq word (text y)) _ _ t) ∙ e in let is : y ≡ x = cc in (bytes_eq-Decides word (text y)).0 t ∙ ap text is)
      (λ t. named-word word x ys (sym (cond-false (bytes_eq word (text y)) _ _ t) ∙ e))
      (cases_Bool (bytes_eq word (text y)))

pub word-of-field : (word : List ℕ) (f : FieldName) → field_named word ≡ Some f → word ≡ field_word f
word-of-field word f e = named-word field_word word f (Gf2 ∷ Gf3 ∷ Gf4 ∷ Gf5 ∷ Gf7 ∷ Gf11 ∷ Gf13 ∷ []) e

pub field-of-word : (f : FieldName) → field_named (field_word f) ≡ Some f
field-of-word Gf2 = refl
field-of-word Gf3 = refl
field-of-word Gf4 = refl
field-of-word Gf5 = refl
field-of-word Gf7 = refl
field-of-word Gf11 = refl
field-of-word Gf13 = refl

pub word-of-weight : (word : List ℕ) (f : FieldName) (w : WeightName) → weight_named word f ≡ Some w → word ≡ weight_word w
word-of-weight word f w e = named-word weight_word word w (filter (goes_with f) (Hamming ∷ Lee ∷ [])) e

-- the word of a weight names it where it goes with the field
pub weight-of-word : (f : FieldName) (w : WeightName) → goes_with f w ≡ true → weight_named (weight_word w) f ≡ Some w
weight-of-word f Hamming e = refl
weight-of-word f Lee e = rw e

pub weight_goes : (f : FieldName) (w : WeightName) → weight_named (weight_word w) f ≡ Some w → goes_with f w ≡ true
weight_goes f Hamming e = refl
weight_goes f Lee e = goes (goes_with f Lee) refl e
  where
    goes : (b : Bool) → goes_with f Lee ≡ b → weight_named (weight_word Lee) f ≡ Some Lee → goes_with f Lee ≡ true
    goes true is e = is
    goes false is e = absurd (let none : weight_named (weight_word Lee) f ≡ None = rw is in let z : ◌≡◌ {A = ℕ} 0 1 = cc in omega arith)

pub order_most : (f : FieldName) → order f ≤ 13
order_most Gf2 = lit≤ tt
order_most Gf3 = lit≤ tt
order_most Gf4 = lit≤ tt
order_most Gf5 = lit≤ tt
order_most Gf7 = lit≤ tt
order_most Gf11 = lit≤ tt
order_most Gf13 = lit≤ tt

pub top_most : (w : WeightName) (f : FieldName) → top w f ≤ 6
top_most Hamming f = lit≤ tt
top_most Lee Gf2 = lit≤ tt
top_most Lee Gf3 = lit≤ tt
top_most Lee Gf4 = lit≤ tt
top_most Lee Gf5 = lit≤ tt
top_most Lee Gf7 = lit≤ tt
top_most Lee Gf11 = lit≤ tt
top_most Lee Gf13 = lit≤ tt
