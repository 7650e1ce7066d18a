-- Weights by a list: the weight that a table means, and the first fault of a list.
use Rattle.std.specs.Prelude.{ℕ, ◌+◌, Bool, cond, ◌&&◌, List, [], ◌∷◌, length, Some, None, Option, ◌==◌, nat_le, nat_lt, slice_index}
use Rattle.theory.specs.Meanings.{WeightMeaning}
use Rattle.fields.specs.declared.refusal.FieldRefusal.{FieldRefusal}
use Rattle.fields.specs.declared.refusal.FieldRefusal.TheVariants.{OrderOutside, ListLength, WeightOutside}

-- The weight of order q whose list has the weights of the codes from 0 on.
abbrev pub table_of : ℕ → List ℕ → WeightMeaning
table_of q ws = record { order = q; top = 8; of = λ a. cond (nat_lt a q) (slice_index ws a) 0 }

-- An order is from 2 to 16.
abbrev pub in_range : ℕ → Bool
in_range q = nat_le 2 q && nat_le q 16

-- The first weight of a list outside 1 to 8, the codes counted on from a.
abbrev pub weight_fault : ℕ → List ℕ → Option FieldRefusal
weight_fault a [] = None
weight_fault a (w ∷ ws) = cond (nat_le 1 w && nat_le w 8) (weight_fault (a + 1) ws) (Some (WeightOutside a))

-- The first fault of an order and a list of the weights of 1 to q - 1.
abbrev pub table_fault : ℕ → List ℕ → Option FieldRefusal
table_fault q ws = cond (in_range q) (cond (length ws + 1 == q) (weight_fault 1 ws) (Some ListLength)) (Some OrderOutside)
