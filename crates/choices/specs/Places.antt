-- Places in a list, and the step from one to the next.
use Rattle.std.specs.Prelude.{◌≡◌, ℕ, ◌+◌, ◌<◌, Bool, true, false, List, length, slice_index_or}
use Rattle.theory.specs.Codes.{same, any}

-- x stands at place i of the list.
abbrev pub StandsAt : {X : Type 0} → List X → ℕ → X → Type 0
StandsAt {X} xs i x = (i < length xs) × ((d : X) → slice_index_or xs i d ≡ x)

-- A list of numbers stands somewhere in a list of such lists, as a test.
abbrev pub listed : List (List ℕ) → List ℕ → Bool
listed xs x = any (same x) xs

-- What a step does: from x to the next of the list, or, where x was the last, nothing.
abbrev pub Steps : {X : Type 0} → List X → Bool → X → X → Type 0
Steps xs true x y = (i : ℕ) → StandsAt xs i x → StandsAt xs (i + 1) y
Steps xs false x y = (y ≡ x) × ((i : ℕ) → StandsAt xs i x → i + 1 ≡ length xs)
