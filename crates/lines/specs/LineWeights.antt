-- The weights of the words of a line.
use Rattle.std.specs.Prelude.{◌≡◌, ℕ, ◌-◌, ◌^◌, min, List, map, take}
use Rattle.theory.specs.Meanings.{FieldMeaning, WeightMeaning}
use Rattle.theory.specs.Codes.{weigh, multiples, least, line_weight}
use Rattle.lines.specs.declared.weights.LineWeights.{LineWeights}

-- The weight of a word as far as 32 bits go.
abbrev pub weighed : WeightMeaning → List ℕ → ℕ
weighed w u = min (weigh w u) (2 ^ 32 - 1)

-- The weights of the nonzero multiples of a word, in the order of the factors, and the least of them, as far as 32 bits go.
abbrev pub Weighs : FieldMeaning → WeightMeaning → List ℕ → LineWeights → Type 0
Weighs f w u r = (take r.count r.weights ≡ map (weighed w) (multiples f u)) × (r.least ≡ least (map (weighed w) (multiples f u)) (weighed w u))

-- The same of a word of up to 64 symbols: the weights are exact, and the least is the weight of the line.
abbrev pub WeighsLine : FieldMeaning → WeightMeaning → List ℕ → LineWeights → Type 0
WeighsLine f w u r = (take r.count r.weights ≡ map (weigh w) (multiples f u)) × (r.least ≡ line_weight f w u)
