-- How many words a level visits, and with which choice and coefficients each is made.
use Rattle.std.proofs.Common.{◌≡◌, ℕ, zero, suc, ◌+◌, ◌-◌, ◌*◌, ◌^◌, ◌<◌, ◌≤◌, List, [], map, length, get_or, ap, ◌∙◌, arith}
use lib.ListN.{length-map}
use Rattle.std.proofs.lemmas.List.{get_or-map}
use Rattle.theory.specs.Meanings.{FieldMeaning}
use Rattle.theory.specs.Codes.{combination}
use Rattle.theory.specs.Visits.{choices, coefficients, picked, visits, binomial}
use Rattle.theory.proofs.Lists.Members.{In}
use Rattle.theory.proofs.Lists.Blocks.{length-joined, get_or-joined}
use Rattle.theory.proofs.Order.Coefficients.{length-coefficients}
use Rattle.theory.proofs.Order.Choices.{length-choices}

-- The coefficient lists of one choice.
abbrev pub lists : ℕ → ℕ → ℕ
lists q t = (q - 1) ^ (t - 1)

pub length_lists : (q t : ℕ) → 1 ≤ t → length (coefficients q t) ≡ lists q t
length_lists q zero l = absurd (omega arith)
length_lists q (suc t) l = let e : t ≡ suc t - 1 = omega arith in length-coefficients q t ∙ ap (λ s. (q - 1) ^ s) e

-- The word of a choice and its coefficients.
abbrev pub word : FieldMeaning → ℕ → List (List ℕ) → List ℕ → List ℕ → List ℕ
word f n rows c cs = combination f n cs (picked rows c)

module _ (f : FieldMeaning) (n : ℕ) (rows : List (List ℕ)) (t : ℕ) where
  abbrev row : List ℕ → List (List ℕ)
  row c = map (word f n rows c) (coefficients f.order t)

  module _ (some : 1 ≤ t) where
    long : (c : List ℕ) → In c (choices (length rows) t) → length (row c) ≡ lists f.order t
    long c m = length-map (coefficients f.order t) (word f n rows c) ∙ length_lists f.order t some

    pub length-visits : length (visits f n rows t) ≡ binomial (length rows) t * lists f.order t
    unfolding visits
    length-visits = length-joined row (lists f.order t) (choices (length rows) t) long ∙ ap (λ m. m * lists f.order t) (length-choices (length rows) t)

    -- Choice a with coefficients b is visit a * lists + b.
    pub visits-at : (a b : ℕ) → a < binomial (length rows) t → b < lists f.order t → get_or (visits f n rows t) (a * lists f.order t + b) [] ≡ word f n rows (get_or (choices (length rows) t) a []) (get_or (coefficients f.order t) b [])
    unfolding visits
    visits-at a b p r = get_or-joined row (lists f.order t) (choices (length rows) t) long a b [] [] (omega (arith, length-choices (length rows) t)) r ∙ get_or-map (word f n rows (get_or (choices (length rows) t) a [])) (coefficients f.order t) b [] [] (omega (arith, length_lists f.order t some))
