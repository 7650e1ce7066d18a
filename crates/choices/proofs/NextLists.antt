-- The last coefficient that is not q - 1 takes the step to the next; where there is none behind the first, the coefficients are the last.
use Rattle.std.proofs.Common.{◌≡◌, ℕ, zero, suc, ◌+◌, ◌<◌, ◌≤◌, true, List, ◌∷◌, length, get_or, take, replicate, sym, refl, ap, subst, ⊎_elim, arith}
use Rattle.std.proofs.ByRecursion.{All-get_or}
use Rattle.std.proofs.lemmas.Bool.{cases_eq}
use Rattle.theory.specs.Visits.{coefficients}
use Rattle.theory.proofs.Lists.Members.{In}
use Rattle.theory.proofs.Order.Coefficients.{distinct-coefficients, next_list, end_list, first-list, list-codes}
use Rattle.theory.proofs.Order.Exactly.{coefficients_are}
use Rattle.theory.proofs.Order.Visits.{length_lists}
use Rattle.choices.specs.Places.{StandsAt, listed, Steps}
use Rattle.choices.specs.Turns.{FullBehind, LastToTurn, turned}
use Rattle.choices.specs.Coefficients.{AllLists}
use Rattle.choices.proofs.Places.{stands_in, first_stands, next_stands, last_stands, stands_listed, listed_in}

module _ (q : ℕ) (two : 2 ≤ q) (cs : List ℕ) where
  -- A code that is not q - 1 can go up.
  pub free_code : In cs (coefficients q (length cs)) → (p : ℕ) → LastToTurn q cs p → get_or cs p 0 + 1 < q
  free_code m p t =
      let b = All-get_or (λ c. (1 ≤ c) × (c < q)) cs p 0 t.1 (list-codes q two (length cs) cs m).2 in
      ⊎_elim (λ e. absurd (t.2 (omega (arith, e)))) (λ n. omega (arith, n, b)) (cases_eq (get_or cs p 0 + 1) q)

  pub steps_turn : (p : ℕ) → LastToTurn q cs p → Steps (coefficients q (length cs)) true cs (turned cs p)
  steps_turn p t i s =
      let m = stands_in (coefficients q (length cs)) i cs s in
      next_stands (coefficients q (length cs)) (distinct-coefficients q (length cs)) cs (turned cs p) (next_list q two (length cs) cs p m t.0 t.1 (free_code m p t) t.3) i s

  pub steps_over : FullBehind q cs 0 → (i : ℕ) → StandsAt (coefficients q (length cs)) i cs → i + 1 ≡ length (coefficients q (length cs))
  steps_over full i s =
      let m = stands_in (coefficients q (length cs)) i cs s in
      last_stands (coefficients q (length cs)) (distinct-coefficients q (length cs)) cs (end_list q two (length cs) cs m (λ j l h. full j l h)) i s

take-replicate : (n t : ℕ) → t ≤ n → take {A = ℕ} t (replicate n 1) ≡ replicate t 1
take-replicate n zero l = refl
take-replicate zero (suc t) l = absurd (omega arith)
take-replicate (suc n) (suc t) l = ap (λ u. 1 ∷ u) (take-replicate n t (omega arith))

pub ones_stand : (q t : ℕ) → 2 ≤ q → 1 ≤ t → t ≤ 32 → StandsAt (coefficients q t) 0 (take t (replicate 32 1))
ones_stand q t two some small = subst (StandsAt (coefficients q t) 0) (sym (take-replicate 32 t small)) (first_stands (coefficients q t) (replicate t 1) (first-list q two t some))

-- Codes that are all 1 are kept as coefficients.
pub ones_kept : (q t : ℕ) → 2 ≤ q → 1 ≤ t → t ≤ 32 → (t ≤ 32) × (2 ≤ q) × (listed (coefficients q t) (take t (replicate 32 1)) ≡ true)
ones_kept q t two some small = (small, two, stands_listed (coefficients q t) 0 _ (ones_stand q t two some small))

list_rows : (q t : ℕ) (cs : List ℕ) → listed (coefficients q t) cs ≡ true → 1 ≤ t
list_rows q zero cs h = absurd (listed_in (coefficients q 0) cs h)
list_rows q (suc t) cs h = omega arith

-- So are they in place of coefficients that are kept, and they stand first.
module _ (q t : ℕ) (cs : List ℕ) (h : (t ≤ 32) × (2 ≤ q) × (listed (coefficients q t) cs ≡ true)) where
  pub ones_stand-again : StandsAt (coefficients q t) 0 (take t (replicate 32 1))
  ones_stand-again = ones_stand q t h.1 (list_rows q t cs h.2) h.0

  pub ones_kept-again : (t ≤ 32) × (2 ≤ q) × (listed (coefficients q t) (take t (replicate 32 1)) ≡ true)
  ones_kept-again = ones_kept q t h.1 (list_rows q t cs h.2) h.0

pub all_lists : (q t : ℕ) → AllLists q t
all_lists q t two = (coefficients_are q two t, length_lists q t)
