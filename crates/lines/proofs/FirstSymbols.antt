-- The first nonzero symbol of a word as a search through it finds it.
use Rattle.std.proofs.Common.{◌≡◌, ◌≢◌, ℕ, zero, suc, ◌<◌, cond, List, [], ◌∷◌, length, get_or, Option, Some, None, MatchOption, unwrap_or, sym, refl, ap, ◌∙◌, arith}
use Rattle.std.proofs.lemmas.Bool.{eq-eqb, ne_eqb}
use Rattle.lines.specs.FirstSymbols.{first_nonzero}

-- a word of zeros has none
first-none : (u : List ℕ) → ((i : ℕ) → i < length u → get_or u i 0 ≡ 0) → first_nonzero u ≡ 0
first-none [] zeros = refl
first-none (a ∷ u) zeros = ap (λ b. cond b (first_nonzero u) a) (eq-eqb a 0 (zeros 0 (omega arith))) ∙ first-none u (λ i h. zeros (suc i) (omega (arith, h)))

-- a symbol after zeros is the first
first-at : (u : List ℕ) (i a : ℕ) → i < length u → get_or u i 0 ≡ a → a ≢ 0 → ((k : ℕ) → k < i → get_or u k 0 ≡ 0) → first_nonzero u ≡ a
first-at [] i a h e some zeros = absurd (omega (arith, h))
first-at (b ∷ u) zero a h e some zeros = ap (λ t. cond t (first_nonzero u) b) (ne_eqb b 0 (λ z. some (sym e ∙ z))) ∙ e
first-at (b ∷ u) (suc i) a h e some zeros = ap (λ t. cond t (first_nonzero u) b) (eq-eqb b 0 (zeros 0 (omega arith))) ∙ first-at u i a (omega (arith, h)) e some (λ k l. zeros (suc k) (omega (arith, l)))

pub first_found : (u : List ℕ) (found : Option ℕ) → MatchOption found ((i : ℕ) → i < length u → get_or u i 0 ≡ 0) (λ a. (i : ℕ) × (i < length u) × (get_or u i 0 ≡ a) × (a ≢ 0) × ((k : ℕ) → k < i → get_or u k 0 ≡ 0)) → unwrap_or found 0 ≡ first_nonzero u
first_found u None zeros = sym (first-none u zeros)
first_found u (Some a) h = sym (first-at u h.0 a h.1 h.2 h.3 h.4)
