-- One form among those in which a word is finished or not.
use Rattle.std.proofs.Common.{◌≡◌, ℕ, zero, suc, ◌<◌, Bool, true, false, cond, not, ◌||◌, leb, List, [], ◌∷◌, length, get_or, take, drop, set, sym, refl, ap, ◌∙◌, arith}
use Rattle.std.proofs.lemmas.List.{set-get_or}
use Rattle.std.proofs.lemmas.Bool.{eq-eqb}
use Rattle.theory.specs.Codes.{is_zero}
use Rattle.theory.specs.Forms.{GeneratorForm}
use Rattle.theory.specs.Standings.{no_form, message_weight, finished}
use Rattle.theory.proofs.Lists.Truths.{or_last, or_swap}
use Rattle.theory.proofs.Lists.Zeros.{zero_symbol}
use Rattle.theory.proofs.Lists.Counts.{count_by-none}

-- With the level of form j set to x, a word is finished in another form or of weight at most x in this.
pub finished-set : (js : List GeneratorForm) (ts : List ℕ) (j x : ℕ) (u : List ℕ) → j < length js → j < length ts → finished js (set ts j x) u ≡ ((finished (take j js) (take j ts) u || finished (drop (suc j) js) (drop (suc j) ts) u) || leb (message_weight (get_or js j no_form) u) x)
finished-set [] ts j x u l k = absurd (omega arith)
finished-set (f ∷ js) [] j x u l k = absurd (omega arith)
finished-set (f ∷ js) (t ∷ ts) zero x u l k = or_last (leb (message_weight f u) x) (finished js ts u)
finished-set (f ∷ js) (t ∷ ts) (suc j) x u l k = ap (cond (leb (message_weight f u) t) true) (finished-set js ts j x u (omega arith) (omega arith)) ∙ or_swap (leb (message_weight f u) t) _ _ ∙ ap (λ b. b || leb (message_weight (get_or js j no_form) u) x) (or_swap (leb (message_weight f u) t) (finished (take j js) (take j ts) u) _)

pub finished-at : (js : List GeneratorForm) (ts : List ℕ) (j : ℕ) (u : List ℕ) → j < length js → j < length ts → finished js ts u ≡ ((finished (take j js) (take j ts) u || finished (drop (suc j) js) (drop (suc j) ts) u) || leb (message_weight (get_or js j no_form) u) (get_or ts j 0))
finished-at js ts j u l k = ap (λ l. finished js l u) (sym (set-get_or ts j 0)) ∙ finished-set js ts j (get_or ts j 0) u l k

pub zero_message : (j : GeneratorForm) (u : List ℕ) → is_zero u ≡ true → message_weight j u ≡ 0
zero_message j u z = count_by-none _ j.positions (λ p. ap not (eq-eqb (get_or u p 0) 0 (zero_symbol u p z)))

pub nonzero_message : (j : GeneratorForm) (u : List ℕ) → 0 < message_weight j u → is_zero u ≡ false
nonzero_message j u h = go (is_zero u) refl
  where
    go : (b : Bool) → is_zero u ≡ b → b ≡ false
    go false e = refl
    go true e = absurd (omega (arith, zero_message j u e))
