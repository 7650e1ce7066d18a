-- Tests: whether any of a list passes, whether words are equal, and whether a number or a word stands in a list.
use Rattle.std.proofs.Common.{◌≡◌, ℕ, Bool, true, false, cond, ◌||◌, eqb, List, [], ◌∷◌, ◌++◌, map, Decides, sym, refl, ap, ◌∙◌, inl, inr}
use Rattle.std.proofs.lemmas.Slice.Eq.{compares_Decides}
use Rattle.std.proofs.lemmas.Bool.{both_ways, cases_Bool, cond-true, cond-false, cond_both, eqb-true, eq-eqb, true≢false}
use Rattle.std.proofs.lemmas.Bool.Decides.{same_from_decides}
use Rattle.theory.specs.Codes.{same, any}
use Rattle.theory.specs.Forms.{among}
use Rattle.theory.proofs.Lists.Members.{In, in_cast}

module _ {X : Type 0} (p : X → Bool) where
  pub any-in : (x : X) (xs : List X) → In x xs → p x ≡ true → any p xs ≡ true
  any-in x [] m h = absurd m
  any-in x (y ∷ xs) (inl e) h = cond-true (p y) true (any p xs) (ap p e ∙ h)
  any-in x (y ∷ xs) (inr m) h = cond_both (p y) true (any p xs) (λ b. b ≡ true) (λ _. refl) (λ _. any-in x xs m h)

  pub of-any : (xs : List X) → any p xs ≡ true → (x : X) × In x xs × (p x ≡ true)
  of-any [] h = absurd (true≢false (sym h))
  of-any (x ∷ xs) h = elim (cases_Bool (p x)) [
    | inl e ↦ (x, inl refl, e)
    | inr e ↦ let r = of-any xs (sym (cond-false (p x) true (any p xs) e) ∙ h) in (r.0, inr r.1, r.2)
  ]

  pub not-any : (x : X) (xs : List X) → any p xs ≡ false → In x xs → p x ≡ false
  not-any x xs h m = elim (cases_Bool (p x)) [ inl e ↦ absurd (both_ways (any p xs) h (any-in x xs m e)) | inr e ↦ e ]

  pub any_append : (xs ys : List X) → any p (xs ++ ys) ≡ (any p xs || any p ys)
  any_append [] ys = refl
  any_append (x ∷ xs) ys = go (p x) (any_append xs ys)
    where
      go : (b : Bool) → any p (xs ++ ys) ≡ (any p xs || any p ys) → cond b true (any p (xs ++ ys)) ≡ (cond b true (any p xs) || any p ys)
      go true e = refl
      go false e = e

pub any-map : {X Y : Type 0} (p : Y → Bool) (f : X → Y) (xs : List X) → any p (map f xs) ≡ any (λ x. p (f x)) xs
any-map p f [] = refl
any-map p f (x ∷ xs) = ap (cond (p (f x)) true) (any-map p f xs)

pub decides_same : (u v : List ℕ) → Decides (same u v) (u ≡ v)
decides_same = compares_Decides same (record { empty = refl; shorter = λ _ _. refl; longer = λ _ _. refl; heads = λ _ _ _ _. refl })

pub same_refl : (u : List ℕ) → same u u ≡ true
same_refl u = (decides_same u u).1 refl

pub same-sym : (u v : List ℕ) → same u v ≡ same v u
same-sym u v = same_from_decides (same u v) (same v u) (decides_same u v) (λ t. sym ((decides_same v u).0 t), λ e. (decides_same v u).1 (sym e))

-- A word stands in a list if the test finds it.
pub decides_in : (u : List ℕ) (vs : List (List ℕ)) → Decides (any (same u) vs) (In u vs)
decides_in u vs = (λ t. let r = of-any (same u) vs t in in_cast vs ((decides_same u r.0).0 r.2) r.1, λ m. any-in (same u) u vs m (same_refl u))

pub among_in : (c : ℕ) (ps : List ℕ) → Decides (among c ps) (In c ps)
among_in c ps = (λ h. let r = of-any (λ p. eqb p c) ps h in in_cast ps (sym (eqb-true r.0 c r.2)) r.1, λ m. any-in (λ p. eqb p c) c ps m (eq-eqb c c refl))
