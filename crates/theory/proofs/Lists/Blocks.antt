-- A list joined of blocks of one length.
use Rattle.std.proofs.Common.{◌≡◌, ℕ, zero, suc, ◌+◌, ◌*◌, ◌<◌, List, [], ◌∷◌, ◌++◌, length, get_or, sym, refl, ap, ◌∙◌, inl, inr, le_of_suc-le-suc, not-suc-le-zero, suc-mul, zero-add, zero-mul, arith, length-append}
use Rattle.std.specs.List.{flat_map}
use Rattle.std.proofs.lemmas.List.{get_or_append_left, get_or-append-add}
use Rattle.theory.proofs.Lists.Members.{In}

module _ {X Y : Type 0} (f : X → List Y) (n : ℕ) where
  pub length-joined : (xs : List X) → ((x : X) → In x xs → length (f x) ≡ n) → length (flat_map f xs) ≡ length xs * n
  length-joined [] h = sym (zero-mul n)
  length-joined (x ∷ xs) h = rw (length-append (f x) (flat_map f xs), suc-mul) (omega (arith, h x (inl refl), length-joined xs (λ z m. h z (inr m))))

  pub get_or-joined : (xs : List X) → ((x : X) → In x xs → length (f x) ≡ n) → (a b : ℕ) (e : X) (d : Y) → a < length xs → b < n → get_or (flat_map f xs) (a * n + b) d ≡ get_or (f (get_or xs a e)) b d
  get_or-joined [] h a b e d p q = absurd (not-suc-le-zero p)
  get_or-joined (x ∷ xs) h zero b e d p q = rw (zero-mul, zero-add) (get_or_append_left (f x) (flat_map f xs) d b (omega (arith, h x (inl refl))))
  get_or-joined (x ∷ xs) h (suc a) b e d p q = ap (λ i. get_or (f x ++ flat_map f xs) i d) at_block ∙ get_or-append-add (f x) (flat_map f xs) (a * n + b) d ∙ get_or-joined xs (λ z m. h z (inr m)) a b e d (le_of_suc-le-suc p) q
    where
      at_block : suc a * n + b ≡ length (f x) + (a * n + b)
      at_block = omega (arith, suc-mul a n, h x (inl refl))
