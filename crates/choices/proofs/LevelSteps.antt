-- The visits of a level: how many, each once, and which follows which.
use Rattle.std.proofs.Common.{◌≡◌, ℕ, zero, suc, ◌+◌, ◌-◌, ◌*◌, ◌^◌, ◌≤◌, true, ltb, List, [], ◌∷◌, ◌++◌, map, length, get_or, sym, refl, ap, ◌∙◌, subst, ap₂, arith}
use mathlib.Core.Path.{fun_ext}
use mathlib.Core.List.{map-append, map-map}
use lib.ListN.{length-map}
use Rattle.std.specs.List.{flat_map}
use Rattle.std.proofs.lemmas.List.{get_or-map}
use Rattle.std.proofs.lemmas.Bool.{and_parts, and_from, ltb-true, lt-ltb}
use Rattle.theory.specs.Meanings.{FieldMeaning}
use Rattle.theory.specs.Codes.{combination}
use Rattle.theory.specs.Visits.{choices, coefficients, picked, visits}
use Rattle.theory.proofs.Lists.Members.{In, of_map, of-joined}
use Rattle.theory.proofs.Lists.Distinct.{Distinct, distinct-map, distinct-joined}
use Rattle.theory.proofs.Lists.Blocks.{length-joined}
use Rattle.theory.proofs.Lists.Tests.{decides_same}
use Rattle.theory.proofs.Lists.Neighbours.{Last, Follows, first-map, last-map, follows_map, first-joined, last-joined, follows_joined, follows_joined-between}
use Rattle.theory.proofs.Order.Choices.{distinct-choices, length-choices}
use Rattle.theory.proofs.Order.Coefficients.{distinct-coefficients, length-coefficients}
use Rattle.choices.specs.Places.{StandsAt, Steps}
use Rattle.choices.specs.Sizes.{level_size}
use Rattle.choices.specs.LevelVisits.{level_visits, is_visit}
use Rattle.choices.specs.Levels.{IsVisit}
use Rattle.choices.proofs.Places.{stands_in, in_stands, first_stands, next_stands, last_stands, stands_first, stands_last, stands_follows, stands_by}

module _ (k t q : ℕ) where
  -- The visits of one choice.
  abbrev of-choice : List ℕ → List (List ℕ × List ℕ)
  of-choice c = map (λ cs. (c, cs)) (coefficients q t)

  pub length_level : 1 ≤ t → length (level_visits k t q) ≡ level_size k t q
  length_level some = go t some
    where
      go : (s : ℕ) → 1 ≤ s → length (level_visits k s q) ≡ level_size k s q
      go zero l = absurd (omega arith)
      go (suc s) l =
          length-joined (λ c. map (λ cs. (c, cs)) (coefficients q (suc s))) ((q - 1) ^ s) (choices k (suc s)) (λ c m. length-map (coefficients q (suc s)) (λ cs. (c, cs)) ∙ length-coefficients q s)
          ∙ ap (λ m. m * (q - 1) ^ s) (length-choices k (suc s))

  distinct_level : Distinct (level_visits k t q)
  distinct_level = distinct-joined of-choice (choices k t) (distinct-choices k t) (λ c m. distinct-map (λ cs. (c, cs)) (coefficients q t) (distinct-coefficients q t) (λ u v m n e. ap (λ (p : List ℕ × List ℕ). p.1) e)) shared
    where
      shared : (b c : List ℕ) (u : List ℕ × List ℕ) → In b (choices k t) → In c (choices k t) → In u (of-choice b) → In u (of-choice c) → b ≡ c
      shared b c u _ _ m n =
          let r = of_map (λ cs. (b, cs)) u (coefficients q t) m in
          let s = of_map (λ cs. (c, cs)) u (coefficients q t) n in
          ap (λ (p : List ℕ × List ℕ). p.0) (r.2 ∙ sym s.2)

  pub first_visit : (c cs : List ℕ) → StandsAt (choices k t) 0 c → StandsAt (coefficients q t) 0 cs → StandsAt (level_visits k t q) 0 (c, cs)
  first_visit c cs s r = first_stands (level_visits k t q) (c, cs) (first-joined of-choice (choices k t) c (c, cs) (stands_first (choices k t) c s) (first-map (λ ds. (c, ds)) (coefficients q t) cs (stands_first (coefficients q t) cs r)))

  -- The rows of a visit are a choice, and its coefficients stand among those of the choice.
  of_level : (c cs : List ℕ) (i : ℕ) → StandsAt (level_visits k t q) i (c, cs) → In c (choices k t) × In cs (coefficients q t)
  of_level c cs i s =
      let r = of-joined of-choice (c, cs) (choices k t) (stands_in (level_visits k t q) i (c, cs) s) in
      let p = of_map (λ ds. (r.0, ds)) (c, cs) (coefficients q t) r.2 in
      (subst (λ d. In d (choices k t)) (ap (λ (v : List ℕ × List ℕ). v.0) p.2) r.1, subst (λ d. In d (coefficients q t)) (ap (λ (v : List ℕ × List ℕ). v.1) p.2) p.1)

  module _ (c cs : List ℕ) where
    follows_steps : (xs : List (List ℕ)) (x y : List ℕ) → In x xs → Steps xs true x y → Follows xs x y
    follows_steps xs x y m f = let s = in_stands xs x m in stands_follows xs x y s.0 s.1 (f s.0 s.1)

    last_steps : (xs : List (List ℕ)) (x : List ℕ) → In x xs → ((i : ℕ) → StandsAt xs i x → i + 1 ≡ length xs) → Last xs x
    last_steps xs x m f = let s = in_stands xs x m in stands_last xs x s.0 s.1 (f s.0 s.1)

    pub next_coefficients : (ds : List ℕ) → Steps (coefficients q t) true cs ds → Steps (level_visits k t q) true (c, cs) (c, ds)
    next_coefficients ds f i s =
        let m = of_level c cs i s in
        next_stands (level_visits k t q) distinct_level (c, cs) (c, ds) (follows_joined of-choice (choices k t) c (c, cs) (c, ds) m.0 (follows_map (λ es. (c, es)) (coefficients q t) cs ds (follows_steps (coefficients q t) cs ds m.1 f))) i s

    module _ (over : (i : ℕ) → StandsAt (coefficients q t) i cs → i + 1 ≡ length (coefficients q t)) where
      pub next_choice : (d ones : List ℕ) → Steps (choices k t) true c d → StandsAt (coefficients q t) 0 ones → Steps (level_visits k t q) true (c, cs) (d, ones)
      next_choice d ones f o i s =
          let m = of_level c cs i s in
          next_stands (level_visits k t q) distinct_level (c, cs) (d, ones) (follows_joined-between of-choice (choices k t) c d (c, cs) (d, ones) (follows_steps (choices k t) c d m.0 f)
          (last-map (λ es. (c, es)) (coefficients q t) cs (last_steps (coefficients q t) cs m.1 over)) (first-map (λ es. (d, es)) (coefficients q t) ones (stands_first (coefficients q t) ones o))) i s

      pub last_visit : ((i : ℕ) → StandsAt (choices k t) i c → i + 1 ≡ length (choices k t)) → (i : ℕ) → StandsAt (level_visits k t q) i (c, cs) → i + 1 ≡ length (level_visits k t q)
      last_visit f i s =
          let m = of_level c cs i s in
          last_stands (level_visits k t q) distinct_level (c, cs) (last-joined of-choice (choices k t) c (c, cs) (last_steps (choices k t) c m.0 f) (last-map (λ es. (c, es)) (coefficients q t) cs (last_steps (coefficients q t) cs m.1 over))) i s

  -- The test and what it tells.
  pub visit_stands : (i : ℕ) (c cs : List ℕ) → is_visit k t q i c cs ≡ true → StandsAt (level_visits k t q) i (c, cs)
  visit_stands i c cs h =
      let a = and_parts (ltb i (length (level_visits k t q))) _ h in
      let b = and_parts _ _ a.1 in
      let v : List ℕ × List ℕ = get_or (level_visits k t q) i ([], []) in
      let e : v.0 ≡ c = (decides_same v.0 c).0 b.0 in
      let d : v.1 ≡ cs = (decides_same v.1 cs).0 b.1 in
      stands_by (level_visits k t q) i (c, cs) ([], []) (ltb-true i (length (level_visits k t q)) a.0) (ap₂ (λ (x y : List ℕ). (x, y)) e d)

  pub stands_visit : (i : ℕ) (c cs : List ℕ) → StandsAt (level_visits k t q) i (c, cs) → is_visit k t q i c cs ≡ true
  stands_visit i c cs s =
      let v : List ℕ × List ℕ = get_or (level_visits k t q) i ([], []) in
      let e : v ≡ (c, cs) = s.1 ([], []) in
      and_from (ltb i (length (level_visits k t q))) _ (lt-ltb i (length (level_visits k t q)) s.0) (and_from _ _ ((decides_same v.0 c).1 (ap (λ (p : List ℕ × List ℕ). p.0) e)) ((decides_same v.1 cs).1 (ap (λ (p : List ℕ × List ℕ). p.1) e)))

-- Coefficients are those of at least one row.
pub some_rows : (k t q : ℕ) (c cs : List ℕ) (i : ℕ) → StandsAt (level_visits k t q) i (c, cs) → 1 ≤ t
some_rows k zero q c cs i s = absurd (of_level k 0 q c cs i s).1
some_rows k (suc t) q c cs i s = omega arith

map-joined : {X Y Z : Type 0} (g : Y → Z) (f : X → List Y) (xs : List X) → map g (flat_map f xs) ≡ flat_map (λ x. map g (f x)) xs
map-joined g f [] = refl
map-joined g f (x ∷ xs) = map-append g (f x) (flat_map f xs) ∙ ap (λ ys. map g (f x) ++ ys) (map-joined g f xs)

module _ (f : FieldMeaning) (n : ℕ) (rows : List (List ℕ)) (t : ℕ) where
  -- The word of a visit.
  abbrev word_of : List ℕ × List ℕ → List ℕ
  word_of v = combination f n v.1 (picked rows v.0)

  visits_are : visits f n rows t ≡ map word_of (level_visits (length rows) t f.order)
  unfolding visits
  visits_are =
      ap (λ (row : List ℕ → List (List ℕ)). flat_map row (choices (length rows) t)) (fun_ext (λ c. sym (map-map word_of (λ cs. (c, cs)) (coefficients f.order t))))
      ∙ sym (map-joined word_of (λ c. map (λ cs. (c, cs)) (coefficients f.order t)) (choices (length rows) t))

  pub visit_word : (i : ℕ) (v : List ℕ × List ℕ) → StandsAt (level_visits (length rows) t f.order) i v → StandsAt (visits f n rows t) i (word_of v)
  visit_word i v s =
      let level = level_visits (length rows) t f.order in
      subst (λ us. StandsAt us i (word_of v)) (sym visits_are) (stands_by (map word_of level) i (word_of v) [] (omega (arith, s.0, length-map level word_of)) (get_or-map word_of level i v [] s.0 ∙ ap word_of (s.1 v)))

pub is_visit-of : (k t q i : ℕ) (v : List ℕ × List ℕ) → StandsAt (level_visits k t q) i v → IsVisit k t q i v
is_visit-of k t q i v s f n rows order many = visit_word f n rows t i v (subst (λ p. StandsAt (level_visits (length rows) t p) i v) (sym order) (subst (λ m. StandsAt (level_visits m t q) i v) (sym many) s))
