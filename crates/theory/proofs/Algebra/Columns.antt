-- Inner products are linear, and relations between columns are relations between the symbols of the codewords.
use Rattle.std.proofs.Common.{◌≡◌, ℕ, zero, suc, ◌<◌, List, [], ◌∷◌, map, length, get_or, replicate, sym, refl, ap, ◌∙◌, ap₂}
use Rattle.std.proofs.lemmas.List.{ext_get_or}
use Rattle.theory.specs.Meanings.{FieldMeaning, FieldLaws}
use Rattle.theory.specs.Codes.{plus, times, combination}
use Rattle.theory.specs.Forms.{column}
use Rattle.theory.proofs.Lists.Listed.{listed-any, listed-length, listed-map, more, none}
use Rattle.theory.proofs.Algebra.Scalars.{zero-below, sum_zero_right, product-zero, zero-product, sum-swap, product-swap}
use Rattle.theory.proofs.Algebra.Words.{Word, word-zero, times-word}
use Rattle.theory.proofs.Algebra.Combinations.{Rows, unit, dot, combination-word, unit-word, dot_below, get_or-combination}

-- The symbols of a word at some places.
abbrev pub symbols : List ℕ → List ℕ → List ℕ
symbols ps u = map (λ p. get_or u p 0) ps

module _ {f : FieldMeaning} {negative inverse : ℕ → ℕ} (laws : FieldLaws f negative inverse) where
  pub symbol_below : {n : ℕ} {u : List ℕ} → Word f.order n u → (p : ℕ) → get_or u p 0 < f.order
  symbol_below none p = zero-below laws
  symbol_below (more h w) zero = h
  symbol_below (more h w) (suc p) = symbol_below w p

  pub symbols_word : (ps : List ℕ) {n : ℕ} {u : List ℕ} → Word f.order n u → Word f.order (length ps) (symbols ps u)
  symbols_word ps {u = u} w = listed-map (λ a. a < f.order) (λ p. get_or u p 0) (λ p h. symbol_below w p) (listed-any ps)

  pub column-word : {n k : ℕ} {rows : List (List ℕ)} → Rows f.order n k rows → (p : ℕ) → Word f.order k (column rows p)
  column-word w p = listed-map (λ a. a < f.order) (λ row. get_or row p 0) (λ u h. symbol_below h p) w

  pub columns-rows : {n k : ℕ} {rows : List (List ℕ)} → Rows f.order n k rows → (ps : List ℕ) → Rows f.order k (length ps) (map (column rows) ps)
  columns-rows {k = k} {rows} w ps = listed-map (Word f.order k) (column rows) (λ p h. column-word w p) (listed-any ps)

  pub dot_zero : {k : ℕ} {u : List ℕ} → Word f.order k u → dot f u (replicate k 0) ≡ 0
  dot_zero none = refl
  dot_zero (more {x = a} h w) = ap₂ f.sum (product-zero laws a) (dot_zero w) ∙ laws.sum_zero 0 (zero-below laws)

  pub dot_comm : {k : ℕ} {u v : List ℕ} → Word f.order k u → Word f.order k v → dot f u v ≡ dot f v u
  dot_comm none none = refl
  dot_comm (more {x = a} h w) (more {x = b} l x) = ap₂ f.sum (laws.product_comm a b h l) (dot_comm w x)

  pub dot_plus : {k : ℕ} {u v t : List ℕ} → Word f.order k u → Word f.order k v → Word f.order k t → dot f u (plus f v t) ≡ f.sum (dot f u v) (dot f u t)
  dot_plus none none none = sym (laws.sum_zero 0 (zero-below laws))
  dot_plus (more {x = a} {xs = u} h w) (more {x = b} {xs = v} l x) (more {x = c} {xs = t} m y) =
      ap₂ f.sum (laws.distributes a b c h l m) (dot_plus w x y)
      ∙ sum-swap laws (f.product a b) (f.product a c) (dot f u v) (dot f u t)

  pub dot_times : (c : ℕ) → c < f.order → {k : ℕ} {u v : List ℕ} → Word f.order k u → Word f.order k v → dot f u (times f c v) ≡ f.product c (dot f u v)
  dot_times c m none none = sym (product-zero laws c)
  dot_times c m (more {x = a} {xs = u} h w) (more {x = b} {xs = v} l x) =
      ap₂ f.sum (product-swap laws a c b) (dot_times c m w x)
      ∙ sym (laws.distributes c (f.product a b) (dot f u v) m (laws.product_below a b h l) (dot_below laws w x))

  -- The inner product with a sum of multiples is the sum of the multiples of the inner products.
  pub dot_combination : {k m : ℕ} {u cs : List ℕ} {rows : List (List ℕ)} → Word f.order k u → Word f.order m cs → Rows f.order k m rows → dot f u (combination f k cs rows) ≡ dot f cs (map (dot f u) rows)
  dot_combination w none none = dot_zero w
  dot_combination w (more {x = c} h y) (more r x) =
      dot_plus w (times-word laws c h r) (combination-word laws y x)
      ∙ ap₂ f.sum (dot_times c h w r) (dot_combination w y x)

  pub unit_dot : {k : ℕ} {v : List ℕ} → Word f.order k v → (i : ℕ) → dot f (unit k i) v ≡ get_or v i 0
  unit_dot none i = refl
  unit_dot (more {n = k} {x = a} h w) zero = ap₂ f.sum (laws.product_one a h) (dot_comm (word-zero laws k) w ∙ dot_zero w) ∙ sum_zero_right laws a h
  unit_dot (more {x = a} {xs = v} h w) (suc i) = ap₂ f.sum (zero-product laws a) (unit_dot w i) ∙ laws.sum_zero (get_or v i 0) (symbol_below w i)

  -- The symbols of a sum of rows at some places are the inner products with the columns there.
  pub symbols_combination : {n k : ℕ} {cs : List ℕ} {rows : List (List ℕ)} → Word f.order k cs → Rows f.order n k rows → (ps : List ℕ) → symbols ps (combination f n cs rows) ≡ map (dot f cs) (map (column rows) ps)
  symbols_combination w x [] = refl
  symbols_combination w x (p ∷ ps) = ap₂ ◌∷◌ (get_or-combination laws w x p) (symbols_combination w x ps)

  -- A relation of columns is kept by the symbols of each sum of the rows,
  pub relation_symbols : {n k : ℕ} {cs ls : List ℕ} {rows : List (List ℕ)} → Rows f.order n k rows → (ps : List ℕ) (c : ℕ) → Word f.order (length ps) ls → column rows c ≡ combination f k ls (map (column rows) ps)
      → Word f.order k cs → get_or (combination f n cs rows) c 0 ≡ dot f ls (symbols ps (combination f n cs rows))
  relation_symbols {cs = cs} {ls} x ps c y e w =
      get_or-combination laws w x c ∙ ap (dot f cs) e ∙ dot_combination w y (columns-rows x ps) ∙ ap (dot f ls) (sym (symbols_combination w x ps))

  -- and a relation that the symbols of each sum of the rows keep is one of the columns.
  pub symbols_relation : {n k : ℕ} {ls : List ℕ} {rows : List (List ℕ)} → Rows f.order n k rows → (ps : List ℕ) (c : ℕ) → Word f.order (length ps) ls
      → ((cs : List ℕ) → Word f.order k cs → get_or (combination f n cs rows) c 0 ≡ dot f ls (symbols ps (combination f n cs rows))) → column rows c ≡ combination f k ls (map (column rows) ps)
  symbols_relation {n} {k} {ls} {rows} x ps c y h =
      let combined : Word f.order k (combination f k ls (map (column rows) ps)) = combination-word laws y (columns-rows x ps) in
      ext_get_or 0 (column rows c) (combination f k ls (map (column rows) ps)) (listed-length (column-word x c) ∙ sym (listed-length combined))
      (λ i l. let w = unit-word laws k i in
      sym (unit_dot (column-word x c) i) ∙ sym (get_or-combination laws w x c) ∙ h (unit k i) w
      ∙ ap (dot f ls) (symbols_combination w x ps) ∙ sym (dot_combination w y (columns-rows x ps)) ∙ unit_dot combined i)
