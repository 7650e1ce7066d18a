-- What is known of a header that was read.
use Rattle.std.proofs.Common.{◌≡◌, ℕ, ◌*◌, ◌≤◌, true, cond, leb, List, [], get_or, Some, None, Ok, Err, Option, Result, sym, refl, ap, ◌∙◌, ⊎_elim, arith}
use Rattle.std.specs.Option.{ok_or}
use Rattle.std.proofs.lemmas.Bool.{and_parts, leb-true, cases_Bool, cond-true, cond-false}
use Rattle.entries.specs.declared.header.Header.{Header}
use Rattle.entries.specs.declared.names.FieldName.{FieldName}
use Rattle.entries.specs.declared.names.WeightName.{WeightName}
use Rattle.entries.specs.declared.refusal.TextRefusal.{TextRefusal}
use Rattle.entries.specs.declared.refusal.TextRefusal.TheVariants.{HeaderShape, UnknownWeight, OutsideLimits}
use Rattle.entries.specs.Lines.{words}
use Rattle.entries.specs.Names.{top, field_named, weight_named}
use Rattle.entries.specs.Numbers.{number_of}
use Rattle.entries.specs.Headers.{header_shaped, word_column, within_limits, given, values_of, header_reading}

-- the value with which a reading went on
abbrev Went : {A : Type 0} → Option A → (A → Result Header TextRefusal) → Header → Type 0
Went {A} o go h = (x : A) × (o ≡ Some x) × (go x ≡ Ok h)

given_ok : {A : Type 0} (o : Option A) (f : TextRefusal) (go : A → Result Header TextRefusal) (h : Header) → given o f go ≡ Ok h → Went o go h
given_ok None f go h e = absurd (let z : ◌≡◌ {A = ℕ} 0 1 = cc in omega arith)
given_ok (Some x) f go h e = (x, refl, e)

kept : (h g : Header) (f : TextRefusal) → cond (within_limits h) (Ok h) (Err f) ≡ Ok g → (h ≡ g) × (within_limits h ≡ true)
kept h g f e =
    ⊎_elim
    (λ t. (let same : Ok h ≡ Ok g = sym (cond-true (within_limits h) (Ok h) (Err f) t) ∙ e in (cc), t))
    (λ t. let clash : Err f ≡ Ok g = sym (cond-false (within_limits h) (Ok h) (Err f) t) ∙ e in let z : ◌≡◌ {A = ℕ} 0 1 = cc in absurd (omega arith))
    (cases_Bool (within_limits h))

-- the words of a header, and that it keeps the limits
pub record HeaderSays (ws : List (List ℕ)) (h : Header) : Type 0 where
  pub n_word : number_of (get_or ws 1 []) ≡ Some h.n
  pub k_word : number_of (get_or ws 2 []) ≡ Some h.k
  pub claim_word : number_of (get_or ws 3 []) ≡ Some h.claim
  pub field_word : field_named (get_or ws 4 []) ≡ Some h.field
  pub weight_word : weight_named (get_or ws 5 []) h.field ≡ Some h.weight
  pub limits : within_limits h ≡ true

pub values_say : (ws : List (List ℕ)) (i : ℕ) (h : Header) → values_of ws i ≡ Ok h → HeaderSays ws h
values_say ws i h e =
    let a = given_ok (number_of (get_or ws 1 [])) _ _ h e in
    let b = given_ok (number_of (get_or ws 2 [])) _ _ h a.2 in
    let c = given_ok (number_of (get_or ws 3 [])) _ _ h b.2 in
    let d = given_ok (field_named (get_or ws 4 [])) _ _ h c.2 in
    let w = given_ok (weight_named (get_or ws 5 []) d.0) _ _ h d.2 in
    let k = kept (record { n = a.0; k = b.0; claim = c.0; field = d.0; weight = w.0 }) h _ w.2 in
    record {
      n_word = a.1 ∙ ap (λ (g : Header). Some g.n) k.0;
      k_word = b.1 ∙ ap (λ (g : Header). Some g.k) k.0;
      claim_word = c.1 ∙ ap (λ (g : Header). Some g.claim) k.0;
      field_word = d.1 ∙ ap (λ (g : Header). Some g.field) k.0;
      weight_word = ap (weight_named (get_or ws 5 [])) (sym (ap (λ (g : Header). g.field) k.0)) ∙ w.1 ∙ ap (λ (g : Header). Some g.weight) k.0;
      limits = ap within_limits (sym k.0) ∙ k.1;
    }

pub header_says : (l : List ℕ) (i : ℕ) (h : Header) → header_reading l i ≡ Ok h → (header_shaped (words l) ≡ true) × HeaderSays (words l) h
unfolding header_reading
header_says l i h e =
    ⊎_elim
    (λ t. (t, values_say (words l) i h (sym (cond-true (header_shaped (words l)) _ _ t) ∙ e)))
    (λ t. let clash : Err (HeaderShape i) ≡ Ok h = sym (cond-false (header_shaped (words l)) _ _ t) ∙ e in let z : ◌≡◌ {A = ℕ} 0 1 = cc in absurd (omega arith))
    (cases_Bool (header_shaped (words l)))

-- the limits as facts
pub record Limits (h : Header) : Type 0 where
  pub some : 1 ≤ h.k
  pub few : h.k ≤ 32
  pub wide : h.k ≤ h.n
  pub short : h.n ≤ 64
  pub claimed : h.claim ≤ h.n * top h.weight h.field

pub limits_of : (h : Header) → within_limits h ≡ true → Limits h
unfolding within_limits
limits_of h e =
    let a = and_parts (leb 1 h.k) _ e in
    let b = and_parts (leb h.k 32) _ a.1 in
    let c = and_parts (leb h.k h.n) _ b.1 in
    let d = and_parts (leb h.n 64) _ c.1 in
    record { some = leb-true _ _ a.0; few = leb-true _ _ b.0; wide = leb-true _ _ c.0; short = leb-true _ _ d.0; claimed = leb-true _ _ d.1 }

pub header-limits : (l : List ℕ) (i : ℕ) (h : Header) → header_reading l i ≡ Ok h → Limits h
header-limits l i h e = limits_of h (header_says l i h e).1.limits

-- a value that was there
some_of : {A : Type 0} (o : Option A) (f : TextRefusal) (x : A) → Ok x ≡ ok_or o f → o ≡ Some x
some_of None f x e = absurd (let z : ◌≡◌ {A = ℕ} 0 1 = cc in omega arith)
some_of (Some y) f x e = cc

-- what follows the words of a header that are numbers and name a field
abbrev weighed : List (List ℕ) → ℕ → ℕ → ℕ → ℕ → FieldName → Option WeightName → Result Header TextRefusal
weighed ws i n k claim field w =
    given w (UnknownWeight i (word_column ws 5)) (λ weight. let h : Header = record { n = n; k = k; claim = claim; field = field; weight = weight } in cond (within_limits h) (Ok h) (Err (OutsideLimits i)))

module _ (ws : List (List ℕ)) (i : ℕ) (a b c d : TextRefusal) (n k claim : ℕ) (field : FieldName) (n_word : Ok n ≡ ok_or (number_of (get_or ws 1 [])) a) (k_word : Ok k ≡ ok_or (number_of (get_or ws 2 [])) b) (claim_word : Ok claim ≡ ok_or (number_of (get_or ws 3 [])) c) (field_word : Ok field ≡ ok_or (field_named (get_or ws 4 [])) d) where
  pub values-weighed : weighed ws i n k claim field (weight_named (get_or ws 5 []) field) ≡ values_of ws i
  values-weighed = rw (some_of _ _ _ n_word, some_of _ _ _ k_word, some_of _ _ _ claim_word, some_of _ _ _ field_word) refl

  pub values-read : (e : TextRefusal) (weight : WeightName) → Ok weight ≡ ok_or (weight_named (get_or ws 5 []) field) e → weighed ws i n k claim field (Some weight) ≡ values_of ws i
  values-read e weight weight_word = ap (weighed ws i n k claim field) (sym (some_of _ _ _ weight_word)) ∙ values-weighed
