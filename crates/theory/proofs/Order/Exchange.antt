-- From a choice to its neighbour one row leaves and one comes.
use Rattle.std.proofs.Common.{◌≡◌, ℕ, zero, suc, ◌-◌, ◌<◌, ◌≤◌, ◌⊎◌, List, [], ◌∷◌, ◌++◌, map, reverse, sym, refl, ap, ◌∙◌, subst, inl, inr, ⊎_elim, append_assoc, zero-add, arith}
use Rattle.std.specs.List.{range_with_len}
use Rattle.std.proofs.lemmas.Bool.{cases_lt}
use Rattle.theory.specs.Visits.{choices}
use Rattle.theory.proofs.Lists.Countings.{counting_push}
use Rattle.theory.proofs.Order.Choices.{push, of-choices}
use Rattle.theory.proofs.Lists.Members.{In, in_append_right, of-among, in-among}
use Rattle.theory.proofs.Lists.Distinct.{Distinct, distinct-among}
use Rattle.theory.proofs.Order.Rising.{rising_distinct}
use Rattle.theory.proofs.Lists.Neighbours.{First, Last, Follows, first-map, first-reverse, follows_in}
use Rattle.theory.proofs.Lists.Chains.{Chain, chain_append, chain_map, chain_reverse, chain_follows, first-same, last-same, first-none, last_none}
use Rattle.theory.proofs.Order.Ends.{final, last-choices, choices-none}

-- c without `out` is d without `come`, which stands higher.
pub record Lifted (c d : List ℕ) (out come : ℕ) : Type 0 where
  pub below : List ℕ
  pub between : List ℕ
  pub above : List ℕ
  pub before : c ≡ below ++ (out ∷ (between ++ above))
  pub after : d ≡ below ++ (between ++ (come ∷ above))
  pub higher : out < come

-- One row leaves, or one comes, above it or below it.
abbrev pub Exchange : List ℕ → List ℕ → Type 0
Exchange c d = (out : ℕ) × (come : ℕ) × (Lifted c d out come ⊎ Lifted d c come out)

exchange_turn : (c d : List ℕ) → Exchange c d → Exchange d c
exchange_turn c d e = (e.1, e.0, ⊎_elim (λ l. inr l) (λ r. inl r) e.2)

lifted_push : (k : ℕ) (c d : List ℕ) (o i : ℕ) → Lifted c d o i → Lifted (push k c) (push k d) o i
lifted_push k c d o i l = record {
  below = l.below;
  between = l.between;
  above = l.above ++ (k ∷ []);
  before = ap (push k) l.before ∙ append_assoc l.below (o ∷ (l.between ++ l.above)) (k ∷ []) ∙ ap (λ u. l.below ++ (o ∷ u)) (append_assoc l.between l.above (k ∷ []));
  after = ap (push k) l.after ∙ append_assoc l.below (l.between ++ (i ∷ l.above)) (k ∷ []) ∙ ap (λ u. l.below ++ u) (append_assoc l.between (i ∷ l.above) (k ∷ []));
  higher = l.higher;
}

exchange_push : (k : ℕ) (c d : List ℕ) → Exchange c d → Exchange (push k c) (push k d)
exchange_push k c d e = (e.0, e.1, ⊎_elim (λ l. inl (lifted_push k c d e.0 e.1 l)) (λ r. inr (lifted_push k d c e.1 e.0 r)) e.2)

exchange_door : (x s : ℕ) → suc s ≤ x → Exchange (final x (suc s)) (push x (final x s))
exchange_door x zero m = (x - 1, x, inl (record { below = []; between = []; above = []; before = refl; after = refl; higher = omega arith }))
exchange_door x (suc r) m = (r, x, inl (record { below = range_with_len 0 r; between = (x - 1) ∷ []; above = []; before = ap (push (x - 1)) (counting_push 0 r ∙ ap (λ y. push y (range_with_len 0 r)) (zero-add r)) ∙ append_assoc (range_with_len 0 r) (r ∷ []) ((x - 1) ∷ []); after = append_assoc (range_with_len 0 r) ((x - 1) ∷ []) (x ∷ []); higher = omega arith }))

chain_choices : (k t : ℕ) → Chain Exchange (choices k t)
chain_choices zero zero = (λ y f. absurd (first-none y f), tt)
chain_choices (suc k) zero = (λ y f. absurd (first-none y f), tt)
chain_choices zero (suc t) = tt
chain_choices (suc k) (suc t) = chain_append Exchange (choices k (suc t)) (map (push k) (reverse (choices k t))) (chain_choices k (suc t)) (chain_map Exchange Exchange (push k) (exchange_push k) (reverse (choices k t)) (chain_reverse Exchange Exchange exchange_turn (choices k t) (chain_choices k t))) between
  where
    between : (c d : List ℕ) → Last (choices k (suc t)) c → First (map (push k) (reverse (choices k t))) d → Exchange c d
    between c d h f = ⊎_elim there (λ m. absurd (last_none c (subst (λ xs. Last xs c) (choices-none k (suc t) (omega arith)) h))) (cases_lt t k)
      where
        there : t < k → Exchange c d
        there m =
            let e : final k (suc t) ≡ c = last-same (choices k (suc t)) (final k (suc t)) c (last-choices k (suc t) m) h in
            let g : push k (final k t) ≡ d = first-same (map (push k) (reverse (choices k t))) (push k (final k t)) d (first-map (push k) (reverse (choices k t)) (final k t) (first-reverse (choices k t) (final k t) (last-choices k t (omega arith)))) f in
            subst (Exchange c) g (subst (λ b. Exchange b (push k (final k t))) e (exchange_door k t m))

pub exchange : (k t : ℕ) (c d : List ℕ) → Follows (choices k t) c d → Exchange c d
exchange k t c d f = chain_follows Exchange (choices k t) c d (chain_choices k t) f

-- `out` leaves, `come` comes, and the others stay.
pub record Swapped (c d : List ℕ) (out come : ℕ) : Type 0 where
  pub had : In out c
  pub left : In out d → ⊥
  pub has : In come d
  pub came : In come c → ⊥
  pub stays : (x : ℕ) → In x c → (x ≡ out → ⊥) → In x d
  pub stayed : (x : ℕ) → In x d → (x ≡ come → ⊥) → In x c

swapped_turn : (c d : List ℕ) (o i : ℕ) → Swapped d c i o → Swapped c d o i
swapped_turn c d o i s = record { had = s.has; left = s.came; has = s.had; came = s.left; stays = s.stayed; stayed = s.stays }

swapped_lifted : (c d : List ℕ) (o i : ℕ) → Distinct c → Distinct d → Lifted c d o i → Swapped c d o i
swapped_lifted c d o i p q l = record {
  had = rw l.before (in_append_right o l.below (o ∷ r) (inl refl));
  left = λ m. ⊎_elim (λ e. omega (arith, l.higher)) (λ n. distinct-among l.below r o (subst Distinct l.before p) n) (from_d o m);
  has = rw is (in_append_right i b (i ∷ l.above) (inl refl));
  came = λ m. ⊎_elim (λ e. omega (arith, l.higher)) (λ n. distinct-among b l.above i (subst Distinct is q) (subst (λ u. In i u) (sym same) n)) (from_c i m);
  stays = λ x m ne. ⊎_elim (λ e. absurd (ne (sym e))) (λ n. rw is (in-among x b l.above i (subst (λ u. In x u) (sym same) n))) (from_c x m);
  stayed = λ x m ne. ⊎_elim (λ e. absurd (ne (sym e))) (λ n. rw l.before (in-among x l.below r o n)) (from_d x m);
}
  where
    r : List ℕ
    r = l.between ++ l.above

    b : List ℕ
    b = l.below ++ l.between

    same : b ++ l.above ≡ l.below ++ r
    same = append_assoc l.below l.between l.above

    is : d ≡ b ++ (i ∷ l.above)
    is = l.after ∙ sym (append_assoc l.below l.between (i ∷ l.above))

    from_c : (x : ℕ) → In x c → (o ≡ x) ⊎ In x (l.below ++ r)
    from_c x m = of-among x l.below r o (subst (λ u. In x u) l.before m)

    from_d : (x : ℕ) → In x d → (i ≡ x) ⊎ In x (l.below ++ r)
    from_d x m = ⊎_elim (λ e. inl e) (λ n. inr (subst (λ u. In x u) same n)) (of-among x b l.above i (subst (λ u. In x u) is m))

pub swapped : (k t : ℕ) (c d : List ℕ) → Follows (choices k t) c d → (out : ℕ) × (come : ℕ) × Swapped c d out come
swapped k t c d f =
    let e = exchange k t c d f in
    let m = follows_in (choices k t) c d f in
    let p = rising_distinct 0 k c (of-choices k t c m.0).1 in
    let q = rising_distinct 0 k d (of-choices k t d m.1).1 in
    (e.0, e.1, ⊎_elim (λ l. swapped_lifted c d e.0 e.1 p q l) (λ r. swapped_turn c d e.0 e.1 (swapped_lifted d c e.1 e.0 q p r)) e.2)
