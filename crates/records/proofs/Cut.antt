-- What `split_once` gives at a comma.
use Rattle.std.proofs.Common.{◌≡◌, ℕ, ◌==◌, List, Contains, Option, Some, None, Result, Ok, Err, Bor, sym, subst, ap, ◌∙◌, arith}
use Rattle.std.specs.Option.{ok_or}
use Rattle.std.proofs.lemmas.List.{get_or_default}
use Rattle.std.proofs.lemmas.List.Sums.{passes_at_first}
use Rattle.std.proofs.lemmas.Bool.Decides.{nat_tests}
use Rattle.std.proofs.lemmas.Str.Pattern.{IsSplitOnceResult, split_once_first, split_parts}
use Rattle.records.specs.declared.trail.TrailRecord.{TrailRecord}
use Rattle.records.specs.Texts.{comma, before, after, number_of, IsUnsigned, IsRecordText, HasCommas, FaultOf, text_record}
use Rattle.records.specs.declared.text.ParseRecordError.{ParseRecordError}
use Rattle.records.specs.declared.text.ParseRecordError.TheVariants.{MissingComma}

pub record IsCut (text front back : List ℕ) : Type 0 where
  pub found : Contains text comma
  pub front_is : before text ≡ front
  pub back_is : after text ≡ back

module _ (text : List ℕ) (r : Option (Bor (List ℕ) × Bor (List ℕ))) (split : IsSplitOnceResult comma text r) where
  pub cut : (x : Bor (List ℕ) × Bor (List ℕ)) → r ≡ Some x → IsCut text x.0.now x.1.now
  cut x is =
      let (inside, front, back) = rw is at (split_once_first comma text r split (omega arith)) in
      let there = passes_at_first (λ b. b == comma) text comma inside in
      record { found = (_, inside, grind (arith, nat_tests)); front_is = sym front; back_is = sym back }

module _ (text front rest mid back : List ℕ) (first : IsCut text front rest) (second : IsCut rest mid back) where
  mid_is : before (after text) ≡ mid
  mid_is = ap before first.back_is ∙ second.front_is

  back_is : after (after text) ≡ back
  back_is = ap after first.back_is ∙ second.back_is

  -- three numbers that were read between the commas are the record of the text
  pub read_whole : (a b c : ℕ) → IsUnsigned 8 front × (a ≡ number_of front) → IsUnsigned 32 mid × (b ≡ number_of mid) → IsUnsigned 8 back × (c ≡ number_of back) → IsRecordText text × (◌≡◌ {A = TrailRecord} (record { form = a; visits = b; level = c }) (text_record text))
  read_whole a b c form visits level =
      let form_is : a ≡ number_of (before text) = form.1 ∙ ap number_of (sym first.front_is) in
      let visits_is : b ≡ number_of (before (after text)) = visits.1 ∙ ap number_of (sym mid_is) in
      let level_is : c ≡ number_of (after (after text)) = level.1 ∙ ap number_of (sym back_is) in (
        record {
          first_comma = first.found;
          second_comma = subst (λ (t : List ℕ). Contains t comma) (sym first.back_is) second.found;
          form = subst (IsUnsigned 8) (sym first.front_is) form.0;
          visits = subst (IsUnsigned 32) (sym mid_is) visits.0;
          level = subst (IsUnsigned 8) (sym back_is) level.0;
        },
        cc,
      )

  pub both_commas : HasCommas text
  both_commas = (first.found, subst (λ (t : List ℕ). Contains t comma) (sym first.back_is) second.found)

-- Where nothing is split off, there is no comma.
no_comma : (text : List ℕ) → IsSplitOnceResult comma text None → Contains text comma → ⊥
no_comma text split h = split_parts comma text None split (omega arith) h.0 h.1 (get_or_default text h.0 0 comma h.1 ∙ h.2)

-- Where the second comma is missing, the text is no record, and that is its fault.
pub second_missing : (text front rest : List ℕ) → IsCut text front rest → (r : Option (Bor (List ℕ) × Bor (List ℕ))) → IsSplitOnceResult comma rest r → (f : ParseRecordError) → ◌≡◌ {A = Result (Bor (List ℕ) × Bor (List ℕ)) ParseRecordError} (Err f) (ok_or r MissingComma) → (IsRecordText text → ⊥) × FaultOf text f
second_missing text front rest first None split f e =
    let missing : HasCommas text → ⊥ = λ h. no_comma rest split (subst (λ (t : List ℕ). Contains t comma) first.back_is h.1) in
    let is : f ≡ MissingComma = ap (λ r. elim r as (λ _. ParseRecordError) [ Ok x ↦ MissingComma | Err g ↦ g ]) e in
    ((λ r. missing (r.first_comma, r.second_comma)), subst (FaultOf text) (sym is) missing)
second_missing text front rest first (Some x) split f e = absurd (subst (λ r. elim r as (λ _. Type 0) [ Ok y ↦ ⊥ | Err g ↦ Unit {0} ]) e tt)
