-- A walk through the records of a phase: what is left comes to the same as all of it did at the start.
use Rattle.std.proofs.Common.{◌≡◌, ℕ, ◌+◌, ◌≤◌, List, [], ◌∷◌, length, drop, Some, None, Ok, Err, Option, Result, sym, refl, ap, ◌∙◌, add-zero, arith}
use Rattle.drawing.specs.Followed.{Followed}
use Rattle.drawing.specs.Following.{Standing, and_check, and_refused, checks, final, if_closes, later, next, refused, reply}
use Rattle.drawing.specs.Refused.{refused_text, told}
use Rattle.drawing.specs.declared.fault.Fault.{Fault}
use Rattle.drawing.specs.declared.step.Step.{Step}
use Rattle.drawing.specs.declared.step.Step.TheVariants.{Checks, Closes, Goes}
use Rattle.drawing.specs.declared.tally.Tally.{Tally}
use Rattle.pages.proofs.Adding.{add_nothing, add_step}
use Rattle.pages.specs.Limit.{limit}
use Rattle.pages.specs.Pages.{add}
use Rattle.records.specs.Next.{Next}
use Rattle.records.specs.Texts.{records}
use Rattle.records.specs.declared.record.Record.{Record}
use Rattle.std.specs.List.{slice_get}

-- the first of the records that are left
pub first_left : (rs : List (List ℕ)) (t : List ℕ) → Some t ≡ slice_get rs 0 → rs ≡ t ∷ drop 1 rs
first_left [] t e = let z : ◌≡◌ {A = ℕ} 0 1 = cc in absurd (omega arith)
first_left (r ∷ rs) t e = let same : r ≡ t = cc in ap (λ x. x ∷ rs) same

-- or none
pub none_left : (rs : List (List ℕ)) → None ≡ slice_get rs 0 → rs ≡ []
none_left [] e = refl
none_left (r ∷ rs) e = let z : ◌≡◌ {A = ℕ} 0 1 = cc in absurd (omega arith)

-- what records come to is what the first of them does, by its reply, and then what the others come to
record First (s s' : Standing) (n n' : ℕ) (ts rs : List (List ℕ)) (o : Result Step Fault) : Type 0 where
  leaves : if_closes o s' (final s' ts) ≡ final s rs
  others : if_closes o ts (later s' ts) ≡ later s rs
  refusals : and_refused n' o (if_closes o [] (refused s' n' ts)) ≡ refused s n rs
  asked : and_check o (checks s' ts) ≡ checks s rs

first_of :
    {s s' : Standing} {n n' : ℕ} {t : List ℕ} {ts rs : List (List ℕ)} {o : Result Step Fault}
    → rs ≡ t ∷ ts → s' ≡ next s t → n' ≡ n + 1 → o ≡ reply s t → First s s' n n' ts rs o
unfolding final later refused checks
first_of first moved counted replied =
    rw (first, moved, counted, replied) record { leaves = refl; others = refl; refusals = refl; asked = refl }

-- where the walk stands, beside where it began
pub record Progress (s₀ : Standing) (n₀ : ℕ) (left₀ : List ℕ) (page₀ : Option (List ℕ)) (s : Standing) (n : ℕ)
    (left : List ℕ) (page : Option (List ℕ)) (tally : Tally) : Type 0 where
  pub leaves : final s (records left) ≡ final s₀ (records left₀)
  pub others : later s (records left) ≡ later s₀ (records left₀)
  pub counted : n + length (records left) ≡ n₀ + length (records left₀)
  pub small : n + length left ≤ limit
  pub printed : add page (told (refused s n (records left))) ≡ add page₀ (told (refused s₀ n₀ (records left₀)))
  pub refusals : tally.refused + length (refused s n (records left)) ≡ length (refused s₀ n₀ (records left₀))
  pub asked : tally.checks + checks s (records left) ≡ checks s₀ (records left₀)
  pub few : tally.refused + tally.checks ≤ n

module _
    {s₀ : Standing} {n₀ : ℕ} {left₀ : List ℕ} {page₀ : Option (List ℕ)}
    {s : Standing} {n : ℕ} {left : List ℕ} {p : Option (List ℕ)} {tally : Tally}
    (so_far : Progress s₀ n₀ left₀ page₀ s n left p tally)
  where
    -- no record is left
    pub progress_all :
        {left' : List ℕ} {n' : ℕ} → Next left n None left' n'
        → Followed s₀ n₀ left₀ page₀ s n' left' p tally
    unfolding final later refused checks
    progress_all step =
        let none = none_left (records left) step.answered in
        let others = ap (later s) (sym none) ∙ so_far.others in
        record {
          leaves = ap (final s) (sym none) ∙ so_far.leaves;
          others = step.others ∙ ap (drop 1) none ∙ others;
          counted = let k = ap length others in let r = ap length none in omega (arith, step.counted, so_far.counted);
          small = omega (arith, step.counted, step.no_longer, so_far.small);
          printed = sym (add_nothing p) ∙ ap (λ rs. add p (told (refused s n rs))) (sym none) ∙ so_far.printed;
          refusals = sym (add-zero tally.refused) ∙ ap (λ rs. tally.refused + length (refused s n rs)) (sym none)
              ∙ so_far.refusals;
          asked = sym (add-zero tally.checks) ∙ ap (λ rs. tally.checks + checks s rs) (sym none) ∙ so_far.asked;
          few = omega (arith, step.counted, so_far.few);
        }

    -- one more record is read
    module _ {r : Record} {left' : List ℕ} {n' : ℕ} (step : Next left n (Some r) left' n') {s' : Standing}
        (moved : s' ≡ next s r.text.now) where
      first : records left ≡ r.text.now ∷ records left'
      first = first_left (records left) r.text.now step.answered
          ∙ ap (λ rs. r.text.now ∷ rs) (sym step.others)

      counted_on : n' + length (records left') ≡ n₀ + length (records left₀)
      counted_on = let e = ap length first in omega (arith, step.counted, so_far.counted)

      small_still : n' + length left' ≤ limit
      small_still = omega (arith, step.counted, step.shorter, so_far.small)

      pub progress_goes : Ok Goes ≡ reply s r.text.now → Progress s₀ n₀ left₀ page₀ s' n' left' p tally
      progress_goes e =
          let one = first_of first moved step.counted e in
          record {
            leaves = one.leaves ∙ so_far.leaves;
            others = one.others ∙ so_far.others;
            counted = counted_on;
            small = small_still;
            printed = rw one.refusals so_far.printed;
            refusals = rw one.refusals so_far.refusals;
            asked = rw one.asked so_far.asked;
            few = omega (arith, step.counted, so_far.few);
          }

      pub progress_checks : Ok Checks ≡ reply s r.text.now
          → Progress s₀ n₀ left₀ page₀ s' n' left' p record { refused = tally.refused; checks = tally.checks + 1 }
      progress_checks e =
          let one = first_of first moved step.counted e in
          record {
            leaves = one.leaves ∙ so_far.leaves;
            others = one.others ∙ so_far.others;
            counted = counted_on;
            small = small_still;
            printed = rw one.refusals so_far.printed;
            refusals = rw one.refusals so_far.refusals;
            asked = omega (arith, one.asked, so_far.asked);
            few = omega (arith, step.counted, so_far.few);
          }

      -- it is refused, and told
      pub progress_refused :
          (f : Fault) {p' : Option (List ℕ)} → Err f ≡ reply s r.text.now
          → p' ≡ add p (refused_text record { at = n'; fault = f })
          → Progress s₀ n₀ left₀ page₀ s' n' left' p' record { refused = tally.refused + 1; checks = tally.checks }
      progress_refused f e printed =
          let one = first_of first moved step.counted e in
          let count = ap length one.refusals in
          record {
            leaves = one.leaves ∙ so_far.leaves;
            others = one.others ∙ so_far.others;
            counted = counted_on;
            small = small_still;
            printed = add_step p _ _ _ _ printed (sym (ap told one.refusals)) ∙ so_far.printed;
            refusals = omega (arith, so_far.refusals);
            asked = rw one.asked so_far.asked;
            few = omega (arith, step.counted, so_far.few);
          }

      -- it closes the draft, and the others are left
      pub progress_closes : Ok Closes ≡ reply s r.text.now → Followed s₀ n₀ left₀ page₀ s' n' left' p tally
      progress_closes e =
          let one = first_of first moved step.counted e in
          let others = one.others ∙ so_far.others in
          record {
            leaves = one.leaves ∙ so_far.leaves;
            others = others;
            counted = ap (λ l. n' + length l) (sym others) ∙ counted_on;
            small = small_still;
            printed = sym (add_nothing p) ∙ ap (λ rs. add p (told rs)) one.refusals ∙ so_far.printed;
            refusals = let k = ap length one.refusals in omega (arith, so_far.refusals);
            asked = omega (arith, one.asked, so_far.asked);
            few = omega (arith, step.counted, so_far.few);
          }
