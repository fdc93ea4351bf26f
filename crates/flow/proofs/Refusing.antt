-- What a call on a draft answers and leaves, and whether it is refused.
use Rattle.std.proofs.Common.{◌≡◌, ℕ, ◌<◌, ◌≤◌, List, length, Some, None, Ok, Err, Option, refl, sym, ap, arith}
use Rattle.flow.specs.Build.{Build, label}
use Rattle.flow.specs.Drawn.{added, after, answer, refusal}
use Rattle.flow.specs.Graph.{Graph}
use Rattle.flow.specs.Limits.{most_arguments, most_labels}
use Rattle.flow.specs.Refusals.{leaving, reply}
use Rattle.flow.specs.declared.refusal.Refusal.{Refusal}
use Rattle.std.proofs.lemmas.Bool.Decides.{nat_tests}

-- an answer tells whether the call is refused
module _ {A : Type 0} (g : Graph) (b : Build) (x : A) where
  pub refusal_from_err : (r : Refusal) → Err r ≡ answer g b x → refusal g b ≡ Some r
  refusal_from_err r = by_reply (refusal g b)
    where
      by_reply : (o : Option Refusal) → Err r ≡ reply o x → o ≡ Some r
      by_reply None e = cc
      by_reply (Some q) e = cc

  pub refusal_from_ok : (y : A) → Ok y ≡ answer g b x → (refusal g b ≡ None) × (y ≡ x)
  refusal_from_ok y = by_reply (refusal g b)
    where
      by_reply : (o : Option Refusal) → Ok y ≡ reply o x → (o ≡ None) × (y ≡ x)
      by_reply None e = (refl, cc)
      by_reply (Some q) e = cc

module _ (g : Graph) (b : Build) where
  pub after_refused : (r : Refusal) → refusal g b ≡ Some r → g ≡ after g b
  after_refused r e = ap (λ o. leaving o g (added g b)) (sym e)

  pub after_accepted : refusal g b ≡ None → added g b ≡ after g b
  after_accepted e = ap (λ o. leaving o g (added g b)) (sym e)

-- an accepted label has few values, and there is room for it
pub label_small :
    (g : Graph) (s p : ℕ) (ns : List ℕ) → refusal g (label s p ns) ≡ None
    → (length ns ≤ most_arguments) × (length g.labels < most_labels)
unfolding refusal
label_small g s p ns e = (grind (arith, nat_tests), grind (arith, nat_tests))
