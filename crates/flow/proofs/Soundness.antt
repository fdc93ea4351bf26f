-- Sound graphs stay sound.
use Rattle.std.proofs.Common.{◌≡◌, ℕ, ◌+◌, ◌<◌, List, [], ◌∷◌, ◌++◌, length, None, Some, Ok, Err, Option, refl, subst, arith}
use Rattle.flow.specs.Build.{Build, edge, label, state}
use Rattle.flow.specs.Drawn.{added, after, answer, refusal}
use Rattle.flow.specs.Facts.{Proper}
use Rattle.flow.specs.Graph.{Graph, Label}
use Rattle.flow.specs.Limits.{most_edges, most_labels}
use Rattle.flow.specs.Sound.{Joined, Sound}
use Rattle.flow.specs.declared.edge.Edge.{Edge}
use Rattle.flow.specs.declared.refusal.Refusal.{Refusal}
use Rattle.flow.proofs.Refusing.{after_accepted, after_refused, label_small, refusal_from_err, refusal_from_ok}
use Rattle.std.proofs.lemmas.Bool.Decides.{nat_tests}
use Rattle.std.proofs.lemmas.List.{length-map, length_push, map_push}
use Rattle.std.specs.List.{AllByRecursion}

module _ {A : Type 0} (P : A → Type 0) where
  pub all_append : (xs ys : List A) → AllByRecursion P xs → AllByRecursion P ys → AllByRecursion P (xs ++ ys)
  all_append [] ys h k = k
  all_append (x ∷ xs) ys h k = (h.0, all_append xs ys h.1 k)

  -- a fact that says no more
  all_weaker : (Q : A → Type 0) → ((x : A) → P x → Q x) → (xs : List A) → AllByRecursion P xs → AllByRecursion Q xs
  all_weaker Q f [] h = tt
  all_weaker Q f (x ∷ xs) h = (f x h.0, all_weaker Q f xs h.1)

joined_more : (n : ℕ) (e : Edge) → Joined n e → Joined (n + 1) e
joined_more n e h = record { from = omega arith; to = omega arith }

proper_more : (n : ℕ) (l : Label) → Proper n l → Proper (n + 1) l
proper_more n l h = record { on_state = omega arith; small = h.small; few = h.few }

-- what is added to a sound graph leaves it sound
pub sound-added : (g : Graph) (b : Build) → Sound most_edges g → refusal g b ≡ None → Sound most_edges (added g b)
unfolding added refusal
sound-added g state s e = record {
  few_states = grind (arith, nat_tests);
  few_edges = s.few_edges;
  few_labels = s.few_labels;
  joined = all_weaker (Joined g.states) (Joined (g.states + 1)) (joined_more g.states) g.edges s.joined;
  labelled = all_weaker (Proper g.states) (Proper (g.states + 1)) (proper_more g.states) g.labels s.labelled;
}
sound-added g (edge a b) s e =
    let last : Joined g.states record { from = a; to = b } =
    record { from = grind (arith, nat_tests); to = grind (arith, nat_tests) } in
    let n = length_push g.edges record { from = a; to = b } in
    record {
      few_states = s.few_states;
      few_edges = grind (arith, nat_tests);
      few_labels = s.few_labels;
      joined = all_append (Joined g.states) g.edges (_ ∷ []) s.joined (last, tt);
      labelled = s.labelled;
    }
sound-added g (label a p ns) s e =
    let last : Proper g.states record { state = a; predicate = p; values = ns } = record {
      on_state = grind (arith, nat_tests);
      small = grind (arith, nat_tests);
      few = grind (arith, nat_tests);
    } in
    let n = length_push g.labels record { state = a; predicate = p; values = ns } in
    record {
      few_states = s.few_states;
      few_edges = s.few_edges;
      few_labels = grind (arith, nat_tests);
      joined = s.joined;
      labelled = all_append (Proper g.states) g.labels (_ ∷ []) s.labelled (last, tt);
    }

pub sound-after : (g : Graph) (b : Build) → Sound most_edges g → Sound most_edges (after g b)
sound-after g b s = by_refusal (refusal g b) refl
  where
    by_refusal : (o : Option Refusal) → refusal g b ≡ o → Sound most_edges (after g b)
    by_refusal None e = subst (Sound most_edges) (after_accepted g b e) (sound-added g b s e)
    by_refusal (Some r) e = subst (Sound most_edges) (after_refused g b r e) s

-- what an accepted call leaves is sound
module _ {A : Type 0} (g : Graph) (b : Build) (x y : A) where
  pub after_ok : Ok y ≡ answer g b x → added g b ≡ after g b
  after_ok e = after_accepted g b (refusal_from_ok g b x y e).0

  pub sound_after_ok : Sound most_edges g → Ok y ≡ answer g b x → Sound most_edges (added g b)
  sound_after_ok s e = sound-added g b s (refusal_from_ok g b x y e).0

  pub after_err : (r : Refusal) → Err r ≡ answer g b x → g ≡ after g b
  after_err r e = after_refused g b r (refusal_from_err g b x r e)

-- there is room for an accepted label
pub label_room : {A : Type 0} (g : Graph) (s p : ℕ) (ns : List ℕ) (x y : A) → Ok y ≡ answer g (label s p ns) x
    → length g.labels < most_labels
label_room g s p ns x y e = (label_small g s p ns (refusal_from_ok g (label s p ns) x y e).0).1

pub ruleset accepted = (after_ok, sound_after_ok, after_err, refusal_from_ok, label_room, length-map, map_push)
