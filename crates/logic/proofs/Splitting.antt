-- Fillings of forests: of none, of a single witness, and of a union, which falls into one of each part.
use Rattle.std.proofs.Common.{◌≡◌, ℕ, zero, suc, Bool, true, false, cond, ◌||◌, List, sym, refl, ap, subst, inl, inr}
use Rattle.kinds.specs.Consequences.{Allows}
use Rattle.kinds.specs.Model.{Model}
use Rattle.rows.proofs.Members.{has-union}
use Rattle.rows.specs.Forests.{has, union}
use Rattle.rows.specs.declared.forest.Forest.{Forest}
use Rattle.rows.specs.declared.witness.Witness.{Witness}
use Rattle.logic.specs.Accounts.{Account, ◌≋◌}
use Rattle.logic.specs.Faithful.{Filling, empty, note, trees_below}
use Rattle.logic.specs.Trees.{Trees, bare, tree, Has, ◌∪◌}
use Rattle.logic.proofs.ForestTrees.{with_tree}
use Rattle.logic.proofs.SameNotes.{≋_members}
use Rattle.logic.proofs.TreeSets.{from_∪, has_first, has_left, has_right}

-- each note of the first account is in the second
abbrev pub Within : Account → Account → Type 0
Within x y = (s v n : ℕ) (inner : Account) → Has x s v n inner → Has y s v n inner

module _ {B : Type 0} (m : Model B) where
  -- only the empty account fills no trees
  pub filling_bare : {acc : Account} → Filling m bare acc → acc ≡ bare
  filling_bare empty = refl

  -- a filling of one tree is one note
  pub filling_tree : (s x : ℕ) (b : B) (f : Trees B) {acc : Account} → Filling m (tree s x b f bare) acc
      → (n : ℕ) × (inner : Account) × Allows m b n × Filling m f inner × (acc ≡ tree s x n inner bare)
  filling_tree s x b f (note {n = n} {inner = inner} a i o) = (n, inner, a, i, ap (tree s x n inner) (filling_bare o))

  -- a filling of a union: a filling of each, whose notes are together the notes of the whole
  record Split (f h : Trees B) (acc : Account) : Type 0 where
    one : Account
    two : Account
    fills_one : Filling m f one
    fills_two : Filling m h two
    one_within : Within one acc
    two_within : Within two acc
    all_within : Within acc (one ∪ two)

  -- a note more in front of both accounts, or of one and of the whole
  module _ (s v n : ℕ) (inner : Account) where
    -- what is in an account is in it with a note more
    more_within : (x y : Account) → Within x y → Within x (tree s v n inner y)
    more_within x y w t u k i h = inr (w t u k i h)

    -- and stays so with the same note more in both
    front_within : (x y : Account) → Within x y → Within (tree s v n inner x) (tree s v n inner y)
    front_within x y w t u k i (inl e) = inl e
    front_within x y w t u k i (inr h) = inr (w t u k i h)

    -- where a first note is in, and the rest is
    first_within : (x y : Account) → Has y s v n inner → Within x y → Within (tree s v n inner x) y
    first_within x y f w t u k i (inl e) =
        subst (λ (z : Account). Has y t u k z) e.3
        (subst (λ (z : ℕ). Has y t u z inner) e.2
        (subst (λ (z : ℕ). Has y t z n inner) e.1 (subst (λ (z : ℕ). Has y z v n inner) e.0 f)))
    first_within x y f w t u k i (inr h) = w t u k i h

    -- a note more in the second part
    second_within : (x y z : Account) → Within x (y ∪ z) → Within x (y ∪ tree s v n inner z)
    second_within x y z w t u k i h = elim (from_∪ t u k i y z (w t u k i h)) [
      | inl p ↦ has_left t u k i y (tree s v n inner z) p
      | inr p ↦ has_right t u k i y (tree s v n inner z) (inr p)
    ]

  module _ (ws : List (Witness B)) where
    -- from the last witness down: a note of the union goes to each part that names the witness
    split : (n : ℕ) (f h : Forest) (acc : Account) → Filling m (trees_below m ws n (union f h)) acc
        → Split (trees_below m ws n f) (trees_below m ws n h) acc
    split zero f h acc w =
        record {
          one = bare;
          two = bare;
          fills_one = empty;
          fills_two = empty;
          one_within = λ s v k i z. absurd z;
          two_within = λ s v k i z. absurd z;
          all_within = subst (λ (x : Account). Within x bare) (sym (filling_bare w)) (λ s v k i z. z);
        }
    split (suc n) f h acc w =
        step (has f n) (has h n) (λ x u. split n f h x u) acc
        (subst (λ (c : Bool). Filling m (cond c (with_tree m ws n rest) rest) acc) (has-union f h n) w)
      where
        rest : Trees B
        rest = trees_below m ws n (union f h)

        step : (a b : Bool)
            → ((x : Account) → Filling m (trees_below m ws n (union f h)) x
            → Split (trees_below m ws n f) (trees_below m ws n h) x)
            → (x : Account)
            → Filling m (cond (a || b) (with_tree m ws n (trees_below m ws n (union f h)))
            (trees_below m ws n (union f h))) x
            → Split (cond a (with_tree m ws n (trees_below m ws n f)) (trees_below m ws n f))
            (cond b (with_tree m ws n (trees_below m ws n h)) (trees_below m ws n h)) x
        step false false rec x u = rec x u
        step true false rec x (note {s = s} {x = v} {n = k} {inner = i} {rest = o} p q r) =
            let z = rec o r in
            record {
              one = tree s v k i z.one;
              two = z.two;
              fills_one = note p q z.fills_one;
              fills_two = z.fills_two;
              one_within = front_within s v k i z.one o z.one_within;
              two_within = more_within s v k i z.two o z.two_within;
              all_within = front_within s v k i o (z.one ∪ z.two) z.all_within;
            }
        step false true rec x (note {s = s} {x = v} {n = k} {inner = i} {rest = o} p q r) =
            let z = rec o r in
            let two = tree s v k i z.two in
            record {
              one = z.one;
              two = two;
              fills_one = z.fills_one;
              fills_two = note p q z.fills_two;
              one_within = more_within s v k i z.one o z.one_within;
              two_within = front_within s v k i z.two o z.two_within;
              all_within = first_within s v k i o (z.one ∪ two)
                  (has_right s v k i z.one two (has_first s v k i z.two))
                  (second_within s v k i o z.one z.two z.all_within);
            }
        step true true rec x (note {s = s} {x = v} {n = k} {inner = i} {rest = o} p q r) =
            let z = rec o r in
            let two = tree s v k i z.two in
            record {
              one = tree s v k i z.one;
              two = two;
              fills_one = note p q z.fills_one;
              fills_two = note p q z.fills_two;
              one_within = front_within s v k i z.one o z.one_within;
              two_within = front_within s v k i z.two o z.two_within;
              all_within = front_within s v k i o (z.one ∪ two)
                  (second_within s v k i o z.one z.two z.all_within);
            }

    -- a filling of a union is the union of a filling of each
    pub split_filling : (n : ℕ) (f h : Forest) (acc : Account) → Filling m (trees_below m ws n (union f h)) acc
        → (x : Account) × (y : Account) × Filling m (trees_below m ws n f) x × Filling m (trees_below m ws n h) y
        × (acc ≋ x ∪ y)
    split_filling n f h acc w =
        let z = split n f h acc w in (
          z.one,
          z.two,
          z.fills_one,
          z.fills_two,
          ≋_members acc (z.one ∪ z.two) z.all_within
              (λ s v k i p. elim (from_∪ s v k i z.one z.two p) [
                | inl q ↦ z.one_within s v k i q
                | inr q ↦ z.two_within s v k i q
              ]),
        )
