-- Walks over the boxes of two rows, place by place.
use Rattle.std.proofs.Common.{◌≡◌, ℕ, ◌+◌, ◌<◌, ◌≤◌, true, false, ◌&&◌, List, [], ◌∷◌, ◌++◌, length, get_or, take, drop, set, Some, None, Option, sym, refl, ap, ◌∙◌, arith}
use Rattle.kinds.specs.Model.{Model}
use Rattle.rows.specs.Rows.{in_front, meets, same_boxes}
use Rattle.std.proofs.lemmas.List.{append_assoc, append-nil, drop_all, drop_more, drop-set-lt, take_all, take_more_set}
use Rattle.std.specs.List.{list_all, zip}

-- boxes in front of others, where there are others
abbrev pub behind : {B : Type 0} → List B → Option (List B) → Option (List B)
behind front None = None
behind front (Some bs) = Some (front ++ bs)

-- with no box in front, the others alone
behind-nil : {B : Type 0} (o : Option (List B)) → behind [] o ≡ o
behind-nil None = refl
behind-nil (Some bs) = refl

-- one box more in front
behind_push : {B : Type 0} (m : Model B) (front : List B) (b : B) (o : Option (List B))
    → behind front (in_front m (Some b) o) ≡ behind (front ++ b ∷ []) o
behind_push m front b None = refl
behind_push m front b (Some bs) = ap Some (sym (append_assoc front (b ∷ []) bs))

-- two boxes are the next
module _ {B : Type 0} (m : Model B) (xs ys : List B) (i : ℕ) (d e : B) (hx : i < length xs) (hy : i < length ys) where
  -- where they are the same, the later ones decide
  pub same_more : m.same (get_or xs i d) (get_or ys i e) ≡ true
      → same_boxes m (drop i xs) (drop i ys) ≡ same_boxes m (drop (i + 1) xs) (drop (i + 1) ys)
  same_more h =
      rw (drop_more xs i d hx, drop_more ys i e hy)
      (ap (λ b. b && same_boxes m (drop (i + 1) xs) (drop (i + 1) ys)) h)

  -- where they are not, that decides
  pub same_differs : m.same (get_or xs i d) (get_or ys i e) ≡ false → same_boxes m (drop i xs) (drop i ys) ≡ false
  same_differs h =
      rw (drop_more xs i d hx, drop_more ys i e hy)
      (ap (λ b. b && same_boxes m (drop (i + 1) xs) (drop (i + 1) ys)) h)

  -- where they meet in a box, it takes its place
  pub meets_more : (z : B) → m.meet (get_or xs i d) (get_or ys i e) ≡ Some z
      → behind (take i xs) (meets m (drop i xs) (drop i ys))
      ≡ behind (take (i + 1) (set xs i z)) (meets m (drop (i + 1) (set xs i z)) (drop (i + 1) ys))
  meets_more z h =
      let below : i < i + 1 = omega arith in
      let later = meets m (drop (i + 1) xs) (drop (i + 1) ys) in
      rw (drop_more xs i d hx, drop_more ys i e hy, take_more_set xs i z hx, drop-set-lt (i + 1) xs i z below)
      (ap (λ o. behind (take i xs) (in_front m o later)) h ∙ behind_push m (take i xs) z later)

  -- where they do not meet, the rows do not
  pub meets-none : m.meet (get_or xs i d) (get_or ys i e) ≡ None
      → behind (take i xs) (meets m (drop i xs) (drop i ys)) ≡ None
  meets-none h =
      rw (drop_more xs i d hx, drop_more ys i e hy)
      (ap (λ o. behind (take i xs) (in_front m o (meets m (drop (i + 1) xs) (drop (i + 1) ys)))) h)

-- all boxes are passed
module _ {B : Type 0} (m : Model B) (xs ys : List B) (i : ℕ) (hx : length xs ≤ i) (hy : length ys ≤ i) where
  -- they are the same
  pub same_all : same_boxes m (drop i xs) (drop i ys) ≡ true
  same_all = rw (drop_all i xs hx, drop_all i ys hy)

  -- they are met
  pub meets_all : behind (take i xs) (meets m (drop i xs) (drop i ys)) ≡ Some xs
  meets_all = rw (drop_all i xs hx, drop_all i ys hy, take_all i xs hx) (ap Some (append-nil xs))

-- none is passed
pub meets_start : {B : Type 0} (m : Model B) (xs ys : List B)
    → behind (take 0 xs) (meets m (drop 0 xs) (drop 0 ys)) ≡ meets m xs ys
meets_start m xs ys = behind-nil (meets m xs ys)

-- as many boxes are the same where each pair is
pub same_boxes-zip : {B : Type 0} (m : Model B) (xs ys : List B) → length xs ≡ length ys
    → list_all (λ p. m.same p.0 p.1) (zip xs ys) ≡ same_boxes m xs ys
same_boxes-zip m [] [] e = refl
same_boxes-zip m [] (y ∷ ys) e = cc
same_boxes-zip m (x ∷ xs) [] e = cc
same_boxes-zip m (x ∷ xs) (y ∷ ys) e =
    ap (λ b. m.same x y && b) (same_boxes-zip m xs ys (omega (arith, e)))
