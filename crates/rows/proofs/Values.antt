-- Rows and witnesses that are compared or joined, part by part.
use Rattle.std.proofs.Common.{◌≡◌, Bool, true, false, List, Some, None}
use Rattle.kinds.specs.Model.{Model}
use Rattle.rows.specs.Forests.{alike, union}
use Rattle.rows.specs.Rows.{equal, join, meets, same_boxes}
use Rattle.rows.specs.Witnesses.{equal_witness}
use Rattle.rows.specs.declared.forest.Forest.{Forest}
use Rattle.rows.specs.declared.row.Row.{Row}
use Rattle.rows.specs.declared.witness.Witness.{Witness}
use Rattle.std.proofs.lemmas.Bool.{eq-eqb, ne_eqb}

module _ {B : Type 0} (m : Model B) (r q : Row B) where
  -- rows of different states are not equal
  pub equal_apart : (r.state ≡ q.state → ⊥) → false ≡ equal m r q
  unfolding equal
  equal_apart ne = rw (ne_eqb r.state q.state ne)

  -- nor do they join
  pub join_apart : (r.state ≡ q.state → ⊥) → None ≡ join m r q
  unfolding join
  join_apart ne = rw (ne_eqb r.state q.state ne)

  -- the states are equal
  module _ (e : r.state ≡ q.state) where
    -- where the forests are equal, the boxes decide
    pub equal-boxes : (s : Bool) → true ≡ alike r.forest q.forest
        → s ≡ same_boxes m r.boxes q.boxes → s ≡ equal m r q
    unfolding equal
    equal-boxes s a b = rw (eq-eqb r.state q.state e, ← a) b

    -- where the forests differ, the rows do
    pub equal_forests : (s : Bool) → s ≡ false → false ≡ alike r.forest q.forest → s ≡ equal m r q
    unfolding equal
    equal_forests s b a = rw (eq-eqb r.state q.state e, ← a) b

    -- where the boxes meet, the rows join
    pub join-boxes : (bs : List B) (f : Forest) → Some bs ≡ meets m r.boxes q.boxes
        → f ≡ union r.forest q.forest → Some (record { state = r.state; boxes = bs; forest = f }) ≡ join m r q
    unfolding join
    join-boxes bs f b u = rw (eq-eqb r.state q.state e, ← b, u)

    -- where they do not, the rows do not
    pub join-none : None ≡ meets m r.boxes q.boxes → None ≡ join m r q
    unfolding join
    join-none b = rw (eq-eqb r.state q.state e, ← b)

module _ {B : Type 0} (m : Model B) (w u : Witness B) where
  -- witnesses of different states are not equal
  pub witness_apart : (w.state ≡ u.state → ⊥) → false ≡ equal_witness m w u
  unfolding equal_witness
  witness_apart ne = rw (ne_eqb w.state u.state ne)

  -- nor are those of different variables
  pub witness_variables : w.state ≡ u.state → (w.variable ≡ u.variable → ⊥) → false ≡ equal_witness m w u
  unfolding equal_witness
  witness_variables e ne = rw (eq-eqb w.state u.state e, ne_eqb w.variable u.variable ne)

  -- the states and the variables are equal
  module _ (e : w.state ≡ u.state) (v : w.variable ≡ u.variable) where
    -- where the forests are equal, the boxes decide
    pub witness_boxes : (s : Bool) → true ≡ alike w.forest u.forest
        → s ≡ m.same w.found u.found → s ≡ equal_witness m w u
    unfolding equal_witness
    witness_boxes s a b = rw (eq-eqb w.state u.state e, eq-eqb w.variable u.variable v, ← a) b

    -- where the forests differ, the witnesses do
    pub witness_forests : (s : Bool) → s ≡ false → false ≡ alike w.forest u.forest → s ≡ equal_witness m w u
    unfolding equal_witness
    witness_forests s b a = rw (eq-eqb w.state u.state e, eq-eqb w.variable u.variable v, ← a) b
