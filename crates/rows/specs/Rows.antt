-- Rows as values: blank ones, equal ones, and what two rows join to.
use Rattle.std.specs.Prelude.{ℕ, Bool, cond, ◌&&◌, List, [], ◌∷◌, replicate, Some, None, Option, ◌==◌, slice_index_or, slice_set}
use Rattle.std.specs.Cmp.Lexicographic.{pointwise}
use Rattle.flow.specs.Limits.{variables}
use Rattle.kinds.specs.Model.{Model}
use Rattle.rows.specs.Forests.{alike, none, union}
use Rattle.rows.specs.declared.forest.Forest.{Forest}
use Rattle.rows.specs.declared.row.Row.{Row}

module _ {B : Type 0} (m : Model B) where
  -- the box of a variable
  abbrev pub box : Row B → ℕ → B
  box r x = slice_index_or r.boxes x m.all

  -- the row with another box for one variable
  abbrev pub with_box : Row B → ℕ → B → Row B
  with_box r x b = record { state = r.state; boxes = slice_set r.boxes x b; forest = r.forest }

  -- the blank row of a state: each variable may have any value, and there are no witnesses
  unfoldable pub blank : ℕ → Row B
  blank s = record { state = s; boxes = replicate variables m.all; forest = none }

  -- the boxes are the same, place by place
  abbrev pub same_boxes : List B → List B → Bool
  same_boxes = pointwise m.same

  -- equal rows: boxes same, all else equal
  unfoldable pub equal : Row B → Row B → Bool
  equal r q = r.state == q.state && (alike r.forest q.forest && same_boxes r.boxes q.boxes)

  -- a box in front of others, where there are both
  abbrev pub in_front : Option B → Option (List B) → Option (List B)
  in_front None bs = None
  in_front (Some b) None = None
  in_front (Some b) (Some bs) = Some (b ∷ bs)

  -- the boxes met place by place, or none where one of the meets is none
  abbrev pub meets : List B → List B → Option (List B)
  meets [] cs = Some cs
  meets (b ∷ bs) [] = Some (b ∷ bs)
  meets (b ∷ bs) (c ∷ cs) = in_front (m.meet b c) (meets bs cs)

  -- a row of these boxes, where there are any
  abbrev pub row_of : ℕ → Option (List B) → Forest → Option (Row B)
  row_of s None f = None
  row_of s (Some bs) f = Some (record { state = s; boxes = bs; forest = f })

  -- two rows joined: their boxes met and their forests united, where the states are equal and no meet is none
  unfoldable pub join : Row B → Row B → Option (Row B)
  join r q =
      cond (r.state == q.state)
      (row_of r.state (meets r.boxes q.boxes) (union r.forest q.forest))
      None
