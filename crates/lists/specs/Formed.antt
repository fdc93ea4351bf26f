-- The witnesses that a lent table stands for.
use Rattle.std.specs.Prelude.{◌≡◌, ℕ, cond, List, length, take, Ok, Err, Result, nat_le}
use Rattle.kinds.specs.Model.{Model}
use Rattle.lists.specs.declared.witnesses.Witnesses.{Witnesses}
use Rattle.logic.specs.Outcomes.{Outcome, then}
use Rattle.logic.specs.Witnessing.{Formed, form}
use Rattle.logic.specs.declared.shortage.Shortage.{Shortage}
use Rattle.logic.specs.declared.shortage.Shortage.TheVariants.{Witnesses as TooMany}
use Rattle.rows.specs.declared.witness.Witness.{Witness}

-- those that were formed, at the front
unfoldable pub formed_in : {W : Type 0} → Witnesses W → List W
formed_in w = take w.count w.table.now

-- what forming leaves: the witnesses, and the number of this one, unless it was refused
abbrev pub formed_by : {B : Type 0} → Result ℕ Shortage → List (Witness B) → Outcome (Formed B)
formed_by (Ok n) us = Ok (record { witnesses = us; number = n })
formed_by (Err e) us = Err e

-- the witness was formed, in the table that is lent, or found no room
pub record Forms {B : Type 0} (m : Model B) (result : Result ℕ Shortage) (w w' : Witnesses (Witness B))
    (u : Witness B) : Type 0 where
  pub same_table : w'.table.ghost_name ≡ w.table.ghost_name
  -- the table is as long as it was, after a refusal too
  pub as_many : length w'.table.now ≡ length w.table.now
  pub forms : formed_by result (formed_in w') ≡ form m (formed_in w) u

-- what was formed, where the table has that many places
abbrev pub fitting : {B : Type 0} → ℕ → Outcome (Formed B) → Outcome (Formed B)
fitting room formed = then formed (λ f. cond (nat_le (length f.witnesses) room) (Ok f) (Err TooMany))

-- the witness was formed, in the table that is lent, or found no room: none in any table, or none in this one
pub record FormsWithin {B : Type 0} (m : Model B) (result : Result ℕ Shortage) (w w' : Witnesses (Witness B))
    (u : Witness B) : Type 0 where
  pub same_table : w'.table.ghost_name ≡ w.table.ghost_name
  -- the table is as long as it was, after a refusal too
  pub as_many : length w'.table.now ≡ length w.table.now
  pub forms : formed_by result (formed_in w') ≡ fitting (length w.table.now) (form m (formed_in w) u)
