-- The memory of a case.
use Rattle.std.specs.Prelude.{◌≡◌, []}
use Rattle.flow.specs.declared.room.Room.{Room}

-- nothing is in the tables; each of them has, by its type, the memory for the most that it may hold
pub record Empty (r : Room) : Type 0 where
  pub no_edges : r.edges ≡ []
  pub no_labels : r.labels ≡ []
  pub no_lines : r.lines ≡ []
