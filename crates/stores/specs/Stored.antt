-- What a store keeps.
use Rattle.std.specs.Prelude.{ℕ, ◌≤◌, vec_len, vec_capacity}
use Rattle.stores.specs.declared.store.Store.TheInside.{Inside}

-- there are at most N things, and the memory for N
pub record Stored {T : Type 0} (N : ℕ) (s : Inside T N) : Type 0 where
  pub few : vec_len s.items ≤ N
  pub room : N ≤ vec_capacity s.items
