-- Paths: walks that never end, and paths with a state more or less in front.
use Rattle.std.proofs.Common.{ℕ, zero, suc, ◌<◌, sym, refl, subst, arith}
use Rattle.flow.specs.Facts.{ClosedGraph}
use Rattle.flow.specs.Graph.{Graph, successors}
use Rattle.kinds.specs.Member.{◌∈◌}
use Rattle.logic.specs.Paths.{Endless, Meets}
use Rattle.logic.proofs.Members.{first_in, from_all}

module _ {g : Graph} (closed : ClosedGraph g) where
  -- every state of a closed graph has a successor
  pub leads : (s : ℕ) → s < g.states → (t : ℕ) × (t ∈ successors g s)
  leads s l = first_in (successors g s) (closed.leads s l)

  -- and its successors are states
  pub stays : (s t : ℕ) → t ∈ successors g s → t < g.states
  stays s t i = from_all (λ u. u < g.states) (closed.stays s) i

  -- a walk that picks a successor at each state never ends
  module _ (pick : (t : ℕ) → t < g.states → (u : ℕ) × (u ∈ successors g t)) where
    -- the walk after so many steps
    unfoldable pub walk : (s : ℕ) → s < g.states → ℕ → (t : ℕ) × (t < g.states)
    walk s l zero = (s, l)
    walk s l (suc n) =
        let here = walk s l n in
        let next = pick here.0 here.1 in
        (next.0, stays here.0 next.0 next.1)

    -- the walk goes from each place to a successor
    pub walk_endless : (s : ℕ) (l : s < g.states) → Endless g s (λ n. (walk s l n).0)
    unfolding walk
    walk_endless s l = record { begins = refl; goes = λ n. (pick (walk s l n).0 (walk s l n).1).1 }

  -- from every state some path leads on
  pub some_path : (s : ℕ) → s < g.states → (path : ℕ → ℕ) × Endless g s path
  some_path s l = ((λ n. (walk leads s l n).0), walk_endless leads s l)

-- a path with a state more in front
abbrev pub after : ℕ → (ℕ → ℕ) → ℕ → ℕ
after s path zero = s
after s path (suc i) = path i

-- the path is endless still
pub after_endless : (g : Graph) (s t : ℕ) (path : ℕ → ℕ) → t ∈ successors g s → Endless g t path
    → Endless g s (after s path)
after_endless g s t path i e = record { begins = refl; goes = goes }
  where
    goes : (n : ℕ) → after s path (suc n) ∈ successors g (after s path n)
    goes zero = subst (λ (u : ℕ). u ∈ successors g s) (sym e.begins) i
    goes (suc n) = e.goes n

-- a path without its first state
pub rest_endless : (g : Graph) (s : ℕ) (path : ℕ → ℕ) → Endless g s path → Endless g (path 1) (λ i. path (suc i))
rest_endless g s path e = record { begins = refl; goes = λ n. e.goes (suc n) }

module _ (A B : ℕ → Type 0) where
  -- b holds at once
  pub meets_now : (path : ℕ → ℕ) → B (path 0) → Meets A B path
  meets_now path b = (0, b, λ i l. absurd (omega arith))

  -- a holds, and the rest of the path has the place
  pub meets_later : (path : ℕ → ℕ) → A (path 0) → Meets A B (λ i. path (suc i)) → Meets A B path
  meets_later path a w = (suc w.0, w.1, before)
    where
      before : (i : ℕ) → i < suc w.0 → A (path i)
      before zero l = a
      before (suc i) l = w.2 i (omega arith)
