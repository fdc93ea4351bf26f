-- The rows at successors: row by row, edge by edge, state by state.
use Rattle.std.proofs.Common.{◌≡◌, ℕ, ◌<◌, Bool, true, false, cond, eqb, List, [], ◌∷◌, ◌++◌, length, get_or, refl, ap, ◌∙◌}
use Rattle.flow.specs.Graph.{Graph, ends, successors}
use Rattle.flow.specs.declared.edge.Edge.{Edge}
use Rattle.kinds.specs.Model.{Model}
use Rattle.logic.specs.Operators.{moved, rewritten, states, stepped}
use Rattle.rows.specs.declared.row.Row.{Row}
use Rattle.std.proofs.lemmas.List.{get_or_default}
use Rattle.std.proofs.lemmas.Bool.{eq-eqb, ne_eqb}
use Rattle.std.specs.List.{flat_map}

module _ {B : Type 0} (m : Model B) where
  module _ (s t : ℕ) (r : Row B) where
    -- a row at the one state is rewritten to the other
    pub rewritten_here : r.state ≡ t
        → rewritten m s t r ≡ record { state = s; boxes = r.boxes; forest = r.forest } ∷ []
    rewritten_here e = rw (eq-eqb r.state t e)

    -- a row that is not there gives none
    pub rewritten_not : (r.state ≡ t → ⊥) → rewritten m s t r ≡ []
    rewritten_not other = rw (ne_eqb r.state t other)

  -- the rows of a list moved, row by row
  pub moved_joined : (s t : ℕ) (rows : List (Row B)) → moved m s t rows ≡ flat_map (rewritten m s t) rows
  unfolding moved
  moved_joined s t rows = refl

  -- the rows at the successors of a state, rewritten to it
  abbrev pub led_to : Graph → List (Row B) → ℕ → List (Row B)
  led_to g rows s = flat_map (λ t. moved m s t rows) (successors g s)

  -- the rows of all states, state by state
  pub stepped_joined : (g : Graph) (rows : List (Row B)) → stepped m g rows ≡ flat_map (led_to g rows) (states m g)
  unfolding stepped
  stepped_joined g rows = refl

module _ {A : Type 0} (f : ℕ → List A) (s : ℕ) where
  -- what the end of an edge gives, if the edge is from s
  abbrev pub along : Edge → List A
  along e = cond (eqb e.from s) (f e.to) []

  -- an edge from s gives what its end gives
  pub along_here : (e : Edge) → e.from ≡ s → along e ≡ f e.to
  along_here e same = rw (eq-eqb e.from s same)

  -- an edge from elsewhere gives nothing
  pub along_not : (e : Edge) → (e.from ≡ s → ⊥) → along e ≡ []
  along_not e other = rw (ne_eqb e.from s other)

  -- all edges together give what the ends of those from s give
  along-ends : (es : List Edge) → flat_map along es ≡ flat_map f (ends es s)
  along-ends [] = refl
  along-ends (e ∷ es) = step (eqb e.from s) (along-ends es)
    where
      step : (b : Bool) → flat_map along es ≡ flat_map f (ends es s)
          → cond b (f e.to) [] ++ flat_map along es ≡ flat_map f (cond b (e.to ∷ ends es s) (ends es s))
      step true rest = ap (λ rows. f e.to ++ rows) rest
      step false rest = rest

  -- so too where the edges are those of a graph
  pub along_all : (g : Graph) {es : List Edge} → es ≡ g.edges → flat_map along es ≡ flat_map f (successors g s)
  along_all g {es} drawn = along-ends es ∙ ap (λ zs. flat_map f (ends zs s)) drawn

-- the i-th edge, as a loop over edges reads it
abbrev pub edge_at : List Edge → ℕ → Edge
edge_at es i = get_or es i (record { from = 0; to = 0 })

-- the edge that is read is the i-th of the list
pub edge_read : (es : List Edge) (i : ℕ) → i < length es → edge_at es i ≡ get_or es i (edge_at es i)
edge_read es i below = get_or_default es i (record { from = 0; to = 0 }) (edge_at es i) below
