-- The rows of each operator but `Q` and the untils, from the rows of its operands.
use Rattle.std.specs.Prelude.{ℕ, cond, ◌&&◌, List, [], ◌∷◌, map, Some, None, Ok, Option, ◌==◌}
use Rattle.flow.specs.Graph.{Graph, Label, successors}
use Rattle.kinds.specs.Model.{Model}
use Rattle.rows.specs.Denials.{denial}
use Rattle.rows.specs.Rows.{blank, box, with_box}
use Rattle.rows.specs.declared.row.Row.{Row}
use Rattle.logic.specs.Adding.{add_all, pairing}
use Rattle.logic.specs.Outcomes.{Outcome, then}
use Rattle.std.specs.List.{range_with_len, flat_map}
use Rattle.std.specs.Option.{option_to_list}

module _ {B : Type 0} (m : Model B) where
  -- the box met with that of one number, if there is such a box and they meet
  abbrev pub met_with : B → Option B → Option B
  met_with b None = None
  met_with b (Some c) = m.meet b c

  -- the row with another box for one variable, if there is one
  abbrev pub narrowed : Row B → ℕ → Option B → Option (Row B)
  narrowed r x None = None
  narrowed r x (Some b) = Some (with_box m r x b)

  -- the row with the box of each variable named met with one of the value, in order; none where a meet is none or the
  -- counts differ
  abbrev pub naming : Option (Row B) → List ℕ → List ℕ → Option (Row B)
  naming None xs ns = None
  naming (Some r) [] [] = Some r
  naming (Some r) [] (n ∷ ns) = None
  naming (Some r) (x ∷ xs) [] = None
  naming (Some r) (x ∷ xs) (n ∷ ns) = naming (narrowed r x (met_with (box m r x) (m.one n))) xs ns

  -- the row, rewritten to the state s, if it is at t
  abbrev pub rewritten : ℕ → ℕ → Row B → List (Row B)
  rewritten s t r =
      cond (r.state == t) (record { state = s; boxes = r.boxes; forest = r.forest } ∷ []) []

  -- the rows at t, rewritten to s
  unfoldable pub moved : ℕ → ℕ → List (Row B) → List (Row B)
  moved s t rows = flat_map (rewritten s t) rows

  module _ (g : Graph) where
    -- the states, ascending
    abbrev pub states : List ℕ
    states = range_with_len 0 g.states

    -- the row of a label at s, if it is there and has the predicate
    abbrev pub of_label : ℕ → List ℕ → ℕ → Label → List (Row B)
    of_label p xs s l =
        cond (l.state == s && l.predicate == p) (option_to_list (naming (Some (blank m s)) xs l.values)) []

    -- the rows of all labels, state by state
    unfoldable pub labelled : ℕ → List ℕ → List (Row B)
    labelled p xs = flat_map (λ s. flat_map (of_label p xs s) g.labels) states

    -- the rows at each successor of each state, rewritten to the state
    unfoldable pub stepped : List (Row B) → List (Row B)
    stepped ps = flat_map (λ s. flat_map (λ t. moved s t ps) (successors g s)) states

    module _ (limit : ℕ) where
      -- `P`
      unfoldable pub of_predicate : ℕ → List ℕ → Outcome (List (Row B))
      of_predicate p xs = add_all m limit [] (labelled p xs)

      -- `&`
      unfoldable pub of_and : List (Row B) → List (Row B) → Outcome (List (Row B))
      of_and ps qs = pairing m limit ps qs

      -- `|`
      unfoldable pub of_or : List (Row B) → List (Row B) → Outcome (List (Row B))
      of_or ps qs = add_all m limit ps qs

      -- a list replaced, for each row in turn, by its pairing with the denial of the row
      abbrev pub denied : List (Row B) → List (Row B) → Outcome (List (Row B))
      denied rows [] = Ok rows
      denied rows (t ∷ ts) = then (pairing m limit rows (denial m g.states t)) (λ left. denied left ts)

      -- `!`
      unfoldable pub of_not : List (Row B) → Outcome (List (Row B))
      of_not ps = then (add_all m limit [] (map (blank m) states)) (λ all. denied all ps)

      -- `N`
      unfoldable pub of_some_next : List (Row B) → Outcome (List (Row B))
      of_some_next ps = add_all m limit [] (stepped ps)

      -- a list paired in turn with the rows at each of several states, rewritten to s
      abbrev pub in_turn : ℕ → List (Row B) → List (Row B) → List ℕ → Outcome (List (Row B))
      in_turn s ps rows [] = Ok rows
      in_turn s ps rows (t ∷ ts) = then (pairing m limit rows (moved s t ps)) (λ left. in_turn s ps left ts)

      -- what is left of the blank row of each state, paired in turn with its successors' rows, is added
      abbrev pub all_next_from : List (Row B) → List (Row B) → List ℕ → Outcome (List (Row B))
      all_next_from ps rows [] = Ok rows
      all_next_from ps rows (s ∷ ss) =
          then (in_turn s ps (blank m s ∷ []) (successors g s)) (λ left.
          then (add_all m limit rows left) (λ more. all_next_from ps more ss))

      -- `X`
      unfoldable pub of_all_next : List (Row B) → Outcome (List (Row B))
      of_all_next ps = all_next_from ps [] states
