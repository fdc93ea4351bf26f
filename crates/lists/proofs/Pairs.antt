-- The pairing of two lists, row by row.
use Rattle.std.proofs.Common.{◌≡◌, List, [], ◌∷◌, ◌++◌, sym, refl, ap, ◌∙◌}
use Rattle.kinds.specs.Model.{Model}
use Rattle.logic.specs.Adding.{pairs}
use Rattle.rows.specs.Rows.{join}
use Rattle.rows.specs.declared.row.Row.{Row}
use Rattle.std.proofs.lemmas.List.{append-nil}
use Rattle.std.specs.List.{flat_map}
use Rattle.std.specs.Option.{option_to_list}

module _ {B : Type 0} (m : Model B) where
  -- what two rows join to, as a list: one row or none
  abbrev pub joint : Row B → Row B → List (Row B)
  joint p q = option_to_list (join m p q)

  -- one row paired with a list
  pub pairs_one : (p : Row B) (qs : List (Row B)) → pairs m (p ∷ []) qs ≡ flat_map (joint p) qs
  unfolding pairs
  pairs_one p qs = append-nil (flat_map (joint p) qs)

  -- a list paired with another: each of its rows is
  pub pairs_joined : (ps qs : List (Row B)) → pairs m ps qs ≡ flat_map (λ p. pairs m (p ∷ []) qs) ps
  unfolding pairs
  pairs_joined [] qs = refl
  pairs_joined (p ∷ ps) qs = ap (λ rows. flat_map (joint p) qs ++ rows) (pairs_joined ps qs)
      ∙ ap (λ rows. rows ++ flat_map (λ q. pairs m (q ∷ []) qs) ps) (sym (append-nil (flat_map (joint p) qs)))
