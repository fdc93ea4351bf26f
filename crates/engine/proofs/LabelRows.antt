-- The rows of labels, label by label.
use Rattle.std.proofs.Common.{◌≡◌, ℕ, List, [], ◌∷◌, ◌++◌, map, Some, Option, sym, refl, ap, ◌∙◌}
use Rattle.flow.specs.Graph.{Graph, Label}
use Rattle.kinds.specs.Model.{Model}
use Rattle.logic.specs.Operators.{naming, of_label}
use Rattle.rows.specs.Rows.{blank}
use Rattle.rows.specs.declared.row.Row.{Row}
use Rattle.std.proofs.lemmas.Bool.{eq-eqb, ne_eqb}
use Rattle.std.specs.List.{flat_map}
use Rattle.std.specs.Option.{option_to_list}

-- what mapped elements give, joined, is what the elements give
pub joined_map : {A C R : Type 0} (f : C → List R) (h : A → C) (zs : List A) {ys : List C} → map h zs ≡ ys
    → flat_map (λ z. f (h z)) zs ≡ flat_map f ys
joined_map {A} f h zs e = mapped zs ∙ ap (flat_map f) e
  where
    mapped : (zs : List A) → flat_map (λ z. f (h z)) zs ≡ flat_map f (map h zs)
    mapped [] = refl
    mapped (z ∷ zs) = ap (λ rs. f (h z) ++ rs) (mapped zs)

module _ {B : Type 0} (m : Model B) (g : Graph) (p : ℕ) (xs : List ℕ) (s : ℕ) (l : Label) where
  -- a label of the state with the predicate gives what it names
  pub of_label_here : {r : Row B} {ns : List ℕ} {o : Option (Row B)} → l.state ≡ s → l.predicate ≡ p
      → r ≡ blank m s → ns ≡ l.values → o ≡ naming m (Some r) xs ns → of_label m g p xs s l ≡ option_to_list o
  of_label_here {ns = ns} e d start held named =
      let gives : of_label m g p xs s l ≡ option_to_list (naming m (Some (blank m s)) xs l.values)
      = rw (eq-eqb l.state s e, eq-eqb l.predicate p d) in
      gives ∙ ap option_to_list (sym (named ∙ ap (λ q. naming m (Some q) xs ns) start
      ∙ ap (naming m (Some (blank m s)) xs) held))

  -- a label of another state gives nothing
  pub of_label_elsewhere : (l.state ≡ s → ⊥) → of_label m g p xs s l ≡ []
  of_label_elsewhere d = rw (ne_eqb l.state s d)

  -- a label with another predicate gives nothing
  pub of_label_other : l.state ≡ s → (l.predicate ≡ p → ⊥) → of_label m g p xs s l ≡ []
  of_label_other e d = rw (eq-eqb l.state s e, ne_eqb l.predicate p d)
