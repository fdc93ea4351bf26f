-- `!`: denials in turn show just what no row covers, with no witnesses.
use Rattle.std.proofs.Common.{◌≡◌, ℕ, ◌<◌, ◌⊎◌, List, [], ◌∷◌, map, length, Ok, sym, refl, ap, ◌∙◌, subst, inl, inr, arith}
use Rattle.flow.specs.Graph.{Graph}
use Rattle.flow.specs.Limits.{variables}
use Rattle.kinds.specs.Consequences.{Consequences}
use Rattle.kinds.specs.Member.{◌∈◌, here, there}
use Rattle.kinds.specs.Model.{Model}
use Rattle.rows.specs.Denials.{denial}
use Rattle.rows.specs.Forests.{none, union}
use Rattle.rows.specs.Rows.{blank}
use Rattle.rows.specs.declared.forest.Forest.{Forest}
use Rattle.rows.specs.declared.row.Row.{Row}
use Rattle.logic.specs.Adding.{add_all, pairing}
use Rattle.logic.specs.Faithful.{Covered, Covers}
use Rattle.logic.specs.Operators.{denied, of_not, states}
use Rattle.logic.specs.Valuations.{Valuation, Values}
use Rattle.logic.proofs.Denial.{from_denial, in_denial}
use Rattle.logic.proofs.Members.{from_counting, from_map, in_counting, in_map}
use Rattle.logic.proofs.Naming.{covers_blank}
use Rattle.logic.proofs.Pairing.{from_pairing_shown, in_pairing}
use Rattle.logic.proofs.Shown.{Shows, add_all_gathers}
use Rattle.logic.proofs.Thens.{ok_inj, then_parts}

-- no witnesses of either are no witnesses
pub none_of_both : union none none ≡ none
unfolding union none
none_of_both = refl

module _ {B : Type 0} (m : Model B) (laws : Consequences m) (g : Graph) (limit : ℕ) where
  -- denials in turn show what was shown and none of the rows covers
  in_denied : (rows ts : List (Row B)) {all : List (Row B)} → denied m g limit rows ts ≡ Ok all
      → ((t : Row B) → t ∈ ts → length t.boxes ≡ variables) → {s : ℕ} {v : Valuation} → s < g.states → Values m v
      → Shows m rows s v none → ((t : Row B) → t ∈ ts → Covers m t s v → ⊥) → Shows m all s v none
  in_denied rows [] e size {s} {v} i h w n = subst (λ (z : List (Row B)). Shows m z s v none) (ok_inj e) w
  in_denied rows (t ∷ ts) e size {s} {v} i h w n =
      let a = then_parts (pairing m limit rows (denial m g.states t)) (λ left. denied m g limit left ts) e in
      in_denied a.0 ts a.2 (λ u j. size u (there j)) i h
      (subst (λ (f : Forest). Shows m a.0 s v f) none_of_both
      (in_pairing m laws limit rows (denial m g.states t) a.1 w
      (in_denial m laws t g.states (size t (here refl)) i h (n t (here refl)))))
      (λ u j. n u (there j))

  -- and nothing else; with no witnesses, where there were none
  from_denied : (rows ts : List (Row B)) {all : List (Row B)} → denied m g limit rows ts ≡ Ok all
      → {s : ℕ} {v : Valuation} {f : Forest} → Values m v → Shows m all s v f
      → ((k : Forest) × Shows m rows s v k × (k ≡ none → f ≡ none)) × ((t : Row B) → t ∈ ts → Covers m t s v → ⊥)
  from_denied rows [] e {s} {v} {f} h w =
      ((f, subst (λ (z : List (Row B)). Shows m z s v f) (sym (ok_inj e)) w, λ q. q), λ t i. elim i [ ])
  from_denied rows (t ∷ ts) {all} e {s} {v} {f} h w =
      let a = then_parts (pairing m limit rows (denial m g.states t)) (λ left. denied m g limit left ts) e in
      let r = from_denied a.0 ts a.2 h w in
      let p = from_pairing_shown m laws limit rows (denial m g.states t) a.1 h r.0.1 in
      let d = from_denial m laws t g.states h p.3 in
      let still : p.0 ≡ none → r.0.0 ≡ none =
      λ q. p.4 ∙ ap (λ (x : Forest). union x p.1) q ∙ ap (union none) d.1 ∙ none_of_both in
      ((p.0, p.2, λ q. r.0.2 (still q)), each d.0 r.1)
    where
      each : (Covers m t s v → ⊥) → ((u : Row B) → u ∈ ts → Covers m u s v → ⊥)
          → (u : Row B) → u ∈ (t ∷ ts) → Covers m u s v → ⊥
      each own rest u (here q) c = own (subst (λ (x : Row B). Covers m x s v) q c)
      each own rest u (there j) c = rest u j c

  module _ (ps : List (Row B)) {all : List (Row B)} (e : of_not m g limit ps ≡ Ok all) where
    -- what no row of a covers is shown, with no witnesses
    pub in_not : ((t : Row B) → t ∈ ps → length t.boxes ≡ variables) → {s : ℕ} {v : Valuation} → s < g.states
        → Values m v → (Covered m ps s v → ⊥) → Shows m all s v none
    unfolding of_not blank
    in_not size {s} {v} i h n =
        let a = then_parts (add_all m limit [] (map (blank m) (states m g))) (λ start. denied m g limit start ps) e in
        in_denied a.0 ps a.2 size i h
        ((add_all_gathers m laws limit [] (map (blank m) (states m g)) a.1).shows s v none
        (record {
          row = blank m s;
          among = in_map (blank m) (in_counting 0 g.states s (omega arith) (omega arith));
          covers = covers_blank m laws s v h;
          forest = refl;
        }))
        (λ t j c. n (t, j, c))

    -- what is shown, no row of a covers
    pub from_not : {s : ℕ} {v : Valuation} {f : Forest} → Values m v → Shows m all s v f
        → (s < g.states) × (Covered m ps s v → ⊥) × (f ≡ none)
    unfolding of_not blank
    from_not {s} {v} {f} h w =
        let a = then_parts (add_all m limit [] (map (blank m) (states m g))) (λ start. denied m g limit start ps) e in
        let r = from_denied a.0 ps a.2 h w in
        let k = r.0.1 in
        let start = add_all_gathers m laws limit [] (map (blank m) (states m g)) a.1 in
        let b = start_blank (start.from k.row k.among) in
        let inside = from_counting 0 g.states b.0 b.1 in (
          subst (λ (u : ℕ). u < g.states) (sym (ap (λ (x : Row B). x.state) b.2) ∙ k.covers.state) (omega arith),
          λ c. r.1 c.0 c.1 c.2,
          r.0.2 (sym k.forest ∙ ap (λ (x : Row B). x.forest) b.2),
        )
      where
        start_blank : {q : Row B} → (q ∈ []) ⊎ (q ∈ map (blank m) (states m g))
            → (u : ℕ) × (u ∈ states m g) × (q ≡ blank m u)
        start_blank (inl j) = elim j [ ]
        start_blank (inr j) = from_map (blank m) (states m g) j
