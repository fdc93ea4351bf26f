-- The rows of each operator are what `Right` asks for, given rows of its operands that show states of the graph only.
use Rattle.std.proofs.Common.{◌≡◌, ℕ, ◌<◌, ◌⊎◌, List, map, Ok, sym, subst, inl, inr}
use Rattle.flow.specs.Graph.{Graph, Label}
use Rattle.flow.specs.Limits.{variables}
use Rattle.kinds.specs.Consequences.{Consequences, Nameable}
use Rattle.kinds.specs.Member.{◌∈◌}
use Rattle.kinds.specs.Model.{Model}
use Rattle.rows.specs.Forests.{none, union}
use Rattle.rows.specs.declared.forest.Forest.{Forest}
use Rattle.rows.specs.declared.row.Row.{Row}
use Rattle.rows.specs.declared.witness.Witness.{Witness}
use Rattle.logic.specs.Faithful.{Covered}
use Rattle.logic.specs.Operators.{of_all_next, of_and, of_not, of_or, of_predicate, of_some_next}
use Rattle.logic.specs.Outcomes.{Outcome}
use Rattle.logic.specs.Rounds.{Rounds, Settled, round}
use Rattle.logic.specs.Satisfied.{Labelled}
use Rattle.logic.specs.Valuations.{Valuation, Values}
use Rattle.logic.specs.Witnessing.{Quantified, of_exists}
use Rattle.logic.proofs.Branching.{from_all_next, in_all_next}
use Rattle.logic.proofs.Deciding.{Inside}
use Rattle.logic.proofs.Denying.{from_not, in_not}
use Rattle.logic.proofs.Forming.{Extends}
use Rattle.logic.proofs.Naming.{from_predicate, in_predicate}
use Rattle.logic.proofs.Pairing.{from_pairing_shown, in_pairing}
use Rattle.logic.proofs.Quantifying.{from_exists, in_exists}
use Rattle.logic.proofs.Right.{Exactly, Freed, Least, each_next, one_next, shown}
use Rattle.logic.proofs.Settling.{rounds_end, rounds_keep, rounds_shown, shows_again}
use Rattle.logic.proofs.Shown.{Shows, add_all_gathers, shows_at, shows_in}
use Rattle.logic.proofs.Sound.{SoundRows}
use Rattle.logic.proofs.Stepping.{from_some_next, in_some_next}
use Rattle.logic.proofs.Through.{Showing}

module _ {B : Type 0} (m : Model B) (laws : Consequences m) (g : Graph) (limit : ℕ) where
  -- `P`: labels
  pub exact_predicate : (p : ℕ) (xs : List ℕ) {rows : List (Row B)} → of_predicate m g limit p xs ≡ Ok rows
      → ((l : Label) → l ∈ g.labels → (n : ℕ) → n ∈ l.values → Nameable m n) → ((x : ℕ) → x ∈ xs → x < variables)
      → Exactly m g rows (λ v s f. Labelled g s p (map v xs) × (f ≡ none))
  exact_predicate p xs {rows} e nameable small =
      record {
        in_rows = λ s v f l h w.
            subst (λ (z : Forest). Shows m rows s v z) (sym w.1)
            (in_predicate m laws g limit p xs e nameable l h w.0);
        from_rows = λ s v f h w.
            let r = from_predicate m laws g limit p xs e nameable small h w in (r.0, (r.1, r.2));
      }

  -- `&`: what both show, with the witnesses of both
  pub exact_and : (ps qs : List (Row B)) {rows : List (Row B)} → of_and m g limit ps qs ≡ Ok rows → Inside m g ps
      → Exactly m g rows (λ v s h.
      (f : Forest) × (e : Forest) × Shows m ps s v f × Shows m qs s v e × (h ≡ union f e))
  unfolding of_and
  exact_and ps qs {rows} e inside =
      record {
        in_rows = λ s v f l h w.
            subst (λ (z : Forest). Shows m rows s v z) (sym w.4) (in_pairing m laws limit ps qs e w.2 w.3);
        from_rows = λ s v f h w.
            let r = from_pairing_shown m laws limit ps qs e h w in (inside s v r.0 h r.2, r);
      }

  -- `|`: what either shows
  pub exact_or : (ps qs : List (Row B)) {rows : List (Row B)} → of_or m g limit ps qs ≡ Ok rows → Inside m g ps
      → Inside m g qs → Exactly m g rows (λ v s f. Shows m ps s v f ⊎ Shows m qs s v f)
  unfolding of_or
  exact_or ps qs {rows} e in-ps in-qs =
      record {
        in_rows = λ s v f l h w. elim w [
          | inl p ↦ shows_in m (add_all_gathers m laws limit ps qs e).keeps p
          | inr q ↦ (add_all_gathers m laws limit ps qs e).shows s v f q
        ];
        from_rows = λ s v f h w. step h w ((add_all_gathers m laws limit ps qs e).from w.row w.among);
      }
    where
      step : {s : ℕ} {v : Valuation} {f : Forest} → Values m v → (w : Shows m rows s v f)
          → (w.row ∈ ps) ⊎ (w.row ∈ qs) → (s < g.states) × (Shows m ps s v f ⊎ Shows m qs s v f)
      step {s} {v} {f} h w (inl i) = let p = shows_at m w i in (in-ps s v f h p, inl p)
      step {s} {v} {f} h w (inr i) = let q = shows_at m w i in (in-qs s v f h q, inr q)

  -- `!`: what no row covers, with no witnesses
  pub exact_not : (ps : List (Row B)) {rows : List (Row B)} → of_not m g limit ps ≡ Ok rows → (n : ℕ)
      → SoundRows m laws n ps → Exactly m g rows (λ v s f. (Covered m ps s v → ⊥) × (f ≡ none))
  exact_not ps {rows} e n sound =
      record {
        in_rows = λ s v f l h w.
            subst (λ (z : Forest). Shows m rows s v z) (sym w.1)
            (in_not m laws g limit ps e (λ t i. (sound.each t i).sized) l h w.0);
        from_rows = λ s v f h w. let r = from_not m laws g limit ps e h w in (r.0, (r.1, r.2));
      }

  -- `Q`: with the witnesses that were formed, and as the table grows later
  pub freed_exists : (x : ℕ) (us : List (Witness B)) (ps : List (Row B)) {q : Quantified B}
      → of_exists m limit x us ps ≡ Ok q → (ws : List (Witness B)) → Extends q.witnesses ws
      → Freed m g ws x ps q.rows
  freed_exists x us ps e ws later =
      record {
        in_freed = λ n s v f h k w. in_exists m laws limit x us ps e ws later n h k w;
        from_freed = λ s v f w. from_exists m laws limit x us ps e ws later w;
      }

  -- `X`: what each successor shows, united in turn
  pub exact_all_next : (ps : List (Row B)) {rows : List (Row B)} → of_all_next m g limit ps ≡ Ok rows
      → Exactly m g rows (λ v. each_next g (shown m ps v))
  exact_all_next ps e =
      record {
        in_rows = λ s v f l h w. in_all_next m laws g limit ps e l h w;
        from_rows = λ s v f h w. from_all_next m laws g limit ps e h w;
      }

  -- `N`: what some successor shows
  pub exact_some_next : (ps : List (Row B)) {rows : List (Row B)} → of_some_next m g limit ps ≡ Ok rows
      → Exactly m g rows (λ v. one_next g (shown m ps v))
  exact_some_next ps e =
      record {
        in_rows = λ s v f l h w. in_some_next m laws g limit ps e l w.1 w.2;
        from_rows = λ s v f h w. from_some_next m laws g limit ps e w;
      }

  -- both untils are one argument over the step: an operator whose rows are exact, and which goes along with what is
  -- shown
  pub least_until : (step : Showing → Showing) (op : List (Row B) → Outcome (List (Row B)))
      → ((S T : Showing) → ((t : ℕ) (f : Forest) → S t f → T t f) → (s : ℕ) (h : Forest) → step S s h → step T s h)
      → ((rows next : List (Row B)) → op rows ≡ Ok next → Exactly m g next (λ v. step (shown m rows v)))
      → (ps qs : List (Row B)) {z : Settled B} → Rounds (round m limit op ps) qs (Ok z)
      → Least m g step ps qs z.rows
  least_until step op along exact ps qs {z} rounds =
      record {
        start = λ s v f w. shows_in m (rounds_keep m laws limit op ps rounds) w;
        again = λ s v f e l h w on.
            let last = rounds_end m laws limit op ps rounds in
            shows_again m laws limit op ps rounds w
            ((exact z.rows last.next last.stepped).in_rows s v e l h on);
        least = λ v h S wider start again.
            rounds_shown m laws limit op ps v h S wider
            (λ k rows next e ok s f i w u.
            again k s f i w (along (shown m rows v) (S k) ok s i ((exact rows next e).from_rows s v i h u).1))
            rounds start;
      }
