-- Lists of sound rows: every operator keeps rows sound.
use Rattle.std.proofs.Common.{◌≡◌, ℕ, List, [], ◌∷◌, map, Some, Ok, sym, subst, inl, inr}
use Rattle.flow.specs.Graph.{Graph, successors}
use Rattle.kinds.specs.Consequences.{Consequences}
use Rattle.kinds.specs.Model.{Model}
use Rattle.rows.specs.Denials.{denial}
use Rattle.rows.specs.Rows.{blank}
use Rattle.rows.specs.declared.row.Row.{Row}
use Rattle.logic.specs.Adding.{add_all, pairing}
use Rattle.logic.specs.Operators.{
  all_next_from,
  denied,
  in_turn,
  labelled,
  moved,
  of_all_next,
  of_and,
  of_label,
  of_not,
  of_or,
  of_predicate,
  of_some_next,
  states,
  stepped,
}
use Rattle.logic.specs.Outcomes.{Outcome}
use Rattle.logic.specs.Rounds.{Rounds, Settled, round}
use Rattle.std.proofs.lemmas.Option.{same_Some}
use Rattle.logic.proofs.Members.{from_cond, from_joined, from_listed, from_map}
use Rattle.logic.proofs.Pairing.{from_pairing}
use Rattle.logic.proofs.Settling.{through_rounds}
use Rattle.logic.proofs.Shown.{add_all_gathers}
use Rattle.logic.proofs.Sound.{
  Sound,
  SoundRows,
  sound_blank,
  sound_denial,
  sound_join,
  sound_moved,
  sound_naming,
  sound_none,
}
use Rattle.logic.proofs.Thens.{ok_inj, then_parts}

module _ {B : Type 0} (m : Model B) (laws : Consequences m) (limit : ℕ) {n : ℕ} where
  -- adding rows and pairing rows keep rows sound
  sound-added : (rows rs : List (Row B)) {all : List (Row B)} → add_all m limit rows rs ≡ Ok all
      → SoundRows m laws n rows → SoundRows m laws n rs → SoundRows m laws n all
  sound-added rows rs e a b =
      record {
        each = λ r i. elim ((add_all_gathers m laws limit rows rs e).from r i) [
          | inl j ↦ a.each r j
          | inr j ↦ b.each r j
        ];
      }

  sound_paired : (ps qs : List (Row B)) {all : List (Row B)} → pairing m limit ps qs ≡ Ok all → SoundRows m laws n ps
      → SoundRows m laws n qs → SoundRows m laws n all
  sound_paired ps qs e a b =
      record {
        each = λ r i.
            let k = from_pairing m laws limit ps qs e r i in
            sound_join m laws k.0 k.1 (a.each k.0 k.2) (b.each k.1 k.3) k.4;
      }

  module _ (g : Graph) where
    -- `P`
    pub sound_predicate : (p : ℕ) (xs : List ℕ) {all : List (Row B)} → of_predicate m g limit p xs ≡ Ok all
        → SoundRows m laws n all
    unfolding of_predicate labelled
    sound_predicate p xs e =
        sound-added [] (labelled m g p xs) e (sound_none m laws)
        (record {
          each = λ r i.
              let a = from_joined _ (states m g) i in
              let b = from_joined (of_label m g p xs a.0) g.labels a.2 in
              let c = from_cond _ _ b.2 in
              let start = sound_blank m laws n a.0 in
              sound_naming m laws (Some (blank m a.0)) xs b.0.values
              (λ q f. subst (λ (z : Row B). Sound m laws n z) (same_Some _ _ f) start) (from_listed _ c.1);
        })

    -- `&`
    pub sound_and : (ps qs : List (Row B)) {all : List (Row B)} → of_and m g limit ps qs ≡ Ok all
        → SoundRows m laws n ps → SoundRows m laws n qs → SoundRows m laws n all
    unfolding of_and
    sound_and ps qs e a b = sound_paired ps qs e a b

    -- `|`
    pub sound_or : (ps qs : List (Row B)) {all : List (Row B)} → of_or m g limit ps qs ≡ Ok all
        → SoundRows m laws n ps → SoundRows m laws n qs → SoundRows m laws n all
    unfolding of_or
    sound_or ps qs e a b = sound-added ps qs e a b

    -- denials in turn
    sound_denied : (rows ts : List (Row B)) {all : List (Row B)} → denied m g limit rows ts ≡ Ok all
        → SoundRows m laws n rows → SoundRows m laws n all
    sound_denied rows [] e s = subst (λ (z : List (Row B)). SoundRows m laws n z) (ok_inj e) s
    sound_denied rows (t ∷ ts) e s =
        let a = then_parts (pairing m limit rows (denial m g.states t)) (λ left. denied m g limit left ts) e in
        sound_denied a.0 ts a.2
        (sound_paired rows (denial m g.states t) a.1 s (sound_denial m laws n g.states t))

    -- the blank rows of states
    sound_blanks : (ss : List ℕ) → SoundRows m laws n (map (blank m) ss)
    sound_blanks ss =
        record {
          each = λ r i.
              let a = from_map (blank m) ss i in
              subst (λ (z : Row B). Sound m laws n z) (sym a.2) (sound_blank m laws n a.0);
        }

    -- `!`
    pub sound_not : (ps : List (Row B)) {all : List (Row B)} → of_not m g limit ps ≡ Ok all → SoundRows m laws n all
    unfolding of_not
    sound_not ps e =
        let a = then_parts (add_all m limit [] (map (blank m) (states m g))) (λ start. denied m g limit start ps) e in
        sound_denied a.0 ps a.2
        (sound-added [] (map (blank m) (states m g)) a.1 (sound_none m laws) (sound_blanks (states m g)))

    -- `N`
    pub sound_some_next : (ps : List (Row B)) {all : List (Row B)} → of_some_next m g limit ps ≡ Ok all
        → SoundRows m laws n ps → SoundRows m laws n all
    unfolding of_some_next stepped
    sound_some_next ps e s =
        sound-added [] (stepped m g ps) e (sound_none m laws)
        (record {
          each = λ r i.
              let a = from_joined _ (states m g) i in
              let b = from_joined (λ t. moved m a.0 t ps) (successors g a.0) a.2 in
              (sound_moved m laws a.0 b.0 ps s).each r b.2;
        })

    -- pairing in turn with the rows at successors
    sound_in_turn : (u : ℕ) (ps rows : List (Row B)) (ts : List ℕ) {left : List (Row B)}
        → in_turn m g limit u ps rows ts ≡ Ok left → SoundRows m laws n ps → SoundRows m laws n rows
        → SoundRows m laws n left
    sound_in_turn u ps rows [] e s k = subst (λ (z : List (Row B)). SoundRows m laws n z) (ok_inj e) k
    sound_in_turn u ps rows (t ∷ ts) e s k =
        let a = then_parts (pairing m limit rows (moved m u t ps)) (λ left. in_turn m g limit u ps left ts) e in
        sound_in_turn u ps a.0 ts a.2 s
        (sound_paired rows (moved m u t ps) a.1 k (sound_moved m laws u t ps s))

    -- state by state
    sound_all_from : (ps rows : List (Row B)) (ss : List ℕ) {all : List (Row B)}
        → all_next_from m g limit ps rows ss ≡ Ok all → SoundRows m laws n ps → SoundRows m laws n rows
        → SoundRows m laws n all
    sound_all_from ps rows [] e s k = subst (λ (z : List (Row B)). SoundRows m laws n z) (ok_inj e) k
    sound_all_from ps rows (u ∷ ss) e s k =
        let a = then_parts (in_turn m g limit u ps (blank m u ∷ []) (successors g u)) _ e in
        let b = then_parts (add_all m limit rows a.0) (λ more. all_next_from m g limit ps more ss) a.2 in
        let left = sound_in_turn u ps (blank m u ∷ []) (successors g u) a.1 s (sound_blanks (u ∷ [])) in
        sound_all_from ps b.0 ss b.2 s (sound-added rows a.0 b.1 k left)

    -- `X`
    pub sound_all_next : (ps : List (Row B)) {all : List (Row B)} → of_all_next m g limit ps ≡ Ok all
        → SoundRows m laws n ps → SoundRows m laws n all
    unfolding of_all_next
    sound_all_next ps e s = sound_all_from ps [] (states m g) e s (sound_none m laws)

  -- an until keeps rows sound where its step does
  pub sound_rounds : (step : List (Row B) → Outcome (List (Row B)))
      → ((rows next : List (Row B)) → step rows ≡ Ok next → SoundRows m laws n rows → SoundRows m laws n next)
      → (ps : List (Row B)) {rows : List (Row B)} {z : Settled B} → Rounds (round m limit step ps) rows (Ok z)
      → SoundRows m laws n ps → SoundRows m laws n rows → SoundRows m laws n z.rows
  sound_rounds step keeps ps r a =
      through_rounds m laws limit step ps (λ x y k. SoundRows m laws n x → SoundRows m laws n y) (λ x t s. s)
      (λ x y end k t rest s. rest (record {
        each = λ q i. elim (t.gathers.from q i) [
          | inl j ↦ s.each q j
          | inr j ↦ (sound_paired ps t.next t.pairs a (keeps x t.next t.stepped s)).each q j
        ];
      })) r
