-- `Q`: what the freed rows show, and which witnesses they have.
use Rattle.std.proofs.Common.{◌≡◌, ℕ, ◌<◌, ◌⊎◌, List, [], ◌∷◌, length, Ok, sym, refl, ap, ◌∙◌, subst, inl, inr}
use Rattle.kinds.specs.Consequences.{Allows, Consequences, Value}
use Rattle.kinds.specs.Member.{◌∈◌, here, there}
use Rattle.kinds.specs.Model.{Model}
use Rattle.rows.specs.Forests.{single}
use Rattle.rows.specs.Rows.{box}
use Rattle.rows.specs.declared.forest.Forest.{Forest}
use Rattle.rows.specs.declared.row.Row.{Row}
use Rattle.rows.specs.declared.witness.Witness.{Witness}
use Rattle.logic.specs.Adding.{add}
use Rattle.logic.specs.Faithful.{Covers, witness}
use Rattle.logic.specs.Valuations.{Valuation, Values, put}
use Rattle.logic.specs.Witnessing.{Quantified, exists_from, form, freed, of_exists, witness_of}
use Rattle.logic.proofs.Boxes.{fits_all_but, fits_set, from_set, put_other, put_same}
use Rattle.logic.proofs.Forming.{Extends, Numbers, extends_refl, extends_trans, form_numbers, numbers_more}
use Rattle.logic.proofs.Members.{from_one}
use Rattle.logic.proofs.Shown.{Gathers, Shows, add_gathers, shows_in}
use Rattle.logic.proofs.Thens.{ok_inj, then_parts}

-- the witness of this number is at s, for the variable x
pub record Bears {B : Type 0} (m : Model B) (ws : List (Witness B)) (s x i : ℕ) : Type 0 where
  pub below : i < length ws
  pub state : (witness m ws i).state ≡ s
  pub variable : (witness m ws i).variable ≡ x

module _ {B : Type 0} (m : Model B) (laws : Consequences m) (limit x : ℕ) where
  -- rows freed one by one, each with its witness
  pub record Frees (us : List (Witness B)) (rows ps : List (Row B)) (q : Quantified B) : Type 0 where
    pub extends : Extends us q.witnesses
    pub keeps : (r : Row B) → r ∈ rows → r ∈ q.rows
    pub in_freed : (p : Row B) → p ∈ ps → (i : ℕ) × Numbers m laws q.witnesses (witness_of m x p) i
        × ((s : ℕ) (v : Valuation) → Covers m (freed m x p i) s v → Shows m q.rows s v (single i))
    pub from_freed : (r : Row B) → r ∈ q.rows → (r ∈ rows)
        ⊎ ((p : Row B) × (i : ℕ) × (p ∈ ps) × Numbers m laws q.witnesses (witness_of m x p) i × (r ≡ freed m x p i))

  -- with no rows nothing is freed
  frees_none : (us : List (Witness B)) (rows : List (Row B))
      → Frees us rows [] (record { rows = rows; witnesses = us })
  frees_none us rows =
      record {
        extends = extends_refl us;
        keeps = λ r i. i;
        in_freed = λ p i. elim i [ ];
        from_freed = λ r i. inl i;
      }

  -- a row more in front: its witness keeps its number as the others are freed
  frees_more : {us vs : List (Witness B)} {rows more : List (Row B)} {p : Row B} {i : ℕ} (ps : List (Row B))
      (q : Quantified B) → Extends us vs → Numbers m laws vs (witness_of m x p) i
      → Gathers m rows (freed m x p i ∷ []) more → Frees vs more ps q → Frees us rows (p ∷ ps) q
  frees_more {us} {vs} {rows} {more} {p} {i} ps q xs k a b =
      record {
        extends = extends_trans us vs q.witnesses xs b.extends;
        keeps = λ r j. b.keeps r (a.keeps r j);
        in_freed = freed_in;
        from_freed = λ r j. freed_from r (b.from_freed r j);
      }
    where
      still : Numbers m laws q.witnesses (witness_of m x p) i
      still = numbers_more m laws vs q.witnesses (witness_of m x p) i b.extends k

      freed_in : (o : Row B) → o ∈ (p ∷ ps) → (j : ℕ) × Numbers m laws q.witnesses (witness_of m x o) j
          × ((s : ℕ) (v : Valuation) → Covers m (freed m x o j) s v → Shows m q.rows s v (single j))
      freed_in o (there j) = b.in_freed o j
      freed_in o (here e) = (
        i,
        subst (λ (r : Row B). Numbers m laws q.witnesses (witness_of m x r) i) (sym e) still,
        λ s v c.
            shows_in m b.keeps
            (a.shows s v (single i)
            (record {
              row = freed m x p i;
              among = here refl;
              covers = subst (λ (r : Row B). Covers m (freed m x r i) s v) e c;
              forest = refl;
            })),
      )

      first : (r : Row B) → (r ∈ rows) ⊎ (r ∈ (freed m x p i ∷ [])) → (r ∈ rows)
          ⊎ ((o : Row B) × (j : ℕ) × (o ∈ (p ∷ ps)) × Numbers m laws q.witnesses (witness_of m x o) j
          × (r ≡ freed m x o j))
      first r (inl j) = inl j
      first r (inr j) = inr (p, i, here refl, still, from_one j)

      freed_from : (r : Row B) → (r ∈ more)
          ⊎ ((o : Row B) × (j : ℕ) × (o ∈ ps) × Numbers m laws q.witnesses (witness_of m x o) j
          × (r ≡ freed m x o j))
          → (r ∈ rows)
          ⊎ ((o : Row B) × (j : ℕ) × (o ∈ (p ∷ ps)) × Numbers m laws q.witnesses (witness_of m x o) j
          × (r ≡ freed m x o j))
      freed_from r (inl j) = first r (a.from r j)
      freed_from r (inr w) = inr (w.0, w.1, there w.2, w.3, w.4)

  -- all rows
  pub frees : (us : List (Witness B)) (rows ps : List (Row B)) {q : Quantified B}
      → exists_from m limit x us rows ps ≡ Ok q → Frees us rows ps q
  frees us rows [] {q} e = subst (λ (z : Quantified B). Frees us rows [] z) (ok_inj e) (frees_none us rows)
  frees us rows (p ∷ ps) {q} e =
      let a = then_parts (form m us (witness_of m x p)) _ e in
      let b = then_parts (add m limit rows (freed m x p a.0.number)) _ a.2 in
      let n = form_numbers m laws us (witness_of m x p) a.1 in
      frees_more ps q n.0 n.1 (add_gathers m laws limit rows (freed m x p a.0.number) b.1)
      (frees a.0.witnesses b.0 ps b.2)

  module _ (us : List (Witness B)) (ps : List (Row B)) {q : Quantified B} (e : of_exists m limit x us ps ≡ Ok q) where
    -- `Q` only adds witnesses
    pub exists_extends : Extends us q.witnesses
    unfolding of_exists
    exists_extends = (frees us [] ps e).extends

    module _ (ws : List (Witness B)) (later : Extends q.witnesses ws) where
      -- what a shows for some value of the variable is shown for any, by a witness that allows that value
      pub in_exists : (n : ℕ) {s : ℕ} {v : Valuation} {f : Forest} → Values m v → Value m n → Shows m ps s (put v x n) f
          → (i : ℕ) × Bears m ws s x i × Allows m (witness m ws i).found n × ((witness m ws i).forest ≡ f)
          × Shows m q.rows s v (single i)
      unfolding of_exists
      in_exists n {s} {v} {f} h k w =
          let p = w.row in
          let a = (frees us [] ps e).in_freed p w.among in
          let i = a.0 in
          let u = numbers_more m laws q.witnesses ws (witness_of m x p) i later a.1 in
          let own = subst (λ (j : ℕ). Allows m (box m p x) j) (put_same v x n) (w.covers.allowed x) in
          let others : (y : ℕ) → (y ≡ x → ⊥) → Allows m (box m p y) (v y) =
          λ y d. subst (λ (j : ℕ). Allows m (box m p y) j) (put_other v x n y d) (w.covers.allowed y) in (
            i,
            record { below = u.below; state = u.state ∙ w.covers.state; variable = u.variable },
            u.to n own,
            u.forest ∙ w.forest,
            a.2 s v
                (record {
                  state = w.covers.state;
                  allowed = fits_set m laws p.boxes x m.all v others (λ _. (laws.of_all (v x)).1 (h x)) h;
                }),
          )

      -- what is shown has one witness, and a shows the state for each value that it allows
      pub from_exists : {s : ℕ} {v : Valuation} {f : Forest} → Shows m q.rows s v f
          → (i : ℕ) × Bears m ws s x i × (f ≡ single i)
          × ((n : ℕ) → Allows m (witness m ws i).found n → Shows m ps s (put v x n) (witness m ws i).forest)
      unfolding of_exists
      from_exists {s} {v} {f} w = step ((frees us [] ps e).from_freed w.row w.among)
        where
          step : (w.row ∈ [])
              ⊎ ((p : Row B) × (i : ℕ) × (p ∈ ps) × Numbers m laws q.witnesses (witness_of m x p) i
              × (w.row ≡ freed m x p i))
              → (i : ℕ) × Bears m ws s x i × (f ≡ single i)
              × ((n : ℕ) → Allows m (witness m ws i).found n → Shows m ps s (put v x n) (witness m ws i).forest)
          step (inl j) = elim j [ ]
          step (inr a) =
              let p = a.0 in
              let i = a.1 in
              let u = numbers_more m laws q.witnesses ws (witness_of m x p) i later a.3 in
              let c = subst (λ (r : Row B). Covers m r s v) a.4 w.covers in
              let others : (n y : ℕ) → (y ≡ x → ⊥) → Allows m (box m p y) (put v x n y) =
              λ n y d.
              subst (λ (j : ℕ). Allows m (box m p y) j) (sym (put_other v x n y d))
              (from_set m laws p.boxes x m.all v c.allowed y d) in
              let own : (n : ℕ) → Allows m (witness m ws i).found n → Allows m (box m p x) (put v x n x) =
              λ n g. subst (λ (j : ℕ). Allows m (box m p x) j) (sym (put_same v x n)) (u.back n g) in (
                i,
                record { below = u.below; state = u.state ∙ c.state; variable = u.variable },
                sym w.forest ∙ ap (λ (r : Row B). r.forest) a.4,
                λ n g. record {
                  row = p;
                  among = a.2;
                  covers = record {
                    state = c.state;
                    allowed = fits_all_but m laws p.boxes x (put v x n) (others n) (own n g);
                  };
                  forest = sym u.forest;
                },
              )
