-- What a list of rows shows: the states and valuations that its rows cover, each with the forest of such a row.
use Rattle.std.proofs.Common.{◌≡◌, ℕ, Bool, true, false, cond, eqb, ltb, ◌⊎◌, List, [], ◌∷◌, ◌++◌, length, Ok, Err, sym, refl, ap, ◌∙◌, subst, inl, inr}
use Rattle.kinds.specs.Consequences.{Consequences}
use Rattle.kinds.specs.Member.{◌∈◌, here, there}
use Rattle.kinds.specs.Model.{Model}
use Rattle.rows.proofs.Members.{alike_equal}
use Rattle.rows.specs.Forests.{alike}
use Rattle.rows.specs.Rows.{equal, same_boxes}
use Rattle.rows.specs.declared.forest.Forest.{Forest}
use Rattle.rows.specs.declared.row.Row.{Row}
use Rattle.logic.specs.Adding.{add, add_all, told}
use Rattle.logic.specs.Faithful.{Covers}
use Rattle.logic.specs.Valuations.{Valuation}
use Rattle.logic.specs.declared.shortage.Shortage.TheVariants.{Rows}
use Rattle.logic.proofs.Boxes.{fits_same}
use Rattle.logic.proofs.Members.{from_any, from_append, from_one, in_left, in_right}
use Rattle.logic.proofs.Thens.{err_ok, ok_inj, then_parts}
use Rattle.std.proofs.lemmas.Bool.{and_parts, eqb-true}

module _ {B : Type 0} (m : Model B) where
  -- a row of the list covers s and v, and has the forest f
  pub record Shows (rows : List (Row B)) (s : ℕ) (v : Valuation) (f : Forest) : Type 0 where
    pub row : Row B
    pub among : row ∈ rows
    pub covers : Covers m row s v
    pub forest : row.forest ≡ f

  -- a list is what another becomes when rows are added
  pub record Gathers (rows rs all : List (Row B)) : Type 0 where
    -- all rows stay
    pub keeps : (p : Row B) → p ∈ rows → p ∈ all
    -- no other rows come
    pub from : (p : Row B) → p ∈ all → (p ∈ rows) ⊎ (p ∈ rs)
    -- what the rows that are added show is shown
    pub shows : (s : ℕ) (v : Valuation) (f : Forest) → Shows rs s v f → Shows all s v f

  -- a row that is shown is shown by every list that has it
  pub shows_at : {rows others : List (Row B)} {s : ℕ} {v : Valuation} {f : Forest} (w : Shows rows s v f)
      → w.row ∈ others → Shows others s v f
  shows_at w i = record { row = w.row; among = i; covers = w.covers; forest = w.forest }

  -- rows that stay show what they did
  pub shows_in : {rows all : List (Row B)} → ((p : Row B) → p ∈ rows → p ∈ all) → {s : ℕ} {v : Valuation} {f : Forest}
      → Shows rows s v f → Shows all s v f
  shows_in keeps w = shows_at w (keeps w.row w.among)

  module _ (laws : Consequences m) where
    -- an equal row covers what the row does, with the same forest
    covers_equal : (q r : Row B) → equal m q r ≡ true → {s : ℕ} {v : Valuation} → Covers m r s v
        → Covers m q s v × (q.forest ≡ r.forest)
    unfolding equal
    covers_equal q r e {s} {v} c =
        let a = and_parts (eqb q.state r.state) _ e in
        let b = and_parts (alike q.forest r.forest) (same_boxes m q.boxes r.boxes) a.1 in (
          record {
            state = eqb-true q.state r.state a.0 ∙ c.state;
            allowed = fits_same m laws q.boxes r.boxes b.1 v c.allowed;
          },
          alike_equal q.forest r.forest b.0,
        )

    -- the rule by which a row is not added: what it shows is shown by a row that is there
    pub shows_told : (rows : List (Row B)) (r : Row B) → told m rows r ≡ true → (s : ℕ) (v : Valuation)
        → Covers m r s v → Shows rows s v r.forest
    unfolding told
    shows_told rows r e s v c =
        let q = from_any (λ q. equal m q r) rows e in
        let d = covers_equal q.0 r q.2 c in
        record { row = q.0; among = q.1; covers = d.0; forest = d.1 }

    module _ (limit : ℕ) where
      -- one row is added, or need not be
      pub add_gathers : (rows : List (Row B)) (r : Row B) {all : List (Row B)} → add m limit rows r ≡ Ok all
          → Gathers rows (r ∷ []) all
      unfolding add
      add_gathers rows r {all} e = step (told m rows r) refl (ltb (length rows) limit) e
        where
          from_pushed : (p : Row B) → p ∈ (rows ++ r ∷ []) → (p ∈ rows) ⊎ (p ∈ (r ∷ []))
          from_pushed p i = from_append rows i

          step : (b : Bool) → told m rows r ≡ b → (c : Bool)
              → cond b (Ok rows) (cond c (Ok (rows ++ r ∷ [])) (Err Rows)) ≡ Ok all → Gathers rows (r ∷ []) all
          step true t c e =
              subst (λ (z : List (Row B)). Gathers rows (r ∷ []) z) (ok_inj e)
              (record {
                keeps = λ p i. i;
                from = λ p i. inl i;
                shows = λ s v f w.
                    let q = from_one w.among in
                    subst (λ (h : Forest). Shows rows s v h) (ap (λ (x : Row B). x.forest) (sym q) ∙ w.forest)
                    (shows_told rows r t s v (subst (λ (x : Row B). Covers m x s v) q w.covers));
              })
          step false t true e =
              subst (λ (z : List (Row B)). Gathers rows (r ∷ []) z) (ok_inj e)
              (record {
                keeps = λ p i. in_left (r ∷ []) i;
                from = from_pushed;
                shows = λ s v f w. shows_in (λ p i. in_right rows i) w;
              })
          step false t false e = absurd (err_ok e)

      -- a row more in front of those that are added
      gathers_more : {rows more all : List (Row B)} {r : Row B} {rs : List (Row B)} → Gathers rows (r ∷ []) more
          → Gathers more rs all → Gathers rows (r ∷ rs) all
      gathers_more {rows} {more} {all} {r} {rs} a b =
          record {
            keeps = λ p i. b.keeps p (a.keeps p i);
            from = λ p i. later p (b.from p i);
            shows = λ s v f w. shown w w.among;
          }
        where
          first : (p : Row B) → (p ∈ rows) ⊎ (p ∈ (r ∷ [])) → (p ∈ rows) ⊎ (p ∈ (r ∷ rs))
          first p (inl i) = inl i
          first p (inr i) = inr (here (from_one i))

          later : (p : Row B) → (p ∈ more) ⊎ (p ∈ rs) → (p ∈ rows) ⊎ (p ∈ (r ∷ rs))
          later p (inl i) = first p (a.from p i)
          later p (inr i) = inr (there i)

          shown : {s : ℕ} {v : Valuation} {f : Forest} (w : Shows (r ∷ rs) s v f) → w.row ∈ (r ∷ rs) → Shows all s v f
          shown {s} {v} {f} w (here e) =
              shows_in b.keeps (a.shows s v f (shows_at w (here e)))
          shown {s} {v} {f} w (there i) = b.shows s v f (shows_at w i)

      -- rows are added one by one, or need not be
      pub add_all_gathers : (rows rs : List (Row B)) {all : List (Row B)} → add_all m limit rows rs ≡ Ok all
          → Gathers rows rs all
      unfolding add_all
      add_all_gathers rows [] e =
          subst (λ (z : List (Row B)). Gathers rows [] z) (ok_inj e)
          (record { keeps = λ p i. i; from = λ p i. inl i; shows = λ s v f w. elim w.among [ ] })
      add_all_gathers rows (r ∷ rs) e =
          let a = then_parts (add m limit rows r) (λ more. add_all m limit more rs) e in
          gathers_more (add_gathers rows r a.1) (add_all_gathers a.0 rs a.2)
