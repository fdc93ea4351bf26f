-- The table of witnesses as `Q` goes through rows: each witness names only earlier ones.
use Rattle.std.proofs.Common.{◌≡◌, ℕ, ◌<◌, ◌≤◌, Bool, true, false, cond, ltb, ◌⊎◌, List, [], ◌∷◌, ◌++◌, length, Some, None, Ok, Err, Option, sym, refl, ap, ◌∙◌, subst, inl, inr, arith, length-set}
use native.Mathlib.Decide.{ℕ_discrete}
use Rattle.kinds.specs.Consequences.{Consequences}
use Rattle.kinds.specs.Member.{◌∈◌, here, there}
use Rattle.kinds.specs.Model.{Model}
use Rattle.rows.proofs.Members.{has-single}
use Rattle.rows.specs.Forests.{has, most_witnesses}
use Rattle.rows.specs.Witnesses.{blank_witness}
use Rattle.rows.specs.declared.forest.Forest.{Forest}
use Rattle.rows.specs.declared.row.Row.{Row}
use Rattle.rows.specs.declared.witness.Witness.{Witness}
use Rattle.logic.specs.Adding.{add}
use Rattle.logic.specs.Faithful.{witness}
use Rattle.logic.specs.Witnessing.{
  Formed,
  Quantified,
  exists_from,
  form,
  freed,
  number_from,
  numbered,
  of_exists,
  witness_of,
}
use Rattle.logic.specs.declared.shortage.Shortage.TheVariants.{Witnesses}
use Rattle.logic.proofs.Forming.{Extends, Numbers, extends_at, form_numbers}
use Rattle.logic.proofs.Grounded.{Grounded}
use Rattle.logic.proofs.Quantifying.{frees}
use Rattle.logic.proofs.Sound.{Sound, SoundRows}
use Rattle.logic.proofs.Thens.{err_ok, ok_inj, then_parts}
use Rattle.std.proofs.lemmas.List.{get_or_append_left, get_or_push, length-append}
use Rattle.std.proofs.lemmas.Bool.{eqb-true, ltb-true}

module _ {B : Type 0} (m : Model B) (laws : Consequences m) where
  -- the empty table is grounded
  pub grounded_none : Grounded m []
  grounded_none = record { few = omega arith; earlier = λ i l. absurd (omega arith) }

  -- the forest names witnesses of the table only
  abbrev Known : List (Witness B) → Forest → Type 0
  Known us f = (j : ℕ) → has f j ≡ true → j < length us

  -- a table stays grounded where a witness comes that names only witnesses of it
  grounded_push : (us : List (Witness B)) (w : Witness B) → length us < most_witnesses → Grounded m us
      → Known us w.forest → Grounded m (us ++ w ∷ [])
  grounded_push us w room h known =
      let sum = length-append us (w ∷ []) in
      record { few = omega arith; earlier = λ i l j t. step i l j t (ℕ_discrete i (length us)) }
    where
      step : (i : ℕ) → i < length (us ++ w ∷ []) → (j : ℕ) → has (witness m (us ++ w ∷ []) i).forest j ≡ true
          → Dec (i ≡ length us) → j < i
      step i l j t (yes e) =
          let at : witness m (us ++ w ∷ []) i ≡ w = get_or_push us w (blank_witness m) i (sym e) in
          let k : j < length us = known j (ap (λ (u : Witness B). has u.forest j) (sym at) ∙ t) in
          omega arith
      step i l j t (no d) =
          let sum = length-append us (w ∷ []) in
          let k : i < length us = omega arith in
          let at = get_or_append_left us (w ∷ []) (blank_witness m) i k in
          h.earlier i k j (ap (λ (u : Witness B). has u.forest j) (sym at) ∙ t)

  -- forming a witness finds an equal one or pushes it
  form_grounded : (us : List (Witness B)) (w : Witness B) {f : Formed B} → form m us w ≡ Ok f → Grounded m us
      → Known us w.forest → Grounded m f.witnesses
  unfolding form
  form_grounded us w {f} e h known = step (number_from m 0 us w) e
    where
      pushed : (b : Bool) → ltb (length us) most_witnesses ≡ b
          → cond b (Ok (record { witnesses = us ++ w ∷ []; number = length us })) (Err Witnesses) ≡ Ok f
          → Grounded m f.witnesses
      pushed true q g =
          subst (λ (z : Formed B). Grounded m z.witnesses) (ok_inj g)
          (grounded_push us w (ltb-true (length us) most_witnesses q) h known)
      pushed false q g = absurd (err_ok g)

      step : (o : Option ℕ) → numbered m us w o ≡ Ok f → Grounded m f.witnesses
      step (Some i) g = subst (λ (z : Formed B). Grounded m z.witnesses) (ok_inj g) h
      step None g = pushed (ltb (length us) most_witnesses) refl g

  -- a longer table knows what a shorter one does
  known_more : (us ws : List (Witness B)) (f : Forest) → Extends us ws → Known us f → Known ws f
  known_more us ws f x known j t = (extends_at us ws (blank_witness m) j x (known j t)).1

  module _ (limit x : ℕ) where
    -- rows in turn, each with its witness
    grounded_from : (us : List (Witness B)) (rows ps : List (Row B)) {q : Quantified B}
        → exists_from m limit x us rows ps ≡ Ok q → Grounded m us → ((p : Row B) → p ∈ ps → Known us p.forest)
        → Grounded m q.witnesses
    grounded_from us rows [] e h known = subst (λ (z : Quantified B). Grounded m z.witnesses) (ok_inj e) h
    grounded_from us rows (p ∷ ps) e h known =
        let a = then_parts (form m us (witness_of m x p)) _ e in
        let b = then_parts (add m limit rows (freed m x p a.0.number)) _ a.2 in
        let n = form_numbers m laws us (witness_of m x p) a.1 in
        grounded_from a.0.witnesses b.0 ps b.2
        (form_grounded us (witness_of m x p) a.1 h (known p (here refl)))
        (λ o i. known_more us a.0.witnesses o.forest n.0 (known o (there i)))

    module _ (us : List (Witness B)) (ps : List (Row B)) {q : Quantified B} (e : of_exists m limit x us ps ≡ Ok q)
        (grounded : Grounded m us) (sound : SoundRows m laws (length us) ps) where
      -- `Q` leaves the table grounded
      pub exists_grounded : Grounded m q.witnesses
      unfolding of_exists
      exists_grounded = grounded_from us [] ps e grounded (λ p i. (sound.each p i).known)

      -- the freed rows are sound
      pub exists_sound : SoundRows m laws (length q.witnesses) q.rows
      unfolding of_exists
      exists_sound = record { each = λ r i. step r ((frees m laws limit x us [] ps e).from_freed r i) }
        where
          step : (r : Row B) → (r ∈ [])
              ⊎ ((p : Row B) × (i : ℕ) × (p ∈ ps) × Numbers m laws q.witnesses (witness_of m x p) i
              × (r ≡ freed m x p i))
              → Sound m laws (length q.witnesses) r
          step r (inl j) = elim j [ ]
          step r (inr a) =
              let p = a.0 in
              let i = a.1 in
              let below = a.3.below in
              let few = exists_few in
              let small : i < most_witnesses = omega arith in
              subst (λ (z : Row B). Sound m laws (length q.witnesses) z) (sym a.4)
              (record {
                sized = length-set p.boxes x m.all ∙ (sound.each p a.2).sized;
                known = λ j t. let same = eqb-true j i (sym (has-single i j small) ∙ t) in omega arith;
              })
            where
              exists_few : length q.witnesses ≤ most_witnesses
              exists_few = (grounded_from us [] ps e grounded (λ p i. (sound.each p i).known)).few
