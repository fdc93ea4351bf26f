-- Witnesses in a lent table, and what forming one more leaves.
use Rattle.std.proofs.Common.{◌≡◌, ℕ, suc, ◌+◌, ◌<◌, ◌≤◌, Bool, true, false, cond, min, List, [], ◌∷◌, ◌++◌, length, Option, Some, None, Result, Ok, Err, inl, inr, refl, sym, ap, ◌∙◌, arith, length-append}
use Rattle.kinds.specs.Model.{Model}
use Rattle.lists.specs.Formed.{Forms, FormsWithin, fitting, formed_in}
use Rattle.lists.specs.declared.witnesses.Witnesses.{Witnesses}
use Rattle.logic.specs.Witnessing.{Formed, form, number_from, numbered}
use Rattle.logic.specs.declared.shortage.Shortage.{Shortage}
use Rattle.logic.specs.declared.shortage.Shortage.TheVariants.{Witnesses as TooMany}
use Rattle.rows.specs.Forests.{most_witnesses}
use Rattle.rows.specs.Witnesses.{equal_witness}
use Rattle.rows.specs.declared.witness.Witness.{Witness}
use Rattle.std.proofs.lemmas.List.{length-take-le}
use Rattle.std.proofs.lemmas.Bool.{le-leb, le-ltb, lt-leb, lt-ltb}
use Rattle.std.proofs.lemmas.Bool.Decides.{leb_tells}

-- there are as many as the count says
pub length_formed : {W : Type 0} (ws : Witnesses W) → length (formed_in ws) ≡ ws.count
unfolding formed_in
length_formed ws = length-take-le ws.count ws.table.now ws.lent

module _ {B : Type 0} (m : Model B) (us : List (Witness B)) (w : Witness B) where
  -- an equal witness is there
  pub form_old : (i : ℕ) → number_from m 0 us w ≡ Some i → form m us w ≡ Ok (record { witnesses = us; number = i })
  unfolding form
  form_old i e = ap (numbered m us w) e

  module _ (none : number_from m 0 us w ≡ None) where
    -- none is, and there is room
    pub form_new : (n : ℕ) → length us ≡ n → n < most_witnesses
        → form m us w ≡ Ok (record { witnesses = us ++ w ∷ []; number = n })
    unfolding form
    form_new n long room = ap (numbered m us w) none ∙ rw (long, lt-ltb n most_witnesses room)

    -- none is, and there is no room
    pub form_full : most_witnesses ≤ length us → form m us w ≡ Err TooMany
    unfolding form
    form_full full = ap (numbered m us w) none ∙ rw (le-ltb (length us) most_witnesses full)

  -- what forming gives in a table of so many places
  module _ (room : ℕ) where
    -- those that have room are there
    there : (f : Formed B) → length f.witnesses ≤ room → fitting room (Ok f) ≡ Ok f
    there f within = rw (le-leb (length f.witnesses) room within) refl

    -- an equal witness is there
    pub fit_old : (i : ℕ) → number_from m 0 us w ≡ Some i → length us ≤ room
        → fitting room (form m us w) ≡ Ok (record { witnesses = us; number = i })
    fit_old i e within = ap (fitting room) (form_old i e) ∙ there (record { witnesses = us; number = i }) within

    module _ (none : number_from m 0 us w ≡ None) where
      -- none is, and there is room
      pub fit_new : (n : ℕ) → length us ≡ n → n < most_witnesses → n < room
          → fitting room (form m us w) ≡ Ok (record { witnesses = us ++ w ∷ []; number = n })
      fit_new n long few within =
          ap (fitting room) (form_new none n long few)
          ∙ there (record { witnesses = us ++ w ∷ []; number = n }) (simp length-append (omega arith))

      -- none is, and there is no room, in any table or in this one
      pub fit_full : min most_witnesses room ≤ length us → fitting room (form m us w) ≡ Err TooMany
      fit_full full =
          elim (leb_tells most_witnesses (length us)) [
            | inl h ↦ ap (fitting room) (form_full none h.1)
            | inr h ↦ let over : room < length (us ++ w ∷ []) = simp length-append (omega arith) in
                ap (fitting room) (form_new none (length us) refl h.1)
                ∙ rw (lt-leb (length (us ++ w ∷ [])) room over) refl
          ]

    -- a table with room for as many as may be formed refuses no more than any does
    pub fit_all : length us ≤ most_witnesses → most_witnesses ≤ room → fitting room (form m us w) ≡ form m us w
    fit_all few wide = all (number_from m 0 us w) refl
      where
        all : (n : Option ℕ) → number_from m 0 us w ≡ n → fitting room (form m us w) ≡ form m us w
        all (Some i) e = fit_old i e (omega arith) ∙ sym (form_old i e)
        all None e =
            elim (leb_tells most_witnesses (length us)) [
              | inl h ↦ fit_full e (omega arith) ∙ sym (form_full e h.1)
              | inr h ↦ fit_new e (length us) refl h.1 (omega arith) ∙ sym (form_new e (length us) refl h.1)
            ]

-- what was formed within such a table was formed as in any
pub forms_all : {B : Type 0} (m : Model B) {result : Result ℕ Shortage} {ws ws' : Witnesses (Witness B)} {w : Witness B}
    → FormsWithin m result ws ws' w → most_witnesses ≤ length ws.table.now → Forms m result ws ws' w
forms_all m {ws = ws} {w = w} within wide =
    let few : length (formed_in ws) ≤ most_witnesses = omega (arith, length_formed ws, ws.few) in
    record {
      same_table = within.same_table;
      as_many = within.as_many;
      forms = within.forms ∙ fit_all m (formed_in ws) w (length ws.table.now) few wide;
    }

-- the number of an equal witness is one of theirs
pub number_below : {B : Type 0} (m : Model B) (us : List (Witness B)) (w : Witness B) (i n : ℕ)
    → Some n ≡ number_from m i us w → n < i + length us
number_below m [] w i n e = cc
number_below m (u ∷ us) w i n e = here (equal_witness m u w) (λ later. number_below m us w (i + 1) n later) e
  where
    here : (b : Bool) → (Some n ≡ number_from m (i + 1) us w → n < i + 1 + length us)
        → Some n ≡ cond b (Some i) (number_from m (i + 1) us w) → n < i + suc (length us)
    here true below e' = let same : n ≡ i = cc in omega arith
    here false below e' = omega (arith, below e')
