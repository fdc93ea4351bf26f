-- Every answered check is faithful.
use Rattle.std.proofs.Common.{sym, refl, subst}
use Rattle.kinds.proofs.Consequences.{consequences}
use Rattle.kinds.specs.Laws.{Laws}
use Rattle.kinds.specs.Model.{Model}
use Rattle.rows.specs.declared.forest.Forest.{Forest}
use Rattle.logic.specs.Faithful.{Matches, trees}
use Rattle.logic.specs.Formulas.{formula}
use Rattle.logic.specs.Promises.{EveryAnswerIsFaithful, WitnessesNameEarlierOnes}
use Rattle.logic.proofs.Coverage.{decides, inside}
use Rattle.logic.proofs.Covering.{covered, shown_of, some_covered}
use Rattle.logic.proofs.Fillings.{fills, steady}
use Rattle.logic.proofs.Matching.{tells}
use Rattle.logic.proofs.SameNotes.{≋_sym}
use Rattle.logic.proofs.Whole.{answer_grounded, answer_right}

-- from right rows: coverage, fillings and accounts
pub every_answer_is_faithful : {B : Type 0} (m : Model B) → Laws m → EveryAnswerIsFaithful m
every_answer_is_faithful m law g closed nameable ls ordered limit asked small a checks =
    let laws = consequences law in
    let right = answer_right m laws g limit nameable ls ordered asked small checks in
    let grounded = answer_grounded m laws g limit nameable ls ordered asked small checks in
    let φ = formula ls asked in
    let decide = decides m laws g a.witnesses closed φ a.rows right in
    record {
      inside = λ r i.
          let v = some_covered m laws r in
          inside m laws g a.witnesses φ a.rows right r.state v.0 r.forest v.1
          (record { row = r; among = i; covers = v.2; forest = refl });
      coverage = λ s v l h. (λ sat. covered m ((decide s v l h).0 sat), λ c. (decide s v l h).1 (shown_of m c));
      fillings = λ r i s v h c filling acc w same.
          steady m g a.witnesses φ v s filling acc (≋_sym acc filling same)
          (fills m g a.witnesses laws closed grounded φ a.rows right s v r.forest h
          (record { row = r; among = i; covers = c; forest = refl }) filling w);
      accounts = λ s v l h acc w.
          let t = tells m g a.witnesses closed laws grounded φ a.rows right s v l h acc w in (
            t.1.row,
            t.1.among,
            t.1.covers,
            subst (λ (f : Forest). Matches m (trees m a.witnesses f) acc) (sym t.1.forest) t.2,
          );
    }

-- from a grounded table
pub witnesses_name_earlier_ones : {B : Type 0} (m : Model B) → Laws m → WitnessesNameEarlierOnes m
witnesses_name_earlier_ones m law g nameable ls ordered limit asked small a checks i l j t =
    (answer_grounded m (consequences law) g limit nameable ls ordered asked small checks).earlier i l j t
