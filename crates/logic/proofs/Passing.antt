-- The trials pass: one test is computed over the whole table, and what passes the test is so.
use Rattle.std.proofs.Common.{◌≡◌, Bool, true, List, [], ◌∷◌, refl}
use Rattle.flow.specs.Closed.{closed}
use Rattle.flow.specs.Drawn.{added, drawn, refusal}
use Rattle.flow.specs.Sheet.{entry, sheet}
use Rattle.kinds.specs.Amounts.{amounts}
use Rattle.kinds.specs.Fragments.{fragments, numbers_from}
use Rattle.rows.specs.Denials.{denial}
use Rattle.rows.specs.Forests.{alike, has, none, single, union}
use Rattle.rows.specs.Rows.{blank, equal, join}
use Rattle.rows.specs.Witnesses.{blank_witness, equal_witness}
use Rattle.logic.specs.Adding.{add, add_all, pairing, pairs, told}
use Rattle.logic.specs.Operators.{
  labelled,
  moved,
  of_all_next,
  of_and,
  of_not,
  of_or,
  of_predicate,
  of_some_next,
  stepped,
}
use Rattle.logic.specs.Reached.{reached}
use Rattle.logic.specs.Rounds.{round}
use Rattle.logic.specs.Trials.{
  Passes,
  Trial,
  TrialsPass,
  agree,
  amount_pieces,
  amounts_meet,
  check,
  fragment_pieces,
  fragments_meet,
  same_option,
  same_outcome,
  trials,
}
use Rattle.logic.specs.Witnessing.{form, of_exists}
use Rattle.logic.proofs.Computing.{outcome, outcome_checks, work, work_all}
use Rattle.logic.proofs.Rounding.{settle}
use Rattle.std.proofs.lemmas.Bool.{and_parts}
use Rattle.std.specs.List.{AllByRecursion, list_all}

-- the trial comes out as it is to, with the outcome that is computed
abbrev passes : Trial → Bool
passes (check builds lines asked limit expected) =
    same_outcome fragments (outcome fragments (closed (drawn builds)) limit (sheet lines) asked) expected
passes (fragments_meet a b expected) = same_option fragments (fragments.meet a b) expected
passes (fragment_pieces b expected) = agree fragments.same (fragments.pieces b) expected
passes (amounts_meet a b expected) = same_option amounts (amounts.meet a b) expected
passes (amount_pieces b expected) = agree amounts.same (amounts.pieces b) expected

-- a trial that passes the test comes out as it is to
from_passes : (t : Trial) → passes t ≡ true → Passes t
from_passes (check builds lines asked limit expected) e = (
  outcome fragments (closed (drawn builds)) limit (sheet lines) asked,
  outcome_checks fragments (closed (drawn builds)) limit (sheet lines) asked,
  e,
)
from_passes (fragments_meet a b expected) e = e
from_passes (fragment_pieces b expected) e = e
from_passes (amounts_meet a b expected) e = e
from_passes (amount_pieces b expected) e = e

-- so do all trials
all_pass : (ts : List Trial) → list_all passes ts ≡ true → AllByRecursion Passes ts
all_pass [] e = tt
all_pass (t ∷ ts) e =
    let h = and_parts (passes t) (list_all passes ts) e in (from_passes t h.0, all_pass ts h.1)

-- the test, computed
computed : list_all passes trials ≡ true
unfolding added refusal entry numbers_from denial alike has none single union blank equal join blank_witness
    equal_witness add add_all pairing pairs told labelled moved of_all_next of_and of_not of_or of_predicate
    of_some_next stepped reached round form of_exists settle work work_all
computed = refl

-- all trials of the table
pub trials_pass : TrialsPass
trials_pass = all_pass trials computed
