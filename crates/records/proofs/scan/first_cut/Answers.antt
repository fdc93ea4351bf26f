use Rattle.std.proofs.Common.{◌≡◌, ◌⊎◌, ℕ, ◌+◌, ◌-◌, Bool, List, [], length, drop, refl, subst, ⊎_elim, arith}
use Rattle.std.proofs.lemmas.List.{length-drop, take_all}
use Rattle.records.specs.Scanned.{Cuts, Going, Scanned}
use Rattle.records.specs.declared.scan.Scan.TheVariants.{Ended, Text}
use Rattle.records.proofs.Scans.{cuts_all, cuts_cr, cuts_crlf, within_none}
use Rattle.records.proofs.scan.first_cut.Goals as goal
use Rattle.records.proofs.scan.first_cut.Goals.{in-AfterCr, in-Text, in-Text-2}

pub loop-at-init : goal.loop-at-init
loop-at-init c = record { going = tt; scanned = within_none c.args.left.now c.requires }

pub returns-in-Ended : goal.returns-in-Ended
returns-in-Ended c =
    let left = c.args.left.now in
    let at = c.loop-at.at in
    let so = c.loop-at.invariant in
    let next = c.step-scan.ensures left at c.loop-at-test.true refl so.going so.scanned in
    let ended = subst (Scanned left (at + 1)) c.in-Ended.is next in
    rw (take_all (length left - (at + 1)) (drop (at + 1) left) (omega (arith, length-drop (at + 1) left)))
    (cuts_crlf left at c.loop-at-test.true ended)

pub returns : goal.returns
returns c =
    elim c.match-scan-2.branch [
      | in-AfterCr w ↦ rw w.strays-is (cuts_cr left c.requires (subst (Scanned left _) w.in-AfterCr.is scanned))
      | in-Text w ↦ rw w.strays-is (whole w.in-Text.strays w.in-Text.is)
      | in-Text-2 w ↦ rw w.strays-is (whole w.in-Text.strays w.in-Text.is)
    ]
  where
    left : List ℕ
    left = c.args.left.now

    scanned : Scanned left (length left) c.loop-at.scan
    scanned =
        let end : c.loop-at.at ≡ length left = omega arith in
        rw end at c.loop-at.invariant.scanned

    -- no record has ended, so that all of the text is one
    whole : (s : Bool) → (c.loop-at.scan ≡ Text s) ⊎ (c.loop-at.scan ≡ Ended s) → Cuts left left [] s
    whole s = ⊎_elim
        (λ text. cuts_all left c.requires (subst (Scanned left _) text scanned))
        (λ ended. absurd (subst Going ended c.loop-at.invariant.going))
