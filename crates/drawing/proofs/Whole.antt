-- The whole drawing of a text, put together from its two phases.
use Rattle.std.proofs.Common.{◌≡◌, ℕ, ◌+◌, ◌-◌, ◌≤◌, List, [], length, Option, ap, ◌∙◌, arith, length-append}
use Rattle.drawing.specs.Calls.{line_calls}
use Rattle.drawing.specs.Followed.{Followed}
use Rattle.drawing.specs.Following.{checks, closed_case, drafting, later, refused}
use Rattle.drawing.specs.Output.{
  all_refused,
  done_text,
  drawing,
  drawn_graph,
  empty_draft,
  empty_sheet,
  final_case,
}
use Rattle.drawing.specs.Refused.{refused_text}
use Rattle.drawing.specs.Shown.{case_text}
use Rattle.drawing.specs.declared.tally.Tally.{Tally}
use Rattle.drawing.proofs.Ends.{drawn_to_end, entered_to_end}
use Rattle.flow.specs.Cases.{Content}
use Rattle.flow.specs.Closed.{closed, loops}
use Rattle.flow.specs.Graph.{Graph, nothing_drawn}
use Rattle.flow.specs.Line.{Line}
use Rattle.flow.specs.Sheet.{sheet as sheet_of}
use Rattle.pages.proofs.Adding.{then_add}
use Rattle.pages.specs.Pages.{add}
use Rattle.records.specs.Texts.{records}
use Rattle.std.proofs.lemmas.List.Concat.{flat_map-append}

module _
    {input left₁ left₂ : List ℕ} {n₁ n₂ : ℕ} {p₀ p₁ p₂ : Option (List ℕ)} {t₁ t₂ : Tally}
    {g : Graph} {k₀ k : Content}
    (first : Followed empty_draft 0 input p₀ (drafting g) n₁ left₁ p₁ t₁)
    (graph : k₀.graph ≡ closed g) (sheet : k₀.lines ≡ [])
    (second : Followed (closed_case k₀) n₁ left₁ p₁ (closed_case k) n₂ left₂ p₂ t₂)
  where
    begins : k₀ ≡ record { graph = closed g; lines = [] }
    begins =
        let case : Graph → List Line → Content = λ h ls. record { graph = h; lines = ls } in
        ap (λ h. case h k₀.lines) graph ∙ ap (case (closed g)) sheet

    ends : k ≡ record { graph = closed g; lines = sheet_of (line_calls (records left₁)) }
    ends = let e = second.leaves ∙ entered_to_end k₀ (records left₁) in cc

    -- the edges that were drawn are among those of the closed graph
    pub drawn_first : length g.edges ≤ length k.graph.edges
    drawn_first = rw ends (omega (arith, length-append g.edges (loops g.edges g.states)))

    pub whole :
        {p₃ p₄ : Option (List ℕ)} → p₃ ≡ add p₂ (case_text k)
        → p₄ ≡ add p₃ (done_text k (length g.edges) (t₁.refused + t₂.refused) t₂.checks)
        → p₄ ≡ add p₀ (drawing (records input))
    unfolding drawing
    whole {p₃} {p₄} shown_case shown_done =
        let rs = records input in
        let more = later empty_draft rs in
        let earlier = refused empty_draft 0 rs in
        let afterwards = refused (empty_sheet rs) (length rs - length more) more in
        let drawn : g ≡ drawn_graph rs = let e = first.leaves ∙ drawn_to_end nothing_drawn rs in cc in
        let read : n₁ ≡ length rs - length more = omega (arith, first.counted) in
        let same : refused (closed_case k₀) n₁ (records left₁) ≡ afterwards = rw (begins, first.others, read, drawn) in
        let held : k ≡ final_case rs = rw (ends, first.others, drawn) in
        let asked : t₂.checks ≡ checks (empty_sheet rs) more = second.asked ∙ rw (begins, first.others, drawn) in
        let refusals : t₁.refused + t₂.refused ≡ length (all_refused rs) =
        omega (arith, first.refusals, second.refusals ∙ ap length same, length-append earlier afterwards) in
        rw (← refusals, ← asked, flat_map-append refused_text earlier afterwards, ← same)
        (then_add p₀ p₂ p₄ _ _ (then_add p₀ p₁ p₂ _ _ first.printed second.printed)
        (then_add p₂ p₃ p₄ _ _ (rw held at shown_case) (rw (held, drawn) at shown_done)))
