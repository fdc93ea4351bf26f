-- Sound graphs and sheets have the facts; so have all that lists of calls draw and enter.
use Rattle.std.proofs.Common.{◌≡◌, ℕ, ◌<◌, Bool, true, false, ◌||◌, eqb, List, [], ◌∷◌, length, Ok, Err, Result, sym, refl, ap, ◌∙◌, not-suc-le-zero, arith}
use Rattle.flow.specs.Build.{Build}
use Rattle.flow.specs.Closed.{closed, leaves}
use Rattle.flow.specs.Drawn.{after, drawn, drawn_on}
use Rattle.flow.specs.Facts.{ClosedGraph, Ordered}
use Rattle.flow.specs.Graph.{Graph, ends, nothing_drawn}
use Rattle.flow.specs.Limits.{most_edges}
use Rattle.flow.specs.Line.{Line}
use Rattle.flow.specs.Sheet.{entered, entered_on, entry, sheet}
use Rattle.flow.specs.Sound.{Joined, Sound, SoundClosed}
use Rattle.flow.specs.declared.edge.Edge.{Edge}
use Rattle.flow.specs.declared.refusal.Refusal.{Refusal}
use Rattle.flow.proofs.Entering.{entry_ordered}
use Rattle.flow.proofs.Loops.{sound_once_closed}
use Rattle.flow.proofs.Soundness.{sound-after}
use Rattle.std.proofs.lemmas.Bool.{cond_both, false≢true}
use Rattle.std.specs.List.{AllByRecursion}

-- where an edge leaves from s, s has a successor
leads_from_leaves : (es : List Edge) (s : ℕ) → leaves es s ≡ true → 0 < length (ends es s)
leads_from_leaves [] s e = let z : ◌≡◌ {A = Bool} false true = e in absurd (false≢true z)
leads_from_leaves (x ∷ es) s e =
    cond_both (eqb x.from s) (x.to ∷ ends es s) (ends es s) (λ ts. 0 < length ts) (λ f. omega arith)
    (λ f. leads_from_leaves es s (ap (λ t. t || leaves es s) (sym f) ∙ e))

-- where edges join states, successors are states
stays_from_joined : (n : ℕ) (es : List Edge) (s : ℕ) → AllByRecursion (Joined n) es → AllByRecursion (λ t. t < n) (ends es s)
stays_from_joined n [] s h = tt
stays_from_joined n (x ∷ es) s h =
    let rest = stays_from_joined n es s h.1 in
    cond_both (eqb x.from s) (x.to ∷ ends es s) (ends es s) (λ ts. AllByRecursion (λ t. t < n) ts)
    (λ f. (h.0.to, rest)) (λ f. rest)

pub closed_graph : (g : Graph) → SoundClosed g → ClosedGraph g
closed_graph g s = record {
  few = s.sound.few_states;
  leads = λ t h. leads_from_leaves g.edges t (s.leading t h);
  stays = λ t. stays_from_joined g.states g.edges t s.sound.joined;
  labelled = s.sound.labelled;
}

-- every call leaves a sound graph sound, so every graph that calls draw is sound
sound_on : (g : Graph) (bs : List Build) → Sound most_edges g → Sound most_edges (drawn_on g bs)
sound_on g [] s = s
sound_on g (b ∷ bs) s = sound_on (after g b) bs (sound-after g b s)

sound_from_nothing : Sound most_edges nothing_drawn
sound_from_nothing =
    record { few_states = omega arith; few_edges = omega arith; few_labels = omega arith; joined = tt; labelled = tt }

pub drawn-closed : (bs : List Build) → ClosedGraph (closed (drawn bs))
drawn-closed bs = closed_graph (closed (drawn bs)) (sound_once_closed (drawn bs) (sound_on nothing_drawn bs sound_from_nothing))

-- and every sheet that calls enter is ordered
ordered_entered : (ls : List Line) (c : ℕ) (ns : List ℕ) (o : Result Line Refusal) → entry ls c ns ≡ o
    → Ordered ls → Ordered (entered ls o)
ordered_entered ls c ns (Ok l) e s = entry_ordered ls c ns l (sym e) s
ordered_entered ls c ns (Err r) e s = s

sheet_on : (ls : List Line) (cs : List (ℕ × List ℕ)) → Ordered ls → Ordered (entered_on ls cs)
sheet_on ls [] s = s
sheet_on ls (c ∷ cs) s =
    sheet_on (entered ls (entry ls c.0 c.1)) cs (ordered_entered ls c.0 c.1 (entry ls c.0 c.1) refl s)

pub sheet_ordered : (cs : List (ℕ × List ℕ)) → Ordered (sheet cs)
sheet_ordered cs = sheet_on [] cs (λ i d h. absurd (not-suc-le-zero h))
