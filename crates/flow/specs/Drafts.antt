-- What a draft holds: the graph so far, which is sound, and no lines yet.
use Rattle.std.specs.Prelude.{◌≡◌, []}
use Rattle.flow.specs.Graph.{Graph}
use Rattle.flow.specs.Held.{graph_of}
use Rattle.flow.specs.Limits.{most_edges}
use Rattle.flow.specs.Sound.{Sound}
use Rattle.flow.specs.declared.draft.Draft.TheInside.{Inside}

abbrev pub sketch : Inside → Graph
sketch d = graph_of d.states d.edges d.labels

pub record Sketched (d : Inside) : Type 0 where
  pub sound : Sound most_edges (sketch d)
  pub no_lines : d.lines ≡ []
