-- What a case holds: a sound closed graph and an ordered sheet.
use Rattle.std.specs.Prelude.{map}
use Rattle.flow.specs.Cases.{Content}
use Rattle.flow.specs.Facts.{Ordered}
use Rattle.flow.specs.Held.{graph_of, line_of}
use Rattle.flow.specs.Sound.{SoundClosed}
use Rattle.flow.specs.declared.case.Case.TheInside.{Inside}

abbrev pub content : Inside → Content
content c = record { graph = graph_of c.states c.edges c.labels; lines = map line_of c.lines }

pub record Kept (c : Inside) : Type 0 where
  pub sound : SoundClosed (content c).graph
  pub ordered : Ordered (content c).lines
