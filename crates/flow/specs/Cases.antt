-- What a case is: a closed graph, and the sheet on top of it.
use Rattle.std.specs.Prelude.{List}
use Rattle.flow.specs.Graph.{Graph}
use Rattle.flow.specs.Line.{Line}

pub record Content : Type 0 where
  pub graph : Graph
  pub lines : List Line
