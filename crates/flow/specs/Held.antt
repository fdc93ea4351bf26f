-- What stands in the tables of the program: the arguments, labels and lines that they hold.
use Rattle.std.specs.Prelude.{ℕ, List, map, Ok, Err, Result}
use Rattle.flow.specs.Graph.{Graph, Label}
use Rattle.flow.specs.Line as sheet
use Rattle.stores.specs.Listed.{listed}
use Rattle.flow.specs.declared.edge.Edge.{Edge}
use Rattle.flow.specs.declared.label.Label as stored
use Rattle.flow.specs.declared.line.Line as written
use Rattle.flow.specs.declared.line.Line.TheVariants.{
  AllNext,
  AllUntil,
  And,
  Exists,
  Not,
  Or,
  Predicate,
  SomeNext,
  SomeUntil,
}
use Rattle.flow.specs.declared.refusal.Refusal.{Refusal}

abbrev pub label_of : stored.Label → Label
label_of l = record { state = l.state; predicate = l.predicate; values = listed l.values }

abbrev pub graph_of : ℕ → List Edge → List stored.Label → Graph
graph_of states edges labels = record { states = states; edges = edges; labels = map label_of labels }

abbrev pub line_of : written.Line → sheet.Line
line_of (Predicate p xs) = sheet.predicate p (listed xs)
line_of (And a b) = sheet.and a b
line_of (Or a b) = sheet.or a b
line_of (Not a) = sheet.not a
line_of (Exists x a) = sheet.exists x a
line_of (AllNext a) = sheet.all_next a
line_of (SomeNext a) = sheet.some_next a
line_of (AllUntil a b) = sheet.all_until a b
line_of (SomeUntil a b) = sheet.some_until a b

-- what was asked for, as it is held, or the refusal
abbrev pub asked_of : {A B : Type 0} → (A → B) → Result A Refusal → Result B Refusal
asked_of f (Ok x) = Ok (f x)
asked_of f (Err r) = Err r
