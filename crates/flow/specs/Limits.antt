-- How much a case may hold.
use Rattle.std.specs.Prelude.{ℕ, ◌+◌}

abbrev pub most_states : ℕ
most_states = 256

-- the edges that are drawn; closing may add one for each state
abbrev pub most_edges : ℕ
most_edges = 512

abbrev pub most_closed_edges : ℕ
most_closed_edges = most_edges + most_states

abbrev pub most_labels : ℕ
most_labels = 512

abbrev pub most_lines : ℕ
most_lines = 32

-- predicates are numbered below this
abbrev pub predicates : ℕ
predicates = 256

-- the most values of a label, and the most variables of a predicate in a line
abbrev pub most_arguments : ℕ
most_arguments = 3

-- variables are numbered below this
abbrev pub variables : ℕ
variables = 4
