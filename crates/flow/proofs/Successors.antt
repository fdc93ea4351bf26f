-- The successors of a state, by the library's words.
use Rattle.std.proofs.Common.{◌≡◌, ℕ, List, [], ◌∷◌, map, refl, ◌==◌, arith}
use Rattle.flow.specs.Graph.{ends}
use Rattle.flow.specs.declared.edge.Edge.{Edge}
use Rattle.std.specs.List.{filter}
use Rattle.std.proofs.lemmas.Bool.Decides.{nat_tests}

-- the successors are where the edges that leave from s lead
pub ends_filter : (es : List Edge) (s : ℕ) → ends es s ≡ map (λ e. e.to) (filter (λ e. e.from == s) es)
ends_filter [] s = refl
ends_filter (e ∷ es) s = grind (arith, nat_tests, ends_filter es s)
