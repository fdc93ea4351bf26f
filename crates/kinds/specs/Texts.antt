-- The texts of boxes.
use Rattle.std.specs.Prelude.{ℕ, cond, List, ◌++◌, codes, decimal, ◌==◌}
use Rattle.pages.specs.Spaced.{spaced}
use Rattle.kinds.specs.Fragments.{numbers}
use Rattle.kinds.specs.declared.amounts.span.Span.{Span}
use Rattle.kinds.specs.declared.fragments.fragment.Fragment.{Fragment}
use Rattle.kinds.specs.declared.fragments.fragment.Fragment.TheVariants.{Only, Except}

-- the ends of a span: `5..9`
abbrev pub span_text : Span → List ℕ
span_text b = decimal b.low ++ (codes ".." ++ decimal b.high)

-- a name `=5`, all values `*`, or all but some, ascending: `-1 3`
abbrev pub fragment_text : Fragment → List ℕ
fragment_text (Only a) = codes "=" ++ decimal a.number
fragment_text (Except s) = cond (s.bits == 0) (codes "*") (codes "-" ++ spaced (numbers s.bits))
