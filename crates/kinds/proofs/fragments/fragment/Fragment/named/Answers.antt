use Rattle.std.proofs.Common.{refl}
use Rattle.kinds.proofs.FragmentBoxes.{named_is}
use Rattle.kinds.proofs.fragments.fragment.Fragment.named.Goals as goal

pub returns : goal.returns
returns c = named_is _ _ refl
