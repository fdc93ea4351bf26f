use Rattle.std.proofs.Common.{refl}
use Rattle.kinds.proofs.FragmentBoxes.{without_is}
use Rattle.kinds.proofs.fragments.fragment.Fragment.without.Goals as goal

pub returns : goal.returns
returns c = without_is _ _ refl
