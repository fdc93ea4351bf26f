use Rattle.std.proofs.Common.{◌≡◌, ◌-◌}
use Rattle.std.specs.List.{slice_get}
use Rattle.std.specs.Slice.Iter.{iter_rest}
use Rattle.records.specs.Texts.{fields}
use Rattle.records.proofs.record.nth_field.Given as goal

-- the field that is asked for is among those of the bytes that are left, behind as many as are still to skip
abbrev pub invariant-loop : goal.invariant-loop
invariant-loop l = slice_get (fields l.text) l.skip ≡ slice_get (fields (iter_rest l.bytes)) (l.skip - l.counter)
