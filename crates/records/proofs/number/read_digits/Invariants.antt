use Rattle.std.proofs.Common.{◌≡◌, ◌≤◌, drop}
use Rattle.records.specs.Numbers.{largest, said}
use Rattle.records.proofs.number.read_digits.Given as goal

-- the bytes that are left say, after the value so far, what all of them say
abbrev pub invariant-loop-byte : goal.invariant-loop-byte
invariant-loop-byte l = record {
  small : l.value ≤ largest;
  says : said 0 l.text ≡ said l.value (drop l.byte-index l.text);
}
