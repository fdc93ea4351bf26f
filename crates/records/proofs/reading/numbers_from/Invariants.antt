use Rattle.std.proofs.Common.{◌≡◌, ◌+◌, length}
use Rattle.stores.specs.Listed.{listed}
use Rattle.records.proofs.Collected.{after, from}
use Rattle.records.proofs.reading.numbers_from.Given as goal

-- the numbers so far, one of each field, and then those in the fields that are left, are all of them
abbrev pub invariant-loop-at : goal.invariant-loop-at
invariant-loop-at l =
    let text = l.«record».text.now in
    record {
      counted : length (listed l.numbers) + l.first ≡ l.at;
      collected : from text l.first ≡ after (listed l.numbers) (from text l.at);
    }
