use Rattle.std.proofs.Common.{rules, arith}
use Rattle.records.specs.Texts.{fields}
use Rattle.records.proofs.Collected.{numbers_more, numbers_none}
use Rattle.records.proofs.reading.SheetCallTryFromRefRecord.try_from.Goals as goal

pub returns-in_err-line-in-Check : goal.returns-in_err-line-in-Check
returns-in_err-line-in-Check c =
    let one = numbers_more (fields c.args.«record».now.text.now) 2 1 (grind arith) in
    search rules

pub returns-in_ok-line-in-Check : goal.returns-in_ok-line-in-Check
returns-in_ok-line-in-Check c =
    let fs = fields c.args.«record».now.text.now in
    let one = numbers_more fs 2 1 (grind arith) in
    let none = numbers_none fs 3 2 (grind arith) in
    search rules
