use Rattle.std.proofs.Common.{rules, arith}
use Rattle.records.specs.Texts.{fields}
use Rattle.records.proofs.Collected.{numbers_none, numbers_two}
use Rattle.records.proofs.reading.DraftCallTryFromRefRecord.try_from.Goals as goal

pub returns-in-State : goal.returns-in-State
returns-in-State c =
    let none = numbers_none (fields c.args.«record».now.text.now) 2 1 (grind arith) in
    search rules

pub returns-in-Close : goal.returns-in-Close
returns-in-Close c =
    let none = numbers_none (fields c.args.«record».now.text.now) 2 1 (grind arith) in
    search rules

pub returns-in_err-from-in-Edge : goal.returns-in_err-from-in-Edge
returns-in_err-from-in-Edge c =
    let two = numbers_two (fields c.args.«record».now.text.now) (grind arith) in
    search rules

pub returns-in_err-to-in-Edge : goal.returns-in_err-to-in-Edge
returns-in_err-to-in-Edge c =
    let two = numbers_two (fields c.args.«record».now.text.now) (grind arith) in
    search rules

pub returns-in_ok-to-in-Edge : goal.returns-in_ok-to-in-Edge
returns-in_ok-to-in-Edge c =
    let fs = fields c.args.«record».now.text.now in
    let two = numbers_two fs (grind arith) in
    let none = numbers_none fs 4 3 (grind arith) in
    search rules

pub returns-in_err-state-in-Label : goal.returns-in_err-state-in-Label
returns-in_err-state-in-Label c =
    let two = numbers_two (fields c.args.«record».now.text.now) (grind arith) in
    search rules

pub returns-in_err-predicate-in-Label : goal.returns-in_err-predicate-in-Label
returns-in_err-predicate-in-Label c =
    let two = numbers_two (fields c.args.«record».now.text.now) (grind arith) in
    search rules

pub returns-in_err-values-in-Label : goal.returns-in_err-values-in-Label
returns-in_err-values-in-Label c =
    let two = numbers_two (fields c.args.«record».now.text.now) (grind arith) in
    search rules

pub returns-in_ok-values-in-Label : goal.returns-in_ok-values-in-Label
returns-in_ok-values-in-Label c =
    let two = numbers_two (fields c.args.«record».now.text.now) (grind arith) in
    search rules
