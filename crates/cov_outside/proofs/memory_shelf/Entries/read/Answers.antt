use Rattle.std.proofs.Common.{arith, rules}
use Rattle.cov_outside.proofs.Placed.{absent_file, present_file}
use Rattle.cov_outside.proofs.memory_shelf.Entries.read.Goals as goal

pub returns-in_default-clause-absent : goal.returns-in_default-clause-absent
returns-in_default-clause-absent c = λ _. absent_file c.args.name.now c.args.self.now.pairs.items (search rules)

pub returns-then-bytes-most-clause-too_large : goal.returns-then-bytes-most-clause-too_large
returns-then-bytes-most-clause-too_large c =
    λ _. (
      c.as_slice-bytes.result.now,
      let at = present_file c.args.name.now c.args.self.now.pairs.items c.in-Some.at c.index.result.now (search rules) in search (rules, at),
      omega (arith, c.if-bytes-most.true),
    )

pub returns-clause-found : goal.returns-clause-found
returns-clause-found c =
    let at = present_file c.args.name.now c.args.self.now.pairs.items c.in-Some.at c.index.result.now (search rules) in search (rules, at)
