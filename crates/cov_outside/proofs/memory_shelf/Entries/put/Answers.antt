use Rattle.std.proofs.Common.{rules}
use Rattle.cov_outside.proofs.Placed.{replaced_file, added_file}
use Rattle.cov_outside.proofs.memory_shelf.Entries.put.Goals as goal

pub returns-in-Some-clause-ok : goal.returns-in-Some-clause-ok
returns-in-Some-clause-ok c =
    replaced_file c.args.name.now c.args.bytes.now c.args.self.now.pairs.items c.in-Some.at c.index_mut.result.now c.in_ok-bytes.bytes (search rules) c.index_mut.ensures.value c.in_ok-bytes.ensures.items

pub returns-clause-ok : goal.returns-clause-ok
returns-clause-ok c =
    rw c.in_ok-push.ensures.items (added_file c.args.name.now c.args.bytes.now (c.in_ok-name.name, c.in_ok-bytes.bytes) c.in_ok-name.ensures.ok c.in_ok-bytes.ensures.items c.args.self.now.pairs.items (search rules))
