use Rattle.std.proofs.Common.{sym}
use Rattle.std.proofs.lemmas.List.{drop_all, take_rest}
use Rattle.cov_tables.proofs.adding.last_bytes.Goals as goal

pub returns-then-bits-le8192 : goal.returns-then-bits-le8192
returns-then-bits-le8192 c = sym (drop_all 8192 c.args.bits.now c.if-bits-le8192.true)

pub returns-else-bits-le8192 : goal.returns-else-bits-le8192
returns-else-bits-le8192 c = take_rest c.args.bits.now 8192
