use Rattle.std.proofs.Common.{sym, arith}
use Rattle.std.proofs.lemmas.List.{take_all, length-take-le}
use Rattle.cov_tables.proofs.adding.first_bytes.Goals as goal

pub slice_bounds-result-end : goal.slice_bounds-result-end
slice_bounds-result-end c = sym (length-take-le 8192 c.args.bits.now (omega (arith, c.if-bits-le8192.false)))

pub returns-then-bits-le8192 : goal.returns-then-bits-le8192
returns-then-bits-le8192 c = sym (take_all 8192 c.args.bits.now c.if-bits-le8192.true)
