use Rattle.cov_data.proofs.Bits.{has_line-with_line}
use Rattle.cov_data.proofs.numbits.set_line.Goals as goal

pub returns : goal.returns
returns c = λ n. has_line-with_line c.args.bytes.now c.args.line n c.requires
