use Rattle.std.proofs.Common.{◌≡◌, length, min, ap, ◌∙◌, arith}
use Rattle.std.proofs.lemmas.List.{length-take}
use Rattle.cov_tables.proofs.entries.Entry.add_bits.Goals as goal

pub lines_of_numbits-requires : goal.lines_of_numbits-requires
lines_of_numbits-requires c = let size : length c.first_bytes.result.now ≡ min 8192 (length c.deref.result.now) = ap length c.first_bytes.ensures ∙ length-take 8192 c.deref.result.now in omega (arith, size)
