use Rattle.std.proofs.Common.{◌≡◌, ℕ, length, take, nat_eq}
use Rattle.std.specs.List.{list_any}
use Rattle.cov_data.specs.Numbits.{bytes_needed, has_line}
use Rattle.cov_data.proofs.numbits.numbits_of.Given as goal

abbrev pub invariant-loop-line : goal.invariant-loop-line
invariant-loop-line l = record {
  size : length l.bytes.items ≡ bytes_needed l.lines;
  bits : (n : ℕ) → has_line l.bytes.items n ≡ list_any (nat_eq n) (take l.line-index l.lines);
}
