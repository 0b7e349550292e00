use Rattle.std.proofs.Common.{◌≡◌, ◌++◌, ◌-◌, string_bytes}
use Rattle.cov_make.specs.Source.{blocks}
use Rattle.cov_make.proofs.push_blocks.Given as goal

-- what is there and the blocks of the draws that are left make the whole
abbrev pub invariant-loop-turn : goal.invariant-loop-turn
invariant-loop-turn l = string_bytes l.text ++ blocks l.number (l.size - l._turn) ≡ string_bytes l.initial.text ++ blocks l.seed l.size
