-- What a maker in memory does.
use Rattle.std.specs.Prelude.{ℕ}
use Rattle.cov_outside.specs.Calls.{Calls}
use Rattle.cov_exclude.specs.declared.maker.MemMaker.{MemMaker}

-- how many patterns it found too large
abbrev pub maker_sizes : MemMaker → ℕ
maker_sizes maker = maker.sizes

-- its calls that fail, and how many calls there were
abbrev pub maker_calls : MemMaker → Calls
maker_calls maker = record { failing = maker.failing.items; count = maker.calls }
