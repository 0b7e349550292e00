use Rattle.std.proofs.Common.{map, arith}
use Rattle.cov_mutate.specs.Code.{code_of, source_of, sources}
use Rattle.cov_mutate.proofs.Sources.{sources-at, past-sources, copies-step, copies-end}
use Rattle.cov_mutate.proofs.copies.compiled.Goals as goal

pub loop-i-preserved : goal.loop-i-preserved
loop-i-preserved c =
    let ps = c.args.programs.now.modules.items in
    let ts = c.args.modules.now in
    copies-step (map code_of (sources ps ts)) (sources ps ts) c.loop-i.i (source_of c.index.result.now c.index-modules-i.result) c.in_ok-copied.copied c.loop-i.copies.items c.push.new.self.items
    (sources-at ps ts c.loop-i.i c.index.result.now c.index-modules-i.result (omega (arith, c.min-count.ensures, c.len.ensures)) (omega (arith, c.min-count.ensures, c.len.ensures)) c.index.ensures c.index-modules-i.is)
    c.in_ok-copied.ensures c.in_ok-push.ensures.items c.loop-i.invariant

pub returns : goal.returns
returns c =
    let ps = c.args.programs.now.modules.items in
    let ts = c.args.modules.now in
    copies-end (map code_of (sources ps ts)) (sources ps ts) c.loop-i.i c.loop-i.copies.items (past-sources ps ts c.loop-i.i (omega (arith, c.min-count.ensures, c.len.ensures))) c.loop-i.invariant
