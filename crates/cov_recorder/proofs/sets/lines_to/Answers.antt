use Rattle.std.proofs.Common.{◌≡◌, ◌+◌, pos, [], ◌∷◌, ◌++◌, ap, sym, ◌∙◌, arith, w32}
use Rattle.std.proofs.lemmas.Int.{to_z_pos}
use Rattle.py_syntax.specs.Prediction.{Arc, arcs_in_order}
use Rattle.cov_recorder.specs.Plan.{lines_to}
use Rattle.cov_recorder.proofs.LineSets.{lines_to-push, lines_in_order}
use Rattle.cov_recorder.proofs.sets.lines_to.Goals as goal

pub loop-before-preserved : goal.loop-before-preserved
loop-before-preserved c =
    let n = c.loop-before.before in
    let same = to_z_pos w32 (n + 1) (omega arith) in
    let before : c.loop-before.lines.items ≡ lines_to n = c.loop-before.invariant in
    c.in_ok-push.ensures.items
    ∙ ap (λ z. let a : Arc = (z, z) in c.loop-before.lines.items ++ a ∷ []) same
    ∙ ap (λ w. let a : Arc = (pos (n + 1), pos (n + 1)) in w ++ a ∷ []) before
    ∙ sym (lines_to-push n)

pub returns : goal.returns
returns c =
    let ended : c.loop-before.before ≡ c.args.last = omega arith in
    c.new.ensures ∙ ap arcs_in_order (c.loop-before.invariant ∙ ap lines_to ended) ∙ lines_in_order c.args.last
