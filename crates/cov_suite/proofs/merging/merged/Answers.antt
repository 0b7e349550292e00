use Rattle.std.proofs.Common.{◌≡◌, ◌⊎◌, inl, inr, List, [], ◌++◌, map, drop, ap, ◌∙◌}
use Rattle.std.proofs.lemmas.List.{drop_all, take_rest}
use Rattle.cov_suite.specs.Merging.{merged}
use Rattle.cov_suite.specs.Rows.{Line}
use Rattle.cov_suite.specs.Views.{line_of}
use Rattle.cov_suite.proofs.MergedLines.{merged-end}
use Rattle.cov_suite.proofs.merging.merged.Goals as goal
use Rattle.cov_suite.proofs.merging.merged.Goals.{then-loop-i-test+else-j-right, else-loop-i-test}

pub returns : goal.returns
returns c =
    let xs : List Line = map line_of (drop c.loop-i.i c.args.left.now) in
    let ys : List Line = map line_of (drop c.loop-i.j c.args.right.now) in
    let ended : (xs ≡ []) ⊎ (ys ≡ []) =
    elim c.loop-i-test.branch [
      | then-loop-i-test+else-j-right w ↦ inr (ap (map line_of) (drop_all c.loop-i.j c.args.right.now w.if-j-right.false))
      | else-loop-i-test w ↦ inl (ap (map line_of) (drop_all c.loop-i.i c.args.left.now w.loop-i-test.false))
    ] in
    let old : List Line = map line_of c.loop-i.lines.items in
    let mid : List Line = map line_of c.push_all.new.lines.items in
    merged-end xs ys old mid (map line_of c.push_all-2.new.lines.items) (merged (map line_of c.args.left.now) (map line_of c.args.right.now))
    (c.in_ok-push_all.ensures ∙ ap (λ ls. old ++ map line_of ls) (take_rest c.args.left.now c.loop-i.i))
    (c.in_ok-push_all-2.ensures ∙ ap (λ ls. mid ++ map line_of ls) (take_rest c.args.right.now c.loop-i.j))
    ended c.loop-i.invariant.so_far
