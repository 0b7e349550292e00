use Rattle.std.proofs.Common.{◌≡◌, ◌+◌, ◌++◌, drop, string_bytes}
use Rattle.cov_lcov.specs.Annotated.{annotated_from}
use Rattle.cov_lcov.specs.Views.{mark_in, texts_view}
use Rattle.cov_lcov.proofs.annotating.annotated.Given as goal

abbrev pub invariant-loop-at : goal.invariant-loop-at
invariant-loop-at l = string_bytes l.text ++ annotated_from (mark_in l.marks) (l.at + 1) (texts_view (drop l.at l.texts)) ≡ annotated_from (mark_in l.marks) 1 (texts_view l.texts)
