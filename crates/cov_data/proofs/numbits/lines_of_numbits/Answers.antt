use Rattle.std.proofs.Common.{◌++◌, ◌∷◌, [], cond, ap, sym, ◌∙◌}
use Rattle.std.specs.List.{filter, range_with_len}
use Rattle.std.proofs.lemmas.List.{append-nil}
use Rattle.cov_data.specs.Numbits.{has_line}
use Rattle.cov_data.proofs.Bits.{filter_more}
use Rattle.cov_data.proofs.numbits.lines_of_numbits.Goals as goal
use Rattle.cov_data.proofs.numbits.lines_of_numbits.Goals.{then-has_line+in_ok-push, else-has_line}

pub loop-n-preserved : goal.loop-n-preserved
loop-n-preserved c =
    let p = has_line c.args.bits.now in
    let before = filter p (range_with_len 0 c.loop-n.n) in
    elim c.if-has_line.branch [
      | then-has_line+in_ok-push w ↦
          ap (λ v. v.items) w.lines-is ∙ w.in_ok-push.ensures.items ∙ ap (λ xs. xs ++ c.loop-n.n ∷ []) c.loop-n.invariant
          ∙ ap (λ b. before ++ cond b (c.loop-n.n ∷ []) []) (sym (sym c.has_line.ensures ∙ w.if-has_line.true)) ∙ sym (filter_more p c.loop-n.n)
      | else-has_line w ↦
          ap (λ v. v.items) w.lines-is ∙ c.loop-n.invariant ∙ sym (append-nil before)
          ∙ ap (λ b. before ++ cond b (c.loop-n.n ∷ []) []) (sym (sym c.has_line.ensures ∙ w.if-has_line.false)) ∙ sym (filter_more p c.loop-n.n)
    ]
