use Rattle.std.proofs.Common.{ℕ, ◌<◌, List, [], length, get_or, sym, ap, ◌∙◌, arith}
use Rattle.std.specs.Borrow.{Bor}
use Rattle.std.specs.Prelude.{◌||◌}
use Rattle.std.proofs.lemmas.List.{get_or_default}
use Rattle.regex.specs.Strings.{regex_source, matcher_pattern}
use Rattle.cov_exclude.specs.Texts.{is_matched_by}
use Rattle.cov_exclude.proofs.Flags.{one-text}
use Rattle.cov_exclude.proofs.lines.flag_texts.Goals as goal
use Rattle.cov_exclude.proofs.lines.flag_texts.Goals.{then-flags-at, else-flags-at}

pub loop-at-preserved : goal.loop-at-preserved
loop-at-preserved c =
    let pattern = regex_source c.args.regex.now in
    let none : Bor (List ℕ) = record { ref_ptr = (0, 0); now = [] } in
    let text = get_or c.args.texts.now c.loop-at.at none in
    let within : c.loop-at.at < length c.args.texts.now = omega arith in
    record {
      alike =
          elim c.if-flags-at.branch [
            | then-flags-at w ↦ ap matcher_pattern w.matcher-is ∙ c.loop-at.invariant.alike
            | else-flags-at w ↦ ap matcher_pattern w.matcher-is ∙ w.matches.ensures.same ∙ c.loop-at.invariant.alike
          ];
      flagged =
          one-text pattern c.loop-at.flags c.args.texts.now c.loop-at.at c.if-flags-at.flags text (omega arith) within (get_or_default c.args.texts.now c.loop-at.at none text within)
          (elim c.if-flags-at.branch [
            | then-flags-at w ↦ w.flags-is ∙ w.if-flags-at.true ∙ ap (λ b. b || is_matched_by pattern text.now) (sym w.if-flags-at.true)
            | else-flags-at w ↦ w.flags-is ∙ w.matches.ensures.found ∙ ap (λ b. b || is_matched_by pattern text.now) (sym w.if-flags-at.false)
          ])
          ∙ c.loop-at.invariant.flagged;
    }
