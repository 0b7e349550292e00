use Rattle.std.proofs.Common.{ℕ, List, map, ap, sym, ◌∙◌, get_or, false, Bor}
use Rattle.std.proofs.lemmas.List.{drop_all, length-map}
use Rattle.cov_config.specs.Omits.{covers}
use Rattle.cov_config.specs.Rows.{any_at}
use Rattle.cov_config.proofs.Places.{first_row, starts_at_now, covers_last, reach}
use Rattle.cov_config.proofs.omits.covers.Goals as goal

abbrev now : Bor (List ℕ) → List ℕ
now p = p.now

pub loop-wanted-init : goal.loop-wanted-init
loop-wanted-init c =
    let is = c.as_mut_slice-row.ensures.value ∙ c.in_ok-places.ensures in
    let parts = c.args.parts.now in
    (starts_at_now (covers (map now c.args.pattern.now)) c.as_mut_slice-row.result.now parts is, first_row c.as_mut_slice-row.result.now parts is)

pub returns : goal.returns
returns c =
    let row = c.loop-wanted.row in
    let parts = c.args.parts.now in
    let left = c.loop-wanted.invariant in
    ap (λ n. get_or row n false) (sym (length-map parts now))
    ∙ sym (covers_last row (map now parts) (reach row parts left.1))
    ∙ ap (λ ps. any_at row (covers (map now ps)) (map now parts)) (sym (drop_all c.loop-wanted.wanted-index c.args.pattern.now c.loop-wanted-test.false)) ∙ left.0
