use Rattle.std.proofs.Common.{ap, sym, ◌∙◌}
use Rattle.std.proofs.lemmas.List.{drop_all}
use Rattle.cov_config.specs.Omits.{fits}
use Rattle.cov_config.specs.Rows.{any_at}
use Rattle.cov_config.proofs.Places.{first_row, starts_at, fits_last}
use Rattle.cov_config.proofs.omits.fits.Goals as goal

pub loop-character-init : goal.loop-character-init
loop-character-init c =
    let is = c.as_mut_slice-row.ensures.value ∙ c.in_ok-places.ensures in
    let text = c.args.text.now in
    (starts_at (fits c.args.wanted.now) c.as_mut_slice-row.result.now text is, first_row c.as_mut_slice-row.result.now text is)

pub returns : goal.returns
returns c =
    let row = c.loop-character.row in
    let text = c.args.text.now in
    let left = c.loop-character.invariant in
    sym (fits_last row text left.1) ∙ ap (λ ps. any_at row (fits ps) text) (sym (drop_all c.loop-character.character-index c.args.wanted.now c.loop-character-test.false)) ∙ left.0
