use Rattle.std.proofs.Common.{ap, ◌∙◌, false}
use Rattle.cov_config.specs.Omits.{fits}
use Rattle.cov_config.specs.Rows.{any_at, advanced}
use Rattle.cov_config.proofs.Places.{is_star, no_star, fits_run, fits_one}
use Rattle.cov_config.proofs.omits.pass_character.Goals as goal

pub returns-then-wanted-eq42 : goal.returns-then-wanted-eq42
returns-then-wanted-eq42 c = λ ps.
    ap (λ row. any_at row (fits ps) c.args.text.now) c.spread.ensures
    ∙ fits_run c.args.row.now c.args.wanted ps c.args.text.now (is_star c.args.wanted c.if-wanted-eq42.true) c.requires

pub returns : goal.returns
returns c = λ ps.
    ap (λ row. any_at row (fits ps) c.args.text.now) (c.advance.ensures ∙ ap (advanced false c.args.row.now) (c.as_slice.ensures.value ∙ c.in_ok-tests.ensures))
    ∙ fits_one c.args.row.now c.args.wanted ps c.args.text.now (no_star c.args.wanted c.if-wanted-eq42.false) c.requires
