use Rattle.cov_made.proofs.Opening.{sourced-so}
use Rattle.cov_made.proofs.sources.opened.Goals as goal

pub returns : goal.returns
returns c =
    sourced-so _ _ _ c.made_are_loaded.ensures c.loaded_have_text_lines.ensures
    c.loaded_programs_are_measured.ensures c.args.seed c.args.size c.requires.small _
    c.requires.held c.args.text c.requires.text c.load.result (c.load.ensures.told tt)
    c.load.ensures.loads c.load.ensures.code c.load.ensures.fault c.with_text.result
    c.with_text.ensures
