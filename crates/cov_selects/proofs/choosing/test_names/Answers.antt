use Rattle.std.proofs.Common.{encode_utf8_all, map, ap, ◌∙◌}
use Rattle.cov_run.specs.Loads.{loaded_modules}
use Rattle.cov_select.proofs.Sets.{if_ok}
use Rattle.cov_selects.proofs.choosing.test_names.Goals as goal

pub returns : goal.returns
returns c =
    if_ok (λ names e. e ∙ ap (map encode_utf8_all) (c.deref.ensures.value ∙ c.in_ok-tests.ensures.meant (loaded_modules c.args.loaded.now) c.requires.compiled.faithful)) c.strings.result c.strings.ensures
