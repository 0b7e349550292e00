use Rattle.std.proofs.Common.{◌≡◌, not, refl, ap, ◌∙◌}
use Rattle.sqlite.specs.Held.{state}
use Rattle.sqlite.specs.Steps.{over_memory}
use Rattle.sqlite.proofs.Callers.{memory_is_clean}
use Rattle.cov_sql.specs.Bases.{kept_in}
use Rattle.cov_sql.proofs.BaseCalls.{saves_ok, saves_err}
use Rattle.cov_sql.proofs.memory.write_base.Goals as goal

pub returns-in-Ok-clause-saves : goal.returns-in-Ok-clause-saves
returns-in-Ok-clause-saves c = λ savable.
    let old = c.args.base.now in
    let new = c.write_data.new.base in
    let settled : (state over_memory old).now ≡ kept_in old = c.is_autocommit.ensures.settled (c.is_autocommit.ensures.value ∙ ap not c.requires) refl in
    let clean = memory_is_clean new in
    saves_ok old new settled c.args.fresh c.args.content.now savable tt c.is_arcs-sound.ensures.sound (c.in-Ok.ensures.replaces tt clean) (c.in-Ok.ensures.saved tt clean)

pub returns-in-Err-clause-saves : goal.returns-in-Err-clause-saves
returns-in-Err-clause-saves c = λ savable.
    let old = c.args.base.now in
    let new = c.write_data.new.base in
    let settled : (state over_memory old).now ≡ kept_in old = c.is_autocommit.ensures.settled (c.is_autocommit.ensures.value ∙ ap not c.requires) refl in
    let clean = memory_is_clean new in
    saves_err old new settled c.args.fresh c.args.content.now savable c.in-Err.error c.failure_of.result c.failure_of.ensures.not_schema
    (c.in-Err.ensures.not_schema tt clean) (c.in-Err.ensures.kept tt clean)
