use Rattle.std.proofs.Common.{◌≡◌, not, refl, ap, ◌∙◌}
use Rattle.sqlite.specs.Held.{state}
use Rattle.sqlite.specs.Steps.{over_memory}
use Rattle.sqlite.proofs.Callers.{memory_is_clean}
use Rattle.cov_sql.specs.Bases.{kept_in}
use Rattle.cov_sql.proofs.BaseCalls.{loads_ok, loads_err}
use Rattle.cov_sql.proofs.memory.read_base.Goals as goal

pub returns-in-Ok-clause-loads : goal.returns-in-Ok-clause-loads
returns-in-Ok-clause-loads c = λ declared.
    let old = c.args.base.now in
    let new = c.read_data.new.base in
    let settled : (state over_memory old).now ≡ kept_in old = c.is_autocommit.ensures.settled (c.is_autocommit.ensures.value ∙ ap not c.requires) refl in
    let clean = memory_is_clean new in
    loads_ok old new settled c.in-Ok.loaded (c.in-Ok.ensures.good tt clean) (c.read_data.ensures.ends tt clean)

pub returns-in-Err-clause-loads : goal.returns-in-Err-clause-loads
returns-in-Err-clause-loads c = λ declared.
    let old = c.args.base.now in
    let new = c.read_data.new.base in
    let settled : (state over_memory old).now ≡ kept_in old = c.is_autocommit.ensures.settled (c.is_autocommit.ensures.value ∙ ap not c.requires) refl in
    let clean = memory_is_clean new in
    loads_err old new settled c.in-Err.error c.failure_of.result c.failure_of.ensures.not_schema c.failure_of.ensures.bad_row
    (c.in-Err.ensures.not_schema tt clean) (c.in-Err.ensures.bad_row tt clean) (c.read_data.ensures.ends tt clean)
