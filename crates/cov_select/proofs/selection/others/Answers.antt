use Rattle.std.proofs.Common.{map, filter, not, string_bytes, ◌++◌, ap}
use Rattle.cov_select.specs.Selected.{has_name}
use Rattle.cov_select.proofs.Sets.{takes, taken}
use Rattle.cov_select.proofs.selection.others.Goals as goal

pub loop-name-init : goal.loop-name-init
loop-name-init c = ap (λ v. map string_bytes v ++ filter (λ name. not (has_name c.args.kept.now name)) (map string_bytes c.args.names.now)) c.new-others.ensures.items

pub loop-name-preserved : goal.loop-name-preserved
loop-name-preserved c =
    takes (λ name. not (has_name c.args.kept.now name)) c.args.names.now c.loop-name.name-index c.name-item.result c.loop-name-test.true c.name-item.is _ _ (not c.contains-among.result) c.as_str-text.result.now
    (ap not c.contains-among.ensures) c.as_str-text.ensures.value c.in_ok-add.ensures c.loop-name.invariant

pub returns : goal.returns
returns c = taken (λ name. not (has_name c.args.kept.now name)) c.args.names.now c.loop-name.name-index c.loop-name-test.false _ c.loop-name.invariant
