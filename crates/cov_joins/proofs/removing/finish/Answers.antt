use Rattle.std.proofs.Common.{map, refl, string_bytes}
use Rattle.cov_programs.proofs.Composing.{starves}
use Rattle.cov_joins.proofs.Opening.{finishing-open}
use Rattle.cov_joins.proofs.removing.finish.Goals as goal

pub returns-in-Err : goal.returns-in-Err
returns-in-Err g c = starves (finishing-open c.args.keep c.args.own.now (map string_bytes c.args.others.now)) refl
