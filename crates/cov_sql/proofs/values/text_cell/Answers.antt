use Rattle.std.proofs.Common.{inl, refl, ◌∙◌}
use Rattle.cov_sql.proofs.values.text_cell.Goals as goal

pub returns-in_ok-from_str-in-Ok : goal.returns-in_ok-from_str-in-Ok
returns-in_ok-from_str-in-Ok c = inl (c.in_ok-from_str-in-Ok.field-0, refl, c.in_ok-from_str-in-Ok.ensures.ok ∙ c.in-Ok.ensures.cases.0)
