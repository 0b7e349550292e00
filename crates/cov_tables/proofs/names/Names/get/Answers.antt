use Rattle.std.proofs.Common.{map, string_bytes, ap, sym, ◌∙◌}
use Rattle.std.specs.Option.{option_copied}
use Rattle.cov_tables.specs.Kept.{texts_in}
use Rattle.cov_tables.proofs.names.Names.get.Goals as goal

pub returns-in-Some : goal.returns-in-Some
returns-in-Some c = ap (map string_bytes) c.as_slice.ensures.value ∙ ap texts_in (sym (ap option_copied c.in-Some.is) ∙ c.get.ensures.value)

pub returns-in-None : goal.returns-in-None
returns-in-None c = ap texts_in (sym (ap option_copied c.in-None.is) ∙ c.get.ensures.value)
