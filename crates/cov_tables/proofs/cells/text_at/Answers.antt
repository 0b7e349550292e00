use Rattle.std.proofs.Common.{[], ◌∷◌}
use Rattle.cov_tables.proofs.InPlace.{no_text_in_place}
use Rattle.cov_tables.proofs.cells.text_at.Goals as goal

pub returns-in-Four : goal.returns-in-Four
returns-in-Four c = rw c.in-Four.is (no_text_in_place (c.in-Four.field-0 ∷ c.in-Four.field-1 ∷ c.in-Four.field-2 ∷ c.in-Four.field-3 ∷ []) c.args.at)

pub returns-in-Five : goal.returns-in-Five
returns-in-Five c = rw c.in-Five.is (no_text_in_place (c.in-Five.field-0 ∷ c.in-Five.field-1 ∷ c.in-Five.field-2 ∷ c.in-Five.field-3 ∷ c.in-Five.field-4 ∷ []) c.args.at)
