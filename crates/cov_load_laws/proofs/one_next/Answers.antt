use Rattle.cov_load_laws.proofs.Next.{one-next}
use Rattle.cov_load_laws.proofs.one_next.Goals as goal

pub returns : goal.returns
returns c = one-next c.one_text.ensures
