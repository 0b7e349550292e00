use Rattle.cov_loaded_laws.proofs.Loading.{loaded_lines}
use Rattle.cov_loaded_laws.proofs.loaded_have_text_lines.Goals as goal

pub returns : goal.returns
returns g c = loaded_lines c.lines_of_texts.ensures _
