-- Answers that name a bad key.
use Rattle.std.proofs.Common.{◌≡◌, Result, Err, ap, sym, ◌∙◌}
use Rattle.cov_config.specs.declared.config.ConfigError.{ConfigError}
use Rattle.cov_config.specs.declared.config.ConfigError.TheVariants.{BadConfig, NoMemory}
use Rattle.cov_file_names.specs.Forms.{Text}
use Rattle.cov_config.specs.Plain.{Answers, Names}

-- the error that names the key is the answer where the key is bad
pub named : {T A : Type 0} (view : T → A) (meaning : Result A Text) (name : Text) (e : ConfigError) → Names name e → meaning ≡ Err name → Answers view meaning (Err e)
named view meaning name (BadConfig key) is bad = bad ∙ ap Err (sym is)
named view meaning name NoMemory is bad = tt
