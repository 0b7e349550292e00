use Rattle.std.proofs.Common.{◌≡◌, Ok, [], ap, map, string_bytes, sym, subst}
use Rattle.cov_config.specs.Plain.{rules_view}
use Rattle.cov_config.specs.Settings.{meaning_of}
use Rattle.cov_config.proofs.Nothing.{empty-file, usual}
use Rattle.cov_config.proofs.config.Config.defaults.Goals as goal

pub returns : goal.returns
returns c =
    let same = usual _ _ _ _ _ _ _ c.new.ensures.bytes c.in_ok-from_str.ensures.ok (ap (map string_bytes) c.new-2.ensures.items) c.in_ok-owned_texts.ensures (ap (map string_bytes) c.new-3.ensures.items) c.in_ok-owned_texts-2.ensures (ap rules_view c.new-4.ensures.items) in
    record { usual = same; empty = subst (λ s. meaning_of [] ≡ Ok s) (sym same) empty-file }
