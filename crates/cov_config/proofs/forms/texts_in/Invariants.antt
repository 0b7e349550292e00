use Rattle.std.proofs.Common.{◌≡◌, ◌++◌, map, drop, option_map, string_bytes}
use Rattle.toml.specs.View.{items_view}
use Rattle.cov_config.specs.Forms.{texts_in}
use Rattle.cov_config.proofs.forms.texts_in.Given as goal

-- the texts so far and those that are left make the whole
abbrev pub invariant-loop-item : goal.invariant-loop-item
invariant-loop-item l = option_map (λ more. map string_bytes l.texts.items ++ more) (texts_in (items_view (drop l.item-index l.item-items))) ≡ texts_in (items_view l.array.items)
