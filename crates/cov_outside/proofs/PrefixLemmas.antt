-- How lists gain and lose prefixes over several calls.
use Rattle.std.proofs.Common.{◌≡◌, List, [], ◌++◌, refl, sym, ap, ◌∙◌, append_assoc, append-nil}
use Rattle.cov_outside.specs.Prefixes.{IsPrefix, GainsPrefix, LosesPrefix}

module _ {A : Type 0} where
  pub prefix_none : (whole : List A) → IsPrefix [] whole
  prefix_none whole = record { rest = whole; is = refl }

  -- nothing was written
  pub gains_nothing : (old new whole : List A) → new ≡ old → GainsPrefix old new whole
  gains_nothing old new whole same = record { front = []; prefix = prefix_none whole; is = same ∙ sym (append-nil old) }

  pub loses_nothing : (old new : List A) → new ≡ old → LosesPrefix old new
  loses_nothing old new same = record { front = []; is = sym same }

  pub loses_then : (old mid new : List A) → LosesPrefix old mid → LosesPrefix mid new → LosesPrefix old new
  loses_then old mid new h k = record { front = h.front ++ k.front; is = h.is ∙ ap (λ xs. h.front ++ xs) k.is ∙ sym (append_assoc h.front k.front new) }
