-- A label where nobody is asked.
use Rattle.std.proofs.Common.{◌≡◌, ℕ, List, Option, Some, None, refl}
use Rattle.cov_data.specs.DataSet.{Text}
use Rattle.cov_recorder.specs.Plan.{Named}
use Rattle.cov_recorder.specs.Labels.{GetsLabel}

pub unasked : {C : Type 0} (asks : C → Text → Text → Option (List ℕ) → C → Type 0) (o : Option (List ℕ)) (q : Option Named) (c : C) → (o ≡ None → q ≡ None) → (label : Option (List ℕ)) × GetsLabel asks o q c label c
unasked asks (Some l) q c h = (Some l, (refl, refl))
unasked asks None None c h = (None, (refl, refl))
unasked asks None (Some u) c h = let e = h refl in cc
