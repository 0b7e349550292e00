-- Programs over fewer objects, among more of them.
use Rattle.std.proofs.Common.{inl, inr, Result, refl, ap}
use Rattle.cov_programs.specs.Ends.{Follows}
use Rattle.cov_programs.specs.Objects.{Moves, beside}
use Rattle.cov_programs.proofs.Composing.{among}
use Rattle.cov_step.specs.Calls.{Call, Answer, IsNoMemory, Step}
use Rattle.cov_why.specs.Answers.{PlainWhy}

-- over a vault and an output, beside plugins
module _ {V O P : Type 0} (vault : Moves Call Answer V) (sink : Moves Call Answer O) (plugins : Moves Call Answer P) (s : P) where
  beside-moved : (u : V × O) (call : Call) (answer : Answer call) (v : V × O) → beside vault sink u call answer v → beside vault (beside sink plugins) (u.0, (u.1, s)) call answer (v.0, (v.1, s))
  beside-moved u call answer v (inl m) = inl (m.0, ap (λ o. (o, s)) m.1)
  beside-moved u call answer v (inr m) = inr (inl (m.0, refl), m.1)

  pub beside-plugins : {A : Type 0} {p : Step A} {old new : V × O} {e : Result A PlainWhy} → Follows (beside vault sink) IsNoMemory p old e new → Follows (beside vault (beside sink plugins)) IsNoMemory p (old.0, (old.1, s)) e (new.0, (new.1, s))
  beside-plugins f = among (beside vault sink) (beside vault (beside sink plugins)) IsNoMemory (λ u. (u.0, (u.1, s))) beside-moved f
