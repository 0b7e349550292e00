-- A pattern with a `*` more at its front or back.
use Rattle.std.proofs.Common.{◌≡◌, Bool, cond, eqb, [], ◌++◌, codes, ap, ◌∙◌, append_assoc}
use Rattle.std.specs.List.{starts_with, ends_with}
use Rattle.cov_file_names.specs.Forms.{Text}
use Rattle.cov_config.specs.Omits.{widened}

pub widened-is : (text front pattern back : Text) (s e : Bool) → s ≡ starts_with eqb pattern (codes "*/") → e ≡ ends_with eqb pattern (codes "/*")
    → front ≡ cond s (codes "*") [] → back ≡ cond e (codes "*") [] → text ≡ (front ++ pattern) ++ back → text ≡ widened pattern
widened-is text front pattern back s e starts ends is also whole =
    whole ∙ append_assoc front pattern back
    ∙ ap (λ f. f ++ (pattern ++ back)) (is ∙ ap (λ b. cond b (codes "*") []) starts)
    ∙ ap (λ b. cond (starts_with eqb pattern (codes "*/")) (codes "*") [] ++ (pattern ++ b)) (also ∙ ap (λ b. cond b (codes "*") []) ends)
