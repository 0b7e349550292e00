use Rattle.std.proofs.Common.{◌≡◌, ℤ, pos, negsuc, true, false, Some, None, refl, sym, ap, ◌∙◌, arith}
use Rattle.std.proofs.lemmas.Int.{ints, to_z-of_z}
use lib.Signed.{lt_z}
use lib.IntN.{nat_abs}
use mir.Syntax.{w32}
use Rattle.cov_analysis.specs.Lookups.{line_at}
use Rattle.cov_analysis.proofs.lines.line_of.Goals as goal

below : (z : ℤ) → lt_z z (pos 0) ≡ true → None ≡ line_at z
below (pos n) h = absurd (omega (arith, ints, h))
below (negsuc n) h = refl

not_below : (z : ℤ) → lt_z z (pos 0) ≡ false → Some (nat_abs z) ≡ line_at z
not_below (pos n) h = refl
not_below (negsuc n) h = absurd (omega (arith, ints, h))

pub returns-then-end-lt0 : goal.returns-then-end-lt0
returns-then-end-lt0 c =
    let read = to_z-of_z w32 c.args.end c.ranges.end in
    below c.args.end (ap (λ z. lt_z z (pos 0)) (sym read) ∙ c.if-end-lt0.true)

pub returns : goal.returns
returns c =
    let read = to_z-of_z w32 c.args.end c.ranges.end in
    ap (λ z. Some (nat_abs z)) read ∙ not_below c.args.end (ap (λ z. lt_z z (pos 0)) (sym read) ∙ c.if-end-lt0.false)
