use Rattle.std.proofs.Common.{refl, sym, ◌∙◌, true≢false, arith}
use Rattle.std.specs.Str.{chars}
use Rattle.cov_hook.proofs.Names.{contains_name, none_at, none_contained}
use Rattle.cov_hook.proofs.functions.is_among.Goals as goal

pub returns-then-is_named : goal.returns-then-is_named
returns-then-is_named c = (
  λ _. contains_name c.args.units.now (chars c.args.function.now) c.loop-unit.unit-index c.unit-item.result c.loop-unit-test.true c.unit-item.is (c.is_named.ensures.0 c.if-is_named.true),
  λ _. refl,
)

pub loop-unit-preserved : goal.loop-unit-preserved
loop-unit-preserved c =
    none_at c.args.units.now (chars c.args.function.now) c.loop-unit.unit-index c.unit-item.result c.loop-unit-test.true c.unit-item.is
    (λ e. absurd (true≢false (sym (c.is_named.ensures.1 e) ∙ c.if-is_named.false))) c.loop-unit.invariant

pub returns : goal.returns
returns c = (
  λ t. absurd (true≢false (sym t)),
  λ h. absurd (none_contained c.args.units.now (chars c.args.function.now) (λ k lt. c.loop-unit.invariant k (omega (arith, lt, c.loop-unit-test.false))) h),
)
