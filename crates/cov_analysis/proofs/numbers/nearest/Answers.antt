use Rattle.std.proofs.Common.{◌≡◌, ◌%◌, true, sym, ◌∙◌}
use Rattle.std.proofs.Math.Nat.{mod-lt}
use Rattle.std.proofs.lemmas.Nat.{div-add-mod'}
use Rattle.cov_analysis.proofs.Rounding.{up_is_nearest, down_is_nearest}
use Rattle.cov_analysis.proofs.numbers.nearest.Goals as goal

pub returns-then-rounds_up-clause-nearest : goal.returns-then-rounds_up-clause-nearest
returns-then-rounds_up-clause-nearest c =
    up_is_nearest c.args.part c.args.whole _ (c.args.part % c.args.whole) (div-add-mod' c.args.part c.args.whole) (mod-lt c.args.part c.requires.some) (c.rounds_up.ensures.0 c.if-rounds_up.true)

pub returns-clause-nearest : goal.returns-clause-nearest
returns-clause-nearest c =
    down_is_nearest c.args.part c.args.whole _ (c.args.part % c.args.whole) (div-add-mod' c.args.part c.args.whole) (mod-lt c.args.part c.requires.some)
    (λ up. let up' : c.rounds_up.result ≡ true = c.rounds_up.ensures.1 up in let e = sym c.if-rounds_up.false ∙ up' in absurd cc)
