use Rattle.std.proofs.Common.{◌<◌, length, arith, sym, ap, ◌∙◌, Some}
use Rattle.py_value.specs.View.{plain}
use Rattle.py_value.specs.Objects.{plain_pairs}
use Rattle.py_value.specs.declared.pairs.Pair.{Pair}
use Rattle.py_value.proofs.DistinctKeys.{place-inside, value-none, value-some}
use Rattle.py_value.proofs.pairs.Pairs.value_of.Goals as goal

pub index-requires : goal.index-requires
index-requires c = let inside : c.in-Some.i < length c.args.self.now.pairs.items = place-inside (plain c.args.key.now) c.args.self.now.pairs.items c.in-Some.i c.in-Some.ensures in omega arith

pub returns-in-None : goal.returns-in-None
returns-in-None c = value-none (plain c.args.key.now) (plain_pairs c.args.self.now) (sym c.in-None.ensures)

pub returns-in-Some : goal.returns-in-Some
returns-in-Some c =
    value-some (plain c.args.key.now) c.args.self.now.pairs.items c.in-Some.i c.index.result.now (sym c.in-Some.ensures)
    ∙ ap (λ (p : Pair). Some (plain p.value)) (sym c.index.ensures)
