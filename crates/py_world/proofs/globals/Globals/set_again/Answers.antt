use Rattle.std.proofs.Common.{Some, refl, ap, ◌∙◌}
use Rattle.py_value.specs.View.{plain}
use Rattle.py_builtins.specs.World.{with_name}
use Rattle.py_world.specs.Globals.{names_of}
use Rattle.py_world.proofs.SetAt.{own_kept, same_name, set_again, set_again_listed}
use Rattle.py_world.proofs.globals.Globals.set_again.Goals as goal

pub invariant_of-self : goal.invariant_of-self
invariant_of-self c =
    let s = c.args.self.now in
    let n = c.args.number in
    let g = c.index_mut.result.now in
    let h = record g { value = Some c.args.value } in
    record {
      own_names = own_kept s.items.items s.order.items s.own_names s.listed n g c.requires.within c.index_mut.ensures.value h refl;
      listed = set_again_listed s.items.items s.order.items s.own_names s.listed n g c.requires.within c.index_mut.ensures.value (plain c.args.value) h refl c.requires.set;
    }

pub returns : goal.returns
returns c =
    λ x named.
    let s = c.args.self.now in
    let n = c.args.number in
    let g = c.index_mut.result.now in
    let h = record g { value = Some c.args.value } in
    set_again s.items.items s.order.items s.own_names s.listed n g c.requires.within c.index_mut.ensures.value (plain c.args.value) h refl c.requires.set
    ∙ ap (λ y. with_name y (plain c.args.value) (names_of s)) (same_name s.items.items s.order.items s.own_names s.listed n g c.requires.within c.index_mut.ensures.value x named)
