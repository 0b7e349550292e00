use Rattle.std.proofs.Common.{Some, map, refl, ap, sym, ◌∙◌, subst}
use Rattle.std.specs.Prelude.{if◌then◌else◌, slice_get, slice_set}
use Rattle.py_value.specs.View.{plain}
use Rattle.py_builtins.specs.World.{with_name}
use Rattle.py_world.specs.Globals.{names_of}
use Rattle.py_world.specs.Numbered.{AreListed, listed, times_named, plain_global}
use Rattle.py_world.proofs.SetAt.{own_kept, same_name, set_anew, set_anew_listed}
use Rattle.py_world.proofs.globals.Globals.set_at.Goals as goal

pub set_again-requires-clause-set : goal.set_again-requires-clause-set
set_again-requires-clause-set c =
    let n = c.args.number in
    ap (λ gs. times_named (slice_get (map plain_global gs) n)) (sym c.deref.ensures.value) ∙ c.is_set.ensures ∙ ap (λ b. if b then 1 else 0) c.if-is_set.true

pub invariant_of-self-2 : goal.invariant_of-self-2
invariant_of-self-2 c =
    let s = c.args.self.now in
    let n = c.args.number in
    let g = c.index_mut.result.now in
    let h = record g { value = Some c.args.value } in
    let never = ap (λ gs. times_named (slice_get (map plain_global gs) n)) (sym c.deref.ensures.value) ∙ c.is_set.ensures ∙ ap (λ b. if b then 1 else 0) c.if-is_set.false in
    record {
      own_names = own_kept s.items.items s.order.items s.own_names s.listed n g c.requires c.index_mut.ensures.value h refl;
      listed = subst (λ ns. AreListed (map plain_global (slice_set s.items.items n h)) ns) (sym c.in_ok-push.ensures.items)
          (set_anew_listed s.items.items s.order.items s.own_names s.listed n g c.requires c.index_mut.ensures.value (plain c.args.value) h refl never);
    }

pub returns : goal.returns
returns c =
    λ x named.
    let s = c.args.self.now in
    let n = c.args.number in
    let g = c.index_mut.result.now in
    let h = record g { value = Some c.args.value } in
    let never = ap (λ gs. times_named (slice_get (map plain_global gs) n)) (sym c.deref.ensures.value) ∙ c.is_set.ensures ∙ ap (λ b. if b then 1 else 0) c.if-is_set.false in
    ap (listed (map plain_global (slice_set s.items.items n h))) c.in_ok-push.ensures.items
    ∙ set_anew s.items.items s.order.items s.own_names s.listed n g c.requires c.index_mut.ensures.value (plain c.args.value) h refl never
    ∙ ap (λ y. with_name y (plain c.args.value) (names_of s)) (same_name s.items.items s.order.items s.own_names s.listed n g c.requires c.index_mut.ensures.value x named)
