use Rattle.std.proofs.Common.{◌≡◌, ◌<◌, None, Some, length, map, refl, ap, sym, ◌∙◌, subst, arith}
use Rattle.std.specs.Prelude.{slice_get, slice_set}
use Rattle.std.proofs.lemmas.Option.{slice_get_within}
use Rattle.py_builtins.specs.World.{without_name}
use Rattle.py_world.specs.Globals.{names_of}
use Rattle.py_world.specs.Numbered.{HasNoNumber, AreListed, listed, times, plain_global, global_names}
use Rattle.py_world.proofs.SetAt.{name_within, unset_nowhere, unset_unset, own_kept, same_name, unset_here, unset_listed}
use Rattle.py_world.proofs.globals.Globals.unset.Goals as goal

pub returns-in_default : goal.returns-in_default
returns-in_default c =
    let s = c.args.self.now in
    sym (unset_nowhere s.items.items s.order.items s.own_names s.listed c.args.name.now (subst (λ gs. HasNoNumber c.args.name.now (global_names gs)) c.deref.ensures.value c.in_default.ensures))

pub returns-in_default-last_place : goal.returns-in_default-last_place
returns-in_default-last_place c =
    let s = c.args.self.now in
    let n = c.in-Some.number in
    let at = subst (λ gs. slice_get (global_names gs) n ≡ Some c.args.name.now) c.deref.ensures.value c.in-Some.ensures in
    sym (unset_unset s.items.items s.order.items s.own_names s.listed n c.args.name.now at (ap (times n) (sym c.deref-2.ensures.value) ∙ c.in_default-last_place.ensures))

pub remove-requires : goal.remove-requires
remove-requires c =
    let within : c.in-Some-last_place.place < length c.deref-2.result.now = slice_get_within c.deref-2.result.now c.in-Some-last_place.place c.in-Some.number c.in-Some-last_place.ensures in
    omega (arith, within, c.deref-2.ensures.len)

pub index_mut-requires : goal.index_mut-requires
index_mut-requires c =
    let within : c.in-Some.number < length c.deref.result.now = name_within c.deref.result.now c.in-Some.number c.args.name.now c.in-Some.ensures in
    omega (arith, within, c.deref.ensures.len)

pub invariant_of-self : goal.invariant_of-self
invariant_of-self c =
    let s = c.args.self.now in
    let n = c.in-Some.number in
    let p = c.in-Some-last_place.place in
    let g = c.index_mut.result.now in
    let h = record g { value = None } in
    let at = subst (λ gs. slice_get (global_names gs) n ≡ Some c.args.name.now) c.deref.ensures.value c.in-Some.ensures in
    let lt = name_within s.items.items n c.args.name.now at in
    let there = subst (λ ns. slice_get ns p ≡ Some n) c.deref-2.ensures.value c.in-Some-last_place.ensures in
    record {
      own_names = own_kept s.items.items s.order.items s.own_names s.listed n g lt c.index_mut.ensures.value h refl;
      listed = subst (λ ns. AreListed (map plain_global (slice_set s.items.items n h)) ns) (sym c.remove.ensures.items)
          (unset_listed s.items.items s.order.items s.own_names s.listed n g lt c.index_mut.ensures.value h refl p there);
    }

pub returns : goal.returns
returns c =
    let s = c.args.self.now in
    let n = c.in-Some.number in
    let p = c.in-Some-last_place.place in
    let g = c.index_mut.result.now in
    let h = record g { value = None } in
    let at = subst (λ gs. slice_get (global_names gs) n ≡ Some c.args.name.now) c.deref.ensures.value c.in-Some.ensures in
    let lt = name_within s.items.items n c.args.name.now at in
    let there = subst (λ ns. slice_get ns p ≡ Some n) c.deref-2.ensures.value c.in-Some-last_place.ensures in
    ap (listed (map plain_global (slice_set s.items.items n h))) c.remove.ensures.items
    ∙ unset_here s.items.items s.order.items s.own_names s.listed n g lt c.index_mut.ensures.value h refl p there
    ∙ ap (λ y. without_name y (names_of s)) (same_name s.items.items s.order.items s.own_names s.listed n g lt c.index_mut.ensures.value c.args.name.now at)
