use Rattle.std.proofs.Common.{◌≡◌, None, Some, length, map, refl, ap, sym, ◌∙◌, subst, arith}
use Rattle.std.specs.Prelude.{is_ok, slice_get}
use Rattle.std.proofs.lemmas.List.{length-map}
use Rattle.py_world.specs.declared.globals.Global.{Global}
use Rattle.py_world.specs.Numbered.{HaveOwnNames, HasNoNumber, AreListed, listed, name_of, plain_global, global_names}
use Rattle.py_world.proofs.Changed.{listed_more}
use Rattle.py_world.proofs.Places.{got_last}
use Rattle.py_world.proofs.SetAt.{own_maybe, listed_maybe, names_push, entries_push}
use Rattle.py_world.proofs.globals.Globals.numbered.Goals as goal

pub invariant_of-self : goal.invariant_of-self
invariant_of-self c =
    let s = c.args.self.now in
    let gs = s.items.items in
    let g : Global = record { name = c.in_ok-name.name; value = None } in
    let here = subst (λ hs. HasNoNumber c.args.name.now (global_names hs)) c.deref.ensures.value c.in_default.ensures in
    let new = subst (λ x. HasNoNumber x (global_names gs)) (sym c.in_ok-name.ensures) here in
    record {
      own_names = subst (λ hs. HaveOwnNames (global_names hs)) (sym c.push.ensures.items) (own_maybe (is_ok c.push.result) gs g s.own_names new);
      listed = subst (λ hs. AreListed (map plain_global hs) s.order.items) (sym c.push.ensures.items) (listed_maybe (is_ok c.push.result) gs g s.order.items refl s.listed);
    }

pub returns-clause-same : goal.returns-clause-same
returns-clause-same c =
    let s = c.args.self.now in
    let g : Global = record { name = c.in_ok-name.name; value = None } in
    ap (λ hs. listed (map plain_global hs) s.order.items) c.in_ok-push.ensures.items
    ∙ ap (λ es. listed es s.order.items) (entries_push s.items.items g)
    ∙ listed_more (map plain_global s.items.items) g.name s.order.items

pub returns-clause-at : goal.returns-clause-at
returns-clause-at c =
    let gs = c.args.self.now.items.items in
    let g : Global = record { name = c.in_ok-name.name; value = None } in
    let n = c.len-number.result in
    let last : n ≡ length (global_names gs) = omega (arith, c.len-number.ensures, length-map (map plain_global gs) name_of, length-map gs plain_global) in
    ap (λ hs. slice_get (global_names hs) n) c.in_ok-push.ensures.items
    ∙ ap (λ xs. slice_get xs n) (names_push gs g)
    ∙ got_last (global_names gs) g.name n last
    ∙ ap (λ x. Some x) c.in_ok-name.ensures
