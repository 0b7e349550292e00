use Rattle.std.proofs.Common.{map, ap, sym, ◌∙◌, subst}
use Rattle.py_world.specs.Numbered.{AreListed, HaveOwnNames, listed, times, name_of, plain_global, unset}
use Rattle.py_world.proofs.Listed.{listed_none}
use Rattle.py_world.proofs.OwnNames.{unset_listed, unset_names}
use Rattle.py_world.proofs.globals.Globals.unset_all.Goals as goal

pub invariant_of-result : goal.invariant_of-result
invariant_of-result c =
    let gs = c.args.self.now.items.items in
    let same = c.in_ok-items.ensures ∙ ap (λ gs. map unset (map plain_global gs)) c.deref.ensures.value in
    record {
      own_names = subst HaveOwnNames (sym (ap (map name_of) same ∙ unset_names name_of (map plain_global gs))) c.args.self.now.own_names;
      listed = subst (λ es. AreListed es c.new.result.items) (sym same) (λ n. ap (times n) c.new.ensures.items ∙ unset_listed name_of (map plain_global gs) n);
    }

pub returns : goal.returns
returns c = ap (listed (map plain_global c.in_ok-items.items.items)) c.new.ensures.items ∙ listed_none (map plain_global c.in_ok-items.items.items)
