use Rattle.std.proofs.Common.{[], map, ap, sym, ◌∙◌, subst}
use Rattle.std.proofs.lemmas.List.{map-id}
use Rattle.py_world.specs.Numbered.{AreListed, HaveOwnNames, name_of, without_value}
use Rattle.py_world.proofs.OwnNames.{own_distinct, unset_listed, unset_names}
use Rattle.py_world.proofs.table.Table.globals.Goals as goal

pub of_names-requires-clause-own : goal.of_names-requires-clause-own
of_names-requires-clause-own c =
    let names = c.args.self.now.names.keys in
    let same = c.in_ok-items.ensures ∙ ap (map without_value) c.as_slice.ensures.keys in
    subst HaveOwnNames (sym (ap (map name_of) same ∙ unset_names (λ x. x) names ∙ map-id names)) (own_distinct names c.as_slice.ensures.unique)

pub of_names-requires-clause-unset : goal.of_names-requires-clause-unset
of_names-requires-clause-unset c = subst (λ es. AreListed es []) (sym c.in_ok-items.ensures) (unset_listed (λ x. x) c.as_slice.result.now)
