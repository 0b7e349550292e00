use Rattle.std.proofs.Common.{[], ◌∷◌, map, ap, ◌∙◌}
use Rattle.py_value.specs.Plain.{str_value}
use Rattle.py_builtins.specs.World.{World, with_name, with_names_at, first_names}
use Rattle.py_world.specs.Globals.{names_of}
use Rattle.py_world.specs.Stores.{world_of}
use Rattle.py_world.proofs.OfModules.{begun_at}
use Rattle.py_world.proofs.SetNames.{with_none}
use Rattle.py_world.proofs.Spelled.{spelled_name}
use Rattle.py_world.proofs.store.Store.begin.Goals as goal

pub returns : goal.returns
returns c =
    ap (λ gs. let w : World = record (world_of c.args.self.now) { globals = gs; begun = c.push.new.self.items } in w)
    (begun_at c.args.«module» (map names_of c.args.self.now.globals.items) c.make_room.new.globals.items c.set-2.new.self (first_names c.args.name) c.in_ok-make_room.ensures.ok c.in_ok-make_room.ensures.room
    (c.in_ok-set.ensures ∙ ap (with_name c.in_ok-from_str.field-0 (str_value c.args.name)) c.in_ok-names.ensures ∙ with_none c.in_ok-from_str.field-0 (str_value c.args.name) ∙ ap (λ k. (k, str_value c.args.name) ∷ []) (c.in_ok-from_str.ensures ∙ spelled_name)))
    ∙ ap (λ b. let w : World = record (world_of c.args.self.now) { globals = with_names_at c.args.«module» (λ n. first_names c.args.name) (map names_of c.args.self.now.globals.items); begun = b } in w) c.in_ok-push.ensures.items
