-- The globals of a module, changed where they stand.
use Rattle.std.proofs.Common.{◌≡◌, ℕ, ◌<◌, ◌≤◌, List, [], ◌∷◌, ◌++◌, length, map, get_or, Some, None, refl, sym, ap, ◌∙◌, arith}
use Rattle.std.specs.Prelude.{slice_get, slice_set}
use Rattle.std.proofs.lemmas.List.{map-append, length-map}
use Rattle.std.proofs.lemmas.Option.{slice_get_read}
use Rattle.py_builtins.specs.World.{Names, names_at, with_names_at}
use Rattle.py_world.specs.declared.globals.Globals.{Globals}
use Rattle.py_world.specs.Globals.{names_of}
use Rattle.py_world.proofs.Lookups.{mapped, mapped_none, map-slice_set}
use Rattle.py_world.proofs.Rooms.{room_more, room_enough, set_at, with_at, with_twice, names_found, names_past}

pub one_more : (m : ℕ) (old new : List Globals) (g : Globals) (whole : List Names) → new ≡ old ++ g ∷ [] → names_of g ≡ [] → length old ≤ m
    → with_names_at m (λ n. n) (map names_of old) ≡ whole → with_names_at m (λ n. n) (map names_of new) ≡ whole
one_more m old new g whole e f le h =
    ap (λ gs. with_names_at m (λ n. n) (map names_of gs)) e
    ∙ ap (with_names_at m (λ n. n)) (map-append names_of old (g ∷ []) ∙ ap (λ x. map names_of old ++ x ∷ []) f)
    ∙ room_more m (map names_of old) (λ n. n) (omega (arith, length-map old names_of))
    ∙ h

pub enough_room : (m : ℕ) (gs : List Globals) (whole : List Names) → m < length gs → with_names_at m (λ n. n) (map names_of gs) ≡ whole → map names_of gs ≡ whole
enough_room m gs whole lt h = sym (room_enough m (map names_of gs) (omega (arith, length-map gs names_of))) ∙ h

pub changed_here : (m : ℕ) (gs : List Globals) (g new : Globals) (f : Names → Names) → m < length gs → g ≡ get_or gs m g → names_of new ≡ f (names_of g) → map names_of (slice_set gs m new) ≡ with_names_at m f (map names_of gs)
changed_here m gs g new f lt at k =
    map-slice_set names_of gs m new
    ∙ ap (slice_set (map names_of gs) m) k
    ∙ sym (with_at m (map names_of gs) f (names_of g) (mapped names_of gs m g (slice_get_read gs (length gs) m g refl lt at)))

pub changed_at : (m : ℕ) (old : List Names) (gs : List Globals) (g new : Globals) (f : Names → Names) → map names_of gs ≡ with_names_at m (λ n. n) old → m < length gs → g ≡ get_or gs m g → names_of new ≡ f (names_of g)
    → map names_of (slice_set gs m new) ≡ with_names_at m f old
changed_at m old gs g new f e lt at k = changed_here m gs g new f lt at k ∙ ap (with_names_at m f) e ∙ with_twice m old f

pub found_names : (m : ℕ) (gs : List Globals) (g : Globals) → slice_get gs m ≡ Some g → names_at m (map names_of gs) ≡ names_of g
found_names m gs g e = names_found m (map names_of gs) (names_of g) (mapped names_of gs m g e)

pub no_names : (m : ℕ) (gs : List Globals) → slice_get gs m ≡ None → names_at m (map names_of gs) ≡ []
no_names m gs e = names_past m (map names_of gs) (mapped_none names_of gs m e)

pub begun_at : (m : ℕ) (old : List Names) (gs : List Globals) (new : Globals) (first : Names) → map names_of gs ≡ with_names_at m (λ n. n) old → m < length gs → names_of new ≡ first
    → map names_of (slice_set gs m new) ≡ with_names_at m (λ n. first) old
begun_at m old gs new first e lt k =
    map-slice_set names_of gs m new
    ∙ ap (slice_set (map names_of gs) m) k
    ∙ sym (set_at m (map names_of gs) first (omega (arith, length-map gs names_of)))
    ∙ ap (with_names_at m (λ n. first)) e
    ∙ with_twice m old (λ n. first)
