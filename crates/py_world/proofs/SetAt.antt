-- Globals in memory, changed at a number.
use Rattle.std.proofs.Common.{◌≡◌, ℕ, ◌+◌, ◌<◌, ◌≤◌, List, [], ◌∷◌, ◌++◌, length, map, get_or, Some, None, Bool, true, false, refl, sym, ap, ◌∙◌, arith, subst}
use Rattle.std.specs.Prelude.{if◌then◌else◌, Option, slice_get, slice_set, remove}
use Rattle.std.proofs.lemmas.List.{map-append, length-map}
use Rattle.std.proofs.lemmas.Option.{slice_get_read, slice_get_within, same_Some}
use Rattle.py_value.specs.Plain.{PlainValue}
use Rattle.py_builtins.specs.World.{value_of, with_name, without_name}
use Rattle.py_world.specs.declared.globals.Global.{Global}
use Rattle.py_world.specs.Numbered.{Numbered, name_of, value_in, listed, times, times_set, times_named, HaveOwnNames, HasNoNumber, AreListed, plain_global, global_names}
use Rattle.py_world.specs.Values.{plain_option}
use Rattle.py_world.proofs.Changed.{listed_push, listed_remove}
use Rattle.py_world.proofs.Listed.{no_value, its_value, not_set, set_last, unlisted, set_there, unset_there}
use Rattle.py_world.proofs.Lookups.{mapped, map-slice_set}
use Rattle.py_world.proofs.OwnNames.{own_other, none_other, entry_at, value_there, once_at_most, own_more}
use Rattle.py_world.proofs.Places.{got_set, got_past, kept}
use Rattle.py_world.proofs.Times.{listed_after, pushed_this, pushed_other, removed_this, removed_other, named_more}

-- what stands at a number
pub entry_here : (gs : List Global) (n : ℕ) (g : Global) → n < length gs → g ≡ get_or gs n g → slice_get (map plain_global gs) n ≡ Some (plain_global g)
entry_here gs n g lt at = mapped plain_global gs n g (slice_get_read gs (length gs) n g refl lt at)

pub name_here : (gs : List Global) (n : ℕ) (g : Global) → n < length gs → g ≡ get_or gs n g → slice_get (global_names gs) n ≡ Some g.name
name_here gs n g lt at = mapped name_of (map plain_global gs) n (plain_global g) (entry_here gs n g lt at)

pub name_within : (gs : List Global) (n : ℕ) (x : List ℕ) → slice_get (global_names gs) n ≡ Some x → n < length gs
name_within gs n x at =
    let within : n < length (global_names gs) = slice_get_within (global_names gs) n x at in
    omega (arith, within, length-map (map plain_global gs) name_of, length-map gs plain_global)

-- one more
pub names_push : (gs : List Global) (g : Global) → global_names (gs ++ g ∷ []) ≡ global_names gs ++ g.name ∷ []
names_push gs g = ap (map name_of) (map-append plain_global gs (g ∷ [])) ∙ map-append name_of (map plain_global gs) (plain_global g ∷ [])

pub entries_push : (gs : List Global) (g : Global) → map plain_global (gs ++ g ∷ []) ≡ map plain_global gs ++ plain_global g ∷ []
entries_push gs g = map-append plain_global gs (g ∷ [])

-- one more, if there was room for it
pub own_maybe : (b : Bool) (gs : List Global) (g : Global) → HaveOwnNames (global_names gs) → HasNoNumber g.name (global_names gs) → HaveOwnNames (global_names (if b then gs ++ g ∷ [] else gs))
own_maybe true gs g own new = subst HaveOwnNames (sym (names_push gs g)) (own_more (global_names gs) g.name own new)
own_maybe false gs g own new = own

pub listed_maybe : (b : Bool) (gs : List Global) (g : Global) (ns : List ℕ) → plain_option g.value ≡ None → AreListed (map plain_global gs) ns → AreListed (map plain_global (if b then gs ++ g ∷ [] else gs)) ns
listed_maybe true gs g ns none lists = λ n.
    lists n
    ∙ sym (ap (λ es. times_named (slice_get es n)) (entries_push gs g ∙ ap (λ v. map plain_global gs ++ (g.name, v) ∷ []) none) ∙ named_more (map plain_global gs) g.name n)
listed_maybe false gs g ns none lists = lists

-- globals whose numbers are listed
module _ (gs : List Global) (order : List ℕ) (own : HaveOwnNames (global_names gs)) (lists : AreListed (map plain_global gs) order) where
  abbrev es : Numbered
  es = map plain_global gs

  -- a name with no number
  module _ (x : List ℕ) (new : HasNoNumber x (global_names gs)) where
    past : times (length es) order ≡ 0
    past = lists (length es) ∙ ap times_named (got_past es (length es) (omega arith))

    pub value_nowhere : value_of x (listed es order) ≡ None
    value_nowhere = no_value es (length es) x (λ m ne. none_other es x new m) order past

    pub unset_nowhere : without_name x (listed es order) ≡ listed es order
    unset_nowhere = not_set es (length es) x (λ m ne. none_other es x new m) order past

  -- a name with a number
  module _ (n : ℕ) (x : List ℕ) (at : slice_get (global_names gs) n ≡ Some x) where
    pub value_unset : times_named (slice_get es n) ≡ 0 → value_of x (listed es order) ≡ None
    value_unset zero_times = no_value es n x (own_other es n x own at) order (lists n ∙ zero_times)

    pub value_set : (w : PlainValue) → slice_get es n ≡ Some (x, Some w) → value_of x (listed es order) ≡ Some w
    value_set w there = its_value es n x (own_other es n x own at) w there order (lists n ∙ ap times_named there)

    by_value : (v : Option PlainValue) → slice_get es n ≡ Some (x, v) → value_of x (listed es order) ≡ v
    by_value None there = value_unset (ap times_named there)
    by_value (Some w) there = value_set w there

    pub value_numbered : value_of x (listed es order) ≡ value_in (slice_get es n)
    value_numbered = let e = entry_at es n x at in by_value e.0 e.1 ∙ sym (ap value_in e.1)

    pub unset_unset : times n order ≡ 0 → without_name x (listed es order) ≡ listed es order
    unset_unset h = not_set es n x (own_other es n x own at) order h

  -- the element at a number
  module _ (n : ℕ) (g : Global) (lt : n < length gs) (at : g ≡ get_or gs n g) where
    lt_es : n < length es
    lt_es = omega (arith, lt, length-map gs plain_global)

    entry : slice_get es n ≡ Some (plain_global g)
    entry = entry_here gs n g lt at

    name : slice_get (global_names gs) n ≡ Some g.name
    name = name_here gs n g lt at

    pub same_name : (x : List ℕ) → slice_get (global_names gs) n ≡ Some x → g.name ≡ x
    same_name x h = same_Some g.name x (sym name ∙ h)

    module _ (h : Global) (same : h.name ≡ g.name) where
      pub own_kept : HaveOwnNames (global_names (slice_set gs n h))
      own_kept = subst HaveOwnNames (sym (ap (map name_of) (map-slice_set plain_global gs n h) ∙ kept name_of es n (plain_global g) (plain_global h) entry same)) own

      listed_by : (new : List ℕ) → times n new ≡ times_set (plain_option h.value) → ((k : ℕ) → (k ≡ n → ⊥) → times k new ≡ times k order) → AreListed (map plain_global (slice_set gs n h)) new
      listed_by new this others = subst (λ fs. AreListed fs new) (sym (map-slice_set plain_global gs n h)) (listed_after es n (plain_global h) order new lt_es lists this others)

    module _ (v : PlainValue) (h : Global) (same : plain_global h ≡ (g.name, Some v)) where
      set_entries : map plain_global (slice_set gs n h) ≡ slice_set es n (g.name, Some v)
      set_entries = map-slice_set plain_global gs n h ∙ ap (slice_set es n) same

      pub set_again : times_named (slice_get es n) ≡ 1 → listed (map plain_global (slice_set gs n h)) order ≡ with_name g.name v (listed es order)
      set_again one =
          let w = value_there es n g.name name one in
          ap (λ fs. listed fs order) set_entries ∙ set_there es n g.name (own_other es n g.name own name) w.0 w.1 v order lt_es (lists n ∙ one)

      pub set_again_listed : times_named (slice_get es n) ≡ 1 → AreListed (map plain_global (slice_set gs n h)) order
      set_again_listed one = listed_by h (ap (λ e. e.0) same) order (lists n ∙ one ∙ sym (ap (λ e. times_set e.1) same)) (λ k ne. refl)

      pub set_anew : times_named (slice_get es n) ≡ 0 → listed (map plain_global (slice_set gs n h)) (order ++ n ∷ []) ≡ with_name g.name v (listed es order)
      set_anew none =
          ap (λ fs. listed fs (order ++ n ∷ [])) set_entries
          ∙ listed_push (slice_set es n (g.name, Some v)) n (g.name, Some v) order (got_set es n (g.name, Some v) lt_es)
          ∙ ap (λ ns. ns ++ (g.name, v) ∷ []) (unlisted es n g.name (own_other es n g.name own name) (g.name, Some v) order (lists n ∙ none))
          ∙ sym (set_last es n g.name (own_other es n g.name own name) v order (lists n ∙ none))

      pub set_anew_listed : times_named (slice_get es n) ≡ 0 → AreListed (map plain_global (slice_set gs n h)) (order ++ n ∷ [])
      set_anew_listed none =
          listed_by h (ap (λ e. e.0) same) (order ++ n ∷ [])
          (pushed_this n order ∙ ap (λ k. k + 1) (lists n ∙ none) ∙ omega arith ∙ sym (ap (λ e. times_set e.1) same))
          (λ k ne. pushed_other n k order (λ e. ne (sym e)))

    module _ (h : Global) (same : plain_global h ≡ (g.name, None)) (p : ℕ) (there : slice_get order p ≡ Some n) where
      pub unset_here : listed (map plain_global (slice_set gs n h)) (remove order p) ≡ without_name g.name (listed es order)
      unset_here =
          ap (λ fs. listed fs (remove order p)) (map-slice_set plain_global gs n h ∙ ap (slice_set es n) same)
          ∙ listed_remove (slice_set es n (g.name, None)) n g.name p order (got_set es n (g.name, None) lt_es) there
          ∙ unset_there es n g.name (own_other es n g.name own name) (plain_option g.value) entry order lt_es

      pub unset_listed : AreListed (map plain_global (slice_set gs n h)) (remove order p)
      unset_listed =
          listed_by h (ap (λ e. e.0) same) (remove order p)
          (let r : times n (remove order p) + 1 ≡ times n order = removed_this n p order there in
          let l : times n order ≡ times_named (slice_get es n) = lists n in
          let m : times_named (slice_get es n) ≤ 1 = once_at_most (slice_get es n) in
          let z : times n (remove order p) ≡ 0 = omega (arith, r, l, m) in
          z ∙ sym (ap (λ e. times_set e.1) same))
          (λ k ne. removed_other n k p order there (λ e. ne (sym e)))
