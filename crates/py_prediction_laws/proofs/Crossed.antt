-- From what is asked of each arc of an activation to the arcs of a run as its modules show them.
use Rattle.std.proofs.Common.{◌≡◌, ℕ, Bool, true, false, nat_eq, if◌then◌else◌, List, [], ◌∷◌, ◌++◌, map, All, refl, subst}
use Rattle.std.proofs.lemmas.Bool.{eqb-true}
use Rattle.std.proofs.lemmas.List.Elements.{All-nil, All-append, All-map, All-push, All-weaker}
use Rattle.cov_event.specs.declared.event.CodeId.{CodeId}
use Rattle.py_meaning.specs.Activations.{mark, again, throw, sub, Activation, activation, Items, no_items, more, is_kept, Arc, arc_to, arcs_so_far, arcs_of}
use Rattle.py_meaning.specs.Crossings.{activations, activations_from, activation_code, Crossing, crossing, crossings_of, crossings}
use Rattle.py_meaning.specs.Modules.{LoadedModule, unit_of}
use Rattle.py_prediction_laws.proofs.Tracks.{Rule, Unless, Linked, IsLinked}

module _ (R : Rule) where
  marked-arcs : (c : CodeId) (p : Items) (l : ℕ) (b : Bool) → Unless b (R c (arc_to p l)) → All (R c) (arcs_so_far p) → All (R c) (if b then arcs_so_far p else arcs_so_far p ++ arc_to p l ∷ [])
  marked-arcs c p l true u h = h
  marked-arcs c p l false u h = All-push (R c) (arcs_so_far p) (arc_to p l) h u

  arcs-linked : (c : CodeId) (items : Items) → Linked R c items → All (R c) (arcs_so_far items)
  unfolding arcs_so_far
  arcs-linked c no_items l = All-nil (R c)
  arcs-linked c (more p (mark n)) l = marked-arcs c p n (is_kept n p) l.1 (arcs-linked c p l.0)
  arcs-linked c (more p (again n)) l = All-push (R c) (arcs_so_far p) (arc_to p n) (arcs-linked c p l.0) l.1
  arcs-linked c (more p (throw kind)) l = arcs-linked c p l
  arcs-linked c (more p (sub a)) l = arcs-linked c p l.0

  activation-linked : (a : Activation) → IsLinked R a → All (R (activation_code a)) (arcs_of a)
  unfolding arcs_of
  activation-linked (activation c items true) l = All-push (R c) (arcs_so_far items) (arc_to items 0) (arcs-linked c items l.0) l.1
  activation-linked (activation c items false) l = arcs-linked c items l

  abbrev EachLinked : List Activation → Type 0
  EachLinked [] = Unit {0}
  EachLinked (a ∷ as') = IsLinked R a × EachLinked as'

  each-append : (xs ys : List Activation) → EachLinked xs → EachLinked ys → EachLinked (xs ++ ys)
  each-append [] ys h k = k
  each-append (x ∷ xs) ys h k = (h.0, each-append xs ys h.1 k)

  mutual
    unfolding activations activations_from

    linked-inside : (c : CodeId) (items : Items) → Linked R c items → EachLinked (activations items)
    linked-inside c no_items l = tt
    linked-inside c (more p (mark n)) l = linked-inside c p l.0
    linked-inside c (more p (again n)) l = linked-inside c p l.0
    linked-inside c (more p (throw kind)) l = linked-inside c p l
    linked-inside c (more p (sub a)) l = each-append (activations p) (activations_from a) (linked-inside c p l.0) (linked-from a l.1)

    linked-from : (a : Activation) → IsLinked R a → EachLinked (activations_from a)
    linked-from (activation c items true) l = (l, linked-inside c items l.0)
    linked-from (activation c items false) l = (l, linked-inside c items l)

  module _ (ms : List LoadedModule) (P : ℕ → Crossing → Type 0) (shows : (c : CodeId) (x : Arc) → R c x → P c.module (crossing (unit_of ms c).line x)) where
    crossed : (m : ℕ) (as' : List Activation) → EachLinked as' → All (P m) (crossings_of ms m as')
    unfolding crossings_of
    crossed m [] h = All-nil (P m)
    crossed m (a ∷ rest) h = go (nat_eq (activation_code a).module m) refl (crossed m rest h.1)
      where
        go : (b : Bool) → nat_eq (activation_code a).module m ≡ b → All (P m) (crossings_of ms m rest)
            → All (P m) (if b then map (crossing (unit_of ms (activation_code a)).line) (arcs_of a) ++ crossings_of ms m rest else crossings_of ms m rest)
        go true is more' = All-append (P m) (map (crossing (unit_of ms (activation_code a)).line) (arcs_of a)) (crossings_of ms m rest)
            (All-map (P m) (crossing (unit_of ms (activation_code a)).line) (arcs_of a)
            (All-weaker (R (activation_code a)) (λ x. P m (crossing (unit_of ms (activation_code a)).line x))
            (λ x r. subst (λ n. P n (crossing (unit_of ms (activation_code a)).line x)) (eqb-true (activation_code a).module m is) (shows (activation_code a) x r))
            (arcs_of a) (activation-linked a h.0)))
            more'
        go false is more' = more'

    pub all-crossed : (c : CodeId) (m : ℕ) (items : Items) → Linked R c items → All (P m) (crossings ms m items)
    all-crossed c m items l = crossed m (activations items) (linked-inside c items l)
