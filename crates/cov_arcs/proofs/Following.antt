-- What events tell of arcs, item by item.
use Rattle.std.proofs.Common.{◌≡◌, ℕ, ◌+◌, Bool, true, false, cond, ◌||◌, nat_eq, nat_lt, if◌then◌else◌, List, [], ◌∷◌, ◌++◌, map, ℤ, count_by, refl, sym, ap, ◌∙◌, append_assoc, arith}
use Rattle.std.specs.List.{list_any}
use Rattle.std.proofs.lemmas.List.Sums.{sum_by-append, sum_by-cons}
use Rattle.std.proofs.lemmas.Bool.{eqb-true, lt-ltb}
use Rattle.std.proofs.lemmas.List.{map-append}
use Rattle.py_value.specs.declared.exception.ExcKind.{ExcKind}
use Rattle.cov_event.specs.declared.event.CodeId.{CodeId}
use Rattle.cov_event.specs.declared.event.Event.{Event}
use Rattle.cov_event.specs.declared.event.Event.TheVariants.{Call, Line, Throw, Return}
use Rattle.py_meaning.specs.Activations.{mark, again, throw, sub, Activation, activation, Items, no_items, more, kept_line, is_kept, Arc, arcs_so_far, arcs_of, arc_to}
use Rattle.py_meaning.specs.Crossings.{activations, activations_from, activation_code, Crossing, crossing, crossings_of, ends, crossings, lines_crossed, ordered}
use Rattle.py_meaning.specs.Events.{line_unless, told, told_of, events_in}
use Rattle.py_meaning.specs.Modules.{LoadedModule, unit_of}
use Rattle.py_meaning.proofs.EventLaws.{told-after_it, told-after_of}
use Rattle.cov_arcs.specs.declared.frames.Frame.{Frame}
use Rattle.cov_arcs.specs.Laws.{BeginningLaw}
use Rattle.cov_arcs.specs.Told.{first_line, opened, at_line, after, closed, in_module, arcs_told}
use Rattle.cov_arcs.proofs.Ordered.{same-in_order}

-- Each activation ended,
unfoldable mutual
  pub AreEnded : Items → Type 0
  AreEnded no_items = Unit {0}
  AreEnded (more before (mark l)) = AreEnded before
  AreEnded (more before (again l)) = AreEnded before
  AreEnded (more before (throw kind)) = AreEnded before
  AreEnded (more before (sub a)) = AreEnded before × IsEnded a

  pub IsEnded : Activation → Type 0
  IsEnded (activation code items true) = AreEnded items
  IsEnded (activation code items false) = ⊥

-- or did but for the last one and what was cut in it.
unfoldable mutual
  pub AreCutLast : Items → Type 0
  AreCutLast no_items = Unit {0}
  AreCutLast (more before (mark l)) = AreEnded before
  AreCutLast (more before (again l)) = AreEnded before
  AreCutLast (more before (throw kind)) = AreEnded before
  AreCutLast (more before (sub a)) = AreEnded before × IsCutLast a

  pub IsCutLast : Activation → Type 0
  IsCutLast (activation code items true) = AreEnded items
  IsCutLast (activation code items false) = AreCutLast items

ended-last : (a : Activation) → IsEnded a → IsCutLast a
unfolding IsEnded IsCutLast
ended-last (activation code items true) h = h
ended-last (activation code items false) h = absurd h

pub ended-cut : (items : Items) → AreEnded items → AreCutLast items
unfolding AreEnded AreCutLast
ended-cut no_items h = h
ended-cut (more is (mark l)) h = h
ended-cut (more is (again l)) h = h
ended-cut (more is (throw kind)) h = h
ended-cut (more is (sub a)) h = (h.0, ended-last a h.1)

-- the frames after some events
abbrev pub all_after : List (List ℕ) → List Frame → List Event → List Frame
all_after firsts frames [] = frames
all_after firsts frames (e ∷ es) = all_after firsts (after firsts frames e) es

pub after-append : (firsts : List (List ℕ)) (frames : List Frame) (es fs : List Event) → all_after firsts frames (es ++ fs) ≡ all_after firsts (all_after firsts frames es) fs
after-append firsts frames [] fs = refl
after-append firsts frames (e ∷ es) fs = after-append firsts (after firsts frames e) es fs

pub after-line : (firsts : List (List ℕ)) (frames : List Frame) (k l : ℕ) → all_after firsts (at_line frames k) (Line l ∷ []) ≡ at_line frames l
after-line firsts [] k l = refl
after-line firsts (f ∷ outer) k l = refl

-- what events tell after others
pub told-append : (firsts : List (List ℕ)) (m : ℕ) (frames : List Frame) (es fs : List Event) → arcs_told firsts m frames (es ++ fs) ≡ arcs_told firsts m frames es ++ arcs_told firsts m (all_after firsts frames es) fs
unfolding arcs_told
told-append firsts m frames [] fs = refl
told-append firsts m frames (e ∷ es) fs =
    ap (λ w. in_module m (closed frames e) ++ w) (told-append firsts m (after firsts frames e) es fs)
    ∙ sym (append_assoc (in_module m (closed frames e)) (arcs_told firsts m (after firsts frames e) es) (arcs_told firsts m (all_after firsts (after firsts frames e) es) fs))

pub beginning_law : BeginningLaw
beginning_law firsts m front whole h = record {
  rest = arcs_told firsts m (all_after firsts [] front) h.rest;
  is = ap (arcs_told firsts m []) h.is ∙ told-append firsts m [] front h.rest;
}

pub map-map : {A B C : Type 0} (f : A → B) (g : B → C) (xs : List A) → map g (map f xs) ≡ map (λ x. g (f x)) xs
map-map f g [] = refl
map-map f g (x ∷ xs) = ap (λ rest. g (f x) ∷ rest) (map-map f g xs)

pub count-append : {X : Type 0} (p : X → Bool) (xs ys : List X) → count_by p (xs ++ ys) ≡ count_by p xs + count_by p ys
count-append p xs ys = sum_by-append (λ x. cond (p x) 1 0) xs ys

swap : (a b c : ℕ) → ((a + b) + c) ≡ ((a + c) + b)
swap a b c = omega arith

add-assoc : (a b c : ℕ) → ((a + b) + c) ≡ (a + (b + c))
add-assoc a b c = omega arith

pub none-add : (a : ℕ) → a ≡ (0 + a)
none-add a = omega arith

pub add-none : (a : ℕ) → (a + 0) ≡ a
add-none a = omega arith

module _ (ms : List LoadedModule) (firsts : List (List ℕ)) (agree : (code : CodeId) → first_line firsts code ≡ (unit_of ms code).line) (m : ℕ) (p : ℤ × ℤ → Bool) where
  abbrev told_in : List Frame → List Event → List (ℤ × ℤ)
  told_in frames es = arcs_told firsts m frames es

  count-told : (frames : List Frame) (es fs : List Event) → count_by p (told_in frames (es ++ fs)) ≡ (count_by p (told_in frames es) + count_by p (told_in (all_after firsts frames es) fs))
  count-told frames es fs = ap (count_by p) (told-append firsts m frames es fs) ∙ count-append p (told_in frames es) (told_in (all_after firsts frames es) fs)

  -- these arcs of a body with this first line, where it stands in the module
  abbrev shown : Bool → ℕ → List Arc → List (ℤ × ℤ)
  shown b first arcs = if b then map (λ a. ends (crossing first a)) arcs else []

  shown-none : (b : Bool) (first : ℕ) → shown b first [] ≡ []
  shown-none true first = refl
  shown-none false first = refl

  shown-push : (b : Bool) (first : ℕ) (arcs : List Arc) (a : Arc) → shown b first (arcs ++ a ∷ []) ≡ shown b first arcs ++ ((if b then ends (crossing first a) ∷ [] else []) ++ [])
  shown-push true first arcs a = map-append (λ x. ends (crossing first x)) arcs (a ∷ [])
  shown-push false first arcs a = refl

  -- those of the innermost frame
  abbrev own : List Frame → List Arc → List (ℤ × ℤ)
  own [] arcs = []
  own (f ∷ outer) arcs = shown (nat_eq f.module m) f.first arcs

  own-none : (frames : List Frame) → own frames [] ≡ []
  own-none [] = refl
  own-none (f ∷ outer) = shown-none (nat_eq f.module m) f.first

  own-push : (frames : List Frame) (arcs : List Arc) (a : Arc) → own frames (arcs ++ a ∷ []) ≡ own frames arcs ++ told_in (at_line frames a.from) (Line a.to ∷ [])
  unfolding arcs_told
  own-push [] arcs a = refl
  own-push (f ∷ outer) arcs a = shown-push (nat_eq f.module m) f.first arcs a

  -- those of the activations that were entered
  abbrev inner : List Activation → List (ℤ × ℤ)
  inner as' = map ends (crossings_of ms m as')

  put-before : (b : Bool) (here : List Crossing) (as' xs ys : List Crossing) → map ends as' ≡ map ends xs ++ map ends ys
      → map ends (if b then here ++ as' else as') ≡ map ends (if b then here ++ xs else xs) ++ map ends ys
  put-before true here as' xs ys e =
      map-append ends here as' ∙ ap (λ w. map ends here ++ w) e ∙ sym (append_assoc (map ends here) (map ends xs) (map ends ys)) ∙ ap (λ w. w ++ map ends ys) (sym (map-append ends here xs))
  put-before false here as' xs ys e = e

  inner-append : (xs ys : List Activation) → inner (xs ++ ys) ≡ inner xs ++ inner ys
  unfolding crossings_of
  inner-append [] ys = refl
  inner-append (a ∷ xs) ys =
      put-before (nat_eq (activation_code a).module m) (map (crossing (unit_of ms (activation_code a)).line) (arcs_of a)) (crossings_of ms m (xs ++ ys)) (crossings_of ms m xs) (crossings_of ms m ys) (inner-append xs ys)

  -- one activation, and those that were entered in it
  inner-first : (code : CodeId) (arcs : List Arc) (rest : List Activation) (b : Bool)
      → count_by p (map ends (if b then map (crossing (unit_of ms code).line) arcs ++ crossings_of ms m rest else crossings_of ms m rest)) ≡ (count_by p (shown b (first_line firsts code) arcs) + count_by p (inner rest))
  inner-first code arcs rest true =
      ap (count_by p) (map-append ends (map (crossing (unit_of ms code).line) arcs) (crossings_of ms m rest))
      ∙ count-append p (map ends (map (crossing (unit_of ms code).line) arcs)) (inner rest)
      ∙ ap (λ w. count_by p w + count_by p (inner rest)) (map-map (crossing (unit_of ms code).line) ends arcs ∙ ap (λ first. shown true first arcs) (sym (agree code)))
  inner-first code arcs rest false = none-add (count_by p (inner rest))

  record Follows (frames : List Frame) (items : Items) : Type 0 where
    pub frames_are : all_after firsts (at_line frames 0) (told [] items) ≡ at_line frames (kept_line items)
    pub arcs_are : count_by p (told_in (at_line frames 0) (told [] items)) ≡ (count_by p (own frames (arcs_so_far items)) + count_by p (inner (activations items)))

  record Enters (frames : List Frame) (a : Activation) : Type 0 where
    pub frames_are : all_after firsts frames (told_of [] a) ≡ frames
    pub arcs_are : count_by p (told_in frames (told_of [] a)) ≡ count_by p (inner (activations_from a))

  -- a line event comes
  line-frames : (frames : List Frame) (items : Items) → Follows frames items → (l : ℕ) → all_after firsts (at_line frames 0) (told [] items ++ Line l ∷ []) ≡ at_line frames l
  line-frames frames items h l =
      after-append firsts (at_line frames 0) (told [] items) (Line l ∷ []) ∙ ap (λ fs. all_after firsts fs (Line l ∷ [])) h.frames_are ∙ after-line firsts frames (kept_line items) l

  pushed-count : (frames : List Frame) (items : Items) (l : ℕ) (inside : ℕ)
      → ((count_by p (own frames (arcs_so_far items)) + inside) + count_by p (told_in (at_line frames (kept_line items)) (Line l ∷ []))) ≡ (count_by p (own frames (arcs_so_far items ++ arc_to items l ∷ [])) + inside)
  pushed-count frames items l inside =
      swap (count_by p (own frames (arcs_so_far items))) inside (count_by p (told_in (at_line frames (kept_line items)) (Line l ∷ [])))
      ∙ ap (λ b. b + inside) (sym (count-append p (own frames (arcs_so_far items)) (told_in (at_line frames (kept_line items)) (Line l ∷ []))) ∙ ap (count_by p) (sym (own-push frames (arcs_so_far items) (arc_to items l))))

  line-arcs : (frames : List Frame) (items : Items) → Follows frames items → (l : ℕ)
      → count_by p (told_in (at_line frames 0) (told [] items ++ Line l ∷ [])) ≡ (count_by p (own frames (arcs_so_far items ++ arc_to items l ∷ [])) + count_by p (inner (activations items)))
  line-arcs frames items h l =
      count-told (at_line frames 0) (told [] items) (Line l ∷ [])
      ∙ ap (λ fs. count_by p (told_in (at_line frames 0) (told [] items)) + count_by p (told_in fs (Line l ∷ []))) h.frames_are
      ∙ ap (λ b. b + count_by p (told_in (at_line frames (kept_line items)) (Line l ∷ []))) h.arcs_are
      ∙ pushed-count frames items l (count_by p (inner (activations items)))

  -- items that a mark may join, which is no event on the line that is kept
  marked-follows : (frames : List Frame) (items : Items) → Follows frames items → (l : ℕ) → (kept : Bool) → is_kept l items ≡ kept → Follows frames (more items (mark l))
  unfolding told arcs_so_far activations
  marked-follows frames items h l true same = record {
    frames_are = ap (λ b. all_after firsts (at_line frames 0) (line_unless b l (told [] items))) same ∙ h.frames_are ∙ ap (at_line frames) (sym (eqb-true l (kept_line items) same));
    arcs_are = ap (λ b. count_by p (told_in (at_line frames 0) (line_unless b l (told [] items)))) same ∙ h.arcs_are
        ∙ ap (λ b. count_by p (own frames (if b then arcs_so_far items else arcs_so_far items ++ arc_to items l ∷ [])) + count_by p (inner (activations items))) (sym same);
  }
  marked-follows frames items h l false same = record {
    frames_are = ap (λ b. all_after firsts (at_line frames 0) (line_unless b l (told [] items))) same ∙ line-frames frames items h l;
    arcs_are = ap (λ b. count_by p (told_in (at_line frames 0) (line_unless b l (told [] items)))) same ∙ line-arcs frames items h l
        ∙ ap (λ b. count_by p (own frames (if b then arcs_so_far items else arcs_so_far items ++ arc_to items l ∷ [])) + count_by p (inner (activations items))) (sym same);
  }

  again-follows : (frames : List Frame) (items : Items) → Follows frames items → (l : ℕ) → Follows frames (more items (again l))
  unfolding told arcs_so_far activations
  again-follows frames items h l = record { frames_are = line-frames frames items h l; arcs_are = line-arcs frames items h l }

  thrown-follows : (frames : List Frame) (items : Items) → Follows frames items → (kind : ExcKind) → Follows frames (more items (throw kind))
  unfolding told arcs_so_far activations arcs_told
  thrown-follows frames items h kind = record {
    frames_are = after-append firsts (at_line frames 0) (told [] items) (Throw kind ∷ []) ∙ h.frames_are;
    arcs_are = count-told (at_line frames 0) (told [] items) (Throw kind ∷ []) ∙ add-none (count_by p (told_in (at_line frames 0) (told [] items))) ∙ h.arcs_are;
  }

  -- an activation comes, which tells what it tells by itself
  sub-count : (frames : List Frame) (items : Items) (a : Activation) → Follows frames items
      → count_by p (told_in (at_line frames (kept_line items)) (told_of [] a)) ≡ count_by p (inner (activations_from a))
      → count_by p (told_in (at_line frames 0) (told [] (more items (sub a)))) ≡ (count_by p (own frames (arcs_so_far (more items (sub a)))) + count_by p (inner (activations (more items (sub a)))))
  unfolding told arcs_so_far activations
  sub-count frames items a h e =
      ap (λ es. count_by p (told_in (at_line frames 0) es)) (told-after_of (told [] items) a)
      ∙ count-told (at_line frames 0) (told [] items) (told_of [] a)
      ∙ ap (λ fs. count_by p (told_in (at_line frames 0) (told [] items)) + count_by p (told_in fs (told_of [] a))) h.frames_are
      ∙ ap (λ b. b + count_by p (told_in (at_line frames (kept_line items)) (told_of [] a))) h.arcs_are
      ∙ add-assoc (count_by p (own frames (arcs_so_far items))) (count_by p (inner (activations items))) (count_by p (told_in (at_line frames (kept_line items)) (told_of [] a)))
      ∙ ap (λ b. count_by p (own frames (arcs_so_far items)) + (count_by p (inner (activations items)) + b)) e
      ∙ ap (λ b. count_by p (own frames (arcs_so_far items)) + b)
      (sym (count-append p (inner (activations items)) (inner (activations_from a))) ∙ ap (count_by p) (sym (inner-append (activations items) (activations_from a))))

  sub-frames : (frames : List Frame) (items : Items) (a : Activation) → Follows frames items → all_after firsts (at_line frames (kept_line items)) (told_of [] a) ≡ at_line frames (kept_line items)
      → all_after firsts (at_line frames 0) (told [] (more items (sub a))) ≡ at_line frames (kept_line items)
  unfolding told
  sub-frames frames items a h e =
      ap (all_after firsts (at_line frames 0)) (told-after_of (told [] items) a) ∙ after-append firsts (at_line frames 0) (told [] items) (told_of [] a) ∙ ap (λ fs. all_after firsts fs (told_of [] a)) h.frames_are ∙ e

  -- a body that is left, and one that isn't
  left : (outer : List Frame) (code : CodeId) (items : Items) → Follows (opened firsts code ∷ outer) items → Enters outer (activation code items true)
  unfolding told_of activations_from arcs_told crossings_of arcs_of
  left outer code items h = record {
    frames_are = ap (λ es. all_after firsts outer (es ++ Return ∷ [])) (told-after_it (Call code ∷ []) items)
        ∙ after-append firsts (opened firsts code ∷ outer) (told [] items) (Return ∷ [])
        ∙ ap (λ fs. all_after firsts fs (Return ∷ [])) h.frames_are;
    arcs_are = ap (λ es. count_by p (told_in outer (es ++ Return ∷ []))) (told-after_it (Call code ∷ []) items)
        ∙ count-told (opened firsts code ∷ outer) (told [] items) (Return ∷ [])
        ∙ ap (λ fs. count_by p (told_in (opened firsts code ∷ outer) (told [] items)) + count_by p (told_in fs (Return ∷ []))) h.frames_are
        ∙ ap (λ b. b + count_by p (told_in (at_line (opened firsts code ∷ outer) (kept_line items)) (Return ∷ []))) h.arcs_are
        ∙ pushed-count (opened firsts code ∷ outer) items 0 (count_by p (inner (activations items)))
        ∙ sym (inner-first code (arcs_so_far items ++ arc_to items 0 ∷ []) (activations items) (nat_eq code.module m));
  }

  stays : (outer : List Frame) (code : CodeId) (items : Items)
      → count_by p (told_in (opened firsts code ∷ outer) (told [] items)) ≡ (count_by p (own (opened firsts code ∷ outer) (arcs_so_far items)) + count_by p (inner (activations items)))
      → count_by p (told_in outer (told_of [] (activation code items false))) ≡ count_by p (inner (activations_from (activation code items false)))
  unfolding told_of activations_from arcs_told crossings_of arcs_of
  stays outer code items e =
      ap (λ es. count_by p (told_in outer es)) (told-after_it (Call code ∷ []) items) ∙ e ∙ sym (inner-first code (arcs_so_far items) (activations items) (nat_eq code.module m))

  none-follows : (frames : List Frame) → Follows frames no_items
  unfolding told arcs_so_far activations arcs_told crossings_of
  none-follows frames = record { frames_are = refl; arcs_are = ap (count_by p) (sym (own-none frames)) ∙ sym (add-none (count_by p (own frames []))) }

  mutual
    unfolding AreEnded IsEnded

    follows : (items : Items) → AreEnded items → (frames : List Frame) → Follows frames items
    follows no_items h frames = none-follows frames
    follows (more is (mark l)) h frames = marked-follows frames is (follows is h frames) l (is_kept l is) refl
    follows (more is (again l)) h frames = again-follows frames is (follows is h frames) l
    follows (more is (throw kind)) h frames = thrown-follows frames is (follows is h frames) kind
    follows (more is (sub a)) h frames = record {
      frames_are = sub-frames frames is a (follows is h.0 frames) (enters a h.1 (at_line frames (kept_line is))).frames_are;
      arcs_are = sub-count frames is a (follows is h.0 frames) (enters a h.1 (at_line frames (kept_line is))).arcs_are;
    }

    enters : (a : Activation) → IsEnded a → (outer : List Frame) → Enters outer a
    enters (activation code items true) h outer = left outer code items (follows items h (opened firsts code ∷ outer))
    enters (activation code items false) h outer = absurd h

  mutual
    unfolding AreCutLast IsCutLast

    follows-cut : (items : Items) → AreCutLast items → (frames : List Frame) → count_by p (told_in (at_line frames 0) (told [] items)) ≡ (count_by p (own frames (arcs_so_far items)) + count_by p (inner (activations items)))
    follows-cut no_items h frames = (none-follows frames).arcs_are
    follows-cut (more is (mark l)) h frames = (marked-follows frames is (follows is h frames) l (is_kept l is) refl).arcs_are
    follows-cut (more is (again l)) h frames = (again-follows frames is (follows is h frames) l).arcs_are
    follows-cut (more is (throw kind)) h frames = (thrown-follows frames is (follows is h frames) kind).arcs_are
    follows-cut (more is (sub a)) h frames = sub-count frames is a (follows is h.0 frames) (enters-cut a h.1 (at_line frames (kept_line is)))

    enters-cut : (a : Activation) → IsCutLast a → (outer : List Frame) → count_by p (told_in outer (told_of [] a)) ≡ count_by p (inner (activations_from a))
    enters-cut (activation code items true) h outer = (left outer code items (follows items h (opened firsts code ∷ outer))).arcs_are
    enters-cut (activation code items false) h outer = stays outer code items (follows-cut items h (opened firsts code ∷ outer))

  -- outside all frames
  pub each-count : (items : Items) → AreCutLast items → count_by p (arcs_told firsts m [] (events_in items)) ≡ count_by p (map ends (crossings ms m items))
  each-count items h = follows-cut items h [] ∙ sym (none-add (count_by p (inner (activations items))))

-- one more, which is of the kind or isn't
any-more : (b : Bool) (n : ℕ) (any : Bool) → any ≡ nat_lt 0 n → (b || any) ≡ nat_lt 0 (cond b 1 0 + n)
any-more true n any e = sym (lt-ltb 0 (1 + n) (omega arith))
any-more false n any e = e ∙ ap (nat_lt 0) (none-add n)

-- a kind of arcs is among them exactly where its number isn't 0
counted-any : {X : Type 0} (p : X → Bool) (xs : List X) → list_any p xs ≡ nat_lt 0 (count_by p xs)
counted-any p [] = refl
counted-any p (x ∷ xs) = any-more (p x) (count_by p xs) (list_any p xs) (counted-any p xs) ∙ ap (nat_lt 0) (sym (sum_by-cons (λ x. cond (p x) 1 0) x xs))

pub arcs-of_items : (ms : List LoadedModule) (firsts : List (List ℕ)) → ((code : CodeId) → first_line firsts code ≡ (unit_of ms code).line) → (items : Items) → AreCutLast items
    → (m : ℕ) → ordered [] (arcs_told firsts m [] (events_in items)) ≡ lines_crossed (crossings ms m items)
arcs-of_items ms firsts agree items h m =
    same-in_order (arcs_told firsts m [] (events_in items)) (map ends (crossings ms m items))
    (λ p. counted-any p (arcs_told firsts m [] (events_in items)) ∙ ap (nat_lt 0) (each-count ms firsts agree m p items h) ∙ sym (counted-any p (map ends (crossings ms m items))))
