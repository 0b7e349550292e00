-- The groups of rows of data of lines, and the blobs of groups.
--     blobs_are       blobs of the groups of rows have the lines of the rows
use Rattle.std.proofs.Common.{◌≡◌, ◌≢◌, ℕ, ℤ, pos, Bool, true, false, cond, List, [], ◌∷◌, ◌++◌, map, Vec, Result, Ok, Err, IfOk, refl, ap, sym, subst, ◌∙◌, append_assoc, le-leb}
use Rattle.std.specs.declared.alloc.Global.{Global}
use Rattle.std.specs.declared.cmp.Ordering.{Ordering}
use Rattle.std.specs.declared.cmp.Ordering.TheVariants.{Less, Equal, Greater}
use Rattle.std.specs.Prelude.{T, ◌&&◌, ◌==◌, nat_lt}
use Rattle.std.proofs.lemmas.Map.Lookups.{exact_signed}
use Rattle.std.specs.Ordering.{is_eq, is_lt, nat_cmp, int_cmp, ordering_then}
use Rattle.std.specs.Cmp.{IsTotalOrder, then_total, on_total, int_cmp_total, nat_cmp_total, tied_itself}
use Rattle.std.specs.List.{AllByRecursion, AllZip, flat_map}
use Rattle.std.specs.FinMap.{nat_cmp-IsAntisymmetric}
use Rattle.cov_data.specs.DataSet.{most_number}
use Rattle.std.proofs.lemmas.List.{map-append}
use Rattle.cov_data.specs.Numbits.{IsNumbits, lines_of_bits}
use Rattle.cov_data.specs.Rows.{distinct_in_order}
use Rattle.cov_data.proofs.MapViews.{both}
use Rattle.cov_data.proofs.Distinct.{marked, Rises, distinct_in_order-unique}
use Rattle.std.specs.FinMap.Entries.{below_all}
use Rattle.cov_tables.specs.Hits.{Spot, spot_cmp}
use Rattle.cov_sql.proofs.Rising.{Rise, rise_from, sorted_from}
use Rattle.cov_sql.specs.declared.saved.SavedRow.{SavedRow}
use Rattle.cov_sql.specs.declared.saved.SavedBits.{SavedBits}
use Rattle.cov_sql.specs.declared.bits.Group.{Group}
use Rattle.cov_sql.specs.Blobs.{spot_of, spots_in, bits_cmp, IsPacked, AreBitsOf}
use Rattle.cov_sql.specs.Groups.{GroupView, group_view, line_in, same_ids, is_of, one_line, with_line, groups_from, groups, IsBlobOf, IsLine, AreLines}

-- ---- lists that rise

all_left : {K : Type 0} (P : K → Type 0) (xs ys : List K) → AllByRecursion P (xs ++ ys) → AllByRecursion P xs
all_left P [] ys h = tt
all_left P (x ∷ xs) ys h = (h.0, all_left P xs ys h.1)

all_right : {K : Type 0} (P : K → Type 0) (xs ys : List K) → AllByRecursion P (xs ++ ys) → AllByRecursion P ys
all_right P [] ys h = h
all_right P (x ∷ xs) ys h = all_right P xs ys h.1

module _ {K : Type 0} (R : K → K → Ordering) where
  rise_left : (xs ys : List K) → Rise R (xs ++ ys) → Rise R xs
  rise_left [] ys h = tt
  rise_left (x ∷ xs) ys h = (all_left (λ y. R x y ≡ Less) xs ys h.0, rise_left xs ys h.1)

  rise_right : (xs ys : List K) → Rise R (xs ++ ys) → Rise R ys
  rise_right [] ys h = h
  rise_right (x ∷ xs) ys h = rise_right xs ys h.1

-- each spot is that of its row
spots_rise : (rs : List SavedRow) → Rise (λ r s. spot_cmp (spot_of r) (spot_of s)) rs → Rise spot_cmp (map spot_of rs)
spots_rise [] h = tt
spots_rise (r ∷ rs) h = (below rs h.0, spots_rise rs h.1)
  where
    below : (ss : List SavedRow) → AllByRecursion (λ s. spot_cmp (spot_of r) (spot_of s) ≡ Less) ss → AllByRecursion (λ q. spot_cmp (spot_of r) q ≡ Less) (map spot_of ss)
    below [] h = tt
    below (s ∷ ss) h = (h.0, below ss h.1)

-- ---- the spots of groups

abbrev group_spot : GroupView → ℕ → Spot
group_spot g n = record { file_id = g.file_id; context_id = g.context_id; from = pos n; to = pos n }

abbrev group_spots : GroupView → List Spot
group_spots g = map (group_spot g) g.lines

line_is : (r : SavedRow) (h : IsLine r) → line_in r.from ≡ h.line
line_is r h = ap line_in h.from ∙ ap (λ b. cond b h.line 0) (le-leb h.line most_number h.within)

spot_is : (r : SavedRow) (h : IsLine r) → group_spot (one_line r) (line_in r.from) ≡ spot_of r
spot_is r h =
    ap (group_spot (one_line r)) (line_is r h)
    ∙ (λ i. record { file_id = r.file_id; context_id = r.context_id; from = sym h.from i; to = sym h.to i })

whole_same : (a b : ℤ) → is_eq (int_cmp a b) ≡ true → a ≡ b
whole_same a b e = by (int_cmp a b) refl e
  where
    by : (o : Ordering) → int_cmp a b ≡ o → is_eq o ≡ true → a ≡ b
    by Less e h = absurd cc
    by Equal e h = exact_signed a b e
    by Greater e h = absurd cc

both_true : (a b : Bool) → (a && b) ≡ true → (a ≡ true) × (b ≡ true)
both_true true b h = (refl, h)
both_true false b h = absurd cc

spot_among : (g : GroupView) (r : SavedRow) → is_of g r ≡ true → IsLine r → group_spot g (line_in r.from) ≡ spot_of r
spot_among g r is h =
    let ids = both_true _ _ is in
    let file = whole_same g.file_id r.file_id ids.0 in
    let context = whole_same g.context_id r.context_id ids.1 in
    (λ i. record { file_id = file i; context_id = context i; from = pos (line_in r.from); to = pos (line_in r.from) }) ∙ spot_is r h

flat : (g : GroupView) (rs : List SavedRow) → AllByRecursion IsLine rs → flat_map group_spots (groups_from g rs) ≡ group_spots g ++ map spot_of rs
unfolding groups_from
flat g [] h = refl
flat g (r ∷ rs) h = by (is_of g r) refl (flat (with_line g r) rs h.1) (flat (one_line r) rs h.1)
  where
    by : (b : Bool) → is_of g r ≡ b
        → flat_map group_spots (groups_from (with_line g r) rs) ≡ group_spots (with_line g r) ++ map spot_of rs
        → flat_map group_spots (groups_from (one_line r) rs) ≡ group_spots (one_line r) ++ map spot_of rs
        → flat_map group_spots (cond b (groups_from (with_line g r) rs) (g ∷ groups_from (one_line r) rs)) ≡ group_spots g ++ (spot_of r ∷ map spot_of rs)
    by true is more next =
        more
        ∙ ap (λ qs. qs ++ map spot_of rs) (map-append (group_spot g) g.lines (line_in r.from ∷ []) ∙ ap (λ q. group_spots g ++ q ∷ []) (spot_among g r is h.0))
        ∙ append_assoc (group_spots g) (spot_of r ∷ []) (map spot_of rs)
    by false is more next =
        ap (λ qs. group_spots g ++ qs) (next ∙ ap (λ q. q ∷ map spot_of rs) (spot_is r h.0))

flat_all : (rs : List SavedRow) → AllByRecursion IsLine rs → flat_map group_spots (groups rs) ≡ map spot_of rs
flat_all [] h = refl
flat_all (r ∷ rs) h = flat (one_line r) rs h.1 ∙ ap (λ q. q ∷ map spot_of rs) (spot_is r h.0)

abbrev HasLines : GroupView → Type 0
HasLines g = g.lines ≢ []

not_none : (xs : List ℕ) (x : ℕ) → xs ++ x ∷ [] ≢ []
not_none [] x e = cc
not_none (y ∷ xs) x e = cc

some_lines : (g : GroupView) (rs : List SavedRow) → HasLines g → AllByRecursion HasLines (groups_from g rs)
unfolding groups_from
some_lines g [] h = (h, tt)
some_lines g (r ∷ rs) h = by (is_of g r) (some_lines (with_line g r) rs (not_none g.lines (line_in r.from))) (some_lines (one_line r) rs (λ e. cc))
  where
    by : (b : Bool) → AllByRecursion HasLines (groups_from (with_line g r) rs) → AllByRecursion HasLines (groups_from (one_line r) rs) → AllByRecursion HasLines (cond b (groups_from (with_line g r) rs) (g ∷ groups_from (one_line r) rs))
    by true more next = more
    by false more next = (h, next)

-- ---- groups side by side are of other files or contexts

abbrev Heads : GroupView → List GroupView → Type 0
Heads g [] = Unit {0}
Heads g (h ∷ hs) = same_ids g h ≡ false

abbrev Apart : List GroupView → Type 0
Apart [] = Unit {0}
Apart (g ∷ gs) = Heads g gs × Apart gs

heads : (g k : GroupView) (rs : List SavedRow) → same_ids g k ≡ false → Heads g (groups_from k rs)
unfolding groups_from
heads g k [] h = h
heads g k (r ∷ rs) h = by (is_of k r) (heads g (with_line k r) rs h)
  where
    by : (b : Bool) → Heads g (groups_from (with_line k r) rs) → Heads g (cond b (groups_from (with_line k r) rs) (k ∷ groups_from (one_line r) rs))
    by true more = more
    by false more = h

apart : (g : GroupView) (rs : List SavedRow) → Apart (groups_from g rs)
unfolding groups_from
apart g [] = (tt, tt)
apart g (r ∷ rs) = by (is_of g r) refl (apart (with_line g r) rs) (apart (one_line r) rs)
  where
    by : (b : Bool) → is_of g r ≡ b → Apart (groups_from (with_line g r) rs) → Apart (groups_from (one_line r) rs) → Apart (cond b (groups_from (with_line g r) rs) (g ∷ groups_from (one_line r) rs))
    by true is more next = more
    by false is more next = (heads g (one_line r) rs is, next)

-- ---- so there is one for each file and context

abbrev group_cmp : GroupView → GroupView → Ordering
group_cmp g h = ordering_then (int_cmp g.file_id h.file_id) (int_cmp g.context_id h.context_id)

group_total : IsTotalOrder group_cmp
group_total = then_total (on_total (λ g. g.file_id) int_cmp_total) (on_total (λ g. g.context_id) int_cmp_total)

less_parts : (a b z : Ordering) → ordering_then a (ordering_then b z) ≡ Less → (is_eq a && is_eq b) ≡ false → ordering_then a b ≡ Less
less_parts Less b z h other = refl
less_parts Equal Less z h other = refl
less_parts Equal Equal z h other = absurd cc
less_parts Equal Greater z h other = h
less_parts Greater b z h other = h

-- the first spots of two groups
less_by : (g h : GroupView) (ms ns : List ℕ) (qs : List Spot) → ms ≢ [] → ns ≢ [] → same_ids g h ≡ false → Rise spot_cmp (map (group_spot g) ms ++ (map (group_spot h) ns ++ qs)) → group_cmp g h ≡ Less
less_by g h [] ns qs some other differ up = absurd (some refl)
less_by g h (m ∷ ms) [] qs some other differ up = absurd (other refl)
less_by g h (m ∷ ms) (n ∷ ns) qs some other differ up =
    let later = all_right (λ q. spot_cmp (group_spot g m) q ≡ Less) (map (group_spot g) ms) (group_spot h n ∷ (map (group_spot h) ns ++ qs)) up.0 in
    less_parts (int_cmp g.file_id h.file_id) (int_cmp g.context_id h.context_id) (ordering_then (int_cmp (pos m) (pos n)) (int_cmp (pos m) (pos n))) later.0 differ

further : (g h : GroupView) (gs : List GroupView) → group_cmp g h ≡ Less → AllByRecursion (λ k. group_cmp h k ≡ Less) gs → AllByRecursion (λ k. group_cmp g k ≡ Less) gs
further g h [] lt all = tt
further g h (k ∷ gs) lt all = (group_total.trans g h k lt all.0, further g h gs lt all.1)

groups_rise : (gs : List GroupView) → Rise spot_cmp (flat_map group_spots gs) → AllByRecursion HasLines gs → Apart gs → Rise group_cmp gs
groups_rise [] up some other = tt
groups_rise (g ∷ []) up some other = (tt, tt)
groups_rise (g ∷ h ∷ gs) up some other =
    let lt = less_by g h g.lines h.lines (flat_map group_spots gs) some.0 some.1.0 other.0 up in
    let rest = groups_rise (h ∷ gs) (rise_right spot_cmp (group_spots g) (flat_map group_spots (h ∷ gs)) up) some.1 other.1 in
    ((lt, further g h gs lt rest.0), rest)

-- ---- the lines of a group rise

twice : (a : Ordering) → ordering_then a a ≡ Less → a ≡ Less
twice Less h = refl
twice Equal h = h
twice Greater h = h

less_line : (m n : ℕ) → int_cmp (pos m) (pos n) ≡ Less → nat_cmp m n ≡ Less
less_line m n h = by (nat_lt m n) (nat_lt n m) (m == n) h
  where
    by : (a b c : Bool) → cond a Less (cond b Greater Equal) ≡ Less → cond a Less (cond c Equal Greater) ≡ Less
    by true b c h = refl
    by false true c h = absurd cc
    by false false c h = absurd cc

line_less : (g : GroupView) (m n : ℕ) → spot_cmp (group_spot g m) (group_spot g n) ≡ Less → nat_cmp m n ≡ Less
line_less g m n h =
    less_line m n (twice (int_cmp (pos m) (pos n)) (
    (λ i. ordering_then (sym (tied_itself int_cmp_total g.file_id) i) (ordering_then (sym (tied_itself int_cmp_total g.context_id) i) (ordering_then (int_cmp (pos m) (pos n)) (int_cmp (pos m) (pos n)))))
    ∙ h))

lines_below : (g : GroupView) (m : ℕ) (ns : List ℕ) → AllByRecursion (λ q. spot_cmp (group_spot g m) q ≡ Less) (map (group_spot g) ns) → T (below_all nat_cmp m (marked ns))
lines_below g m [] h = tt
lines_below g m (n ∷ ns) h = both _ _ (subst (λ r. T (is_lt r)) (sym (line_less g m n h.0)) tt) (lines_below g m ns h.1)

lines_rise : (g : GroupView) (ns : List ℕ) → Rise spot_cmp (map (group_spot g) ns) → Rises nat_cmp ns
lines_rise g [] h = tt
lines_rise g (n ∷ ns) h = both _ _ (lines_below g n ns h.0) (lines_rise g ns h.1)

in_order : (g : GroupView) → Rise spot_cmp (group_spots g) → distinct_in_order nat_cmp g.lines ≡ g.lines
in_order g h = sym (distinct_in_order-unique nat_cmp nat_cmp_total nat_cmp-IsAntisymmetric g.lines g.lines (lines_rise g g.lines h) (λ q. refl))

-- ---- the blobs of groups

abbrev a_spot : ℤ → ℤ → ℕ → Spot
a_spot file context n = record { file_id = file; context_id = context; from = pos n; to = pos n }

blob_lines : (g : Group) (b : SavedBits) → IsBlobOf g b → Rise spot_cmp (group_spots (group_view g)) → lines_of_bits b.numbits.items ≡ g.lines.items
blob_lines g b h up = h.back ∙ in_order (group_view g) up

blob_spots : (g : Group) (b : SavedBits) → IsBlobOf g b → lines_of_bits b.numbits.items ≡ g.lines.items → spots_in b ≡ group_spots (group_view g)
blob_spots g b h is = λ i. map (a_spot (h.file i) (h.context i)) (is i)

blob_packed : (g : Group) (b : SavedBits) → IsBlobOf g b → lines_of_bits b.numbits.items ≡ g.lines.items → HasLines (group_view g) → IsPacked b
blob_packed g b h is some = (λ none. some (sym is ∙ none), subst (λ ns. IsNumbits ns b.numbits.items) (sym is) h.packed)

blob_less : (g h : Group) (b c : SavedBits) → IsBlobOf g b → IsBlobOf h c → group_cmp (group_view g) (group_view h) ≡ Less → bits_cmp b c ≡ Less
blob_less g h b c one two lt = (λ i. ordering_then (int_cmp (one.file i) (two.file i)) (int_cmp (one.context i) (two.context i))) ∙ lt

blobs_below : (g : Group) (b : SavedBits) (gs : List Group) (bs : List SavedBits) → IsBlobOf g b → AllZip IsBlobOf gs bs → AllByRecursion (λ k. group_cmp (group_view g) k ≡ Less) (map group_view gs) → AllByRecursion (λ c. bits_cmp b c ≡ Less) bs
blobs_below g b [] [] one h lt = tt
blobs_below g b [] (c ∷ bs) one h lt = absurd h
blobs_below g b (k ∷ gs) [] one h lt = tt
blobs_below g b (k ∷ gs) (c ∷ bs) one h lt = (blob_less g k b c one h.0 lt.0, blobs_below g b gs bs one h.1 lt.1)

blobs_rise : (gs : List Group) (bs : List SavedBits) → AllZip IsBlobOf gs bs → Rise group_cmp (map group_view gs) → Rise bits_cmp bs
blobs_rise [] [] h up = tt
blobs_rise [] (b ∷ bs) h up = absurd h
blobs_rise (g ∷ gs) [] h up = tt
blobs_rise (g ∷ gs) (b ∷ bs) h up = (blobs_below g b gs bs h.0 h.1 up.0, blobs_rise gs bs h.1 up.1)

all_spots : (gs : List Group) (bs : List SavedBits) → AllZip IsBlobOf gs bs → Rise spot_cmp (flat_map group_spots (map group_view gs)) → flat_map spots_in bs ≡ flat_map group_spots (map group_view gs)
all_spots [] [] h up = refl
all_spots [] (b ∷ bs) h up = absurd h
all_spots (g ∷ gs) [] h up = absurd h
all_spots (g ∷ gs) (b ∷ bs) h up =
    let rest = flat_map group_spots (map group_view gs) in
    let is = blob_lines g b h.0 (rise_left spot_cmp (group_spots (group_view g)) rest up) in
    λ i. blob_spots g b h.0 is i ++ all_spots gs bs h.1 (rise_right spot_cmp (group_spots (group_view g)) rest up) i

all_packed : (gs : List Group) (bs : List SavedBits) → AllZip IsBlobOf gs bs → Rise spot_cmp (flat_map group_spots (map group_view gs)) → AllByRecursion HasLines (map group_view gs) → AllByRecursion IsPacked bs
all_packed [] [] h up some = tt
all_packed [] (b ∷ bs) h up some = absurd h
all_packed (g ∷ gs) [] h up some = tt
all_packed (g ∷ gs) (b ∷ bs) h up some =
    let rest = flat_map group_spots (map group_view gs) in
    let is = blob_lines g b h.0 (rise_left spot_cmp (group_spots (group_view g)) rest up) in
    (blob_packed g b h.0 is some.0, all_packed gs bs h.1 (rise_right spot_cmp (group_spots (group_view g)) rest up) some.1)

some_all : (rs : List SavedRow) → AllByRecursion HasLines (groups rs)
some_all [] = tt
some_all (r ∷ rs) = some_lines (one_line r) rs (λ e. cc)

apart_all : (rs : List SavedRow) → Apart (groups rs)
apart_all [] = tt
apart_all (r ∷ rs) = apart (one_line r) rs

pub blobs_are : (rows : List SavedRow) (gs : List Group) (bs : List SavedBits) → map group_view gs ≡ groups rows → AreLines rows → AllZip IsBlobOf gs bs → AreBitsOf rows bs
blobs_are rows gs bs is all h =
    let spots : flat_map group_spots (map group_view gs) ≡ map spot_of rows = ap (flat_map group_spots) is ∙ flat_all rows all.each in
    let up : Rise spot_cmp (flat_map group_spots (map group_view gs)) = subst (Rise spot_cmp) (sym spots) (spots_rise rows (rise_from (λ r s. spot_cmp (spot_of r) (spot_of s)) rows all.rise)) in
    let some : AllByRecursion HasLines (map group_view gs) = subst (AllByRecursion HasLines) (sym is) (some_all rows) in
    let other : Apart (map group_view gs) = subst Apart (sym is) (apart_all rows) in
    record {
      lines = all_spots gs bs h up ∙ spots;
      once = sorted_from bits_cmp bs (blobs_rise gs bs h (groups_rise (map group_view gs) up some other));
      packed = all_packed gs bs h up some;
    }

pub blobs_then : {E : Type 0} (rows : List SavedRow) (gs : List Group) (r : Result (Vec SavedBits Global) E) → map group_view gs ≡ groups rows → IfOk r (λ blobs. AllZip IsBlobOf gs blobs.items) → AreLines rows → IfOk r (λ blobs. AreBitsOf rows blobs.items)
blobs_then rows gs (Ok blobs) is h all = blobs_are rows gs blobs.items is all h
blobs_then rows gs (Err e) is h all = tt

-- ---- one row after the other

-- a row of the same file and context
pub taken_in : (ds : List GroupView) (g k : GroupView) (r : SavedRow) → is_of g r ≡ true → k ≡ with_line g r → (rows : List SavedRow) → ds ++ groups_from k rows ≡ ds ++ groups_from g (r ∷ rows)
unfolding groups_from
taken_in ds g k r is same rows =
    ap (λ gs. ds ++ gs) (ap (λ h. groups_from h rows) same ∙ sym (ap (λ b. cond b (groups_from (with_line g r) rows) (g ∷ groups_from (one_line r) rows)) is))

-- a row of another
pub taken_on : (ds new : List Group) (g : Group) (k : GroupView) (r : SavedRow) → new ≡ ds ++ g ∷ [] → is_of (group_view g) r ≡ false → k ≡ one_line r
    → (rows : List SavedRow) → map group_view new ++ groups_from k rows ≡ map group_view ds ++ groups_from (group_view g) (r ∷ rows)
unfolding groups_from
taken_on ds new g k r put is same rows =
    let v = group_view g in
    (λ i. map group_view (put i) ++ groups_from (same i) rows)
    ∙ ap (λ gs. gs ++ groups_from (one_line r) rows) (map-append group_view ds (g ∷ []))
    ∙ append_assoc (map group_view ds) (v ∷ []) (groups_from (one_line r) rows)
    ∙ ap (λ gs. map group_view ds ++ gs) (sym (ap (λ b. cond b (groups_from (with_line v r) rows) (v ∷ groups_from (one_line r) rows)) is))

pub groups_begun : (none : List Group) (g : GroupView) (first : SavedRow) (others rows : List SavedRow) → none ≡ [] → g ≡ one_line first → rows ≡ first ∷ others → map group_view none ++ groups_from g others ≡ groups rows
groups_begun none g first others rows empty same is = (λ i. map group_view (empty i) ++ groups_from (same i) others) ∙ sym (ap groups is)

pub groups_ended : (ds new : List Group) (g : Group) (rest rows : List SavedRow) → rest ≡ [] → new ≡ ds ++ g ∷ [] → map group_view ds ++ groups_from (group_view g) rest ≡ groups rows → map group_view new ≡ groups rows
unfolding groups_from
groups_ended ds new g rest rows none put h =
    ap (map group_view) put ∙ map-append group_view ds (g ∷ []) ∙ sym (ap (λ rs. map group_view ds ++ groups_from (group_view g) rs) none) ∙ h

pub taken_next : {E : Type 0} (ds new : List Group) (g : Group) (row : SavedRow) (r : Result Group E) → new ≡ ds ++ g ∷ [] → is_of (group_view g) row ≡ false → IfOk r (λ k. group_view k ≡ one_line row)
    → IfOk r (λ next. (rows : List SavedRow) → map group_view new ++ groups_from (group_view next) rows ≡ map group_view ds ++ groups_from (group_view g) (row ∷ rows))
taken_next ds new g row (Ok next) put is h = taken_on ds new g (group_view next) row put is h
taken_next ds new g row (Err e) put is h = tt
