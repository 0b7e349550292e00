-- Which arcs and lines data list: those of their rows, in some context.
use Rattle.std.proofs.Common.{◌≡◌, ◌↔◌, inl, inr, ℕ, ◌<◌, nat_eq, ℤ, pos, negsuc, Bool, true, false, cond, List, [], ◌∷◌, ◌++◌, map, Contains, refl, ap, sym, ◌∙◌, arith}
use Rattle.std.specs.declared.cmp.Ordering.TheVariants.{Less, Equal, Greater}
use Rattle.std.specs.Prelude.{◌||◌, IsSome}
use Rattle.std.specs.Ordering.{is_eq, eq_by_cmp, ordering_then, int_cmp, nat_cmp}
use Rattle.std.specs.Cmp.{IsTotalOrder, then_total, on_total}
use Rattle.std.specs.List.{flat_map, list_any}
use Rattle.std.specs.FinMap.{IsAntisymmetric, get, entries, contains_key-keys, int_cmp-IsAntisymmetric, nat_cmp-IsAntisymmetric}
use Rattle.std.proofs.lemmas.Bool.{eqb-true}
use Rattle.std.proofs.lemmas.Cmp.{int_cmp_total, nat_cmp_total, tied_itself}
use Rattle.std.proofs.lemmas.List.Folds.{list_any-append}
use Rattle.std.proofs.lemmas.Map.Lookups.{exact_pairs}
use Rattle.cov_data.specs.DataSet.{Text, Place, place_cmp, File, DataSet, file_of}
use Rattle.cov_data.specs.Laws.{IsEnd, LinesOfArcsLaw}
use Rattle.cov_data.specs.Rows.{lines_in, place_lines, lines_of, arc_cmp, file_arcs, arcs_of, distinct_in_order}
use Rattle.cov_data.proofs.FileViews.{place_cmp_same, text_cmp_total}
use Rattle.cov_data.proofs.Members.{or_true, member, member-Contains, Contains-member, member-itself, member-one, member-in_order, same-in_order}

arc_cmp-total : IsTotalOrder arc_cmp
arc_cmp-total = then_total (on_total (λ a. a.0) int_cmp_total) (on_total (λ a. a.1) int_cmp_total)

arc_cmp-same : IsAntisymmetric arc_cmp
arc_cmp-same = exact_pairs int_cmp int_cmp int_cmp-IsAntisymmetric int_cmp-IsAntisymmetric

-- whether an arc is among these
abbrev pub among : ℤ × ℤ → List (ℤ × ℤ) → Bool
among a arcs = member arc_cmp a arcs

pub among-Contains : (a : ℤ × ℤ) (arcs : List (ℤ × ℤ)) → among a arcs ≡ true → Contains arcs a
among-Contains = member-Contains arc_cmp arc_cmp-total arc_cmp-same

pub Contains-among : (a : ℤ × ℤ) (arcs : List (ℤ × ℤ)) → Contains arcs a → among a arcs ≡ true
Contains-among = Contains-member arc_cmp arc_cmp-total arc_cmp-same

pub among-itself : (a : ℤ × ℤ) (arcs : List (ℤ × ℤ)) → among a (a ∷ arcs) ≡ true
among-itself = member-itself arc_cmp arc_cmp-total arc_cmp-same

pub among-one : (a b : ℤ × ℤ) → among a (b ∷ []) ≡ true → a ≡ b
among-one = member-one arc_cmp arc_cmp-total arc_cmp-same

pub among-in_order : (a : ℤ × ℤ) (arcs : List (ℤ × ℤ)) → among a (distinct_in_order arc_cmp arcs) ≡ among a arcs
among-in_order = member-in_order arc_cmp arc_cmp-total arc_cmp-same

-- ---- the arcs of a file's rows

-- a row of the file has this arc, in some context
abbrev pub HasPair : File → ℤ × ℤ → Type 0
HasPair f a = (context : Text) × IsSome (get f (context, a))

abbrev pairs : List (Place × ℕ) → List (ℤ × ℤ)
pairs es = map (λ e. e.0.1) es

some_place : (es : List (Place × ℕ)) (a : ℤ × ℤ) → among a (pairs es) ≡ true → (context : Text) × (list_any (eq_by_cmp place_cmp (context, a)) (map (λ e. e.0) es) ≡ true)
some_place [] a h = cc
some_place (e ∷ es) a h =
    elim (arc_cmp a e.0.1) as (λ r. arc_cmp a e.0.1 ≡ r → (is_eq r || among a (pairs es)) ≡ true → (context : Text) × (list_any (eq_by_cmp place_cmp (context, a)) (map (λ e. e.0) (e ∷ es)) ≡ true)) [
      | Less ↦ λ t h. let rest = some_place es a h in (rest.0, ap (λ b. eq_by_cmp place_cmp (rest.0, a) e.0 || b) rest.1 ∙ or_true (eq_by_cmp place_cmp (rest.0, a) e.0))
      | Equal ↦ λ t h. (
        e.0.0,
        ap (λ r. is_eq (ordering_then r (arc_cmp a e.0.1)) || list_any (eq_by_cmp place_cmp (e.0.0, a)) (map (λ e. e.0) es)) (tied_itself text_cmp_total e.0.0)
            ∙ ap (λ r. is_eq r || list_any (eq_by_cmp place_cmp (e.0.0, a)) (map (λ e. e.0) es)) t,
      )
      | Greater ↦ λ t h. let rest = some_place es a h in (rest.0, ap (λ b. eq_by_cmp place_cmp (rest.0, a) e.0 || b) rest.1 ∙ or_true (eq_by_cmp place_cmp (rest.0, a) e.0))
    ] refl h

at_place : (es : List (Place × ℕ)) (a : ℤ × ℤ) (context : Text) → list_any (eq_by_cmp place_cmp (context, a)) (map (λ e. e.0) es) ≡ true → among a (pairs es) ≡ true
at_place [] a context h = cc
at_place (e ∷ es) a context h =
    elim (place_cmp (context, a) e.0) as (λ r. place_cmp (context, a) e.0 ≡ r → (is_eq r || list_any (eq_by_cmp place_cmp (context, a)) (map (λ e. e.0) es)) ≡ true → among a (pairs (e ∷ es)) ≡ true) [
      | Less ↦ λ t h. ap (λ b. eq_by_cmp arc_cmp a e.0.1 || b) (at_place es a context h) ∙ or_true (eq_by_cmp arc_cmp a e.0.1)
      | Equal ↦ λ t h. ap (λ y. among a (y ∷ pairs es)) (sym (ap (λ (p : Place). p.1) (place_cmp_same (context, a) e.0 t))) ∙ among-itself a (pairs es)
      | Greater ↦ λ t h. ap (λ b. eq_by_cmp arc_cmp a e.0.1 || b) (at_place es a context h) ∙ or_true (eq_by_cmp arc_cmp a e.0.1)
    ] refl h

pairs-has : (f : File) (a : ℤ × ℤ) → (among a (pairs (entries f)) ≡ true) ↔ HasPair f a
pairs-has f a = (
  λ h. let at = some_place (entries f) a h in (at.0, contains_key-keys f (at.0, a) ∙ at.1),
  λ h. at_place (entries f) a h.0 (sym (contains_key-keys f (h.0, a)) ∙ h.1),
)

-- ---- the arcs of a path

-- a row of this path has this arc, in some context
abbrev pub Has : DataSet → Text → ℤ × ℤ → Type 0
Has d path a = HasPair (file_of d path) a

pub arcs_of-has : (d : DataSet) → d.arcs ≡ true → (path : Text) (a : ℤ × ℤ) → Contains (arcs_of d path) a ↔ Has d path a
arcs_of-has d kind path a =
    let all = pairs (entries (file_of d path)) in
    let e : among a (arcs_of d path) ≡ among a all = ap (λ b. among a (cond b (file_arcs (file_of d path)) [])) kind ∙ among-in_order a all in
    let s = pairs-has (file_of d path) a in (
      λ h. s.0 (sym e ∙ Contains-among a (arcs_of d path) h),
      λ h. among-Contains a (arcs_of d path) (e ∙ s.1 h),
    )

pub arcs_of-same : (d e : DataSet) (path : Text) → d.arcs ≡ e.arcs → ((a : ℤ × ℤ) → Has d path a ↔ Has e path a) → arcs_of d path ≡ arcs_of e path
arcs_of-same d e path kind alike =
    let f = pairs-has (file_of d path) in
    let g = pairs-has (file_of e path) in
    ap (λ b. cond b (file_arcs (file_of d path)) []) kind
    ∙ ap (λ xs. cond e.arcs xs []) (same-in_order arc_cmp arc_cmp-total arc_cmp-same (pairs (entries (file_of d path))) (pairs (entries (file_of e path)))
    (λ a. (λ h. (g a).1 ((alike a).0 ((f a).0 h)), λ h. (f a).1 ((alike a).1 ((g a).0 h)))))

-- ---- the lines of a path

-- the lines among the two numbers of an arc
abbrev pub end_lines : ℤ × ℤ → List ℕ
end_lines a = lines_in a.0 ++ lines_in a.1

abbrev pub has_line : ℕ → List ℕ → Bool
has_line line lines = member nat_cmp line lines

abbrev all_lines : List (Place × ℕ) → List ℕ
all_lines es = flat_map (λ e. place_lines e.0) es

some_pair : (es : List (Place × ℕ)) (line : ℕ) → has_line line (all_lines es) ≡ true → (a : ℤ × ℤ) × (among a (pairs es) ≡ true) × (has_line line (end_lines a) ≡ true)
some_pair [] line h = cc
some_pair (e ∷ es) line h =
    elim (has_line line (place_lines e.0)) as (λ b. has_line line (place_lines e.0) ≡ b → (b || has_line line (all_lines es)) ≡ true → (a : ℤ × ℤ) × (among a (pairs (e ∷ es)) ≡ true) × (has_line line (end_lines a) ≡ true)) [
      | true ↦ λ t h. (e.0.1, among-itself e.0.1 (pairs es), t)
      | false ↦ λ t h.
          let rest = some_pair es line h in
          (rest.0, ap (λ b. eq_by_cmp arc_cmp rest.0 e.0.1 || b) rest.1 ∙ or_true (eq_by_cmp arc_cmp rest.0 e.0.1), rest.2)
    ] refl (sym (list_any-append (eq_by_cmp nat_cmp line) (place_lines e.0) (all_lines es)) ∙ h)

at_pair : (es : List (Place × ℕ)) (line : ℕ) (a : ℤ × ℤ) → among a (pairs es) ≡ true → has_line line (end_lines a) ≡ true → has_line line (all_lines es) ≡ true
at_pair [] line a h has = cc
at_pair (e ∷ es) line a h has =
    list_any-append (eq_by_cmp nat_cmp line) (place_lines e.0) (all_lines es)
    ∙ elim (arc_cmp a e.0.1) as (λ r. arc_cmp a e.0.1 ≡ r → (is_eq r || among a (pairs es)) ≡ true → (has_line line (place_lines e.0) || has_line line (all_lines es)) ≡ true) [
      | Less ↦ λ t h. ap (λ b. has_line line (place_lines e.0) || b) (at_pair es line a h has) ∙ or_true (has_line line (place_lines e.0))
      | Equal ↦ λ t h. ap (λ b. b || has_line line (all_lines es)) (ap (λ x. has_line line (end_lines x)) (sym (arc_cmp-same a e.0.1 t)) ∙ has)
      | Greater ↦ λ t h. ap (λ b. has_line line (place_lines e.0) || b) (at_pair es line a h has) ∙ or_true (has_line line (place_lines e.0))
    ] refl h

-- a row of this path has this line
abbrev pub HasLine : DataSet → Text → ℕ → Type 0
HasLine d path line = (a : ℤ × ℤ) × Has d path a × (has_line line (end_lines a) ≡ true)

all_lines-has : (d : DataSet) (path : Text) (line : ℕ) → (has_line line (all_lines (entries (file_of d path))) ≡ true) ↔ HasLine d path line
all_lines-has d path line = (
  λ h. let at = some_pair (entries (file_of d path)) line h in (at.0, (pairs-has (file_of d path) at.0).0 at.1, at.2),
  λ h. at_pair (entries (file_of d path)) line h.0 ((pairs-has (file_of d path) h.0).1 h.1) h.2,
)

pub lines_of-has : (d : DataSet) (path : Text) (line : ℕ) → Contains (lines_of d path) line ↔ HasLine d path line
lines_of-has d path line =
    let all = all_lines (entries (file_of d path)) in
    let s = all_lines-has d path line in (
      λ h. s.0 (sym (member-in_order nat_cmp nat_cmp_total nat_cmp-IsAntisymmetric line all) ∙ Contains-member nat_cmp nat_cmp_total nat_cmp-IsAntisymmetric line (lines_of d path) h),
      λ h. member-Contains nat_cmp nat_cmp_total nat_cmp-IsAntisymmetric line (lines_of d path) (member-in_order nat_cmp nat_cmp_total nat_cmp-IsAntisymmetric line all ∙ s.1 h),
    )

pub lines_of-same : (d e : DataSet) (path : Text) → ((a : ℤ × ℤ) → Has d path a ↔ Has e path a) → lines_of d path ≡ lines_of e path
lines_of-same d e path alike =
    same-in_order nat_cmp nat_cmp_total nat_cmp-IsAntisymmetric (all_lines (entries (file_of d path))) (all_lines (entries (file_of e path))) (λ line.
    let f = all_lines-has d path line in
    let g = all_lines-has e path line in (
      λ h. let at = f.0 h in g.1 (at.0, (alike at.0).0 at.1, at.2),
      λ h. let at = g.0 h in f.1 (at.0, (alike at.0).1 at.1, at.2),
    ))

-- ---- lines of numbers

one_line : (z : ℤ) (line : ℕ) → 0 < line → (has_line line (lines_in z) ≡ true) ↔ (z ≡ pos line)
one_line (negsuc n) line some = (λ h. cc, λ h. cc)
one_line (pos n) line some = go (nat_eq n 0) refl
  where
    never : (n : ℕ) → nat_eq n 0 ≡ true → pos n ≡ pos line → ⊥
    never n e same =
        let is : n ≡ line = cc in
        omega (arith, some, eqb-true n 0 e, is)

    go : (b : Bool) → nat_eq n 0 ≡ b → (has_line line (cond b [] (n ∷ [])) ≡ true) ↔ (pos n ≡ pos line)
    go true e = (λ h. cc, λ same. absurd (never n e same))
    go false e = (
      λ h. ap pos (sym (member-one nat_cmp nat_cmp_total nat_cmp-IsAntisymmetric line n h)),
      λ same. let is : line ≡ n = cc in ap (λ k. has_line k (n ∷ [])) is ∙ member-itself nat_cmp nat_cmp_total nat_cmp-IsAntisymmetric n [],
    )

either_line : (a : ℤ × ℤ) (line : ℕ) → 0 < line → (has_line line (end_lines a) ≡ true) ↔ IsEnd line a
either_line a line some =
    let e : has_line line (end_lines a) ≡ (has_line line (lines_in a.0) || has_line line (lines_in a.1)) = list_any-append (eq_by_cmp nat_cmp line) (lines_in a.0) (lines_in a.1) in (
      λ h. split (has_line line (lines_in a.0)) refl (sym e ∙ h),
      λ h. e ∙ elim h [
        | inl is ↦ ap (λ b. b || has_line line (lines_in a.1)) ((one_line a.0 line some).1 is)
        | inr is ↦ ap (λ b. has_line line (lines_in a.0) || b) ((one_line a.1 line some).1 is) ∙ or_true (has_line line (lines_in a.0))
      ],
    )
  where
    split : (b : Bool) → has_line line (lines_in a.0) ≡ b → (b || has_line line (lines_in a.1)) ≡ true → IsEnd line a
    split true is h = inl ((one_line a.0 line some).0 is)
    split false is h = inr ((one_line a.1 line some).0 h)

pub law_of_lines : LinesOfArcsLaw
law_of_lines d kind path line some = (
  λ h. let at = (lines_of-has d path line).0 h in (at.0, (arcs_of-has d kind path at.0).1 at.1, (either_line at.0 line some).0 at.2),
  λ h. (lines_of-has d path line).1 (h.0, (arcs_of-has d kind path h.0).0 h.1, (either_line h.0 line some).1 h.2),
)
