-- Branches, one arc after the other, and of the whole list.
use Rattle.std.proofs.Common.{◌≡◌, ℕ, ℤ, ◌+◌, min, pos, negsuc, Bool, false, cond, if◌then◌else◌, List, [], ◌∷◌, ◌++◌, Some, None, Result, Ok, Err, OnOk, take, refl, sym, ap, ap₂, subst, ◌∙◌, arith, ⊎_elim}
use Rattle.std.specs.Prelude.{nat_lt, filter}
use Rattle.std.specs.List.{count_by, slice_get}
use Rattle.std.proofs.lemmas.Bool.{cases_lt, lt-ltb, le-ltb}
use Rattle.std.proofs.lemmas.List.{append-nil, take_more}
use Rattle.std.proofs.lemmas.List.Concat.{flat_map-append}
use Rattle.std.proofs.lemmas.Option.{slice_get_within, get_or_from_slice_get}
use Rattle.py_syntax.specs.Prediction.{Arc}
use Rattle.cov_analysis.specs.Lines.{is_among}
use Rattle.cov_analysis.specs.Branches.{Branch, is_excluded_end, is_open, open_branch, open_branches, leaves, forks}
use Rattle.cov_analysis.specs.Lookups.{line_at}

-- an end that is a line
pub end_at : (excluded : List ℕ) (end : ℤ) (line : ℕ) → line_at end ≡ Some line → is_among excluded line ≡ is_excluded_end excluded end
end_at excluded (pos n) line is = let same : n ≡ line = cc in ap (is_among excluded) (sym same)
end_at excluded (negsuc n) line is = absurd cc

pub end_outside : (excluded : List ℕ) (end : ℤ) → line_at end ≡ None → false ≡ is_excluded_end excluded end
end_outside excluded (pos n) is = absurd cc
end_outside excluded (negsuc n) is = refl

-- what an arc from a line adds
opened-same : {E : Type 0} (r : Result (Unit {0}) E) (excluded : List ℕ) (from to : ℤ) (line : ℕ) (passes : Bool) (before after : List Branch) → line_at from ≡ Some line
    → passes ≡ is_open excluded (line, to) → OnOk r (after ≡ before ++ (if passes then (line, to) ∷ [] else [])) → OnOk r (after ≡ before ++ open_branch excluded (from, to))
opened-same (Ok u) excluded (pos n) to line passes before after is clear h =
    let same : n ≡ line = cc in
    h ∙ ap (λ b. before ++ cond b ((line, to) ∷ []) []) clear ∙ ap (λ m. before ++ cond (is_open excluded (m, to)) ((m, to) ∷ []) []) (sym same)
opened-same (Ok u) excluded (negsuc n) to line passes before after is clear h = absurd cc
opened-same (Err e) excluded from to line passes before after is clear h = h

-- `read` is what the code reads of `to`
pub opened : {E : Type 0} (r : Result (Unit {0}) E) (excluded : List ℕ) (from to : ℤ) (line : ℕ) (passes : Bool) (before after : List Branch) (read : ℤ) → read ≡ to → line_at from ≡ Some line
    → passes ≡ is_open excluded (line, read) → OnOk r (after ≡ before ++ (if passes then (line, read) ∷ [] else [])) → OnOk r (after ≡ before ++ open_branch excluded (from, to))
opened r excluded from to line passes before after read same is clear h =
    subst (λ t. OnOk r (after ≡ before ++ open_branch excluded (from, t))) same (opened-same r excluded from read line passes before after is clear h)

pub opened-none : (excluded : List ℕ) (from to : ℤ) (before : List Branch) → line_at from ≡ None → before ≡ before ++ open_branch excluded (from, to)
opened-none excluded (pos n) to before is = absurd cc
opened-none excluded (negsuc n) to before is = sym (append-nil before)

-- `read` is what the code reads of the arc
pub open_more : (excluded : List ℕ) (arcs : List Arc) (at : ℕ) (arc read : Arc) (now next : List Branch) → read ≡ arc → slice_get arcs at ≡ Some arc → now ≡ open_branches excluded (take at arcs)
    → next ≡ now ++ open_branch excluded read → next ≡ open_branches excluded (take (at + 1) arcs)
open_more excluded arcs at arc read now next same is before after =
    after
    ∙ ap₂ (λ bs a. bs ++ open_branch excluded a) before same
    ∙ ap (λ bs. open_branches excluded (take at arcs) ++ bs) (sym (append-nil (open_branch excluded arc)))
    ∙ sym (flat_map-append (open_branch excluded) (take at arcs) (arc ∷ []))
    ∙ ap (open_branches excluded) (ap (λ x. take at arcs ++ x ∷ []) (sym (get_or_from_slice_get arcs at arc arc is)) ∙ sym (take_more arcs at arc (slice_get_within arcs at arc is)))

-- a number that stops at the greatest count is more than one where the number is
still_several : (n : ℕ) → nat_lt 1 (min n 4294967295) ≡ nat_lt 1 n
still_several n =
    ⊎_elim
    (λ more. lt-ltb 1 (min n 4294967295) (omega (arith, more)) ∙ sym (lt-ltb 1 n more))
    (λ few. le-ltb 1 (min n 4294967295) (omega (arith, few)) ∙ sym (le-ltb 1 n few))
    (cases_lt 1 n)

-- the branches whose line has more than one, by counts that stop at the greatest
pub forks-same : (count : ℕ → ℕ) (branches : List Branch) → ((line : ℕ) → count line ≡ min (count_by (leaves line) branches) 4294967295) → filter (λ branch. nat_lt 1 (count branch.0)) branches ≡ forks branches
forks-same count branches same =
    ap (λ (test : ℕ → Bool). filter (λ branch. test branch.0) branches) (λ i line. (ap (nat_lt 1) (same line) ∙ still_several (count_by (leaves line) branches)) i)
