-- A report has no float, so its text is the compact one.
use Rattle.std.proofs.Common.{◌≡◌, ℕ, List, [], ◌∷◌, map, Bool, true, false, ◌||◌, Ordering, Less, Equal, Greater, pos, negsuc, Result, Ok, Err, IfOk, String, Global, string_bytes, refl, ap₂, subst}
use Rattle.std.specs.List.{fold}
use Rattle.std.specs.Cmp.Lexicographic.{slice_cmp}
use Rattle.std.specs.Ordering.{nat_cmp, match_ordering}
use Rattle.serde_json.specs.Data.{Data, Members, no_members, member, put}
use Rattle.serde_json.specs.View.{items_of}
use Rattle.serde_json.specs.Written.{has_float, items_have_float, members_have_float, compact_text}
use Rattle.cov_analysis.specs.Analyses.{AnalysisView}
use Rattle.cov_analysis.specs.Branches.{Branch}
use Rattle.cov_analysis.specs.declared.numbers.Numbers.{Numbers}
use Rattle.cov_json.specs.Json.{whole, branch, executed_lines, executed_branches, summary, file_value, with_file, report, json_bytes}

lines-none : (all : List ℕ) → items_have_float (items_of (map whole all)) ≡ false
lines-none [] = refl
lines-none (n ∷ all) = lines-none all

branches-none : (all : List Branch) → items_have_float (items_of (map branch all)) ≡ false
branches-none [] = refl
branches-none ((line, pos n) ∷ all) = branches-none all
branches-none ((line, negsuc n) ∷ all) = branches-none all

summary-none : (arcs : Bool) (n : Numbers) → has_float (summary arcs n) ≡ false
summary-none true n = refl
summary-none false n = refl

file-none : (arcs : Bool) (file : AnalysisView) → has_float (file_value arcs file) ≡ false
file-none true file =
    rw (lines-none file.excluded, branches-none (executed_branches file), lines-none (executed_lines file), branches-none file.missing_branches, lines-none file.missing) refl
file-none false file = rw (lines-none file.excluded, lines-none (executed_lines file), lines-none file.missing) refl

none-of : (o : Ordering) (a b c : Members) → members_have_float a ≡ false → members_have_float b ≡ false → members_have_float c ≡ false → members_have_float (match_ordering o a b c) ≡ false
none-of Less a b c x y z = x
none-of Equal a b c x y z = y
none-of Greater a b c x y z = z

neither : (a b : Bool) → (a || b) ≡ false → (a ≡ false) × (b ≡ false)
neither true b h = (h, absurd cc)
neither false b h = (refl, h)

put-none : (key : List ℕ) (value : Data) (members : Members) → has_float value ≡ false → members_have_float members ≡ false → members_have_float (put key value members) ≡ false
put-none key value no_members v m = ap₂ ◌||◌ v refl
put-none key value (member other old rest) v m =
    let parts = neither (has_float old) (members_have_float rest) m in
    none-of (slice_cmp nat_cmp key other) _ _ _ (ap₂ ◌||◌ v m) (ap₂ ◌||◌ v parts.1) (ap₂ ◌||◌ parts.0 (put-none key value rest v parts.1))

files-none : (arcs : Bool) (held : Members) (files : List AnalysisView) → members_have_float held ≡ false → members_have_float (fold (with_file arcs) held files) ≡ false
files-none arcs held [] h = h
files-none arcs held (file ∷ files) h = files-none arcs (with_file arcs held file) files (put-none file.path (file_value arcs file) held (file-none arcs file) h)

report-none : (files : List AnalysisView) (arcs : Bool) → has_float (report files arcs) ≡ false
report-none files arcs = rw (files-none arcs no_members files refl, summary-none arcs) refl

-- the text of a value that is a report
pub text_of : {E : Type 0} (r : Result (String Global) E) (value : Data) (files : List AnalysisView) (arcs : Bool) → value ≡ report files arcs
    → IfOk r (λ text. has_float value ≡ false → string_bytes text ≡ compact_text value) → IfOk r (λ text. string_bytes text ≡ json_bytes files arcs)
text_of (Ok text) value files arcs is h = subst (λ v. has_float v ≡ false → string_bytes text ≡ compact_text v) is h (report-none files arcs)
text_of (Err e) value files arcs is h = tt
