-- The lines of arcs, put together arc by arc and path by path.
use Rattle.std.proofs.Common.{◌≡◌, ℕ, suc, ◌<◌, ◌≤◌, List, ◌++◌, map, drop, length, get_or, ℤ, String, string_bytes, Result, Ok, Err, IfOk, sym, ap, ◌∙◌, append_assoc}
use Rattle.std.specs.Global.{Global}
use Rattle.std.specs.List.{flat_map}
use Rattle.std.specs.declared.alloc.AllocError.{AllocError as NoMemory}
use Rattle.std.proofs.lemmas.List.{append-nil}
use Rattle.std.proofs.Math.ListN.{drop_of_length-le}
use Rattle.std.proofs.Math.Seq.{drop-cons}
use Rattle.cov_data.specs.DataSet.{DataSet}
use Rattle.cov_data.specs.Rows.{arcs_of}
use Rattle.cov_step.specs.Listing.{arc_line, arc_lines}

pub text-is : (r : Result (String Global) NoMemory) (x y : List ℕ) → IfOk r (λ t. string_bytes t ≡ x) → x ≡ y → IfOk r (λ t. string_bytes t ≡ y)
text-is (Ok t) x y h e = h ∙ e
text-is (Err e) x y h is = tt

-- ---- one path

pub lines-on : (path old mid new : List ℕ) (arcs : List (ℤ × ℤ)) (i : ℕ) (d : ℤ × ℤ) (from to : ℤ) → i < length arcs → from ≡ (get_or arcs i d).0 → to ≡ (get_or arcs i d).1 → mid ≡ arc_line path (from, to) → new ≡ old ++ mid
    → old ++ arc_lines path (drop i arcs) ≡ arc_lines path arcs → new ++ arc_lines path (drop (suc i) arcs) ≡ arc_lines path arcs
lines-on path old mid new arcs i d from to h f t m n e =
    ap (λ w. w ++ arc_lines path (drop (suc i) arcs)) (n ∙ ap (λ w. old ++ w) (m ∙ ap (λ x. arc_line path (x, to)) f ∙ ap (λ y. arc_line path ((get_or arcs i d).0, y)) t))
    ∙ append_assoc old (arc_line path (get_or arcs i d)) (arc_lines path (drop (suc i) arcs))
    ∙ ap (λ l. old ++ arc_lines path l) (sym (drop-cons arcs i d h)) ∙ e

pub lines-end : (path : List ℕ) (arcs : List (ℤ × ℤ)) (i : ℕ) (text : List ℕ) → length arcs ≤ i → text ++ arc_lines path (drop i arcs) ≡ arc_lines path arcs → text ≡ arc_lines path arcs
lines-end path arcs i text h e = sym (append-nil text) ∙ ap (λ l. text ++ arc_lines path l) (sym (drop_of_length-le arcs h)) ∙ e

-- ---- all paths

abbrev pub lines_of : DataSet → List ℕ → List ℕ
lines_of d path = arc_lines path (arcs_of d path)

pub listing-step : (rows : DataSet) (paths : List (String Global)) (i : ℕ) (d : String Global) (old new lines : List ℕ) → i < length paths → d ≡ get_or paths i d → lines ≡ lines_of rows (string_bytes d) → new ≡ old ++ lines
    → old ++ flat_map (lines_of rows) (map string_bytes (drop i paths)) ≡ flat_map (lines_of rows) (map string_bytes paths)
    → new ++ flat_map (lines_of rows) (map string_bytes (drop (suc i) paths)) ≡ flat_map (lines_of rows) (map string_bytes paths)
listing-step rows paths i d old new lines h at is more e =
    ap (λ w. w ++ flat_map (lines_of rows) (map string_bytes (drop (suc i) paths))) (more ∙ ap (λ l. old ++ l) (is ∙ ap (λ p. lines_of rows (string_bytes p)) at))
    ∙ append_assoc old (lines_of rows (string_bytes (get_or paths i d))) (flat_map (lines_of rows) (map string_bytes (drop (suc i) paths)))
    ∙ ap (λ ps. old ++ flat_map (lines_of rows) (map string_bytes ps)) (sym (drop-cons paths i d h)) ∙ e

pub listing-end : (rows : DataSet) (paths : List (String Global)) (i : ℕ) (text : List ℕ) → length paths ≤ i → text ++ flat_map (lines_of rows) (map string_bytes (drop i paths)) ≡ flat_map (lines_of rows) (map string_bytes paths)
    → text ≡ flat_map (lines_of rows) (map string_bytes paths)
listing-end rows paths i text h e =
    sym (append-nil text) ∙ ap (λ ps. text ++ flat_map (lines_of rows) (map string_bytes ps)) (sym (drop_of_length-le paths h)) ∙ e
