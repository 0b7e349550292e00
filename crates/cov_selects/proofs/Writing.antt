-- The lines of a selection, put together name by name.
use Rattle.std.proofs.Common.{◌≡◌, ℕ, suc, ◌<◌, ◌≤◌, List, ◌++◌, map, drop, length, get_or, codes, String, string_bytes, sym, ap, ◌∙◌, append_assoc}
use Rattle.std.specs.Global.{Global}
use Rattle.std.specs.List.{flat_map}
use Rattle.std.proofs.lemmas.List.{append-nil}
use Rattle.std.proofs.lemmas.Str.{IsUtf8-string_bytes, encodes-chars}
use Rattle.std.proofs.Math.ListN.{drop_of_length-le}
use Rattle.std.proofs.Math.Seq.{drop-cons}
use Rattle.cov_step.specs.Selecting.{name_line}
use Rattle.cov_selects.specs.Views.{name_view}

-- the lines of names
abbrev pub lines_of : List (String Global) → List ℕ
lines_of names = flat_map name_line (map name_view names)

line-is : (name : String Global) → string_bytes name ++ codes "\n" ≡ name_line (name_view name)
line-is name = ap (λ bytes. bytes ++ codes "\n") (sym (encodes-chars (string_bytes name) (IsUtf8-string_bytes name)))

pub names-step : (names : List (String Global)) (i : ℕ) (d : String Global) (old line new : List ℕ) → i < length names → d ≡ get_or names i d → line ≡ string_bytes d ++ codes "\n" → new ≡ old ++ line
    → old ++ lines_of (drop i names) ≡ lines_of names → new ++ lines_of (drop (suc i) names) ≡ lines_of names
names-step names i d old line new h at is more e =
    ap (λ w. w ++ lines_of (drop (suc i) names)) (more ∙ ap (λ l. old ++ l) (is ∙ line-is d ∙ ap (λ n. name_line (name_view n)) at))
    ∙ append_assoc old (name_line (name_view (get_or names i d))) (lines_of (drop (suc i) names))
    ∙ ap (λ ns. old ++ lines_of ns) (sym (drop-cons names i d h)) ∙ e

pub names-end : (names : List (String Global)) (i : ℕ) (text : List ℕ) → length names ≤ i → text ++ lines_of (drop i names) ≡ lines_of names → text ≡ lines_of names
names-end names i text h e = sym (append-nil text) ∙ ap (λ ns. text ++ lines_of ns) (sym (drop_of_length-le names h)) ∙ e
