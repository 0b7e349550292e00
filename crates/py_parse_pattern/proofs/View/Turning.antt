-- What the open rows keep, as the code holds them.
use Rattle.std.proofs.Common.{◌≡◌, ℕ, suc, ◌+◌, ◌≤◌, max, List, [], ◌∷◌, ◌++◌, length, refl, sym, ap, subst, ◌∙◌, arith}
use Rattle.py_syntax.specs.Tree.{Pattern, Patterns, no_patterns, patterns}
use Rattle.py_syntax.specs.Normal.{pattern_height, pattern_heights}
use Rattle.py_parse_pattern.specs.declared.token_classes.Bracket.{Bracket}
use Rattle.py_parse_pattern.specs.Machine.{snoc, joined, enclosed, Frame, frame}
use Rattle.std.proofs.Common.{map, reverse}
use Rattle.std.proofs.lemmas.List.{reverse-append}
use Rattle.py_syntax.specs.Spelling.{HEIGHT}
use Rattle.py_parse_pattern.specs.Heights.{levels, over, depth}
use Rattle.py_parse_pattern.specs.declared.nodes.Measured.{Measured}
use Rattle.py_parse_pattern.specs.declared.nodes.Many.{Many}
use Rattle.py_parse_pattern.specs.declared.reader.Row as code_row
use Rattle.py_parse_pattern.specs.declared.reader.Frame as code_frame
use Rattle.py_parse_pattern.specs.declared.reader.Rows.{Rows}
use Rattle.py_parse_pattern.specs.Views.{view_measured, view_many, AreMeasured, Makes}
use Rattle.py_parse_pattern.specs.Rows.{view_frame, view_frames, ValidRow, ValidRows, ValidMeasured, SLACK, depth_after}
use Rattle.py_parse_pattern.proofs.View.Built.{pushed_height}
use Rattle.py_parse_pattern.proofs.Least.{joined_height, enclosed_height, levels_snoc}

loosen_row : (r : code_row.Row) (fs : List Frame) → ValidRow HEIGHT r fs → ValidRow SLACK r fs
loosen_row r fs k =
    let one = k.low_items in
    let two = k.low_alternatives in
    let three = k.shallow in
    record { items = k.items; alternatives = k.alternatives; depth_is = k.depth_is; low_items = omega arith; low_alternatives = omega arith; shallow = omega arith }

-- after an alternative and its bar
pub bar_rows : (rows : Rows) (new : Many) (t : Measured) → ValidRows HEIGHT rows → ValidMeasured HEIGHT t → view_many new ≡ snoc (view_many rows.row.alternatives) (view_measured t) → new.height ≡ max rows.row.alternatives.height t.height → ValidRows SLACK (record { row = record { items = rows.row.items; alternatives = new; depth = rows.row.depth }; frames = rows.frames })
bar_rows rows new t valid measured same height =
    let row = loosen_row rows.row (view_frames rows.frames.items) valid.row in
    let low = valid.row.low_alternatives in
    let low' = measured.low in
    record {
      row = record { items = row.items; alternatives = pushed_height rows.row.alternatives new t valid.row.alternatives measured.is same height; depth_is = row.depth_is; low_items = row.low_items; low_alternatives = omega arith; shallow = row.shallow };
      frames = valid.frames;
    }

deep_after : (fs : List code_frame.Frame) (is : Patterns) (p : Pattern) (d : ℕ) → d ≡ depth is (view_frames fs) → depth_after fs d ≡ depth (snoc is p) (view_frames fs)
deep_after [] is p d h = sym (levels_snoc is p)
deep_after (f ∷ fs) is p d h = go (view_frames (f ∷ fs)) refl h
  where
    none : view_frames (f ∷ fs) ≡ [] → ⊥
    none h = let e = ap length (sym (ap (map view_frame) (reverse-append (f ∷ []) fs)) ∙ h) in some (reverse fs) e
      where
        some : (gs : List code_frame.Frame) → length (map view_frame (gs ++ f ∷ [])) ≡ 0 → ⊥
        some [] h = absurd (omega arith)
        some (g ∷ gs) h = absurd (omega arith)

    go : (fs' : List Frame) → view_frames (f ∷ fs) ≡ fs' → d ≡ depth is fs' → d ≡ depth (snoc is p) fs'
    go [] is-nil h = absurd (none is-nil)
    go (frame b js bs ∷ fs') is-some h = h

-- after an item and its comma
pub item_rows : (rows : Rows) (new none : Many) (t : Measured) (d : ℕ) → ValidRows HEIGHT rows → ValidMeasured (HEIGHT + 2) t → view_many new ≡ snoc (view_many rows.row.items) (view_measured t) → new.height ≡ max rows.row.items.height t.height → view_many none ≡ no_patterns → none.height ≡ 0 → d ≡ depth_after rows.frames.items rows.row.depth → ValidRows SLACK (record { row = record { items = new; alternatives = none; depth = d }; frames = rows.frames })
item_rows rows new none t d valid measured same height empty zero deep =
    let low = valid.row.low_items in
    let low' = measured.low in
    let shallow = valid.row.shallow in
    let e = ap pattern_heights empty in
    let deeper = deep_after rows.frames.items (view_many rows.row.items) (view_measured t) rows.row.depth valid.row.depth_is in
    record {
      row = record {
        items = pushed_height rows.row.items new t valid.row.items measured.is same height;
        alternatives = omega arith;
        depth_is = deep ∙ deeper ∙ ap (λ (x : Patterns). depth x (view_frames rows.frames.items)) (sym same);
        low_items = omega arith;
        low_alternatives = omega arith;
        shallow = low_after rows.frames.items rows.row.depth d deep (omega arith);
      };
      frames = valid.frames;
    }
  where
    low_after : (fs : List code_frame.Frame) (n d : ℕ) → d ≡ depth_after fs n → n ≤ HEIGHT → d ≤ SLACK
    low_after [] n d h le = omega arith
    low_after (f ∷ fs) n d h le = omega arith

made : (p : Pattern) (t : Measured) (n : ℕ) → Makes p t → pattern_height p ≤ n → ValidMeasured n t
made p t n m low = let h = m.height in let e = ap pattern_height m.is in record { is = omega arith; low = omega arith }

over_few : (ps : Patterns) → over ps ≤ suc (pattern_heights ps)
over_few no_patterns = omega arith
over_few (patterns p ps) = omega arith

few_levels : (ps : Patterns) → levels ps ≤ 1
few_levels no_patterns = omega arith
few_levels (patterns p ps) = omega arith

pub joined_valid : (n : ℕ) (m' m : Many) (t r : Measured) → HEIGHT + 1 ≤ n → m' ≡ m → AreMeasured m → m.height ≤ HEIGHT → ValidMeasured HEIGHT t → Makes (joined (view_many m') (view_measured t)) r → ValidMeasured n r
joined_valid n m' m t r le same are low measured makes =
    let j = joined_height (view_many m) (view_measured t) in
    let o = over_few (view_many m) in
    let l = few_levels (view_many m) in
    let is = measured.is in
    let low' = measured.low in
    made (joined (view_many m) (view_measured t)) r n (subst (λ (x : Many). Makes (joined (view_many x) (view_measured t)) r) same makes) (omega arith)

pub enclosed_valid : (b : Bracket) (m : Many) (t r : Measured) → AreMeasured m → m.height ≤ HEIGHT → ValidMeasured (HEIGHT + 2) t → Makes (enclosed b (view_many m) (view_measured t)) r → ValidMeasured SLACK r
enclosed_valid b m t r are low measured makes =
    let j = enclosed_height b (view_many m) (view_measured t) in
    let is = measured.is in
    let low' = measured.low in
    made (enclosed b (view_many m) (view_measured t)) r SLACK makes (omega arith)
