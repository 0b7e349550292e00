-- The least height of a state, from the heights that the code holds.
use Rattle.std.proofs.Common.{◌≡◌, ℕ, ◌+◌, ◌≤◌, max, pos, Bool, true, false, List, refl, sym, ap, subst, ◌∙◌, arith}
use Rattle.py_syntax.specs.Tree.{Text, c_int, c_str, Pattern, literal, wild, member, p_as, Patterns, no_patterns, patterns}
use Rattle.py_syntax.specs.Kinds.{Kind}
use Rattle.py_syntax.specs.Normal.{pattern_height, pattern_heights}
use Rattle.py_parse_pattern.specs.Machine.{TokenClass, class, is_some, named, Frame, stack, Next, act, step, put, whole, settled, some_name, least}
use Rattle.py_parse_pattern.specs.Heights.{levels, raised, depth, base_outside}
use Rattle.py_parse_pattern.proofs.Least.{put_height, whole_height, closed_height as closed_is, at_least_one, named_height}
use Rattle.py_parse_pattern.proofs.Least.Outside.{base_is, outside, next_outside}
use Rattle.std.specs.Global.{Vec}
use Rattle.py_syntax.specs.Spelling.{HEIGHT}
use Rattle.py_parse_pattern.specs.declared.nodes.Measured.{Measured}
use Rattle.py_parse_pattern.specs.declared.reader.Rows.{Rows}
use Rattle.py_parse_pattern.specs.declared.reader.Reader.{Reader}
use Rattle.py_parse_pattern.specs.declared.reader.Progress.{Progress}
use Rattle.py_parse_pattern.specs.declared.reader.Progress.TheVariants as progress_
use Rattle.py_parse_pattern.specs.declared.reader.Turn.{Turn}
use Rattle.py_parse_pattern.specs.declared.reader.Turn.TheVariants as turn_
use Rattle.py_parse_pattern.specs.Views.{view_measured, view_many}
use Rattle.py_parse_pattern.specs.Rows.{view_frames, view_rows, view_at, view_reader, ValidRows, ValidMeasured, ValidAt, Valid, SLACK, ActsAs, row_height, closed_height, item_height}

-- after a closed pattern
pub whole_needs : (p : Pattern) (is as' : Patterns) (fs : List Frame) → pattern_height (whole p (stack is as' fs)) ≡ max (max (base_outside fs) 1) (max (max (pattern_heights is + depth is fs) (raised as' (depth is fs))) (depth is fs + levels as' + pattern_height p))
whole_needs p is as' fs = let w = whole_height p is as' fs in let b = base_is is fs in let one = at_least_one p in omega arith

-- after an item
pub put_needs : (p : Pattern) (is : Patterns) (fs : List Frame) → pattern_height (put p is fs) ≡ max (max (base_outside fs) 1) (max (pattern_heights is + depth is fs) (depth is fs + pattern_height p))
put_needs p is fs = let w = put_height p is fs in let b = base_is is fs in let one = at_least_one p in omega arith

-- where a pattern begins
pub begin_needs : (is as' : Patterns) (fs : List Frame) → is_some as' ≡ false → pattern_height (settled (stack is as' fs)) ≡ max (max (base_outside fs) 1) (max (pattern_heights is + depth is fs) (raised as' (depth is fs)))
begin_needs is no_patterns fs h = let c = closed_is is fs in let b = base_is is fs in omega arith
begin_needs is (patterns a as') fs h = absurd cc

settled_whole : (is as' : Patterns) (fs : List Frame) → is_some as' ≡ true → settled (stack is as' fs) ≡ whole wild (stack is as' fs)
settled_whole is no_patterns fs h = absurd cc
settled_whole is (patterns a as') fs h = refl

-- the height in the terms of the code
abbrev pub Needs : Rows → ℕ → ℕ → Type 0
Needs rows height own = height ≡ max (max (base_outside (view_frames rows.frames.items)) 1) own

pub needs_closed : (rows : Rows) (p : Pattern) (m n : ℕ) → ValidRows SLACK rows → m ≡ pattern_height p → n ≡ closed_height rows.row m → Needs rows (pattern_height (whole p (view_rows rows))) n
needs_closed rows p m n valid same is =
    let w = whole_needs p (view_many rows.row.items) (view_many rows.row.alternatives) (view_frames rows.frames.items) in
    let items = valid.row.items in
    let deep = valid.row.depth_is in
    let r = ap (raised (view_many rows.row.alternatives)) deep in
    omega arith

pub needs_item : (rows : Rows) (p : Pattern) (m n : ℕ) → ValidRows SLACK rows → m ≡ pattern_height p → n ≡ item_height rows.row m → Needs rows (pattern_height (put p (view_many rows.row.items) (view_frames rows.frames.items))) n
needs_item rows p m n valid same is =
    let w = put_needs p (view_many rows.row.items) (view_frames rows.frames.items) in
    let items = valid.row.items in
    let deep = valid.row.depth_is in
    omega arith

needs_begin : (rows : Rows) (n : ℕ) → ValidRows SLACK rows → is_some (view_many rows.row.alternatives) ≡ false → n ≡ row_height rows.row → Needs rows (pattern_height (settled (view_rows rows))) n
needs_begin rows n valid none is =
    let w = begin_needs (view_many rows.row.items) (view_many rows.row.alternatives) (view_frames rows.frames.items) none in
    let items = valid.row.items in
    let deep = valid.row.depth_is in
    let r = ap (raised (view_many rows.row.alternatives)) deep in
    omega arith

-- one for each form of progress
abbrev AtProgress : Progress → Rows → ℕ → Type 0
AtProgress p rows n = Needs rows (least (view_at p rows)) n

moved : (p q : Progress) (rows : Rows) (n : ℕ) → p ≡ q → AtProgress q rows n → AtProgress p rows n
moved p q rows n same h = subst (λ (x : Progress). AtProgress x rows n) (sym same) h

pub at_want : (r : Reader) (n : ℕ) → r.progress ≡ progress_.Want → Valid SLACK r → is_some (view_many r.rows.row.alternatives) ≡ false → n ≡ row_height r.rows.row → AtProgress r.progress r.rows n
at_want r n at valid none is = moved r.progress progress_.Want r.rows n at (needs_begin r.rows n valid.rows none is)

pub at_again : (r : Reader) (n : ℕ) → r.progress ≡ progress_.Want → Valid SLACK r → is_some (view_many r.rows.row.alternatives) ≡ true → n ≡ closed_height r.rows.row 1 → AtProgress r.progress r.rows n
at_again r n at valid some is = moved r.progress progress_.Want r.rows n at (ap pattern_height (settled_whole (view_many r.rows.row.items) (view_many r.rows.row.alternatives) (view_frames r.rows.frames.items) some) ∙ needs_closed r.rows wild 1 n valid.rows refl is)

pub at_minus : (r : Reader) (n : ℕ) → r.progress ≡ progress_.Minus → Valid SLACK r → n ≡ closed_height r.rows.row 1 → AtProgress r.progress r.rows n
at_minus r n at valid is = moved r.progress progress_.Minus r.rows n at (needs_closed r.rows (literal true (c_int (pos 0))) 1 n valid.rows refl is)

pub at_named : (r : Reader) (x : Text) (n : ℕ) → r.progress ≡ progress_.Named x → Valid SLACK r → n ≡ closed_height r.rows.row 1 → AtProgress r.progress r.rows n
at_named r x n at valid is = moved r.progress (progress_.Named x) r.rows n at (needs_closed r.rows (named x) 1 n valid.rows (sym (named_height x)) is)

pub at_dotted : (r : Reader) (m : Text) (n : ℕ) → r.progress ≡ progress_.Dotted m → Valid SLACK r → n ≡ closed_height r.rows.row 1 → AtProgress r.progress r.rows n
at_dotted r m n at valid is = moved r.progress (progress_.Dotted m) r.rows n at (needs_closed r.rows (member m some_name) 1 n valid.rows refl is)

pub at_strings : (r : Reader) (xs : Vec Text) (n : ℕ) → r.progress ≡ progress_.Strings xs → Valid SLACK r → n ≡ closed_height r.rows.row 1 → AtProgress r.progress r.rows n
at_strings r xs n at valid is = moved r.progress (progress_.Strings xs) r.rows n at (needs_closed r.rows (literal false (c_str xs.items)) 1 n valid.rows refl is)

pub at_have : (r : Reader) (t : Measured) (n : ℕ) → r.progress ≡ progress_.Have t → Valid SLACK r → n ≡ closed_height r.rows.row t.height → AtProgress r.progress r.rows n
at_have r t n at valid is = moved r.progress (progress_.Have t) r.rows n at (let k = subst (ValidAt SLACK) at valid.at in needs_closed r.rows (view_measured t) t.height n valid.rows k.is is)

pub at_naming : (r : Reader) (t : Measured) (n : ℕ) → r.progress ≡ progress_.Naming t → Valid SLACK r → n ≡ item_height r.rows.row (t.height + 1) → AtProgress r.progress r.rows n
at_naming r t n at valid is = moved r.progress (progress_.Naming t) r.rows n at (let k = subst (ValidAt SLACK) at valid.at in let same = k.is in needs_item r.rows (p_as (view_measured t) some_name) (t.height + 1) n valid.rows (omega arith) is)

pub at_item : (r : Reader) (t : Measured) (n : ℕ) → r.progress ≡ progress_.Item t → Valid SLACK r → n ≡ item_height r.rows.row t.height → AtProgress r.progress r.rows n
at_item r t n at valid is = moved r.progress (progress_.Item t) r.rows n at (let k = subst (ValidAt SLACK) at valid.at in needs_item r.rows (view_measured t) t.height n valid.rows k.is is)

-- ---- a step within the limit

outside_at : (p : Progress) (rows : Rows) → outside (view_at p rows) ≡ base_outside (view_frames rows.frames.items)
outside_at progress_.Want rows = refl
outside_at progress_.Minus rows = refl
outside_at (progress_.Named x) rows = refl
outside_at (progress_.Dotted m) rows = refl
outside_at (progress_.Strings xs) rows = refl
outside_at (progress_.Have t) rows = refl
outside_at (progress_.Naming t) rows = refl
outside_at (progress_.Item t) rows = refl

tight_row : (rows : Rows) → ValidRows SLACK rows → rows.row.items.height + rows.row.depth ≤ HEIGHT → ValidRows HEIGHT rows
tight_row rows k low =
    let alternatives = k.row.low_alternatives in
    record { row = record { items = k.row.items; alternatives = k.row.alternatives; depth_is = k.row.depth_is; low_items = omega arith; low_alternatives = alternatives; shallow = omega arith }; frames = k.frames }

closed_tight : (p : Pattern) (rows : Rows) → ValidRows SLACK rows → pattern_height (whole p (view_rows rows)) ≤ HEIGHT → (ValidRows HEIGHT rows) × (pattern_height p ≤ HEIGHT)
closed_tight p rows k low =
    let w = whole_needs p (view_many rows.row.items) (view_many rows.row.alternatives) (view_frames rows.frames.items) in
    let items = k.row.items in
    let deep = k.row.depth_is in
    (tight_row rows k (omega arith), omega arith)

item_tight : (p : Pattern) (rows : Rows) → ValidRows SLACK rows → pattern_height (put p (view_many rows.row.items) (view_frames rows.frames.items)) ≤ HEIGHT → (ValidRows HEIGHT rows) × (pattern_height p ≤ HEIGHT)
item_tight p rows k low =
    let w = put_needs p (view_many rows.row.items) (view_frames rows.frames.items) in
    let items = k.row.items in
    let deep = k.row.depth_is in
    (tight_row rows k (omega arith), omega arith)

want_tight : (rows : Rows) → ValidRows SLACK rows → pattern_height (settled (view_rows rows)) ≤ HEIGHT → ValidRows HEIGHT rows
want_tight rows k low = go (is_some (view_many rows.row.alternatives)) refl
  where
    go : (b : Bool) → is_some (view_many rows.row.alternatives) ≡ b → ValidRows HEIGHT rows
    go false none =
        let w = needs_begin rows (row_height rows.row) k none refl in
        tight_row rows k (omega arith)
    go true some =
        let same = ap pattern_height (settled_whole (view_many rows.row.items) (view_many rows.row.alternatives) (view_frames rows.frames.items) some) in
        (closed_tight wild rows k (omega arith)).0

tight_measured : (t : Measured) → ValidMeasured SLACK t → pattern_height (view_measured t) ≤ HEIGHT → ValidMeasured HEIGHT t
tight_measured t k low = let is = k.is in record { is = k.is; low = omega arith }

tight_at : (p : Progress) (rows : Rows) → ValidRows SLACK rows → ValidAt SLACK p → least (view_at p rows) ≤ HEIGHT → (ValidRows HEIGHT rows) × ValidAt HEIGHT p
tight_at progress_.Want rows k at low = (want_tight rows k low, tt)
tight_at progress_.Minus rows k at low = ((closed_tight (literal true (c_int (pos 0))) rows k low).0, tt)
tight_at (progress_.Named x) rows k at low = ((closed_tight (named x) rows k low).0, tt)
tight_at (progress_.Dotted m) rows k at low = ((closed_tight (member m some_name) rows k low).0, tt)
tight_at (progress_.Strings xs) rows k at low = ((closed_tight (literal false (c_str xs.items)) rows k low).0, tt)
tight_at (progress_.Have t) rows k at low = let c = closed_tight (view_measured t) rows k low in (c.0, tight_measured t at c.1)
tight_at (progress_.Naming t) rows k at low = let c = item_tight (p_as (view_measured t) some_name) rows k low in let h = c.1 in (c.0, tight_measured t at (omega arith))
tight_at (progress_.Item t) rows k at low = let c = item_tight (view_measured t) rows k low in (c.0, tight_measured t at c.1)

tighten : (r : Reader) → Valid SLACK r → least (view_reader r) ≤ HEIGHT → Valid HEIGHT r
tighten r k low = let t = tight_at r.progress r.rows k.rows k.at low in record { rows = t.0; at = t.1 }

-- a step that stays within the limit
pub stays : (r n : Reader) (t : Kind) (c : TokenClass) (turn : Turn) (height : ℕ) → least (view_reader r) ≤ HEIGHT → c ≡ class t → turn ≡ turn_.Next n → ActsAs (act (view_reader r) c) turn → least (view_reader n) ≡ max (max (base_outside (view_frames n.rows.frames.items)) 1) height → height ≤ HEIGHT → (step (view_reader r) t ≡ Next (view_reader n)) × Valid HEIGHT n × (least (view_reader n) ≤ HEIGHT)
stays r n t c turn height low says is acts height_is fits =
    let a = subst (ActsAs (act (view_reader r) c)) is acts in
    let steps : step (view_reader r) t ≡ Next (view_reader n) = ap (act (view_reader r)) (sym says) ∙ a.0 in
    let out = next_outside (view_reader r) (view_reader n) (class t) steps in
    let o = outside_at n.progress n.rows in
    let le : least (view_reader n) ≤ HEIGHT = omega arith in
    (steps, tighten n a.1 le, le)
