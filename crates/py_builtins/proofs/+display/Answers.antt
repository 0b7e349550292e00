use Rattle.std.proofs.lemmas.Grind.{common_steps}
use Rattle.std.proofs.Common.{Ok, get_or, ap, sym, ◌∙◌, arith, codes}
use Rattle.std.proofs.lemmas.Option.{slice_get-get_or}
use Rattle.py_value.specs.declared.cause.Cause.TheVariants.{TooDeep}
use Rattle.py_value.specs.Heaps.{dict_pairs, object_at}
use Rattle.py_value.specs.HeapView.{plain_heap}
use Rattle.py_value.specs.Plain.{none_value}
use Rattle.py_value.specs.View.{plain, plains}
use Rattle.py_builtins.specs.declared.writer.Stop.TheVariants.{Raises}
use Rattle.py_builtins.specs.Displays.{has, separated, display_step, pair_display, kind_name, argument_display}
use Rattle.py_builtins.specs.Texts.{display_within}
use Rattle.py_builtins.specs.Writing.{whole, ◌▸◌}
use Rattle.py_builtins.proofs.Pieces.{written_same, settles_same, stopped, stopped_then, wrote_then, too_deep, item_written, stops_at_separator, stops_at_item}
use Rattle.py_builtins.proofs.Values.{display_none, display_more, list_entered, dict_entered, item_at, some_item, key_of_pair, value_of_pair}
use Rattle.py_builtins.proofs.+display.Goals as goal

pub displays::display-returns-then-levels-eq0-clause-written : goal.displays::display-returns-then-levels-eq0-clause-written
displays::display-returns-then-levels-eq0-clause-written t c =
    settles_same (Raises TooDeep) _ _ (ap (λ w. whole c.args.out.now.text ▸ w) (display_none c.args.levels (plain_heap c.args.heap.now) c.args.inside.now.items (plain c.args.value.now) c.if-levels-eq0.true))
    (too_deep c.args.out.now.text c.args.out.now.within_limit)

pub displays::display-returns-clause-written : goal.displays::display-returns-clause-written
displays::display-returns-clause-written t c =
    written_same c.display_inside.result c.args.out.now.text c.display_inside.new.out.text _ _
    (display_more c.args.levels (plain_heap c.args.heap.now) c.args.inside.now.items (plain c.args.value.now) c.if-levels-eq0.false) c.display_inside.ensures.written

pub displays::display_exception-returns-in_err-push_word-clause-written : goal.displays::display_exception-returns-in_err-push_word-clause-written
displays::display_exception-returns-in_err-push_word-clause-written t c =
    let name = whole (kind_name c.args.kind) in
    let inner = argument_display (display_within c.args.levels (plain_heap c.args.heap.now) c.args.inside.now.items) c.args.arg.now in
    stopped_then c.from_residual.result c.in_err-push_word.field-0.0 c.args.out.now.text c.push_word.new.self.text name (whole (codes "(") ▸ (inner ▸ whole (codes ")"))) c.from_residual.ensures.1
    (settles_same c.in_err-push_word.field-0.0 _ _ (ap (λ s. whole c.args.out.now.text ▸ whole s) c.kind_name.ensures) c.in_err-push_word.ensures)

pub displays::display_exception-returns-in_err-push_word-2-clause-written : goal.displays::display_exception-returns-in_err-push_word-2-clause-written
displays::display_exception-returns-in_err-push_word-2-clause-written t c =
    let name = whole (kind_name c.args.kind) in
    let inner = argument_display (display_within c.args.levels (plain_heap c.args.heap.now) c.args.inside.now.items) c.args.arg.now in
    let r = c.from_residual-in_err-push_word-2.result in
    wrote_then r c.args.out.now.text c.push_word.new.self.text c.push_word-2.new.self.text name (whole (codes "(") ▸ (inner ▸ whole (codes ")")))
    (ap (λ s. whole c.args.out.now.text ▸ whole s) (sym c.kind_name.ensures) ∙ c.in_ok-push_word.ensures)
    (stopped_then r c.in_err-push_word-2.field-0.0 c.push_word.new.self.text c.push_word-2.new.self.text (whole (codes "(")) (inner ▸ whole (codes ")")) c.from_residual-in_err-push_word-2.ensures.1 c.in_err-push_word-2.ensures)

pub displays::display_exception-returns-in_err-display_argument-clause-written : goal.displays::display_exception-returns-in_err-display_argument-clause-written
displays::display_exception-returns-in_err-display_argument-clause-written t c =
    let name = whole (kind_name c.args.kind) in
    let inner = argument_display (display_within c.args.levels (plain_heap c.args.heap.now) c.args.inside.now.items) c.args.arg.now in
    let r = c.from_residual-in_err-display_argument.result in
    wrote_then r c.args.out.now.text c.push_word.new.self.text c.display_argument.new.out.text name (whole (codes "(") ▸ (inner ▸ whole (codes ")")))
    (ap (λ s. whole c.args.out.now.text ▸ whole s) (sym c.kind_name.ensures) ∙ c.in_ok-push_word.ensures)
    (wrote_then r c.push_word.new.self.text c.push_word-2.new.self.text c.display_argument.new.out.text (whole (codes "(")) (inner ▸ whole (codes ")")) c.in_ok-push_word-2.ensures
    (stopped_then r c.in_err-display_argument.field-0.0 c.push_word-2.new.self.text c.display_argument.new.out.text inner (whole (codes ")")) c.from_residual-in_err-display_argument.ensures.1 c.in_err-display_argument.ensures.written))

pub displays::display_exception-returns-clause-written : goal.displays::display_exception-returns-clause-written
displays::display_exception-returns-clause-written t c =
    let name = whole (kind_name c.args.kind) in
    let inner = argument_display (display_within c.args.levels (plain_heap c.args.heap.now) c.args.inside.now.items) c.args.arg.now in
    let r = c.push_word-3.result in
    wrote_then r c.args.out.now.text c.push_word.new.self.text c.push_word-3.new.self.text name (whole (codes "(") ▸ (inner ▸ whole (codes ")")))
    (ap (λ s. whole c.args.out.now.text ▸ whole s) (sym c.kind_name.ensures) ∙ c.in_ok-push_word.ensures)
    (wrote_then r c.push_word.new.self.text c.push_word-2.new.self.text c.push_word-3.new.self.text (whole (codes "(")) (inner ▸ whole (codes ")")) c.in_ok-push_word-2.ensures
    (wrote_then r c.push_word-2.new.self.text c.display_argument.new.out.text c.push_word-3.new.self.text inner (whole (codes ")")) c.in_ok-display_argument.ensures.written c.push_word-3.ensures))

pub displays::display_inside-returns-in-Func-clause-written : goal.displays::display_inside-returns-in-Func-clause-written
displays::display_inside-returns-in-Func-clause-written t c =
    written_same c.push_word-in-Func.result c.args.out.now.text c.push_word-in-Func.new.self.text (whole (codes "<function>")) _
    (sym (ap (display_step (display_within c.args.levels (plain_heap c.args.heap.now)) (plain_heap c.args.heap.now) c.args.inside.now.items) (ap plain c.in-Func.is))) c.push_word-in-Func.ensures

pub displays::display_items-returns-in_err-separate-clause-written : goal.displays::display_items-returns-in_err-separate-clause-written
displays::display_items-returns-in_err-separate-clause-written t c =
    let h = plain_heap c.args.heap.now in
    let show = display_within c.args.levels h c.args.inside.now.items in
    let vs = plains c.args.items.now in
    let all = whole c.args.out.now.text ▸ separated show vs in
    stopped c.from_residual.result c.in_err-separate.field-0.0 c.args.out.now.text c.separate.new.self.text (separated show vs) c.from_residual.ensures.1
    (stops_at_separator show vs c.loop-i.i (get_or vs c.loop-i.i none_value) all c.loop-i.out.text c.in_err-separate.field-0.0 (some_item c.args.items.now c.loop-i.i c.loop-i-test.true)
    c.loop-i.invariant.written c.in_err-separate.ensures)

pub displays::display_items-returns-in_err-display-clause-written : goal.displays::display_items-returns-in_err-display-clause-written
displays::display_items-returns-in_err-display-clause-written t c =
    let h = plain_heap c.args.heap.now in
    let show = display_within c.args.levels h c.args.inside.now.items in
    let vs = plains c.args.items.now in
    let all = whole c.args.out.now.text ▸ separated show vs in
    let x = c.index-items-i.result in
    stopped c.from_residual-in_err-display.result c.in_err-display.field-0.0 c.args.out.now.text c.display.new.out.text (separated show vs) c.from_residual-in_err-display.ensures.1
    (stops_at_item show vs c.loop-i.i (plain x) all c.loop-i.out.text c.separate.new.self.text c.in_err-display.field-0.0 (item_at c.args.items.now c.loop-i.i x c.loop-i-test.true c.index-items-i.is)
    c.loop-i.invariant.written c.in_ok-separate.ensures
    (settles_same c.in_err-display.field-0.0 _ _ (ap (λ is. whole c.separate.new.self.text ▸ display_within c.args.levels h is (plain x)) c.loop-i.invariant.inside) c.in_err-display.ensures.written))

pub displays::display_items-loop-i-preserved : goal.displays::display_items-loop-i-preserved
displays::display_items-loop-i-preserved t c =
    let h = plain_heap c.args.heap.now in
    let show = display_within c.args.levels h c.args.inside.now.items in
    let vs = plains c.args.items.now in
    let all = whole c.args.out.now.text ▸ separated show vs in
    let x = c.index-items-i.result in
    record {
      inside = c.in_ok-display.ensures.inside ∙ c.loop-i.invariant.inside;
      written =
          item_written show vs c.loop-i.i (plain x) all c.loop-i.out.text c.separate.new.self.text c.display.new.out.text (item_at c.args.items.now c.loop-i.i x c.loop-i-test.true c.index-items-i.is)
          c.loop-i.invariant.written c.in_ok-separate.ensures
          (ap (λ is. whole c.separate.new.self.text ▸ display_within c.args.levels h is (plain x)) (sym c.loop-i.invariant.inside) ∙ c.in_ok-display.ensures.written);
    }

pub displays::display_list-returns-in_err-display_between-clause-written : goal.displays::display_list-returns-in_err-display_between-clause-written
displays::display_list-returns-in_err-display_between-clause-written t c =
    let outside = ap (has c.args.list.place) (sym c.deref.ensures.value) ∙ sym c.is_among.ensures ∙ c.if-is_among.false in
    let r = c.from_residual-in_err-display_between.result in
    list_entered r c.args.out.now.text c.display_between.new.out.text c.args.levels (plain_heap c.args.heap.now) c.args.inside.now.items c.push.new.self.items c.args.list.place _ outside c.in_ok-push.ensures.items c.items.ensures
    (stopped r c.in_err-display_between.field-0.0 c.args.out.now.text c.display_between.new.out.text _ c.from_residual-in_err-display_between.ensures.1 c.in_err-display_between.ensures.written)

pub displays::display_list-returns-clause-written : goal.displays::display_list-returns-clause-written
displays::display_list-returns-clause-written t c =
    let outside = ap (has c.args.list.place) (sym c.deref.ensures.value) ∙ sym c.is_among.ensures ∙ c.if-is_among.false in
    list_entered (Ok tt) c.args.out.now.text c.display_between.new.out.text c.args.levels (plain_heap c.args.heap.now) c.args.inside.now.items c.push.new.self.items c.args.list.place _ outside c.in_ok-push.ensures.items c.items.ensures
    c.in_ok-display_between.ensures.written

pub displays::display_between-returns-in_err-push_word-clause-written : goal.displays::display_between-returns-in_err-push_word-clause-written
displays::display_between-returns-in_err-push_word-clause-written t c =
    let inner = separated (display_within c.args.levels (plain_heap c.args.heap.now) c.args.inside.now.items) (plains c.args.items.now) in
    stopped_then c.from_residual.result c.in_err-push_word.field-0.0 c.args.out.now.text c.push_word.new.self.text (whole c.args.opening.now) (inner ▸ whole c.args.closing.now) c.from_residual.ensures.1 c.in_err-push_word.ensures

pub displays::display_between-returns-in_err-display_items-clause-written : goal.displays::display_between-returns-in_err-display_items-clause-written
displays::display_between-returns-in_err-display_items-clause-written t c =
    let inner = separated (display_within c.args.levels (plain_heap c.args.heap.now) c.args.inside.now.items) (plains c.args.items.now) in
    let r = c.from_residual-in_err-display_items.result in
    wrote_then r c.args.out.now.text c.push_word.new.self.text c.display_items.new.out.text (whole c.args.opening.now) (inner ▸ whole c.args.closing.now) c.in_ok-push_word.ensures
    (stopped_then r c.in_err-display_items.field-0.0 c.push_word.new.self.text c.display_items.new.out.text inner (whole c.args.closing.now) c.from_residual-in_err-display_items.ensures.1 c.in_err-display_items.ensures.written)

pub displays::display_between-returns-clause-written : goal.displays::display_between-returns-clause-written
displays::display_between-returns-clause-written t c =
    let inner = separated (display_within c.args.levels (plain_heap c.args.heap.now) c.args.inside.now.items) (plains c.args.items.now) in
    let r = c.push_word-2.result in
    wrote_then r c.args.out.now.text c.push_word.new.self.text c.push_word-2.new.self.text (whole c.args.opening.now) (inner ▸ whole c.args.closing.now) c.in_ok-push_word.ensures
    (wrote_then r c.push_word.new.self.text c.display_items.new.out.text c.push_word-2.new.self.text inner (whole c.args.closing.now) c.in_ok-display_items.ensures.written c.push_word-2.ensures)

pub pairs::display_dict-returns-in_err-push_word-clause-written : goal.pairs::display_dict-returns-in_err-push_word-clause-written
pairs::display_dict-returns-in_err-push_word-clause-written t c =
    let h = plain_heap c.args.heap.now in
    let outside = ap (has c.args.dict.place) (sym c.deref.ensures.value) ∙ sym c.is_among.ensures ∙ c.if-is_among.false in
    let inner = separated (pair_display (display_within c.args.levels h c.push.new.self.items)) (dict_pairs h c.args.dict.place) in
    let r = c.from_residual-in_err-push_word.result in
    dict_entered r c.args.out.now.text c.push_word-2.new.self.text c.args.levels h c.args.inside.now.items c.push.new.self.items c.args.dict.place outside c.in_ok-push.ensures.items
    (stopped_then r c.in_err-push_word.field-0.0 c.args.out.now.text c.push_word-2.new.self.text (whole (codes "{")) (inner ▸ whole (codes "}")) c.from_residual-in_err-push_word.ensures.1 c.in_err-push_word.ensures)

pub pairs::display_dict-returns-in_err-display_pairs-clause-written : goal.pairs::display_dict-returns-in_err-display_pairs-clause-written
pairs::display_dict-returns-in_err-display_pairs-clause-written t c =
    let h = plain_heap c.args.heap.now in
    let outside = ap (has c.args.dict.place) (sym c.deref.ensures.value) ∙ sym c.is_among.ensures ∙ c.if-is_among.false in
    let inner = separated (pair_display (display_within c.args.levels h c.push.new.self.items)) (dict_pairs h c.args.dict.place) in
    let r = c.from_residual-in_err-display_pairs.result in
    dict_entered r c.args.out.now.text c.display_pairs.new.out.text c.args.levels h c.args.inside.now.items c.push.new.self.items c.args.dict.place outside c.in_ok-push.ensures.items
    (wrote_then r c.args.out.now.text c.push_word-2.new.self.text c.display_pairs.new.out.text (whole (codes "{")) (inner ▸ whole (codes "}")) c.in_ok-push_word.ensures
    (stopped_then r c.in_err-display_pairs.field-0.0 c.push_word-2.new.self.text c.display_pairs.new.out.text inner (whole (codes "}")) c.from_residual-in_err-display_pairs.ensures.1 c.in_err-display_pairs.ensures.written))

pub pairs::display_dict-returns-in_err-push_word-2-clause-written : goal.pairs::display_dict-returns-in_err-push_word-2-clause-written
pairs::display_dict-returns-in_err-push_word-2-clause-written t c =
    let h = plain_heap c.args.heap.now in
    let outside = ap (has c.args.dict.place) (sym c.deref.ensures.value) ∙ sym c.is_among.ensures ∙ c.if-is_among.false in
    let inner = separated (pair_display (display_within c.args.levels h c.push.new.self.items)) (dict_pairs h c.args.dict.place) in
    let r = c.from_residual-in_err-push_word-2.result in
    dict_entered r c.args.out.now.text c.push_word-3.new.self.text c.args.levels h c.args.inside.now.items c.push.new.self.items c.args.dict.place outside c.in_ok-push.ensures.items
    (wrote_then r c.args.out.now.text c.push_word-2.new.self.text c.push_word-3.new.self.text (whole (codes "{")) (inner ▸ whole (codes "}")) c.in_ok-push_word.ensures
    (wrote_then r c.push_word-2.new.self.text c.display_pairs.new.out.text c.push_word-3.new.self.text inner (whole (codes "}")) c.in_ok-display_pairs.ensures.written
    (stopped r c.in_err-push_word-2.field-0.0 c.display_pairs.new.out.text c.push_word-3.new.self.text (whole (codes "}")) c.from_residual-in_err-push_word-2.ensures.1 c.in_err-push_word-2.ensures)))

pub pairs::display_dict-returns-clause-written : goal.pairs::display_dict-returns-clause-written
pairs::display_dict-returns-clause-written t c =
    let h = plain_heap c.args.heap.now in
    let outside = ap (has c.args.dict.place) (sym c.deref.ensures.value) ∙ sym c.is_among.ensures ∙ c.if-is_among.false in
    let inner = separated (pair_display (display_within c.args.levels h c.push.new.self.items)) (dict_pairs h c.args.dict.place) in
    dict_entered (Ok tt) c.args.out.now.text c.push_word-3.new.self.text c.args.levels h c.args.inside.now.items c.push.new.self.items c.args.dict.place outside c.in_ok-push.ensures.items
    (wrote_then (Ok tt) c.args.out.now.text c.push_word-2.new.self.text c.push_word-3.new.self.text (whole (codes "{")) (inner ▸ whole (codes "}")) c.in_ok-push_word.ensures
    (wrote_then (Ok tt) c.push_word-2.new.self.text c.display_pairs.new.out.text c.push_word-3.new.self.text inner (whole (codes "}")) c.in_ok-display_pairs.ensures.written c.in_ok-push_word-2.ensures))

pub pairs::display_pair-returns-in_err-display-clause-written : goal.pairs::display_pair-returns-in_err-display-clause-written
pairs::display_pair-returns-in_err-display-clause-written t c =
    λ p got.
    let h = plain_heap c.args.heap.now in
    let show = display_within c.args.levels h c.args.inside.now.items in
    let key = key_of_pair (dict_pairs h c.args.dict.place) c.args.at p (plain c.in_ok-key.key) got c.in_ok-key.ensures in
    stopped_then c.from_residual-in_err-display.result c.in_err-display.field-0.0 c.args.out.now.text c.display.new.out.text (show p.0) (whole (codes ": ") ▸ show p.1) c.from_residual-in_err-display.ensures.1
    (settles_same c.in_err-display.field-0.0 _ _ (ap (λ k. whole c.args.out.now.text ▸ show k) key) c.in_err-display.ensures.written)

pub pairs::display_pair-returns-in_err-push_word-clause-written : goal.pairs::display_pair-returns-in_err-push_word-clause-written
pairs::display_pair-returns-in_err-push_word-clause-written t c =
    λ p got.
    let h = plain_heap c.args.heap.now in
    let show = display_within c.args.levels h c.args.inside.now.items in
    let key = key_of_pair (dict_pairs h c.args.dict.place) c.args.at p (plain c.in_ok-key.key) got c.in_ok-key.ensures in
    let r = c.from_residual-in_err-push_word.result in
    wrote_then r c.args.out.now.text c.display.new.out.text c.push_word.new.self.text (show p.0) (whole (codes ": ") ▸ show p.1) (ap (λ k. whole c.args.out.now.text ▸ show k) (sym key) ∙ c.in_ok-display.ensures.written)
    (stopped_then r c.in_err-push_word.field-0.0 c.display.new.out.text c.push_word.new.self.text (whole (codes ": ")) (show p.1) c.from_residual-in_err-push_word.ensures.1 c.in_err-push_word.ensures)

pub pairs::display_pair-returns-clause-written : goal.pairs::display_pair-returns-clause-written
pairs::display_pair-returns-clause-written t c =
    λ p got.
    let h = plain_heap c.args.heap.now in
    let show = display_within c.args.levels h c.args.inside.now.items in
    let key = key_of_pair (dict_pairs h c.args.dict.place) c.args.at p (plain c.in_ok-key.key) got c.in_ok-key.ensures in
    let value = value_of_pair (object_at h c.args.dict.place) c.args.at p (plain c.item.result.now) got c.item.ensures in
    let r = c.display-2.result in
    wrote_then r c.args.out.now.text c.display.new.out.text c.display-2.new.out.text (show p.0) (whole (codes ": ") ▸ show p.1) (ap (λ k. whole c.args.out.now.text ▸ show k) (sym key) ∙ c.in_ok-display.ensures.written)
    (wrote_then r c.display.new.out.text c.push_word.new.self.text c.display-2.new.out.text (whole (codes ": ")) (show p.1) c.in_ok-push_word.ensures
    (written_same r c.push_word.new.self.text c.display-2.new.out.text _ _ (ap (λ is. display_within c.args.levels h is (plain c.item.result.now)) c.in_ok-display.ensures.inside ∙ ap show value) c.display-2.ensures.written))

pub pairs::display_pairs-returns-in_err-separate-clause-written : goal.pairs::display_pairs-returns-in_err-separate-clause-written
pairs::display_pairs-returns-in_err-separate-clause-written t c =
    let h = plain_heap c.args.heap.now in
    let show = pair_display (display_within c.args.levels h c.args.inside.now.items) in
    let ps = dict_pairs h c.args.dict.place in
    let p = get_or ps c.loop-i.i (none_value, none_value) in
    let got = slice_get-get_or ps c.loop-i.i (none_value, none_value) (omega (arith, c.loop-i-test.true, c.pair_count-i-end.ensures)) in
    let all = whole c.args.out.now.text ▸ separated show ps in
    stopped c.from_residual.result c.in_err-separate.field-0.0 c.args.out.now.text c.separate.new.self.text (separated show ps) c.from_residual.ensures.1
    (stops_at_separator show ps c.loop-i.i p all c.loop-i.out.text c.in_err-separate.field-0.0 got c.loop-i.invariant.written c.in_err-separate.ensures)

pub pairs::display_pairs-returns-in_err-display_pair-clause-written : goal.pairs::display_pairs-returns-in_err-display_pair-clause-written
pairs::display_pairs-returns-in_err-display_pair-clause-written t c =
    let h = plain_heap c.args.heap.now in
    let show = pair_display (display_within c.args.levels h c.args.inside.now.items) in
    let ps = dict_pairs h c.args.dict.place in
    let p = get_or ps c.loop-i.i (none_value, none_value) in
    let got = slice_get-get_or ps c.loop-i.i (none_value, none_value) (omega (arith, c.loop-i-test.true, c.pair_count-i-end.ensures)) in
    let all = whole c.args.out.now.text ▸ separated show ps in
    stopped c.from_residual-in_err-display_pair.result c.in_err-display_pair.field-0.0 c.args.out.now.text c.display_pair.new.out.text (separated show ps) c.from_residual-in_err-display_pair.ensures.1
    (stops_at_item show ps c.loop-i.i p all c.loop-i.out.text c.separate.new.self.text c.in_err-display_pair.field-0.0 got c.loop-i.invariant.written c.in_ok-separate.ensures
    (settles_same c.in_err-display_pair.field-0.0 _ _ (ap (λ is. whole c.separate.new.self.text ▸ pair_display (display_within c.args.levels h is) p) c.loop-i.invariant.inside) (c.in_err-display_pair.ensures.written p got)))

pub pairs::display_pairs-loop-i-preserved : goal.pairs::display_pairs-loop-i-preserved
pairs::display_pairs-loop-i-preserved t c =
    let h = plain_heap c.args.heap.now in
    let show = pair_display (display_within c.args.levels h c.args.inside.now.items) in
    let ps = dict_pairs h c.args.dict.place in
    let p = get_or ps c.loop-i.i (none_value, none_value) in
    let got = slice_get-get_or ps c.loop-i.i (none_value, none_value) (omega (arith, c.loop-i-test.true, c.pair_count-i-end.ensures)) in
    let all = whole c.args.out.now.text ▸ separated show ps in
    record {
      inside = c.in_ok-display_pair.ensures.inside ∙ c.loop-i.invariant.inside;
      written =
          item_written show ps c.loop-i.i p all c.loop-i.out.text c.separate.new.self.text c.display_pair.new.out.text got c.loop-i.invariant.written c.in_ok-separate.ensures
          (ap (λ is. whole c.separate.new.self.text ▸ pair_display (display_within c.args.levels h is) p) (sym c.loop-i.invariant.inside) ∙ c.in_ok-display_pair.ensures.written p got);
    }

pub pairs::display_pairs-returns-clause-written : goal.pairs::display_pairs-returns-clause-written
pairs::display_pairs-returns-clause-written t c = grind (arith, common_steps)

pub pairs::display_dict-returns-clause-inside : goal.pairs::display_dict-returns-clause-inside
pairs::display_dict-returns-clause-inside t c = grind (arith, common_steps)

pub displays::display_list-returns-clause-inside : goal.displays::display_list-returns-clause-inside
displays::display_list-returns-clause-inside t c = grind (arith, common_steps)

pub displays::display_items-returns-clause-written : goal.displays::display_items-returns-clause-written
displays::display_items-returns-clause-written t c = grind (arith, common_steps)
