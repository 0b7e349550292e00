use Rattle.std.proofs.Common.{◌≡◌, ℕ, List, ◌-◌, ◌++◌, ◌∷◌, [], length, take, drop, ap, sym, ◌∙◌, append_assoc, arith}
use Rattle.std.proofs.lemmas.List.{append-nil}
use Rattle.py_text.proofs.characters.part.Goals.{in-None, in-Some+else-ahead-gt0+else-left-gt0}
use Rattle.std.proofs.lemmas.Iterator.{YieldsList-from_chars}
use Rattle.std.proofs.lemmas.Iterator.Consumers.{YieldsList-turn, YieldsList-end}
use Rattle.std.specs.Str.{chars}
use Rattle.py_text.proofs.Walks.{passes, takes, part_done, rest_part}
use Rattle.py_text.proofs.characters.part.Goals as goal

pub loop-c-preserved-then-ahead-gt0 : goal.loop-c-preserved-then-ahead-gt0
loop-c-preserved-then-ahead-gt0 c =
    let t = YieldsList-turn (YieldsList-from_chars c.args.s.now c.utf8.s cc) c.loop-c.yielded _ c.loop-c.yielded_by _ _ c.in-Some.c c.in-Some.is c.next.ensures.steps in
    ap (λ ds. c.loop-c.text ++ ds) (passes (chars c.args.s.now) c.loop-c.yielded c.in-Some.c c.loop-c.left c.loop-c.ahead t (omega arith)) ∙ c.loop-c.invariant

pub loop-c-preserved : goal.loop-c-preserved
loop-c-preserved c =
    let t = YieldsList-turn (YieldsList-from_chars c.args.s.now c.utf8.s cc) c.loop-c.yielded _ c.loop-c.yielded_by _ _ c.in-Some.c c.in-Some.is c.next.ensures.steps in
    ap (λ ds. ds ++ rest_part (c.loop-c.left - 1) c.loop-c.ahead (drop (length (c.loop-c.yielded ++ c.in-Some.c ∷ [])) (chars c.args.s.now))) c.in_ok-push.ensures.ok
    ∙ append_assoc c.loop-c.text (c.in-Some.c ∷ []) _
    ∙ ap (λ ds. c.loop-c.text ++ ds) (takes (chars c.args.s.now) c.loop-c.yielded c.in-Some.c c.loop-c.left c.loop-c.ahead t (omega arith) (omega arith))
    ∙ c.loop-c.invariant

-- where nothing is left to take
whole : (text rest want : List ℕ) → rest ≡ [] → text ++ rest ≡ want → text ≡ want
whole text rest want e h = sym (append-nil text) ∙ ap (λ ds. text ++ ds) (sym e) ∙ h

none_left : (left ahead : ℕ) (ds : List ℕ) → left ≡ 0 → rest_part left ahead ds ≡ []
none_left left ahead ds e = ap (λ k. take k (drop ahead ds)) e

pub returns : goal.returns
returns c = elim c.match-next.branch [
  | in-None w ↦
      let t = YieldsList-end (YieldsList-from_chars c.args.s.now c.utf8.s cc) c.loop-c.yielded _ c.loop-c.yielded_by _ _ w.in-None.is c.next.ensures.steps in
      whole c.loop-c.text _ _ (part_done (chars c.args.s.now) (length c.loop-c.yielded) c.loop-c.left c.loop-c.ahead (omega (arith, t.1))) c.loop-c.invariant
  | in-Some+else-ahead-gt0+else-left-gt0 w ↦
      let e : c.loop-c.left ≡ 0 = omega (arith, w.if-left-gt0.false) in
      whole c.loop-c.text _ _ (none_left c.loop-c.left c.loop-c.ahead (drop (length c.loop-c.yielded) (chars c.args.s.now)) e) c.loop-c.invariant
]
