use Rattle.std.proofs.Common.{◌≡◌, ℕ, ◌-◌, ℤ, ◌+ℤ◌, List, [], ◌∷◌, ◌++◌, true, false, ap, sym, ◌∙◌, rules}
use Rattle.std.proofs.lemmas.Int.{to_z-of_z}
use Rattle.std.proofs.lemmas.List.{map-append}
use mir.Val.{SFits, to_z}
use mir.Syntax.{w64}
use Rattle.py_value.specs.declared.value.Value.TheVariants.{Int}
use Rattle.py_value.specs.Plain.{PlainValue}
use Rattle.py_value.specs.View.{plain, plains}
use Rattle.py_builtins.specs.Builtins.{is_before, numbers_before}
use Rattle.py_builtins.proofs.Steps.{numbers_end, numbers_on, numbers_last, numbers_all}
use Rattle.py_builtins.proofs.ranges.numbers_before.Goals as goal

-- the same for equal numbers
same : (now : List PlainValue) (most turn : ℕ) (B b S s N n F f : ℤ) → B ≡ b → S ≡ s → N ≡ n → F ≡ f → now ++ numbers_before (most - turn) B S N ≡ numbers_before most B S F
    → now ++ numbers_before (most - turn) b s n ≡ numbers_before most b s f
same now most turn B b S s N n F f e g h i w = cc

pub returns-then-not-is_before : goal.returns-then-not-is_before
returns-then-not-is_before c =
    let bound_fits : SFits w64 c.args.bound = search rules in
    let bound = to_z-of_z w64 c.args.bound bound_fits in
    let step_fits : SFits w64 c.args.step = search rules in
    let step = to_z-of_z w64 c.args.step step_fits in
    let from_fits : SFits w64 c.args.from = search rules in
    let from = to_z-of_z w64 c.args.from from_fits in
    let n : to_z w64 c.loop-turn.n-bits ≡ c.loop-turn.n = cc in
    let after : is_before c.args.step c.loop-turn.n c.args.bound ≡ false = search rules in
    numbers_end c.args.most c.loop-turn._turn c.args.bound c.args.step c.loop-turn.n _ _ after (same _ _ _ _ _ _ _ _ _ _ _ bound step n from c.loop-turn.invariant)

pub returns-in-None : goal.returns-in-None
returns-in-None c =
    let bound_fits : SFits w64 c.args.bound = search rules in
    let bound = to_z-of_z w64 c.args.bound bound_fits in
    let step_fits : SFits w64 c.args.step = search rules in
    let step = to_z-of_z w64 c.args.step step_fits in
    let from_fits : SFits w64 c.args.from = search rules in
    let from = to_z-of_z w64 c.args.from from_fits in
    let n : to_z w64 c.loop-turn.n-bits ≡ c.loop-turn.n = cc in
    let before : is_before c.args.step c.loop-turn.n c.args.bound ≡ true = search rules in
    let pushed : c.push.new.self.items ≡ c.loop-turn.numbers.items ++ Int c.loop-turn.n ∷ [] = search rules in
    let after : is_before c.args.step (c.loop-turn.n +ℤ c.args.step) c.args.bound ≡ false = search rules in
    numbers_last c.args.most c.loop-turn._turn c.args.bound c.args.step c.loop-turn.n (plains c.loop-turn.numbers.items) _ _ c.loop-turn-test.true before after
    (ap plains pushed ∙ map-append plain c.loop-turn.numbers.items (Int c.loop-turn.n ∷ [])) (same _ _ _ _ _ _ _ _ _ _ _ bound step n from c.loop-turn.invariant)

pub loop-turn-preserved : goal.loop-turn-preserved
loop-turn-preserved c =
    let bound_fits : SFits w64 c.args.bound = search rules in
    let bound = to_z-of_z w64 c.args.bound bound_fits in
    let step_fits : SFits w64 c.args.step = search rules in
    let step = to_z-of_z w64 c.args.step step_fits in
    let from_fits : SFits w64 c.args.from = search rules in
    let from = to_z-of_z w64 c.args.from from_fits in
    let n : to_z w64 c.loop-turn.n-bits ≡ c.loop-turn.n = cc in
    let fits : SFits w64 c.in-Some.next = search rules in
    let before : is_before c.args.step c.loop-turn.n c.args.bound ≡ true = search rules in
    let pushed : c.push.new.self.items ≡ c.loop-turn.numbers.items ++ Int c.loop-turn.n ∷ [] = search rules in
    let next : c.in-Some.next ≡ c.loop-turn.n +ℤ c.args.step = search rules in
    same _ _ _ _ _ _ _ _ _ _ _ (sym bound) (sym step) (sym (to_z-of_z w64 c.in-Some.next fits)) (sym from)
    (numbers_on c.args.most c.loop-turn._turn c.args.bound c.args.step c.loop-turn.n c.in-Some.next (plains c.loop-turn.numbers.items) (plains c.push.new.self.items) _ c.loop-turn-test.true before next
    (ap plains pushed ∙ map-append plain c.loop-turn.numbers.items (Int c.loop-turn.n ∷ [])) (same _ _ _ _ _ _ _ _ _ _ _ bound step n from c.loop-turn.invariant))

pub returns : goal.returns
returns c =
    let bound_fits : SFits w64 c.args.bound = search rules in
    let bound = to_z-of_z w64 c.args.bound bound_fits in
    let step_fits : SFits w64 c.args.step = search rules in
    let step = to_z-of_z w64 c.args.step step_fits in
    let from_fits : SFits w64 c.args.from = search rules in
    let from = to_z-of_z w64 c.args.from from_fits in
    let n : to_z w64 c.loop-turn.n-bits ≡ c.loop-turn.n = cc in
    numbers_all c.args.most c.loop-turn._turn c.args.bound c.args.step c.loop-turn.n _ _ c.loop-turn-test.false (same _ _ _ _ _ _ _ _ _ _ _ bound step n from c.loop-turn.invariant)
