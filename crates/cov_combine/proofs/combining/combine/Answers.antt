use Rattle.std.proofs.Common.{◌≡◌, true, false, not, List, ◌∷◌, ◌++◌, take, get_or, All, ap, sym, subst, ◌∙◌}
use Rattle.std.specs.Prelude.{◌||◌}
use Rattle.std.specs.List.{fold, list_any}
use Rattle.std.specs.Bool.{beq}
use Rattle.std.proofs.lemmas.List.{take_all}
use Rattle.std.proofs.lemmas.List.Elements.{All-more}
use Rattle.std.proofs.lemmas.List.Folds.{list_any_more}
use Rattle.std.proofs.lemmas.List.Sums.{fold_more}
use Rattle.cov_data.specs.DataSet.{Text, DataSet, no_data, has_path, IsSound}
use Rattle.cov_combine.specs.Aliases.{alias_of}
use Rattle.cov_combine.specs.Combined.{with_renamed, flag_of, combined, HoldsAlike}
use Rattle.cov_combine.specs.Pointwise.{HoldsInputs}
use Rattle.cov_combine.proofs.Pointwise.{holds_inputs}
use Rattle.cov_combine.proofs.Unions.{with_renamed-arcs}
use Rattle.cov_combine.proofs.Laws.{combined-any_order, combined-repeats, combined-grouped}
use Rattle.cov_combine.proofs.combining.combine.Goals as goal

pub loop-input-preserved : goal.loop-input-preserved
loop-input-preserved c =
    let before = c.loop-input.invariant in
    let inputs = c.args.inputs.now in
    let i = c.loop-input.input-index in
    let item = c.input-item.result in
    let first = c.is_arcs-first.result in
    let differs = λ (d : DataSet). not (beq d.arcs first) in
    record {
      first = before.first;
      alike = list_any_more differs inputs i item c.loop-input-test.true
          ∙ ap (λ b. b || differs (get_or inputs i item)) before.alike
          ∙ sym (ap differs c.input-item.is)
          ∙ sym (ap (λ b. not (beq b first)) c.is_arcs.ensures.flag)
          ∙ c.if-is_arcs-first.false;
      sound = All-more IsSound inputs i item c.loop-input-test.true before.sound (subst IsSound c.input-item.is c.is_arcs.ensures.sound);
    }

pub loop-input-2-init : goal.loop-input-2-init
loop-input-2-init c =
    let done = c.loop-input.invariant in
    let all = take_all _ _ c.loop-input-test.false in
    record {
      first = done.first;
      alike = sym (ap (list_any (λ (d : DataSet). not (beq d.arcs c.is_arcs-first.result))) all) ∙ done.alike;
      sound = subst (All IsSound) all done.sound;
      flag = ap (λ (d : DataSet). d.arcs) c.new-all.ensures;
      so_far = c.new-all.ensures;
    }

pub loop-input-2-preserved : goal.loop-input-2-preserved
loop-input-2-preserved c =
    let before = c.loop-input-2.invariant in
    let alias = alias_of c.args.rules.now in
    let inputs = c.args.inputs.now in
    let i = c.loop-input-2.input-index in
    let item = c.input-item-in-loop-input-2.result in
    record {
      first = before.first;
      alike = before.alike;
      sound = before.sound;
      flag = ap (λ (d : DataSet). d.arcs) c.in_ok-all.ensures ∙ with_renamed-arcs alias c.loop-input-2.all item ∙ before.flag;
      so_far = c.in_ok-all.ensures ∙ ap (λ m. with_renamed alias m item) before.so_far
          ∙ ap (with_renamed alias (fold (with_renamed alias) (no_data c.is_arcs-first.result) (take i inputs))) c.input-item-in-loop-input-2.is
          ∙ sym (fold_more (with_renamed alias) (no_data c.is_arcs-first.result) inputs i item c.loop-input-2-test.true);
    }

-- what was united is all inputs
whole : (c : goal.After-loop-input-2) → c.loop-input-2.all ≡ combined (alias_of c.args.rules.now) c.args.inputs.now
whole c =
    let alias = alias_of c.args.rules.now in
    let inputs = c.args.inputs.now in
    c.loop-input-2.invariant.so_far
    ∙ ap (fold (with_renamed alias) (no_data c.is_arcs-first.result)) (take_all _ _ c.loop-input-2-test.false)
    ∙ ap (λ b. fold (with_renamed alias) (no_data b) inputs) c.loop-input-2.invariant.first

alike : (c : goal.After-loop-input-2) → list_any (λ d. not (beq d.arcs (flag_of c.args.inputs.now))) c.args.inputs.now ≡ false
alike c = ap (λ b. list_any (λ (d : DataSet). not (beq d.arcs b)) c.args.inputs.now) (sym c.loop-input-2.invariant.first) ∙ c.loop-input-2.invariant.alike

pub returns-clause-pointwise : goal.returns-clause-pointwise
returns-clause-pointwise c =
    let alias = alias_of c.args.rules.now in
    subst (HoldsInputs alias c.args.inputs.now) (sym (whole c)) (holds_inputs alias c.args.inputs.now c.loop-input-2.invariant.sound)

pub returns-clause-any_order : goal.returns-clause-any_order
returns-clause-any_order c = λ others moved. whole c ∙ combined-any_order (alias_of c.args.rules.now) c.args.inputs.now others c.requires (alike c) moved

pub returns-clause-repeats : goal.returns-clause-repeats
returns-clause-repeats c = λ others members.
    subst (λ d. HoldsAlike d (combined (alias_of c.args.rules.now) others)) (sym (whole c))
    (combined-repeats (alias_of c.args.rules.now) c.args.inputs.now others c.requires (alike c) members)

pub returns-clause-groups : goal.returns-clause-groups
returns-clause-groups c =
    let alias = alias_of c.args.rules.now in
    let inputs = c.args.inputs.now in
    subst (λ (all : DataSet). (more : List DataSet) → ((path : Text) → has_path all path ≡ true → alias path ≡ path) → combined alias (all ∷ more) ≡ combined alias (inputs ++ more))
    (sym (whole c)) (λ more fixed. combined-grouped alias inputs more c.requires fixed)
