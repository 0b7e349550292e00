use Rattle.std.proofs.lemmas.Grind.{common_steps}
use Rattle.std.proofs.Common.{◌≡◌, ◌+◌, ◌-◌, ◌==◌, ◌++◌, nat_le, true, false, List, length, map, take, drop, ap, ◌∙◌, rules, arith}
use Rattle.py_value.specs.declared.value.Value.{Value}
use Rattle.py_value.specs.View.{plain, plains}
use Rattle.py_value.specs.Sequences.{most_items}
use Rattle.py_builtins.specs.Methods.{each_after, each_length, are_texts, characters_in}
use Rattle.py_builtins.proofs.Rests.{whole_rest}
use Rattle.py_builtins.proofs.Joins.{too_long, fits_joined}
use Rattle.py_builtins.proofs.text_methods.joined_texts.Goals as goal

pub returns-then-not-fit_after : goal.returns-then-not-fit_after
returns-then-not-fit_after c =
    let some : false ≡ (length c.args.items.now == 0) = search rules in
    let texts : true ≡ are_texts (plains c.args.items.now) = search rules in
    let first : c.len.result ≡ length (characters_in (plain c.index-items-0.result)) = search rules in
    let gap : c.len-2.result ≡ length c.args.between.now = search rules in
    let cut : false ≡ nat_le (c.len.result + each_length c.len-2.result (map characters_in (plains (take (length c.args.items.now - 1) (drop 1 c.args.items.now))))) most_items = search rules in
    let long : false ≡ nat_le (c.len.result + each_length c.len-2.result (map characters_in (plains (drop 1 c.args.items.now)))) most_items = cut ∙ ap (λ (vs : List Value). nat_le (c.len.result + each_length c.len-2.result (map characters_in (plains vs))) most_items) (whole_rest c.args.items.now 1) in
    too_long c.args.between.now c.args.items.now c.index-items-0.result c.len.result c.len-2.result some c.index-items-0.is texts first gap long

pub returns : goal.returns
returns c =
    let some : false ≡ (length c.args.items.now == 0) = search rules in
    let texts : true ≡ are_texts (plains c.args.items.now) = search rules in
    let first : c.len.result ≡ length (characters_in (plain c.index-items-0.result)) = search rules in
    let gap : c.len-2.result ≡ length c.args.between.now = search rules in
    let cut : true ≡ nat_le (c.len.result + each_length c.len-2.result (map characters_in (plains (take (length c.args.items.now - 1) (drop 1 c.args.items.now))))) most_items = search rules in
    let fits : true ≡ nat_le (c.len.result + each_length c.len-2.result (map characters_in (plains (drop 1 c.args.items.now)))) most_items = cut ∙ ap (λ (vs : List Value). nat_le (c.len.result + each_length c.len-2.result (map characters_in (plains vs))) most_items) (whole_rest c.args.items.now 1) in
    let copied : c.in_ok-first.first ≡ characters_in (plain c.index-items-0.result) = search rules in
    let made : c.in_ok-with_rest.field-0 ≡ c.in_ok-first.first ++ each_after c.args.between.now (map characters_in (plains (take (length c.args.items.now - 1) (drop 1 c.args.items.now)))) = search rules in
    let whole : c.in_ok-with_rest.field-0 ≡ characters_in (plain c.index-items-0.result) ++ each_after c.args.between.now (map characters_in (plains (drop 1 c.args.items.now))) = made ∙ ap (λ t. t ++ each_after c.args.between.now (map characters_in (plains (take (length c.args.items.now - 1) (drop 1 c.args.items.now))))) copied ∙ ap (λ (vs : List Value). characters_in (plain c.index-items-0.result) ++ each_after c.args.between.now (map characters_in (plains vs))) (whole_rest c.args.items.now 1) in
    fits_joined c.args.between.now c.args.items.now c.index-items-0.result c.len.result c.len-2.result c.in_ok-with_rest.field-0 some c.index-items-0.is texts first gap fits whole

pub returns-then-is_empty : goal.returns-then-is_empty
returns-then-is_empty c = grind (arith, common_steps)
