use Rattle.std.proofs.Common.{◌≡◌, ◌++◌, ◌∷◌, [], ap, ◌∙◌, rules}
use Rattle.std.proofs.lemmas.List.{map-append}
use Rattle.std.specs.Str.{chars}
use Rattle.py_value.specs.declared.value.Value.TheVariants.{Str}
use Rattle.py_value.specs.View.{plain, plains}
use Rattle.py_builtins.proofs.Separators.{cut_found, cut_lacking, cut_shorter, parts_on, parts_end}
use Rattle.py_builtins.proofs.text_methods.parts_between.Goals as goal

pub loop-part-preserved : goal.loop-part-preserved
loop-part-preserved c =
    let t = c.in-Some.ensures.cases in
    let pushed : c.push.new.self.items ≡ c.loop-part.parts.items ++ Str c.in_ok-part.part ∷ [] = search rules in
    let part : c.in_ok-part.part ≡ chars c.in-Some.part.now = search rules in
    record {
      utf8 = search rules;
      parts = parts_on (chars c.args.separator.now) (chars c.loop-part.rest.now) (chars c.in-Some.part.now) (chars c.in-Some.after.now) (plains c.loop-part.parts.items) (plains c.push.new.self.items) _
          (cut_found c.args.separator.now c.loop-part.rest.now c.in-Some.part.now c.in-Some.after.now t.0 t.1 c.utf8.separator c.loop-part.invariant.utf8 c.requires t.2 t.3 t.4 t.6)
          (ap plains pushed ∙ map-append plain c.loop-part.parts.items (Str c.in_ok-part.part ∷ []) ∙ ap (λ s. plains c.loop-part.parts.items ++ plain (Str s) ∷ []) part) c.loop-part.invariant.parts;
    }

pub loop-part-smaller : goal.loop-part-smaller
loop-part-smaller c =
    let t = c.in-Some.ensures.cases in
    cut_shorter c.args.separator.now c.in-Some.after.now c.loop-part.rest.now t.0 t.1 c.requires t.2.1.ends t.7

pub returns : goal.returns
returns c =
    let pushed : c.push-2.new.self.items ≡ c.loop-part.parts.items ++ Str c.in_ok-last.last ∷ [] = search rules in
    let last : c.in_ok-last.last ≡ chars c.loop-part.rest.now = search rules in
    parts_end (chars c.args.separator.now) (chars c.loop-part.rest.now) (plains c.loop-part.parts.items) (plains c.push-2.new.self.items) _
    (cut_lacking c.args.separator.now c.loop-part.rest.now c.utf8.separator c.loop-part.invariant.utf8 c.in_default.ensures.cases)
    (ap plains pushed ∙ map-append plain c.loop-part.parts.items (Str c.in_ok-last.last ∷ []) ∙ ap (λ s. plains c.loop-part.parts.items ++ plain (Str s) ∷ []) last) c.loop-part.invariant.parts
