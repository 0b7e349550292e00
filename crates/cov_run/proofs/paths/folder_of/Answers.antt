use Rattle.std.proofs.Common.{◌≡◌, nat_eq, false, [], ◌∷◌, ◌++◌, sym, ap, ◌∙◌, append_assoc, append-nil, map-id, arith}
use Rattle.std.proofs.lemmas.Bool.{ne_eqb}
use Rattle.std.proofs.lemmas.Iterator.{YieldsList-from_chars}
use Rattle.std.proofs.lemmas.Iterator.Consumers.{YieldsList-end}
use Rattle.py_meaning.specs.Loading.{folder_of}
use Rattle.cov_run.proofs.Folders.{folder-none, folder-more, folder-slash-at}
use Rattle.cov_run.proofs.paths.folder_of.Goals as goal

pub loop-c-init : goal.loop-c-init
loop-c-init c = record {
  folder = c.new-folder.ensures ∙ folder-none;
  whole = ap (λ t. t ++ c.new-part.result) c.new-folder.ensures ∙ c.new-part.ensures;
}

pub loop-c-preserved-then-c-eq47 : goal.loop-c-preserved-then-c-eq47
loop-c-preserved-then-c-eq47 c =
    let slash : c.in-Some.c ≡ 47 = omega arith in
    let whole : c.append.new.self ≡ c.loop-c.yielded ++ c.in-Some.c ∷ [] =
    c.in_ok-append.ensures.ok ∙ ap (λ t. c.loop-c.folder ++ t) c.in_ok-push.ensures.ok ∙ sym (append_assoc c.loop-c.folder c.loop-c.part (c.in-Some.c ∷ [])) ∙ ap (λ t. t ++ c.in-Some.c ∷ []) c.loop-c.invariant.whole in
    record {
      folder = whole ∙ sym (folder-slash-at c.loop-c.yielded c.in-Some.c slash);
      whole = ap (λ t. c.append.new.self ++ t) c.new-part-then-c-eq47.ensures ∙ append-nil c.append.new.self ∙ whole;
    }

pub loop-c-preserved : goal.loop-c-preserved
loop-c-preserved c =
    let other : nat_eq c.in-Some.c 47 ≡ false = ne_eqb c.in-Some.c 47 (λ e. omega (arith, e)) in
    record {
      folder = c.loop-c.invariant.folder ∙ sym (folder-more c.loop-c.yielded c.in-Some.c other);
      whole = ap (λ t. c.loop-c.folder ++ t) c.in_ok-push.ensures.ok ∙ sym (append_assoc c.loop-c.folder c.loop-c.part (c.in-Some.c ∷ [])) ∙ ap (λ t. t ++ c.in-Some.c ∷ []) c.loop-c.invariant.whole;
    }

pub returns : goal.returns
returns c =
    let end = YieldsList-end (YieldsList-from_chars c.args.path.now c.utf8.path cc) c.loop-c.yielded _ c.loop-c.yielded_by _ _ c.in-None.is c.next.ensures.steps in
    c.loop-c.invariant.folder ∙ ap folder_of (sym (map-id c.loop-c.yielded) ∙ end.0)
