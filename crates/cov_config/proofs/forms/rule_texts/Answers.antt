use Rattle.std.proofs.Common.{length, ◌==◌, ap, sym, ◌∙◌, option_map, string_bytes}
use Rattle.std.specs.List.{list_any}
use Rattle.toml.specs.View.{view}
use Rattle.cov_file_names.specs.Forms.{is_empty}
use Rattle.cov_config.specs.Plain.{texts_view}
use Rattle.cov_config.proofs.TextLists.{rule_texts-of}
use Rattle.cov_config.proofs.forms.rule_texts.Goals as goal

pub returns-then-has_empty : goal.returns-then-has_empty
returns-then-has_empty c =
    sym (rule_texts-of (view c.args.value.now) c.in-Some.texts.items _ (sym c.in_ok-texts.ensures ∙ ap (option_map texts_view) c.in-Some.is) (ap (λ n. n == 0) (ap length (sym c.as_slice.ensures.value) ∙ c.as_slice.ensures.len) ∙ sym c.is_empty.ensures ∙ c.if-is_empty.false)
    (ap (list_any (λ t. is_empty (string_bytes t))) (sym c.as_slice.ensures.value) ∙ sym c.has_empty.ensures ∙ c.if-has_empty.true))

pub returns : goal.returns
returns c =
    sym (rule_texts-of (view c.args.value.now) c.in-Some.texts.items _ (sym c.in_ok-texts.ensures ∙ ap (option_map texts_view) c.in-Some.is) (ap (λ n. n == 0) (ap length (sym c.as_slice.ensures.value) ∙ c.as_slice.ensures.len) ∙ sym c.is_empty.ensures ∙ c.if-is_empty.false)
    (ap (list_any (λ t. is_empty (string_bytes t))) (sym c.as_slice.ensures.value) ∙ sym c.has_empty.ensures ∙ c.if-has_empty.false))
