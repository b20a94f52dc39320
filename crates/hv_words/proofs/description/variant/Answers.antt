use Rattle.std.proofs.Common.{rules, ◌≡◌, ◌∙◌, ap₂}
use Rattle.clap.specs.Words.{rule_of, with_rule}
use Rattle.hv_words.specs.Descriptions as described
use Rattle.hv_words.proofs.description.variant.Goals as goal

pub returns : goal.returns
returns c =
    let model_is : rule_of c.long-model.result ≡ described.model = search rules in
    let dirs_is : rule_of c.short-dirs.result ≡ described.dirs = search rules in
    let config_is : rule_of c.long-config.result ≡ described.config = search rules in
    let file_is : rule_of c.required-file.result ≡ described.file = search rules in
    c.in_ok-command.ensures.shape (search rules)
    ∙ ap₂ with_rule (c.in_ok-arg-3.ensures.shape (search rules)
    ∙ ap₂ with_rule (c.in_ok-arg-2.ensures.shape (search rules)
    ∙ ap₂ with_rule (c.in_ok-arg.ensures.shape (search rules)
    ∙ ap₂ with_rule c.new-5.ensures.app model_is) dirs_is) config_is) file_is
