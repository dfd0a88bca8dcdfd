-- A command with one more argument.
use Rattle.std.proofs.Common.{◌≡◌, false, ◌∙◌, Result, Ok, Err, IfOk}
use Rattle.clap.specs.Words.{AddsArg, App, Rule, app_of, rule_of, with_rule}
use Rattle.clap.specs.declared.builder.arg.Arg.{Arg}
use Rattle.clap.specs.declared.builder.command.Command.{Command}

module _ (old : Command) (arg : Arg) (app : App) (rule : Rule) (local : arg.global ≡ false) (is_rule : rule_of arg ≡ rule) (is_app : app_of old ≡ app) where
  pub app_of-added : (new : Command) → AddsArg old arg new → app_of new ≡ with_rule app rule
  app_of-added new h = h.shape local ∙ (λ i. with_rule (is_app i) (is_rule i))

  pub app_of-if_added : {E : Type 0} (r : Result Command E) → IfOk r (AddsArg old arg) → IfOk r (λ new. app_of new ≡ with_rule app rule)
  app_of-if_added (Ok new) h = app_of-added new h
  app_of-if_added (Err e) h = h
