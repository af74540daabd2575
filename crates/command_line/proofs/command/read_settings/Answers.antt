use Rattle.std.proofs.Common.{string_bytes, sym, ◌∙◌}
use Rattle.command_line.proofs.ClockLaws.{settings_are_clocks}
use Rattle.command_line.proofs.ReadOptions.{all_said, flag_refused, flag_taken, option_awaits, option_refused, stands, value_lacks, value_refused, value_taken}
use Rattle.command_line.proofs.command.read_settings.Goals as goal
use Rattle.command_line.proofs.command.read_settings.Goals.{in-Some+in_ok-settings, in_default+in_ok-option+then-has_value, in_default+in_ok-option+else-has_value+in_ok-settings-2}

pub returns-in_err-settings-clause-settings : goal.returns-in_err-settings-clause-settings
returns-in_err-settings-clause-settings c =
    let here = stands string_bytes c.word-item.result c.word-item.is c.as_str-word.ensures.value c.loop-word-test.true in
    c.from_residual.ensures
    ∙ (sym (value_refused _ c.args.verb c.loop-word.settings _ _ _ _ _ c.in-Some.is here (sym c.with_value.ensures ∙ c.in_err-settings.was)) ∙ c.loop-word.invariant)

pub returns-in_err-option-clause-settings : goal.returns-in_err-option-clause-settings
returns-in_err-option-clause-settings c =
    let here = stands string_bytes c.word-item.result c.word-item.is c.as_str-word.ensures.value c.loop-word-test.true in
    c.from_residual-in_err-option.ensures
    ∙ (sym (option_refused _ c.args.verb c.loop-word.settings _ _ _ _ c.in_default.is here (sym c.option.ensures ∙ c.in_err-option.was)) ∙ c.loop-word.invariant)

pub returns-in_err-settings-2-clause-settings : goal.returns-in_err-settings-2-clause-settings
returns-in_err-settings-2-clause-settings c =
    let here = stands string_bytes c.word-item.result c.word-item.is c.as_str-word.ensures.value c.loop-word-test.true in
    c.from_residual-in_err-settings-2.ensures
    ∙ (sym (flag_refused _ c.args.verb c.loop-word.settings _ _ _ _ _ c.in_default.is here
    (sym c.option.ensures ∙ c.in_ok-option.was) (sym c.has_value.ensures ∙ c.if-has_value.false) (sym c.with_flag.ensures ∙ c.in_err-settings-2.was)) ∙ c.loop-word.invariant)

pub loop-word-preserved : goal.loop-word-preserved
loop-word-preserved c =
    let here = stands string_bytes c.word-item.result c.word-item.is c.as_str-word.ensures.value c.loop-word-test.true in
    elim c.match-awaited.branch [
      | in-Some+in_ok-settings w ↦
          rw (w.settings-is, w.awaited-is)
          (sym (value_taken _ c.args.verb c.loop-word.settings _ _ _ _ _ _ w.in-Some.is here (sym w.with_value.ensures ∙ w.in_ok-settings.was)) ∙ c.loop-word.invariant)
      | in_default+in_ok-option+then-has_value w ↦
          rw (w.settings-is, w.awaited-is)
          (sym (option_awaits _ c.args.verb c.loop-word.settings _ _ _ _ _ w.in_default.is here
          (sym w.option.ensures ∙ w.in_ok-option.was) (sym w.has_value.ensures ∙ w.if-has_value.true)) ∙ c.loop-word.invariant)
      | in_default+in_ok-option+else-has_value+in_ok-settings-2 w ↦
          rw (w.settings-is, w.awaited-is ∙ w.in_default.is)
          (sym (flag_taken _ c.args.verb c.loop-word.settings _ _ _ _ _ _ w.in_default.is here
          (sym w.option.ensures ∙ w.in_ok-option.was) (sym w.has_value.ensures ∙ w.if-has_value.false) (sym w.with_flag.ensures ∙ w.in_ok-settings-2.was)) ∙ c.loop-word.invariant)
    ]

pub returns-then-is_some-clause-settings : goal.returns-then-is_some-clause-settings
returns-then-is_some-clause-settings c =
    sym (value_lacks string_bytes c.args.verb c.loop-word.settings _ c.args.words.now _ (sym c.is_some.ensures ∙ c.if-is_some.true) c.loop-word-test.false) ∙ c.loop-word.invariant

pub returns-clause-settings : goal.returns-clause-settings
returns-clause-settings c =
    sym (all_said string_bytes c.args.verb c.loop-word.settings _ c.args.words.now _ (sym c.is_some.ensures ∙ c.if-is_some.false) c.loop-word-test.false) ∙ c.loop-word.invariant

pub returns-clause-clocks : goal.returns-clause-clocks
returns-clause-clocks c =
    settings_are_clocks c.args.verb _ c.loop-word.settings (sym (returns-clause-settings c))
