use Rattle.std.proofs.Common.{map, string_bytes, ap, ◌∙◌}
use Rattle.command_line.proofs.Arguments.{arguments_shown, options_shown}
use Rattle.command_line.proofs.command.part.Goals as goal

pub returns-clause-arguments : goal.returns-clause-arguments
returns-clause-arguments c = ap (map string_bytes) c.split_at.ensures.front ∙ arguments_shown string_bytes c.args.words.now _ c.count_arguments.ensures

pub returns-clause-options : goal.returns-clause-options
returns-clause-options c = ap (map string_bytes) c.split_at.ensures.back ∙ options_shown string_bytes c.args.words.now _ c.count_arguments.ensures
