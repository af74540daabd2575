use Rattle.std.proofs.Common.{map, string_bytes, arith}
use Rattle.std.proofs.lemmas.Bool.Decides.{nat_tests}
use Rattle.std.proofs.lemmas.List.{length-map}
use Rattle.command_line.proofs.Arguments.{other_count}
use Rattle.command_line.proofs.command.build.Goals as goal

pub returns-in_default-clause-command : goal.returns-in_default-clause-command
returns-in_default-clause-command c =
    other_count c.args.verb (map string_bytes c.args.arguments.now) c.args.settings (grind (arith, nat_tests, length-map))
