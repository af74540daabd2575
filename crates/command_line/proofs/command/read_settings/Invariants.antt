use Rattle.std.proofs.Common.{◌≡◌, drop, map, string_bytes}
use Rattle.command_line.specs.Settings.{settings_from, settings_of}
use Rattle.command_line.proofs.command.read_settings.Given as goal

-- what the words that are left add to the settings so far is what all of them say
abbrev pub invariant-loop-word : goal.invariant-loop-word
invariant-loop-word l =
    settings_from l.verb l.settings l.awaited (drop l.word-index (map string_bytes l.words)) ≡ settings_of l.verb (map string_bytes l.words)
