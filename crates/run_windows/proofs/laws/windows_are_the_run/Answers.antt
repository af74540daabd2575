use Rattle.run_windows.proofs.WatchLaws.{first-window, run-made}
use Rattle.run_windows.proofs.laws.windows_are_the_run.Goals as goal

pub returns-clause-first : goal.returns-clause-first
returns-clause-first c = first-window

pub returns-clause-made : goal.returns-clause-made
returns-clause-made c = run-made
