use Rattle.std.proofs.Common.{ap}
use Rattle.command_line.specs.CommandValue.{asm_of, debug_of, frames_of, pcm_of, profile_of, run_of, seek_of, soak_of}
use Rattle.command_line.specs.CommandWords.{command_value}
use Rattle.gravitar_commands.proofs.StageLaws.{not-jammed, of-same}
use Rattle.gravitar_commands.proofs.ReportLaws.{frames-reported, pcm-reported-as, profile-reported, seek-reported-as}
use Rattle.gravitar_commands.proofs.program.perform.Goals as goal

pub returns-in-Run-clause-outcome : goal.returns-in-Run-clause-outcome
returns-in-Run-clause-outcome g c =
    of-same _ (g.S.Shelf.files c.args.host.now.shelf.now) (run_of c.in-Run.words) (command_value c.args.command.now) (ap command_value c.in-Run.is)
    c.perform_run.ensures.outcome

pub returns-in-Asm-clause-outcome : goal.returns-in-Asm-clause-outcome
returns-in-Asm-clause-outcome g c =
    of-same _ (g.S.Shelf.files c.args.host.now.shelf.now) (asm_of c.in-Asm.words) (command_value c.args.command.now) (ap command_value c.in-Asm.is)
    c.perform_asm.ensures.outcome

pub returns-in-Debug-clause-outcome : goal.returns-in-Debug-clause-outcome
returns-in-Debug-clause-outcome g c =
    of-same _ (g.S.Shelf.files c.args.host.now.shelf.now) (debug_of c.in-Debug.words) (command_value c.args.command.now) (ap command_value c.in-Debug.is)
    c.perform_debug.ensures.outcome

pub returns-in-Soak-clause-outcome : goal.returns-in-Soak-clause-outcome
returns-in-Soak-clause-outcome g c =
    of-same _ (g.S.Shelf.files c.args.host.now.shelf.now) (soak_of c.in-Soak.seed) (command_value c.args.command.now) (ap command_value c.in-Soak.is)
    c.perform_soak.ensures.outcome

pub returns-in-Run-clause-jam : goal.returns-in-Run-clause-jam
returns-in-Run-clause-jam g c = λ _. rw c.in-Run.is tt

pub returns-in-Asm-clause-jam : goal.returns-in-Asm-clause-jam
returns-in-Asm-clause-jam g c = λ jam. absurd (not-jammed _ c.perform_asm.ensures.done jam)

pub returns-in-Debug-clause-jam : goal.returns-in-Debug-clause-jam
returns-in-Debug-clause-jam g c = λ jam. absurd (not-jammed _ c.perform_debug.ensures.done jam)

pub returns-in-Show-clause-jam : goal.returns-in-Show-clause-jam
returns-in-Show-clause-jam g c = λ jam. absurd (not-jammed _ c.perform_show.ensures.done jam)

pub returns-in-Soak-clause-jam : goal.returns-in-Soak-clause-jam
returns-in-Soak-clause-jam g c = λ jam. absurd (not-jammed _ c.perform_soak.ensures.done jam)

pub returns-in-Pcm-clause-outcome : goal.returns-in-Pcm-clause-outcome
returns-in-Pcm-clause-outcome g c =
    of-same _ (g.S.Shelf.files c.args.host.now.shelf.now) (pcm_of c.in-Pcm.words) (command_value c.args.command.now) (ap command_value c.in-Pcm.is)
    (pcm-reported-as (g.S.Shelf.files c.args.host.now.shelf.now) _ c.in-Pcm.words _ c.words.view_is c.perform_report.ensures.outcome)

pub returns-in-Pcm-clause-jam : goal.returns-in-Pcm-clause-jam
returns-in-Pcm-clause-jam g c = λ jam. absurd (not-jammed _ c.perform_report.ensures.done jam)

pub returns-in-Frames-clause-outcome : goal.returns-in-Frames-clause-outcome
returns-in-Frames-clause-outcome g c =
    of-same _ (g.S.Shelf.files c.args.host.now.shelf.now) (frames_of c.in-Frames.words) (command_value c.args.command.now) (ap command_value c.in-Frames.is)
    (frames-reported (g.S.Shelf.files c.args.host.now.shelf.now) _ c.in-Frames.words c.perform_report-in-Frames.ensures.outcome)

pub returns-in-Frames-clause-jam : goal.returns-in-Frames-clause-jam
returns-in-Frames-clause-jam g c = λ jam. absurd (not-jammed _ c.perform_report-in-Frames.ensures.done jam)

pub returns-in-Profile-clause-outcome : goal.returns-in-Profile-clause-outcome
returns-in-Profile-clause-outcome g c =
    of-same _ (g.S.Shelf.files c.args.host.now.shelf.now) (profile_of c.in-Profile.words) (command_value c.args.command.now) (ap command_value c.in-Profile.is)
    (profile-reported (g.S.Shelf.files c.args.host.now.shelf.now) _ c.in-Profile.words c.perform_report-in-Profile.ensures.outcome)

pub returns-in-Profile-clause-jam : goal.returns-in-Profile-clause-jam
returns-in-Profile-clause-jam g c = λ jam. absurd (not-jammed _ c.perform_report-in-Profile.ensures.done jam)

pub returns-in-Seek-clause-jam : goal.returns-in-Seek-clause-jam
returns-in-Seek-clause-jam g c = λ jam. absurd (not-jammed _ c.perform_report-in-Seek.ensures.done jam)

pub returns-in-Seek-clause-outcome : goal.returns-in-Seek-clause-outcome
returns-in-Seek-clause-outcome g c =
    of-same _ (g.S.Shelf.files c.args.host.now.shelf.now) (seek_of c.in-Seek.words) (command_value c.args.command.now) (ap command_value c.in-Seek.is)
    (seek-reported-as (g.S.Shelf.files c.args.host.now.shelf.now) _ c.in-Seek.words _ c.words-in-Seek.view_is (rw c.as_slice-clocks.ensures.value at c.perform_report-in-Seek.ensures.outcome))
