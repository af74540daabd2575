use Rattle.std.proofs.Common.{◌≡◌, inl}
use Rattle.lockstep_board.specs.Peripherals.{board_of}
use Rattle.run_log.specs.Slices.{saved_bytes}
use Rattle.run_log.proofs.SlicesLaws.{loaded-same}
use Rattle.run_log.proofs.board_bytes.load_saved.Goals as goal

pub unreachable-requires : goal.unreachable-requires
unfolding saved_bytes
unreachable-requires g c =
    let read = c.read.ensures.again (board_of (g.M.Machine.value c.args.synced.now.machine.now).board.cpu
    (g.M.Machine.value c.args.synced.now.machine.now).board.peripherals) c.requires.whole (inl c.requires.bytes) in
    cc

pub returns : goal.returns
unfolding saved_bytes
returns g c =
    let now = g.M.Machine.value c.args.synced.now.machine.now in
    let read = c.read.ensures.again (board_of now.board.cpu now.board.peripherals) c.requires.whole (inl c.requires.bytes) in
    let same : c.in-Ok.state ≡ board_of now.board.cpu now.board.peripherals = cc in
    record { same = c.load.ensures.same; value = loaded-same now (g.M.Machine.value c.load.new.self.machine.now) c.in-Ok.state c.args.synced.now.is_synced.empty c.load.ensures.value same }
