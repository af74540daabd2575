-- What a device ends as, once a `&mut` to its state has ended.
use Rattle.std.specs.Borrow.{Fml, RattleType, MutBor, Lends}
use Rattle.board_base.specs.Counts.{one_more}
use Rattle.board_base.specs.Devices.{DeviceValue}
use Rattle.board_base.specs.contracts.device.Device.{the_row}

-- a call is counted, and the state is the last that was written through r
abbrev pub LendsState : (S M : RattleType) → MutBor (DeviceValue S.Denot) → MutBor S.Denot → Fml
LendsState S M d r = Lends (the_row S M) S d r (λ state. record { device = state; calls = one_more d.now.calls })
