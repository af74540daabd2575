-- Which addresses reach a device, range by range of the map.
use Rattle.std.proofs.Common.{◌≡◌, ℕ, Bool, nat_le, refl, ap, ◌∙◌, arith}
use Rattle.std.specs.Prelude.{◌&&◌, ◌||◌}
use Rattle.std.proofs.lemmas.Bool.Decides.{nat_tests}
use Rattle.board_map.specs.Map.{address_map, row_of}
use Rattle.board_map.proofs.Rows.{passing}
use Rattle.cpu_core.specs.BusCycles.{read_of, write_of}
use Rattle.lockstep_board.specs.Addresses.{device_reads, device_writes, is_among}
use Rattle.lockstep_board.specs.Budget.{reads_device, writes_device, reaches_device}

-- the ranges of both POKEYs are one
pokeys : (address : ℕ) (rest : Bool) → (nat_le 0x6000 address && nat_le address 0x67FF) || ((nat_le 0x6800 address && nat_le address 0x6FFF) || rest)
    ≡ (nat_le 0x6000 address && nat_le address 0x6FFF) || rest
pokeys address rest = grind (arith, nat_tests)

pub device-reads : (address value : ℕ) → reaches_device (read_of address value) ≡ is_among device_reads address
unfolding reaches_device row_of
device-reads address value = passing (λ row. reads_device row.reads) refl address_map 0 address refl ∙ pokeys address _

pub device-writes : (address value : ℕ) → reaches_device (write_of address value) ≡ is_among device_writes address
unfolding reaches_device row_of
device-writes address value = passing (λ row. writes_device row.writes) refl address_map 0 address refl ∙ ap (λ b. (nat_le 0x2000 address && nat_le address 0x27FF) || b) (pokeys address _)

pub ruleset addresses = (device-reads, device-writes)
