-- The levels that a POKEY puts out: no write changes them at once, and each is at most 15.
use Rattle.std.proofs.Common.{◌≡◌, ℕ, arith}
use Rattle.board_base.specs.Pokey.{PokeyValue}
use Rattle.pokey_chip.specs.Registers.{channel_written, register_written, requests_enabled, timers_started}

pub written-last : (reg value : ℕ) (p : PokeyValue) → (register_written reg value p).last ≡ p.last
unfolding register_written channel_written requests_enabled timers_started
written-last reg value p = grind arith
