-- A POKEY, as a plain record (POKEY C012294 data sheet; each definition states what is this
-- project's own choice).
use Rattle.std.specs.Prelude.{◌≡◌, ◌<◌, ◌≤◌, length, replicate, All}
use Rattle.board_base.specs.declared.pokey.TheConstants.{LONGEST_PERIOD, POT_LIMIT, PRESCALER_BASE, PRESCALER_LINE}
use Rattle.board_base.specs.declared.pokey.PokeyState.TheInside.{Inside}

-- the fields of `PokeyState`
abbrev pub PokeyValue : Type 0
PokeyValue = Inside

-- four channels, three requests, registers of 4, 5, 9 and 17 bits, two prescalers, a longest
-- period, levels of four bits, eight pots that count to one limit
pub record IsPokey (p : PokeyValue) : Type 0 where
  pub audf : length p.audf ≡ 4
  pub audc : length p.audc ≡ 4
  pub irqen : p.irqen < 8
  pub irqst : p.irqst < 8
  pub poly4 : p.poly4 < 16
  pub poly5 : p.poly5 < 32
  pub poly9 : p.poly9 < 512
  pub poly17 : p.poly17 < 131072
  pub pre28 : p.pre28 < PRESCALER_BASE
  pub pre114 : p.pre114 < PRESCALER_LINE
  pub left : length p.left ≡ 4
  pub pulses : All (λ left. (1 ≤ left) × (left ≤ LONGEST_PERIOD)) p.left
  pub tone : p.tone < 16
  pub pass : p.pass < 4
  pub pot : p.pot ≤ POT_LIMIT
  pub targets : length p.targets ≡ 8
  pub last : length p.last ≡ 4
  pub levels : All (λ level. level < 16) p.last

-- all 0, but no request is standing, the polynomial registers are all ones, and one pulse is left
-- of each channel
abbrev pub pokey_at_power_on : PokeyValue
pokey_at_power_on = record {
  audf = replicate 4 0;
  audc = replicate 4 0;
  audctl = 0;
  skctl = 0;
  irqen = 0;
  irqst = 7;
  poly4 = 15;
  poly5 = 31;
  poly9 = 511;
  poly17 = 131071;
  pre28 = 0;
  pre114 = 0;
  left = replicate 4 1;
  tone = 0;
  pass = 0;
  pot = 0;
  targets = replicate 8 0;
  last = replicate 4 0;
}
