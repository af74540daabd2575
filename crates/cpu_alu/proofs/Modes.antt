use Rattle.std.proofs.Common.{◌≡◌, ℕ, ◌-◌, Bool, true, false, if◌then◌else◌, refl, ap, ◌∙◌}
use Rattle.cpu_alu.proofs.StatusLemmas.{flags_of_byte}
use Rattle.cpu_alu.specs.declared.flags.Flags.{Flags}
use Rattle.cpu_alu.specs.Arithmetic.{adc_of, binary_adc, compare_of, sbc_of}
use Rattle.cpu_alu.specs.Decimal.{decimal_adc}
use Rattle.cpu_alu.specs.Flags.{byte_of, flags_of, with_result}
use Rattle.cpu_alu.specs.Logic.{bit_of, nz_of}
use Rattle.cpu_alu.specs.Meaning.{KeepsModes}
use Rattle.cpu_alu.specs.Shifts.{asl_of, lsr_of, rol_of, ror_of, shifted}

-- the status byte of flags with the old D and I
keeps : (p : ℕ) (f : Flags) → f.decimal ≡ (flags_of p).decimal → f.interrupt ≡ (flags_of p).interrupt → (q : ℕ) → q ≡ byte_of f → KeepsModes p q
keeps p f decimal interrupt q is =
    let back : flags_of q ≡ f = ap flags_of is ∙ flags_of_byte f in
    record {
      decimal = ap (λ (g : Flags). g.decimal) back ∙ decimal;
      interrupt = ap (λ (g : Flags). g.interrupt) back ∙ interrupt;
    }

after_adc : (a m : ℕ) (f : Flags) (d : Bool)
    → (((if d then decimal_adc a m f else binary_adc a m f).1).decimal ≡ f.decimal)
    × (((if d then decimal_adc a m f else binary_adc a m f).1).interrupt ≡ f.interrupt)
unfolding decimal_adc binary_adc with_result
after_adc a m f true = (refl, refl)
after_adc a m f false = (refl, refl)

pub adc_keeps : (a m p : ℕ) (r : ℕ × ℕ) → r ≡ adc_of a m p → KeepsModes p r.1
unfolding adc_of
adc_keeps a m p r is =
    let same = after_adc a m (flags_of p) (flags_of p).decimal in
    keeps p _ same.0 same.1 r.1 (ap (λ (q : ℕ × ℕ). q.1) is)

pub sbc_keeps : (a m p : ℕ) (r : ℕ × ℕ) → r ≡ sbc_of a m p → KeepsModes p r.1
unfolding sbc_of
sbc_keeps a m p r is =
    let same = after_adc a (255 - m) (flags_of p) false in
    keeps p (binary_adc a (255 - m) (flags_of p)).1 same.0 same.1 r.1 (ap (λ (q : ℕ × ℕ). q.1) is)

pub compare_keeps : (r m p q : ℕ) → q ≡ compare_of r m p → KeepsModes p q
unfolding compare_of with_result
compare_keeps r m p q is = keeps p _ refl refl q is

pub nz_keeps : (r p q : ℕ) → q ≡ nz_of r p → KeepsModes p q
unfolding nz_of with_result
nz_keeps r p q is = keeps p _ refl refl q is

pub bit_keeps : (a m p q : ℕ) → q ≡ bit_of a m p → KeepsModes p q
unfolding bit_of
bit_keeps a m p q is = keeps p _ refl refl q is

shifted_keeps : (value : ℕ) (lost : Bool) (p : ℕ) (r : ℕ × ℕ) → r ≡ shifted value lost (flags_of p) → KeepsModes p r.1
unfolding shifted with_result
shifted_keeps value lost p r is = keeps p _ refl refl r.1 (ap (λ (q : ℕ × ℕ). q.1) is)

pub asl_keeps : (m p : ℕ) (r : ℕ × ℕ) → r ≡ asl_of m p → KeepsModes p r.1
unfolding asl_of
asl_keeps m p r is = shifted_keeps _ _ p r is

pub lsr_keeps : (m p : ℕ) (r : ℕ × ℕ) → r ≡ lsr_of m p → KeepsModes p r.1
unfolding lsr_of
lsr_keeps m p r is = shifted_keeps _ _ p r is

pub rol_keeps : (m p : ℕ) (r : ℕ × ℕ) → r ≡ rol_of m p → KeepsModes p r.1
unfolding rol_of
rol_keeps m p r is = shifted_keeps _ _ p r is

pub ror_keeps : (m p : ℕ) (r : ℕ × ℕ) → r ≡ ror_of m p → KeepsModes p r.1
unfolding ror_of
ror_keeps m p r is = shifted_keeps _ _ p r is
