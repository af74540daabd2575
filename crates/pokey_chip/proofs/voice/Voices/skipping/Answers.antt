use Rattle.std.proofs.Common.{inl, refl, arith}
use Rattle.pokey_chip.proofs.voice.Voices.skipping.Goals as goal

pub returns-then-n-soonest : goal.returns-then-n-soonest
returns-then-n-soonest c = record {
  taken1 = c.args.n;
  taken2 = c.args.n;
  third_last = inl (omega (arith, c.soonest.ensures), refl);
  fourth_last = inl (omega (arith, c.soonest.ensures), refl);
  first = record { same = refl; begins = inl refl };
  second = record { same = refl; begins = inl refl };
  third = record { same = refl; begins = inl refl };
  fourth = record { same = refl; begins = inl refl };
}
