use Rattle.std.proofs.Common.{◌≡◌, ◌++◌}
use Rattle.asm_listing.specs.ListingText.{bytes_from, bytes_text}
use Rattle.asm_listing.proofs.listing_text.push_bytes.Given as goal

abbrev pub invariant-loop-i : goal.invariant-loop-i
invariant-loop-i l = l.text ≡ l.fn.text ++ bytes_text (bytes_from l.image l.line.addr l.i)
