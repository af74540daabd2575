use Rattle.std.proofs.Common.{◌≡◌, ◌++◌, take}
use Rattle.asm_listing.specs.ListingText.{listing_text}
use Rattle.asm_listing.proofs.listing_text.push_listing.Given as goal

abbrev pub invariant-loop-line : goal.invariant-loop-line
invariant-loop-line l = l.text ≡ l.fn.text ++ listing_text l.image (take l.line-index l.line-items)
