use Rattle.std.proofs.Common.{◌≡◌, ◌+◌, ◌++◌, ◌∷◌, ◌∙◌, ap, unwrap_or}
use Rattle.text_line.specs.Words.{hex_byte}
use Rattle.rom_image.specs.Addresses.{byte_of}
use Rattle.asm_listing.proofs.Bytes.{bytes-more}
use Rattle.asm_listing.proofs.listing_text.push_bytes.Goals as goal

pub loop-i-preserved : goal.loop-i-preserved
loop-i-preserved c =
    let byte : c.byte_at.result ≡ unwrap_or (byte_of c.args.image.now (c.args.line.now.addr + c.loop-i.i)) 0 =
    rw (c.from.ensures, c.from-in-loop-i.ensures) at c.byte_at.ensures in
    c.in_ok-push_byte.ensures ∙ ap (λ text. text ++ 32 ∷ hex_byte c.byte_at.result) c.loop-i.invariant
    ∙ bytes-more c.args.image.now c.args.line.now.addr c.loop-i.i c.byte_at.result c.args.text.now byte
