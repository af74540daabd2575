-- One byte more of a line.
use Rattle.std.proofs.Common.{◌≡◌, ℕ, ◌+◌, List, [], ◌∷◌, ◌++◌, ◌∙◌, ap, sym, unwrap_or, append-nil, append_assoc, arith}
use Rattle.std.proofs.lemmas.Grind.{flat_map-append}
use Rattle.std.proofs.lemmas.List.FromFn.{map-range_with_len_more}
use Rattle.text_line.specs.Words.{hex_byte}
use Rattle.rom_image.specs.Addresses.{byte_of}
use Rattle.asm_listing.specs.ListingText.{bytes_from, bytes_text}

pub bytes-more : (image : List ℕ) (addr n byte : ℕ) (text : List ℕ) → byte ≡ unwrap_or (byte_of image (addr + n)) 0
    → (text ++ bytes_text (bytes_from image addr n)) ++ 32 ∷ hex_byte byte ≡ text ++ bytes_text (bytes_from image addr (n + 1))
bytes-more image addr n byte text is =
    let value : ℕ → ℕ = λ i. unwrap_or (byte_of image (addr + i)) 0 in
    let shown : ℕ → List ℕ = λ b. 32 ∷ hex_byte b in
    let more : bytes_from image addr (n + 1) ≡ bytes_from image addr n ++ value n ∷ [] = map-range_with_len_more value 0 n n (omega arith) in
    let whole : bytes_text (bytes_from image addr (n + 1)) ≡ bytes_text (bytes_from image addr n) ++ shown byte =
    ap bytes_text more ∙ flat_map-append shown (bytes_from image addr n) (value n ∷ []) ∙ ap (λ b. bytes_text (bytes_from image addr n) ++ (shown b ++ [])) (sym is)
    ∙ ap (λ t. bytes_text (bytes_from image addr n) ++ t) (append-nil (shown byte)) in
    append_assoc text (bytes_text (bytes_from image addr n)) (shown byte) ∙ ap (λ t. text ++ t) (sym whole)
