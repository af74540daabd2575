-- The laws of a source.
use Rattle.std.proofs.Common.{◌≡◌, List, ℕ, Ok, length}
use Rattle.asm_text.specs.Lines.{lines_with_ends}
use Rattle.rom_image.specs.declared.image.TheConstants.{IMAGE_LEN}
use Rattle.asm_core.specs.declared.dialect.Rom.{Rom}
use Rattle.asm_core.specs.PassOne.{IsRom}
use Rattle.asm_core.specs.Images.{at_the_start, pass_two}
use Rattle.asm_core.specs.Laws.{HasBytes}
use Rattle.asm_core.specs.Lines.{Language}
use Rattle.asm_core.specs.Passes.{Known, pass_one}
use Rattle.asm_core.proofs.Addresses.{lines-all, lines-behind, pass-prefix, source-apart, source-inside, source-placed}
use Rattle.asm_core.proofs.Standing.{lines-have}

pub source-bytes : (language : Language) (rom : Rom) (text image after : List ℕ) (known : Known) → IsRom rom → length image ≡ IMAGE_LEN
    → pass_one language rom 1 at_the_start (lines_with_ends text) ≡ Ok known → pass_two known.names image known.placed ≡ Ok after
    → HasBytes known.names known.placed image after
source-bytes language rom text image after known is_rom whole is wrote =
    lines-have known.names rom known.placed image after is_rom whole (source-inside language rom text known is) (source-apart language rom text known is) wrote

pub ruleset lines = (source-apart, source-inside, source-bytes, pass-prefix, lines-all, lines-behind, source-placed)
